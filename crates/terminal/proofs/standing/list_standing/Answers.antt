use Rattle.std.proofs.Common.{◌∙◌, List, ℕ, subst}
use Rattle.std.proofs.lemmas.Result.{on_ok_weaker}
use Rattle.std.specs.Io.KnownBytes.{Appends}
use Rattle.terminal.proofs.Standings.{missing, refused, shows_standing, unwritten}
use Rattle.terminal.proofs.standing.list_standing.Goals as goal

pub returns-in-Ok-Some-clause-listed : goal.returns-in-Ok-Some-clause-listed
returns-in-Ok-Some-clause-listed g c =
    let read = c.read_current.ensures in
    let found = c.in-Ok-Some.ensures in
    on_ok_weaker c.print.result
    (λ printed. shows_standing g.D.SectorDevice c.args.device.now c.read_current.new.device c.args.block c.in-Ok-Some.bytes _ _
    (record { disk = read.disk; stops = read.stops; passes = read.passes; begins = read.begins }) found.well found.sized
    (rw c.in-Ok-Some.field-0-is at found.there) (rw c.in-Ok-Some.field-0-is at found.whole) (rw c.in-Ok-Some.field-0-is at found.meant) read.reads
    (subst (λ (text : List ℕ). Appends (g.W.Write.contents c.args.output.now) (g.W.Write.contents c.print.new.output) text) (c.as_slice.ensures.value ∙ c.listing.ensures) printed))
    c.print.ensures.ok

pub returns-in-Ok-Some-clause-failed : goal.returns-in-Ok-Some-clause-failed
returns-in-Ok-Some-clause-failed g c =
    let read = c.read_current.ensures in
    unwritten g.D.SectorDevice c.print.result c.args.device.now c.read_current.new.device c.args.block c.args.block
    (record { disk = read.disk; stops = read.stops; passes = read.passes; begins = read.begins }) c.in-Ok-Some.ensures.well c.print.ensures.only

pub returns-in-Ok-None-clause-failed : goal.returns-in-Ok-None-clause-failed
returns-in-Ok-None-clause-failed g c =
    let read = c.read_current.ensures in
    missing g.D.SectorDevice c.args.device.now c.read_current.new.device c.args.block
    (record { disk = read.disk; stops = read.stops; passes = read.passes; begins = read.begins })
    (rw c.in-Ok-None.field-0-is at c.in-Ok-None.ensures.there) (rw c.in-Ok-None.field-0-is at c.in-Ok-None.ensures.missing)

pub returns-in-Err-clause-failed : goal.returns-in-Err-clause-failed
returns-in-Err-clause-failed g c =
    let read = c.read_current.ensures in
    let fault = c.in-Err.ensures in
    refused g.D.SectorDevice c.in-Err.field-0 c.args.device.now c.read_current.new.device c.args.block
    (record { disk = read.disk; stops = read.stops; passes = read.passes; begins = read.begins })
    fault.bad_size fault.unasked fault.damaged fault.device fault.refused

pub returns-in-Ok-Some-clause-only_read : goal.returns-in-Ok-Some-clause-only_read
returns-in-Ok-Some-clause-only_read g c =
    let read = c.read_current.ensures in record { disk = read.disk; stops = read.stops; passes = read.passes; begins = read.begins }

pub returns-in-Ok-None-clause-only_read : goal.returns-in-Ok-None-clause-only_read
returns-in-Ok-None-clause-only_read g c =
    let read = c.read_current.ensures in record { disk = read.disk; stops = read.stops; passes = read.passes; begins = read.begins }

pub returns-in-Err-clause-only_read : goal.returns-in-Err-clause-only_read
returns-in-Err-clause-only_read g c =
    let read = c.read_current.ensures in record { disk = read.disk; stops = read.stops; passes = read.passes; begins = read.begins }
