use Rattle.std.proofs.Common.{◌∙◌, List, ℕ, arith, subst, sym}
use Rattle.std.proofs.lemmas.Result.{on_ok_weaker}
use Rattle.std.specs.Io.KnownBytes.{Appends}
use Rattle.terminal.specs.Done.{meant_by}
use Rattle.terminal.specs.Transfer.{exported}
use Rattle.terminal.proofs.BlockShown.{contents_meant}
use Rattle.terminal.proofs.Outcomes.{if_done}
use Rattle.terminal.proofs.Standings.{not_had}
use Rattle.terminal.proofs.standing.print_current.Goals as goal

pub returns-in-Ok-Some-clause-printed : goal.returns-in-Ok-Some-clause-printed
returns-in-Ok-Some-clause-printed g c = λ keeps.
    let D = g.D.SectorDevice in
    let meant = (rw c.in-Ok-Some.field-0-is at c.in-Ok-Some.ensures.meant) keeps in
    on_ok_weaker c.print_bytes.result
    (λ printed. subst (λ (bytes : List ℕ). Appends (g.W.Write.contents c.args.output.now) (g.W.Write.contents c.print_bytes.new.output) (exported c.args.form bytes))
    (meant ∙ sym (contents_meant (meant_by D c.args.device.now) c.args.block)) printed)
    c.print_bytes.ensures.ok

pub returns-in-Ok-Some-clause-whole : goal.returns-in-Ok-Some-clause-whole
returns-in-Ok-Some-clause-whole g c = λ keeps.
    if_done c.print_bytes.result ((rw c.in-Ok-Some.field-0-is at c.in-Ok-Some.ensures.whole) keeps)

pub returns-in-Ok-None-clause-unhad : goal.returns-in-Ok-None-clause-unhad
returns-in-Ok-None-clause-unhad g c = λ is.
    let missing = rw c.in-Ok-None.field-0-is at c.in-Ok-None.ensures.there in
    absurd (omega (arith, missing, c.requires.there))

pub returns-in-Err-clause-unhad : goal.returns-in-Err-clause-unhad
returns-in-Err-clause-unhad g c = λ is.
    let fault = c.in-Err.ensures in
    not_had g.D.SectorDevice c.in-Err.field-0 c.args.device.now c.read_current.new.device c.args.block c.requires.sized
    fault.bad_size fault.damaged fault.device fault.refused

pub returns-in-Ok-Some-clause-only_read : goal.returns-in-Ok-Some-clause-only_read
returns-in-Ok-Some-clause-only_read g c =
    let read = c.read_current.ensures in record { disk = read.disk; stops = read.stops; passes = read.passes; begins = read.begins }

pub returns-in-Ok-None-clause-only_read : goal.returns-in-Ok-None-clause-only_read
returns-in-Ok-None-clause-only_read g c =
    let read = c.read_current.ensures in record { disk = read.disk; stops = read.stops; passes = read.passes; begins = read.begins }

pub returns-in-Err-clause-only_read : goal.returns-in-Err-clause-only_read
returns-in-Err-clause-only_read g c =
    let read = c.read_current.ensures in record { disk = read.disk; stops = read.stops; passes = read.passes; begins = read.begins }
