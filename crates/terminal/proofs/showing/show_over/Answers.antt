use Rattle.std.proofs.Common.{◌∙◌, List, ℕ, subst}
use Rattle.std.proofs.lemmas.Result.{on_ok_weaker}
use Rattle.std.specs.Io.KnownBytes.{Appends}
use Rattle.terminal.proofs.BlockShown.{block_there, printed_or_not, shown}
use Rattle.terminal.proofs.showing.show_over.Goals as goal

pub returns-in-Ok-Some-clause-shows : goal.returns-in-Ok-Some-clause-shows
returns-in-Ok-Some-clause-shows g c =
    let found = c.in-Ok-Some.ensures in
    on_ok_weaker c.print.result
    (λ printed. shown g.D.SectorDevice c.args.device.now c.read_block.new.device c.args.block c.in-Ok-Some.bytes _ _ found.passes found.well
    (rw c.in-Ok-Some.field-0-is at found.there) (rw c.in-Ok-Some.field-0-is at found.bytes) found.meaning found.disk found.stops found.begins found.reads found.few
    (subst (λ (text : List ℕ). Appends (g.W.Write.contents c.args.output.now) (g.W.Write.contents c.print.new.output) text) (c.as_slice.ensures.value ∙ c.listing.ensures) printed))
    c.print.ensures.ok

pub returns-in-Ok-Some-clause-exact : goal.returns-in-Ok-Some-clause-exact
returns-in-Ok-Some-clause-exact g c = λ keeps.
    let found = c.in-Ok-Some.ensures in
    printed_or_not c.print.result _
    (block_there c.args.block (g.D.SectorDevice.sector_count c.args.device.now) (g.D.SectorDevice.disk c.args.device.now).content (found.exact keeps)
    (rw c.in-Ok-Some.field-0-is at found.there)) c.print.ensures.only

pub returns-in-Ok-Some-clause-only_read : goal.returns-in-Ok-Some-clause-only_read
returns-in-Ok-Some-clause-only_read g c =
    let read = c.read_block.ensures in record { disk = read.disk; stops = read.stops; passes = read.passes; begins = read.begins }

pub returns-in-Ok-None-clause-only_read : goal.returns-in-Ok-None-clause-only_read
returns-in-Ok-None-clause-only_read g c =
    let read = c.read_block.ensures in record { disk = read.disk; stops = read.stops; passes = read.passes; begins = read.begins }

pub returns-in-Err-clause-only_read : goal.returns-in-Err-clause-only_read
returns-in-Err-clause-only_read g c =
    let read = c.read_block.ensures in record { disk = read.disk; stops = read.stops; passes = read.passes; begins = read.begins }
