use Rattle.std.proofs.Common.{◌∙◌, ◌*◌, List, ℕ, ap, subst}
use Rattle.std.proofs.lemmas.Result.{on_ok_weaker}
use Rattle.std.specs.Io.KnownBytes.{Appends}
use Rattle.terminal.specs.Checked.{layout_by_size, report}
use Rattle.terminal.proofs.Examining.{checked}
use Rattle.recovery.proofs.Upgrades.{only_read_then}
use Rattle.terminal.proofs.checking.check_over.Goals as goal

pub returns-in-Ok-clause-checks : goal.returns-in-Ok-clause-checks
returns-in-Ok-clause-checks g c =
    let found = c.in-Ok.found in
    let examined = c.in-Ok.ensures in
    on_ok_weaker c.print_report.result
    (λ printed. checked g.D.SectorDevice c.args.device.now c.examine.new.device found.blocks found.under_way found.gate_fits found.digest _ _
    examined.size examined.passes examined.meaning examined.under_way examined.fits examined.digest examined.disk examined.stops examined.begins examined.reads examined.few
    (subst (λ (text : List ℕ). Appends (g.W.Write.contents c.args.output.now) (g.W.Write.contents c.print_report.new.output) text)
    (λ i. report (512 * c.sectors-sectors.ensures i) ((c.layout_by_size-layout.ensures ∙ ap layout_by_size c.sectors-sectors.ensures) i) found.blocks found.under_way found.gate_fits found.digest) printed))
    c.print_report.ensures.ok

pub returns-in-Ok-clause-only_read : goal.returns-in-Ok-clause-only_read
returns-in-Ok-clause-only_read g c =
    let read = c.in-Ok.ensures in record { disk = read.disk; stops = read.stops; passes = read.passes; begins = read.begins }

pub returns-in-Ok-tell_damage-clause-only_read : goal.returns-in-Ok-tell_damage-clause-only_read
returns-in-Ok-tell_damage-clause-only_read g c =
    let looked = c.examine.ensures in
    only_read_then g.D.SectorDevice c.args.device.now c.examine.new.device c.tell_damage.new.device g.met.D.SectorDevice.widens
    (record { disk = looked.disk; stops = looked.stops; passes = looked.passes; begins = looked.begins })
    c.tell_damage.ensures.only_read

pub returns-in-Err-tell_damage-clause-only_read : goal.returns-in-Err-tell_damage-clause-only_read
returns-in-Err-tell_damage-clause-only_read g c =
    let looked = c.examine.ensures in
    only_read_then g.D.SectorDevice c.args.device.now c.examine.new.device c.tell_damage.new.device g.met.D.SectorDevice.widens
    (record { disk = looked.disk; stops = looked.stops; passes = looked.passes; begins = looked.begins })
    c.tell_damage.ensures.only_read

pub returns-in-Err-clause-only_read : goal.returns-in-Err-clause-only_read
returns-in-Err-clause-only_read g c =
    let read = c.examine.ensures in record { disk = read.disk; stops = read.stops; passes = read.passes; begins = read.begins }
