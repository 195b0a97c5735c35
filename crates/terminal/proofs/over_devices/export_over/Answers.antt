use Rattle.std.proofs.Common.{inl, inr, subst, sym}
use Rattle.std.proofs.lemmas.Result.{IfErr-weaker, on_ok_weaker}
use Rattle.std.specs.Prelude.{IfErr, OnOk}
use Rattle.terminal.specs.Care.{AreExported}
use Rattle.terminal.specs.Failed.{ExportFails, FailsToPrint, RefusesImage}
use Rattle.terminal.proofs.Ended.{exported_all, unexported}
use Rattle.terminal.specs.declared.failure.Failure.{Failure}
use Rattle.terminal.proofs.Standings.{not_printed, ok_both}
use Rattle.terminal.proofs.over_devices.export_over.Goals as goal

pub returns-in-Ok-clause-exported : goal.returns-in-Ok-clause-exported
returns-in-Ok-clause-exported g c =
    let G = g.D.SectorDevice in
    let done = c.export_blocks-outcome in
    subst (λ d. OnOk done.result (AreExported G c.args.form c.args.first c.args.last (g.W.Write.contents c.args.output.now) (g.W.Write.contents done.new.output) c.args.device d)) (sym c.into_device.ensures.device)
    (on_ok_weaker done.result (λ shown. inl shown) (exported_all G done.result c.args.device c.in-Ok.store done.new.store c.args.form c.args.first c.args.last (g.W.Write.contents c.args.output.now) (g.W.Write.contents done.new.output) c.in-Ok.ensures.opened
    done.ensures.ordered done.ensures.there done.ensures.ok done.ensures.store))

pub returns-in-Ok-clause-failed : goal.returns-in-Ok-clause-failed
returns-in-Ok-clause-failed g c =
    let G = g.D.SectorDevice in
    let done = c.export_blocks-outcome in
    subst (λ d. IfErr done.result (λ failure. FailsToPrint G c.args.first c.args.last (ExportFails G c.args.first c.args.last) failure c.args.device d)) (sym c.into_device.ensures.device)
    (unexported G done.result c.args.device c.in-Ok.store done.new.store c.args.first c.args.last c.in-Ok.ensures.opened c.in-Ok.ensures.same
    done.ensures.no_block done.ensures.only done.ensures.device done.ensures.store)

pub returns-in-Err-clause-exported : goal.returns-in-Err-clause-exported
returns-in-Err-clause-exported g c =
    let G = g.D.SectorDevice in
    let said = c.export_anyway-outcome in
    ok_both said.result
    (λ is shown. inr (c.in-Err.device, subst (λ (f : Failure). RefusesImage G f c.args.device c.in-Err.device) is c.in-Err.ensures.kept, shown))
    said.ensures.of_device said.ensures.printed

pub returns-in-Err-clause-failed : goal.returns-in-Err-clause-failed
returns-in-Err-clause-failed g c =
    let G = g.D.SectorDevice in
    let said = c.export_anyway-outcome in
    IfErr-weaker said.result _ _
    (λ e told. not_printed G c.args.first c.args.last (ExportFails G c.args.first c.args.last) c.in-Err.failure e c.args.device c.in-Err.device said.new.device c.in-Err.ensures.kept told)
    said.ensures.failed
