use Rattle.std.proofs.Common.{inl, inr, subst, sym}
use Rattle.std.proofs.lemmas.Result.{IfErr-weaker, on_ok_weaker}
use Rattle.std.specs.Prelude.{IfErr, OnOk}
use Rattle.terminal.specs.Care.{IsListed}
use Rattle.terminal.specs.Failed.{FailsToPrint, ListFails, RefusesImage}
use Rattle.terminal.proofs.Ended.{listed, unlisted}
use Rattle.terminal.specs.declared.failure.Failure.{Failure}
use Rattle.terminal.proofs.Standings.{not_printed, ok_both}
use Rattle.terminal.proofs.over_devices.list_over.Goals as goal

pub returns-in-Ok-clause-listed : goal.returns-in-Ok-clause-listed
returns-in-Ok-clause-listed g c =
    let G = g.D.SectorDevice in
    let done = c.list_block-outcome in
    subst (λ d. OnOk done.result (IsListed G c.args.block (g.W.Write.contents c.args.output.now) (g.W.Write.contents done.new.output) c.args.device d)) (sym c.into_device.ensures.device)
    (on_ok_weaker done.result (λ shown. inl shown) (listed G done.result c.args.device c.in-Ok.store done.new.store c.args.block (g.W.Write.contents c.args.output.now) (g.W.Write.contents done.new.output) c.in-Ok.ensures.opened
    done.ensures.there done.ensures.continues done.ensures.ok done.ensures.state done.ensures.stops done.ensures.begins done.ensures.reads))

pub returns-in-Ok-clause-failed : goal.returns-in-Ok-clause-failed
returns-in-Ok-clause-failed g c =
    let G = g.D.SectorDevice in
    let done = c.list_block-outcome in
    subst (λ d. IfErr done.result (λ failure. FailsToPrint G c.args.block c.args.block (ListFails G c.args.block) failure c.args.device d)) (sym c.into_device.ensures.device)
    (unlisted G done.result c.args.device c.in-Ok.store done.new.store c.args.block c.in-Ok.ensures.opened c.in-Ok.ensures.same
    done.ensures.no_block done.ensures.only done.ensures.device done.ensures.continues done.ensures.state done.ensures.stops done.ensures.begins done.ensures.reads)

pub returns-in-Err-clause-listed : goal.returns-in-Err-clause-listed
returns-in-Err-clause-listed g c =
    let G = g.D.SectorDevice in
    let said = c.list_anyway-outcome in
    ok_both said.result
    (λ is shown. inr (c.in-Err.device, subst (λ (f : Failure). RefusesImage G f c.args.device c.in-Err.device) is c.in-Err.ensures.kept, shown))
    said.ensures.of_device said.ensures.listed

pub returns-in-Err-clause-failed : goal.returns-in-Err-clause-failed
returns-in-Err-clause-failed g c =
    let G = g.D.SectorDevice in
    let said = c.list_anyway-outcome in
    IfErr-weaker said.result _ _
    (λ e told. not_printed G c.args.block c.args.block (ListFails G c.args.block) c.in-Err.failure e c.args.device c.in-Err.device said.new.device c.in-Err.ensures.kept told)
    said.ensures.failed
