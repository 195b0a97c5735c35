use Rattle.std.proofs.Common.{inl, subst, sym}
use Rattle.std.specs.Prelude.{IfErr, OnOk}
use Rattle.terminal.specs.Done.{ImportsBlocks}
use Rattle.terminal.specs.Failed.{FailsAfter, ImportFails}
use Rattle.terminal.specs.Texts.{AreTexts, OneIsUnread}
use Rattle.terminal.proofs.Ended.{import_done, import_failed}
use Rattle.terminal.proofs.over_devices.import_over.Goals as goal

pub returns-in-Ok-clause-imported : goal.returns-in-Ok-clause-imported
returns-in-Ok-clause-imported g c =
    let G = g.D.SectorDevice in
    let done = c.import_files-outcome in
    let are_texts = AreTexts (g.X.World.gives c.args.world.now).is_text c.args.sources.now in
    subst (λ d. OnOk done.result (ImportsBlocks G c.args.form c.args.first are_texts c.args.device d)) (sym c.into_device.ensures.device)
    (import_done G done.result c.args.device c.in-Ok.store done.new.store c.args.form c.args.first are_texts c.in-Ok.ensures.opened
    done.ensures.continues done.ensures.imported)

pub returns-in-Ok-clause-failed : goal.returns-in-Ok-clause-failed
returns-in-Ok-clause-failed g c =
    let G = g.D.SectorDevice in
    let done = c.import_files-outcome in
    let are_texts = AreTexts (g.X.World.gives c.args.world.now).is_text c.args.sources.now in
    let unread = OneIsUnread (g.X.World.gives c.args.world.now).is_unread c.args.sources.now in
    subst (λ d. IfErr done.result (λ failure. FailsAfter G (ImportFails G c.args.form c.args.first are_texts unread) failure c.args.device d))
    (sym c.into_device.ensures.device)
    (import_failed G done.result c.args.device c.in-Ok.store done.new.store c.args.form c.args.first are_texts unread c.in-Ok.ensures.opened c.in-Ok.ensures.same
    done.ensures.continues done.ensures.only done.ensures.cannot done.ensures.unread done.ensures.device done.ensures.kept done.ensures.begins done.ensures.reads)

pub returns-in-Err-clause-failed : goal.returns-in-Err-clause-failed
returns-in-Err-clause-failed g c = inl c.in-Err.ensures.kept
