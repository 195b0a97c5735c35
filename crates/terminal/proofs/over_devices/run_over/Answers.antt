use Rattle.std.proofs.Common.{ap, inl, subst, sym}
use Rattle.std.proofs.lemmas.Result.{IfErr-weaker}
use Rattle.std.specs.Prelude.{IfErr, IfOk}
use Rattle.terminal.specs.Failed.{FailsAfter, NotBegun}
use Rattle.terminal.specs.Done.{allowing}
use Rattle.terminal.specs.Scripts.{EndsSession}
use Rattle.terminal.proofs.ScriptEnding.{ends_session, unbegun}
use Rattle.terminal.proofs.over_devices.run_over.Goals as goal

pub returns-in-Ok-clause-ends : goal.returns-in-Ok-clause-ends
returns-in-Ok-clause-ends g c =
    let G = g.D.SectorDevice in
    let hears = g.T.Tracer.hears in
    let ended = c.run_until_end-store in
    let left = g.R.Read.remaining c.args.input.now in
    let left' = g.R.Read.remaining ended.new.input in
    let written = g.W.Write.contents c.args.output.now in
    let written' = g.W.Write.contents ended.new.output in
    subst (λ d. IfOk ended.result.1 (λ e. EndsSession G hears (allowing c.args.steps c.args.undoes) c.args.strictness e.end e.is_unsaved left left' written written'
    c.args.tracer.now ended.new.tracer c.args.device d)) (sym c.into_device.ensures.device)
    (ends_session G hears (allowing c.args.steps c.args.undoes) c.args.strictness left left' written written' c.args.tracer.now ended.new.tracer c.args.device c.in-Ok.store ended.result.0
    ended.result.1 c.in-Ok.ensures.opened c.in-Ok.ensures.same ended.ensures.session ended.ensures.strict ended.ensures.goes)

pub returns-in-Ok-clause-failed : goal.returns-in-Ok-clause-failed
returns-in-Ok-clause-failed g c =
    let G = g.D.SectorDevice in
    let hears = g.T.Tracer.hears in
    let ended = c.run_until_end-store in
    let left = g.R.Read.remaining c.args.input.now in
    let left' = g.R.Read.remaining ended.new.input in
    let written = g.W.Write.contents c.args.output.now in
    let written' = g.W.Write.contents ended.new.output in
    subst (λ d. IfErr ended.result.1 (λ failure. FailsAfter G (NotBegun G left left' written written') failure c.args.device d)) (sym c.into_device.ensures.device)
    (unbegun G hears (allowing c.args.steps c.args.undoes) c.args.strictness left left' written written' c.args.tracer.now ended.new.tracer c.args.device c.in-Ok.store ended.result.0
    ended.result.1 c.in-Ok.ensures.opened c.in-Ok.ensures.same ended.ensures.goes ended.ensures.memory
    (IfErr-weaker ended.result.1 _ _ (λ e is. ap g.R.Read.remaining is) ended.ensures.unread)
    (IfErr-weaker ended.result.1 _ _ (λ e is. ap g.W.Write.contents is) ended.ensures.unwritten) ended.ensures.same)

pub returns-in-Err-clause-failed : goal.returns-in-Err-clause-failed
returns-in-Err-clause-failed g c = inl c.in-Err.ensures.kept
