use Rattle.std.proofs.Common.{ap, inl, refl}
use Rattle.terminal.proofs.ScriptEnding.{ends_on, unbegun_on}
use Rattle.terminal.proofs.scripts.run_traced.Goals as goal

pub returns-in-Ok-clause-ends : goal.returns-in-Ok-clause-ends
returns-in-Ok-clause-ends g c =
    let ran = c.run_led in
    ends_on _ g.T.Tracer.hears _ c.args.steps c.args.script.now _ _ _ _ _ _ _ c.strictness_of.result _ ran.result.0 ran.result.1 c.strictness_of.ensures c.in-Ok.ensures.led ran.ensures.ends

pub returns-in-Ok-clause-failed : goal.returns-in-Ok-clause-failed
returns-in-Ok-clause-failed g c =
    let ran = c.run_led in
    unbegun_on _ g.T.Tracer.hears _ c.args.steps c.args.script.now _ _ _ _ c.args.tracer.now ran.new.tracer _ _ _ ran.result.0 ran.result.1 c.in-Ok.ensures.led ran.ensures.failed

pub returns-in-Err-clause-failed : goal.returns-in-Err-clause-failed
returns-in-Err-clause-failed g c =
    inl (record { unopened = refl; told = c.in-Err.ensures.only; unread = ap g.R.Read.remaining c.in-Err.ensures.same; unwritten = refl })
