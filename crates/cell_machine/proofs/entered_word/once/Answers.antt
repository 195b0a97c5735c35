use Rattle.std.proofs.Common.{◌∙◌, sym}
use Rattle.std.proofs.lemmas.Result.{on_ok_weaker}
use Rattle.stacks.specs.Stacks.{units}
use Rattle.cell_machine.proofs.Outcomes.{weaker_err}
use Rattle.cell_machine.proofs.Onces.{apart_did, apart_ended, list_did, list_ended}
use Rattle.cell_machine.proofs.entered_word.once.Goals as goal

pub returns-in-Some-clause-did : goal.returns-in-Some-clause-did
returns-in-Some-clause-did c =
    on_ok_weaker c.on_list.result (λ h. list_did (sym c.list_word.ensures ∙ c.in-Some.is) (h c.args.space.now)) c.on_list.ensures.did

pub returns-in-Some-clause-ended : goal.returns-in-Some-clause-ended
returns-in-Some-clause-ended c =
    weaker_err c.on_list.result (λ e h. list_ended (sym c.list_word.ensures ∙ c.in-Some.is) e (h c.args.space.now)) c.on_list.ensures.ended

pub returns-in-None-clause-did : goal.returns-in-None-clause-did
returns-in-None-clause-did c = on_ok_weaker c.apart.result (λ h. apart_did (units c.args.returns.now) h) c.apart.ensures.did

pub returns-in-None-clause-ended : goal.returns-in-None-clause-ended
returns-in-None-clause-ended c = weaker_err c.apart.result (λ e h. apart_ended (units c.args.returns.now) e h) c.apart.ensures.ended
