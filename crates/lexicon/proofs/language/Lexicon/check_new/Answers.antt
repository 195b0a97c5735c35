use Rattle.std.proofs.Common.{◌∙◌, sym}
use Rattle.lexicon.proofs.Adding.{may, may_not}
use Rattle.lexicon.proofs.language.Lexicon.check_new.Goals as goal

pub returns-in-Ok-clause-fits : goal.returns-in-Ok-clause-fits
returns-in-Ok-clause-fits c =
    may c.args.self.now c.args.name.now (λ x h. sym (c.is_open.ensures c.args.self.now.code x.definition h.definition) ∙ c.if-is_open.false) c.in-Ok.ensures.refused

pub returns-in-Err-clause-refused : goal.returns-in-Err-clause-refused
returns-in-Err-clause-refused c =
    may_not c.args.self.now c.args.name.now c.in-Err.fault _ (λ x h. sym (c.is_open.ensures c.args.self.now.code x.definition h.definition) ∙ c.if-is_open.false) c.in-Err.ensures.refused c.name_refusal.ensures
