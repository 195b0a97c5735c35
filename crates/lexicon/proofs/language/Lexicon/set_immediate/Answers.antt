use Rattle.std.proofs.Common.{◌∙◌, sym, ap}
use Rattle.dictionary.specs.Dictionary.{Dictionary}
use Rattle.lexicon.proofs.Adding.{marks, protects}
use Rattle.lexicon.proofs.language.Lexicon.set_immediate.Goals as goal

pub returns-in-Ok-clause-marked : goal.returns-in-Ok-clause-marked
returns-in-Ok-clause-marked c =
    λ x h. marks c.args.self.now x h c.set_immediate.new.self (sym (c.is_open.ensures c.args.self.now.code x.definition h.definition) ∙ c.if-is_open.false) c.in-Ok.ensures.refused c.in-Ok.ensures.ok

pub returns-in-Err-clause-refused : goal.returns-in-Err-clause-refused
returns-in-Err-clause-refused c =
    (λ x h. protects c.args.self.now x h _ (sym (c.is_open.ensures c.args.self.now.code x.definition h.definition) ∙ c.if-is_open.false) c.in-Err.ensures.refused, ap (λ (d : Dictionary). record c.args.self.now { dictionary = d }) c.in-Err.ensures.err)
