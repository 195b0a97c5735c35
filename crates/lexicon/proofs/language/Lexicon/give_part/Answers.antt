use Rattle.std.proofs.Common.{◌∙◌, sym, ap}
use Rattle.dictionary.specs.Dictionary.{Dictionary}
use Rattle.lexicon.proofs.Giving.{gives, gives_none}
use Rattle.lexicon.proofs.language.Lexicon.give_part.Goals as goal

pub returns-in-Ok-clause-given : goal.returns-in-Ok-clause-given
returns-in-Ok-clause-given c = λ x owner parts h is.
    gives c.args.self.now x h c.args.place (record { owner = owner; parts = parts }) is c.set_does.new.self
    (sym (c.is_open.ensures c.args.self.now.code x.definition h.definition) ∙ c.if-is_open.false) c.in-Ok.ensures.words c.in-Ok.ensures.ok

pub returns-in-Err-clause-refused : goal.returns-in-Err-clause-refused
returns-in-Err-clause-refused c = (
  λ x owner parts h is.
      gives_none c.args.self.now x h c.args.place (record { owner = owner; parts = parts }) is _
      (sym (c.is_open.ensures c.args.self.now.code x.definition h.definition) ∙ c.if-is_open.false) c.in-Err.ensures.refused,
  ap (λ (d : Dictionary). record c.args.self.now { dictionary = d }) c.in-Err.ensures.err,
)
