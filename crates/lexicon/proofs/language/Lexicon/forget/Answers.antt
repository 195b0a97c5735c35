use Rattle.std.proofs.Common.{◌∙◌, refl, sym}
use Rattle.lexicon.proofs.Forgetting.{refuses_running, is_word, same_word, no_more_cells, forgets_word}
use Rattle.lexicon.proofs.language.Lexicon.forget.Goals as goal

pub returns-then-not-runs_below-clause-refused : goal.returns-then-not-runs_below-clause-refused
returns-then-not-runs_below-clause-refused c = (
  λ x levels h left.
      refuses_running c.args.self.now x c.args.token c.args.machine.now c.args.returns.now levels h left c.requires.word.1.1.above
      (sym (c.is_open.ensures c.args.self.now.code x.definition h.definition) ∙ c.if-is_open.false)
      c.end_before-end.result (c.end_before-end.ensures x h) (sym c.runs_below.ensures ∙ c.if-not-runs_below.true),
  refl,
)

pub forget_from-requires : goal.forget_from-requires
forget_from-requires c = is_word c.args.self.now c.requires.word.0 c.args.token c.requires.word.1.0 c.requires.word.1.1

pub cut-requires-clause-within : goal.cut-requires-clause-within
cut-requires-clause-within c =
    no_more_cells c.args.self.now c.requires.word.0 c.args.token c.end_before-end.result c.requires.word.1.0 (c.end_before-end.ensures c.requires.word.0 c.requires.word.1.0)

pub returns-in-Ok-clause-forgotten : goal.returns-in-Ok-clause-forgotten
returns-in-Ok-clause-forgotten c = λ x levels h left.
    forgets_word c.args.self.now c.forget_from.new.self c.cut.new.self c.in-Ok.here c.args.token x c.args.machine.now c.args.returns.now levels h left
    (sym (c.is_open.ensures c.args.self.now.code x.definition h.definition) ∙ c.if-is_open.false)
    (same_word c.args.self.now c.requires.word.0 x c.args.token c.requires.word.1.0 h c.requires.word.1.1)
    (sym c.in-Ok.ensures.refused) c.in-Ok.ensures.ok c.in-Ok.ensures.here c.cut.ensures.closed c.end_before-end.result (c.end_before-end.ensures x h) c.cut.ensures.cut
    (sym c.runs_below.ensures ∙ c.if-not-runs_below.false)
