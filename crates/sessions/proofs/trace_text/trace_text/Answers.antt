use Rattle.std.proofs.Common.{◌∙◌, ◌∷◌, ◌++◌, [], ap}
use Rattle.sessions.specs.Traces.{loads_text, word_text}
use Rattle.sessions.proofs.trace_text.trace_text.Goals as goal

pub returns : goal.returns
returns c = c.append.ensures.after
    ∙ ap (λ l. l ++ 10 ∷ []) (c.append_loads.ensures.after
    ∙ ap (λ l. l ++ loads_text c.args.loads.now) (c.append_word.ensures.after
    ∙ ap (λ l. l ++ word_text c.args.word.now) c.told_of-text.ensures.text))
