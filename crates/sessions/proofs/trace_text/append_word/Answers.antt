use Rattle.std.proofs.Common.{◌<◌, ◌∙◌, ◌++◌, length, ap, arith}
use Rattle.std.proofs.lemmas.Grind.{common_steps}
use Rattle.std.specs.Prelude.{codes, map, take}
use Rattle.sessions.specs.Traces.{shown}
use Rattle.std.proofs.lemmas.List.{append_assoc, take_min}
use Rattle.sessions.proofs.TraceLemmas.{word_told}
use Rattle.sessions.proofs.trace_text.append_word.Goals as goal

pub returns-clause-after : goal.returns-clause-after
returns-clause-after c =
    let old = c.args.text.now.items in
    let word = c.args.word.now in
    let some : 0 < length word = grind (arith, common_steps) in
    c.append_shown.ensures.after
    ∙ ap (λ l. l ++ map shown (take c.min.result word)) c.append.ensures.after
    ∙ append_assoc old (codes ": ") (map shown (take c.min.result word))
    ∙ ap (λ n. old ++ (codes ": " ++ map shown (take n word))) c.min.ensures
    ∙ ap (λ l. old ++ (codes ": " ++ map shown l)) (take_min 31 word)
    ∙ ap (λ l. old ++ l) (word_told word some)
