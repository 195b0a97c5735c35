use Rattle.std.proofs.Common.{◌∙◌, ◌++◌, ◌-◌, ap, length}
use Rattle.std.specs.Prelude.{drop, slice_index_or, take}
use Rattle.std.proofs.lemmas.List.{append_assoc}
use Rattle.sessions.specs.Traces.{load_text, loads_text}
use Rattle.sessions.proofs.TraceLemmas.{loads_told}
use Rattle.sessions.proofs.trace_text.+append_loads.Goals as goal

pub returns-in-len1-up-clause-after : goal.returns-in-len1-up-clause-after
returns-in-len1-up-clause-after t c =
    let old = c.args.text.now.items in
    let loads = c.args.loads.now in
    let first = load_text (slice_index_or loads 0 (record { block = 0; to_in = 0 })) in
    let others = loads_text (take (length loads - 1) (drop 1 loads)) in
    c.append_loads.ensures.after
    ∙ ap (λ l. l ++ others) c.append_load.ensures.after
    ∙ append_assoc old first others
    ∙ ap (λ l. old ++ l) (loads_told loads c.in-len1-up.len_at_least)
