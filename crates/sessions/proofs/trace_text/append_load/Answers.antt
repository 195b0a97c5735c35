use Rattle.std.proofs.Common.{◌∙◌, ◌++◌, ap}
use Rattle.std.proofs.lemmas.List.{append_assoc}
use Rattle.sessions.specs.Traces.{place_text}
use Rattle.sessions.proofs.trace_text.append_load.Goals as goal

pub returns-clause-after : goal.returns-clause-after
returns-clause-after c = c.append_place.ensures.after
    ∙ ap (λ l. l ++ place_text c.args.load) c.append.ensures.after
    ∙ append_assoc c.args.text.now.items _ (place_text c.args.load)
