use Rattle.std.proofs.Common.{◌∙◌, ◌++◌, sym, ap}
use Rattle.std.specs.Prelude.{[], map, unwrap_or}
use Rattle.clap.specs.Words.{found_of}
use Rattle.clap.proofs.WalkLemmas.{raw_values-rows}
use Rattle.command_line.proofs.reading.texts_of.Goals as goal

pub returns-in-Ok : goal.returns-in-Ok
returns-in-Ok c =
    ap (λ o. unwrap_or o []) (sym (c.in-Some.ensures ∙ raw_values-rows (found_of c.args.given.now) c.args.id.now))
    ∙ ap (λ ts. map (λ t. t.now) ts) (sym (c.in-Ok.ensures.items ∙ ap (λ ts. ts ++ c.in-Some.given.now) c.new-texts.ensures.items))

pub returns : goal.returns
returns c =
    ap (λ o. unwrap_or o []) (sym (c.in-None.ensures ∙ raw_values-rows (found_of c.args.given.now) c.args.id.now))
    ∙ ap (λ ts. map (λ t. t.now) ts) (sym c.new-texts.ensures.items)
