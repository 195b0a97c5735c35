use Rattle.std.proofs.Common.{◌≡◌, ◌∙◌, Some, ap, inr, refl, sym}
use Rattle.std.specs.Prelude.{is_some}
use Rattle.std.proofs.lemmas.Result.{IfErr-weaker, on_ok_weaker}
use Rattle.terminal.proofs.Begun.{begun_in_part, unfit, unmade_beside}
use Rattle.terminal.specs.Shapes.{sectors_for}
use Rattle.terminal.proofs.files.make_into.Goals as goal

pub returns-in-Ok-clause-made : goal.returns-in-Ok-clause-made
returns-in-Ok-clause-made g c =
    let done = c.make_of-outcome in
    let sized : sectors_for c.args.by (g.X.Look.SectorDevice.sector_count c.args.source.now) c.args.asked ≡ Some c.in-Some.sectors = sym (c.in-Some.ensures ∙ ap (λ s. sectors_for c.args.by s c.args.asked) c.sectors.ensures) in
    on_ok_weaker done.result (λ did. (done.new.new, refl, (c.in-Some.sectors, sized, c.in-Ok.target, c.in-Ok.ensures.made, did))) done.ensures.made

pub returns-in-Ok-clause-failed : goal.returns-in-Ok-clause-failed
returns-in-Ok-clause-failed g c =
    let done = c.make_of-outcome in
    let sized : sectors_for c.args.by (g.X.Look.SectorDevice.sector_count c.args.source.now) c.args.asked ≡ Some c.in-Some.sectors = sym (c.in-Some.ensures ∙ ap (λ s. sectors_for c.args.by s c.args.asked) c.sectors.ensures) in
    IfErr-weaker done.result _ _ (λ e did. inr (c.in-Some.sectors, sized, c.in-Ok.target, c.in-Ok.ensures.made, did)) done.ensures.failed

pub returns-in-Ok-clause-new_well : goal.returns-in-Ok-clause-new_well
returns-in-Ok-clause-new_well g c = on_ok_weaker c.make_of-outcome.result (λ well. well ∙ c.in-Ok.ensures.well) c.make_of-outcome.ensures.well

pub returns-in-Err-clause-failed : goal.returns-in-Err-clause-failed
returns-in-Err-clause-failed g c =
    begun_in_part c.in-Err.unfinished c.in-Err.failure _ _ c.args.source.now c.in-Err.ensures.begun c.in-Err.ensures.refused

pub returns-in-Err-clause-unmade : goal.returns-in-Err-clause-unmade
returns-in-Err-clause-unmade g c = λ none.
    unmade_beside (λ source. is_some (sectors_for c.args.by (g.X.Look.SectorDevice.sector_count source) c.args.asked)) c.args.source.now c.in-Err.failure
    (ap is_some (sym (c.in-Some.ensures ∙ ap (λ s. sectors_for c.args.by s c.args.asked) c.sectors.ensures))) c.in-Err.ensures.unmade

pub returns-in_default-clause-unmade : goal.returns-in_default-clause-unmade
returns-in_default-clause-unmade g c = λ none.
    unfit (λ source. is_some (sectors_for c.args.by (g.X.Look.SectorDevice.sector_count source) c.args.asked)) c.args.source.now
    (ap is_some (sym (c.in_default.ensures ∙ ap (λ s. sectors_for c.args.by s c.args.asked) c.sectors.ensures)))
