use Rattle.std.proofs.Common.{◌≡◌}
use Rattle.stores.specs.Resting.{HasRested}
use Rattle.hosted.specs.Calls.{meant_by}
use Rattle.hosted.specs.Keeping.{HoldsOpen}
use Rattle.hosted.specs.declared.refusal.Refusal.TheVariants.{Device}
use Rattle.hosted.proofs.Numbers.{kept_other, opens}
use Rattle.hosted.proofs.promises.open_over.Goals as goal

pub returns-clause-stays : goal.returns-clause-stays
returns-clause-stays g c =
    opens (λ d is_open l. HasRested g.D.SectorDevice d is_open l) c.open_kept-outcome.result c.told_kept.result.0 c.told_kept.result.1 c.told_kept.new.store
    c.open_kept-outcome.new.listing c.told_kept.ensures.number c.told_kept.ensures.device c.told_kept.ensures.listing c.told_kept.ensures.open
    (c.open_kept-outcome.ensures.rests)

pub returns-clause-done : goal.returns-clause-done
returns-clause-done g c = λ keeps.
    opens (λ d is_open l. HoldsOpen g.D.SectorDevice d is_open l (meant_by g.D.SectorDevice c.args.device)) c.open_kept-outcome.result c.told_kept.result.0 c.told_kept.result.1 c.told_kept.new.store
    c.open_kept-outcome.new.listing c.told_kept.ensures.number c.told_kept.ensures.device c.told_kept.ensures.listing c.told_kept.ensures.open
    (c.open_kept-outcome.ensures.holds keeps)

pub returns-clause-content : goal.returns-clause-content
returns-clause-content g c = λ keeps.
    let D = g.D.SectorDevice in
    kept_other c.open_kept-outcome.result c.told_kept.result.0 c.told_kept.result.1 (λ d. (D.disk d).content ≡ (D.disk c.args.device).content) c.told_kept.ensures.number c.told_kept.ensures.device
    Device (c.open_kept-outcome.ensures.content keeps)
