use Rattle.std.proofs.Common.{◌≡◌, ◌≢◌, ◌⊎◌, ℕ, List, [], inl, inr, refl, subst}
use Rattle.std.proofs.lemmas.Result.{IfErr-weaker, on_ok_weaker}
use Rattle.image_care.specs.Mended.{HasLostRecord}
use Rattle.image_care.specs.Through.{image_of}
use Rattle.terminal.proofs.Refused.{unread}
use Rattle.terminal.proofs.salvaging_through.salvage_read.Goals as goal

pub returns-then-is_had_whole-clause-salvages : goal.returns-then-is_had_whole-clause-salvages
returns-then-is_had_whole-clause-salvages g c =
    let whole =
    subst (λ (l : List ℕ). (c.args.unread.now ≡ []) × (¬ HasLostRecord c.args.sectors (image_of l))) c.as_slice.ensures.value (c.is_had_whole.ensures.whole c.if-is_had_whole.true) in
    on_ok_weaker c.salvage_over.result (λ did. inl (whole.0, whole.1, did)) c.salvage_over.ensures.salvages

pub returns-else-is_had_whole-clause-salvages : goal.returns-else-is_had_whole-clause-salvages
returns-else-is_had_whole-clause-salvages g c =
    let less =
    subst (λ (l : List ℕ). (c.args.unread.now ≢ []) ⊎ HasLostRecord c.args.sectors (image_of l)) c.as_slice.ensures.value (c.is_had_whole.ensures.less c.if-is_had_whole.false) in
    on_ok_weaker c.salvage_had.result (λ did. inr (less, refl, did)) c.salvage_had.ensures.had

pub returns-else-is_had_whole-clause-well : goal.returns-else-is_had_whole-clause-well
returns-else-is_had_whole-clause-well g c = on_ok_weaker c.salvage_had.result (λ well. (refl, well)) c.salvage_had.ensures.well

pub returns-else-is_had_whole-clause-kept : goal.returns-else-is_had_whole-clause-kept
returns-else-is_had_whole-clause-kept g c = unread g.A.SectorDevice g.met.A.SectorDevice.only_now c.args.old.now

pub returns-then-is_had_whole-clause-failed : goal.returns-then-is_had_whole-clause-failed
returns-then-is_had_whole-clause-failed g c =
    let whole =
    subst (λ (l : List ℕ). (c.args.unread.now ≡ []) × (¬ HasLostRecord c.args.sectors (image_of l))) c.as_slice.ensures.value (c.is_had_whole.ensures.whole c.if-is_had_whole.true) in
    IfErr-weaker c.salvage_over.result _ _ (λ e fails. inl (whole.0, whole.1, fails)) c.salvage_over.ensures.failed

pub returns-else-is_had_whole-clause-failed : goal.returns-else-is_had_whole-clause-failed
returns-else-is_had_whole-clause-failed g c =
    let less =
    subst (λ (l : List ℕ). (c.args.unread.now ≢ []) ⊎ HasLostRecord c.args.sectors (image_of l)) c.as_slice.ensures.value (c.is_had_whole.ensures.less c.if-is_had_whole.false) in
    IfErr-weaker c.salvage_had.result _ _ (λ e fails. inr (less, refl, fails)) c.salvage_had.ensures.failed
