use Rattle.std.proofs.Common.{◌∙◌, ℕ, List, inl, inr, refl, subst}
use Rattle.std.proofs.lemmas.Result.{IfErr-weaker, on_ok_weaker}
use Rattle.image_care.specs.Through.{image_of}
use Rattle.terminal.specs.Failed.{MendedInPart}
use Rattle.terminal.specs.Through.{SalvagesMended}
use Rattle.terminal.proofs.Unread.{said_of_two}
use Rattle.terminal.proofs.salvaging_through.salvage_had.Goals as goal

pub returns-in-Ok-clause-had : goal.returns-in-Ok-clause-had
returns-in-Ok-clause-had g c =
    let B = g.B.SectorDevice in
    let W = g.W.Write in
    let written = W.contents c.args.output.now in
    let now = W.contents c.salvage_seen.new.output in
    on_ok_weaker c.salvage_seen.result
    (λ did. said_of_two
    (λ (bytes : List ℕ) (more : List ℕ). SalvagesMended B c.args.sectors (image_of bytes) more written now c.args.new.now c.salvage_seen.new.new)
    _ _ _ _ c.as_slice.ensures.value (c.as_bytes.ensures.value ∙ c.in-Ok.ensures) did)
    c.salvage_seen.ensures.had

pub returns-in-Ok-clause-failed : goal.returns-in-Ok-clause-failed
returns-in-Ok-clause-failed g c =
    let B = g.B.SectorDevice in
    IfErr-weaker c.salvage_seen.result _ _
    (λ e fails. inr (subst
    (λ (bytes : List ℕ). MendedInPart B c.args.sectors (image_of bytes) e c.args.new.now c.salvage_seen.new.new)
    c.as_slice.ensures.value fails))
    c.salvage_seen.ensures.failed

pub returns-clause-failed : goal.returns-clause-failed
returns-clause-failed g c = inl (refl, refl)
