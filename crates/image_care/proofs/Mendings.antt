-- An image with another record in the place of the one that its gate names.
use Rattle.std.proofs.Common.{◌≡◌, ◌⊎◌, ℕ, List, Option, Some, None, true, false, inr, subst, sym}
use Rattle.std.specs.Prelude.{◌==◌, if◌then◌else◌, IfNone, IfSome}
use Rattle.sector_disk.specs.Disk.{Image}
use Rattle.journal.specs.PageImages.{IsWhole, gate_fits}
use Rattle.image_care.specs.Mended.{IsBetter, IsKept, named_at, other_record, prefers_other, under}
use Rattle.image_care.specs.StillDisk.{replaced}
use Rattle.image_care.specs.declared.still_disk.Replacement.{Replacement}

pub replaced_under : (other : Replacement) (listing : List ℕ) (image : Image) → other.at ≡ named_at image → other.bytes ≡ listing
    → replaced (Some other) image ≡ under listing image
replaced_under other listing image at bytes = λ t k. if k == at t then bytes t else image k

-- What is found out of the other record, where the gate isn't of the named one.
module _ (n : ℕ) (image : Image) where
  pub kept : (r : Option Replacement)
      → IfNone r ((¬ IsWhole n (under (other_record image) image)) ⊎ (IsWhole n image × (prefers_other n image ≡ false)))
      → IfNone r (IsKept n image)
  kept None found = inr found
  kept (Some one) found = tt

  pub better : (r : Option Replacement) → gate_fits image ≡ false → IfSome r (λ one. one.bytes ≡ other_record image)
      → IfSome r (λ one. IsWhole n (under (other_record image) image))
      → IfSome r (λ one. (¬ IsWhole n image) ⊎ (prefers_other n image ≡ true)) → IfSome r (λ one. IsBetter n one.bytes image)
  better None unfit is whole which = tt
  better (Some one) unfit is whole which = record {
    gate = unfit;
    whole = subst (λ l. IsWhole n (under l image)) (sym is) whole;
    which = inr (is, which);
  }
