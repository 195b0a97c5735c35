-- Sectors that can't be read: what a check tells of them, and what a salvage does that passes them over.
use Rattle.std.proofs.Common.{◌≡◌, ◌≢◌, ◌∙◌, ⊎_elim, ℕ, Bool, true, false, List, Option, Result, Ok, Err, ap, inl, inr, refl, subst, sym}
use Rattle.std.specs.Prelude.{not, IfErr, IsErr, OnOk}
use Rattle.sector_disk.specs.Disk.{Image}
use Rattle.sector_disk.specs.declared.device.SectorDevice.{Ghosts}
use Rattle.image_care.specs.Mended.{IsMendedBySize}
use Rattle.terminal.specs.Failed.{CheckFails, LookFails, MoreTold}
use Rattle.terminal.specs.Failures.{is_device}
use Rattle.terminal.specs.declared.failure.Failure.{Failure}
use Rattle.terminal.specs.declared.failure.Failure.TheVariants.{BadSize, CannotOpen, CannotRead, CannotWrite, Damaged, Device, Exists, InUse, NoBlock, NoLabel, NoMemory, NotAScreen, OtherVersion, WrongCount}

-- ---- whose failure it is

pub of_device : (failure : Failure) → is_device failure ≡ true → failure ≡ Device
of_device BadSize is = cc
of_device NoLabel is = cc
of_device OtherVersion is = cc
of_device WrongCount is = cc
of_device Damaged is = cc
of_device Device is = refl
of_device Exists is = cc
of_device CannotOpen is = cc
of_device InUse is = cc
of_device NoBlock is = cc
of_device CannotRead is = cc
of_device NotAScreen is = cc
of_device CannotWrite is = cc
of_device NoMemory is = cc

pub not_of_device : (failure : Failure) → is_device failure ≡ false → failure ≢ Device
not_of_device failure isnt is = let both : true ≡ false = sym (ap is_device is) ∙ isnt in absurd cc

-- ---- answers

pub not_false : (b : Bool) → not b ≡ false → b ≡ true
not_false true is = cc
not_false false is = cc

-- What never is Ok is as one likes where it is.
pub never_ok : {T E : Type 0} (P : Type 0) (r : Result T E) → IsErr r → OnOk r P
never_ok P (Ok t) is = cc
never_ok P (Err e) is = tt

-- What is said of some things is said of their equals.
pub said_of_two : {X Y : Type 0} (P : X → Y → Type 0) (x x' : X) (y y' : Y) → x ≡ x' → y ≡ y' → P x y → P x' y'
said_of_two {X} {Y} P x x' y y' one two given = subst (λ (k : Y). P x' k) two (subst (λ (k : X). P k y) one given)

-- What is said of what stands for an image is said of the best that stands for it.
pub said_of_mended : (P : ℕ → Image → Type 0) (n n' : ℕ) (had seen : Image) → n ≡ n' → IsMendedBySize n' had seen → P n seen
    → (best : Image) × IsMendedBySize n' had best × P n' best
said_of_mended P n n' had seen same is given = (seen, is, subst (λ k. P k seen) same given)

module _ {D : Type 0} (G : Ghosts D) where
  -- A look failed, and what is told more of it is told.
  pub check_fails : (written between written' : Option (List ℕ)) (first failure : Failure) (device looked after : D)
      → LookFails G written between first device looked → MoreTold G between written' first failure looked after
      → CheckFails G written written' failure device after
  check_fails written between written' first failure device looked after look (inl (other, same, still, silent)) = inl (
    (λ is. other (sym same ∙ is)),
    subst (λ (f : Failure). LookFails G written written' f device after) (sym same)
        (subst (λ (d : D). LookFails G written written' first device d) (sym still)
        (subst (λ (w : Option (List ℕ)). LookFails G written w first device looked) (sym silent) look)),
  )
  check_fails written between written' first failure device looked after look (inr (is, told)) =
      inr (looked, between, subst (λ (f : Failure). LookFails G written between f device looked) is look, told)

  -- Nothing was printed, but where the image is damaged, a sector can't be read, or the output failed.
  pub more_unprinted : {T W : Type 0} (between written' : Option (List ℕ)) (first : Failure) (looked after : D) (old mid new : W) (r : Result T Failure)
      → IfErr r (λ e. MoreTold G between written' first e looked after)
      → IfErr r (λ e. e ≢ Device → e ≢ CannotWrite → new ≡ mid) → (first ≢ CannotWrite → first ≢ Damaged → mid ≡ old)
      → IfErr r (λ e. e ≢ Damaged → e ≢ Device → e ≢ CannotWrite → new ≡ old)
  more_unprinted between written' first looked after old mid new (Ok t) told same was = tt
  more_unprinted between written' first looked after old mid new (Err e) told same was = λ whole well other.
      same well other
      ∙ ⊎_elim
      (λ kept. was (λ is. other (kept.1 ∙ is)) (λ is. whole (kept.1 ∙ is)))
      (λ asked. was
      (λ is. let both : Device ≡ CannotWrite = sym asked.0 ∙ is in absurd cc)
      (λ is. let both : Device ≡ Damaged = sym asked.0 ∙ is in absurd cc))
      told
