-- A file that was opened, or made and not finished, and the commands that were to make an image on it.
use Rattle.std.proofs.Common.{◌≡◌, ◌⊎◌, Bool, true, false, Option, None, Some, inl, inr, refl, subst, sym}
use Rattle.std.specs.Prelude.{IfSome, MatchBool, MatchOption}
use Rattle.terminal.specs.Failed.{IsUntouched}
use Rattle.terminal.specs.Unopened.{IsUnmade}
use Rattle.terminal.specs.declared.failure.Failure.{Failure}
use Rattle.terminal.specs.declared.failure.Failure.TheVariants.{BadSize, CannotOpen}
use Rattle.terminal.specs.declared.left.Left.{Left}
use Rattle.terminal.specs.declared.left.Left.TheVariants.{Made, Nothing}

-- The old device fits, and the new file wasn't made.
pub unmade_beside : {D : Type 0} (fits : D → Bool) (device : D) (failure : Failure) → fits device ≡ true → IsUnmade failure → IsUntouched fits failure device device
unmade_beside fits device failure well unmade = record { same = refl; told = subst (λ b. MatchBool b (IsUnmade failure) (failure ≡ BadSize)) (sym well) unmade }

-- It doesn't fit.
pub unfit : {D : Type 0} (fits : D → Bool) (device : D) → fits device ≡ false → IsUntouched fits BadSize device device
unfit fits device not = record { same = refl; told = subst (λ b. MatchBool b (IsUnmade BadSize) (BadSize ≡ BadSize)) (sym not) refl }

-- The clause `NotFinished`, over no model of the device.
pub not_finished : {D E : Type 0} (unfinished : Option D) (left : Left D E) (failure : Failure) (begun : D → Type 0)
    → MatchOption unfinished (left ≡ Nothing) (λ device. left ≡ Made device) → IsUnmade failure → IfSome unfinished begun
    → IfSome unfinished (λ _. failure ≡ CannotOpen)
    → ((left ≡ Nothing) × IsUnmade failure) ⊎ ((failure ≡ CannotOpen) × (device : D) × begun device × (left ≡ Made device))
not_finished None left failure begun at unmade is told = inl (at, unmade)
not_finished (Some device) left failure begun at unmade is told = inr (told, device, is, at)

-- No image was made on it, and of the old one no call was made.
pub begun_in_part : {A B : Type 0} (unfinished : Option B) (failure : Failure) (begun P : B → Type 0) (source : A)
    → IfSome unfinished begun → IfSome unfinished (λ _. failure ≡ CannotOpen)
    → IfSome unfinished (λ after. ((failure ≡ CannotOpen) × (source ≡ source) × begun after) ⊎ P after)
begun_in_part (Some after) failure begun P source made told = inl (told, refl, made)
begun_in_part None failure begun P source made told = tt
