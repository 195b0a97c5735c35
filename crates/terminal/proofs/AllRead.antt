-- What is told of a fault of reading is what an opening of the image refuses.
use Rattle.std.proofs.Common.{◌≡◌, ◌⊎◌, ⊎_elim, Option, None, Some, Result, Ok, Err, inl, inr, sym, ap, subst}
use Rattle.std.specs.Prelude.{MatchResult, option_map}
use Rattle.recovery.specs.Opened.{first_of}
use Rattle.image_care.specs.declared.all_blocks.ReadFault.{ReadFault}
use Rattle.image_care.specs.declared.all_blocks.ReadFault.TheVariants as reading
use Rattle.recovery.specs.declared.fault.OpenFault.{OpenFault}
use Rattle.recovery.specs.declared.fault.OpenFault.TheVariants as image
use Rattle.terminal.specs.Failures.{of_image, of_reading}
use Rattle.terminal.specs.declared.failure.Failure.{Failure}
use Rattle.terminal.specs.declared.failure.Failure.TheVariants.{CannotWrite, Device, NoMemory}

-- how a reading of an image with this refusal fails, and what is told of it
abbrev Fails : ReadFault → Option OpenFault → Type 0
Fails e refusal = (e ≡ reading.NoMemory) ⊎ (e ≡ reading.Refused image.Device) ⊎ (option_map reading.Refused refusal ≡ Some e)

abbrev Told : Failure → Option OpenFault → Type 0
Told e refusal = (e ≡ NoMemory) ⊎ (e ≡ Device) ⊎ (Some e ≡ option_map of_image refusal)

same : (e : ReadFault) (refusal : Option OpenFault) → option_map reading.Refused refusal ≡ Some e → Some (of_reading e) ≡ option_map of_image refusal
same e None is = ap (option_map of_reading) (sym is)
same e (Some fault) is = ap (option_map of_reading) (sym is)

told : (e : ReadFault) (refusal : Option OpenFault) → Fails e refusal → Told (of_reading e) refusal
told e refusal = ⊎_elim (λ is. inl (ap of_reading is)) (⊎_elim (λ is. inr (inl (ap of_reading is))) (λ is. inr (inr (same e refusal is))))

pub told_reading : {T : Type 0} (r : Result T ReadFault) (x : Result T Failure) (refusal : Option OpenFault)
    → MatchResult r (λ t. x ≡ Ok t) (λ fault. x ≡ Err (of_reading fault))
    → MatchResult r (λ t. refusal ≡ None) (λ e. Fails e refusal) → MatchResult x (λ t. refusal ≡ None) (λ e. Told e refusal)
told_reading {T} (Ok t) x refusal is none =
    subst (λ (y : Result T Failure). MatchResult y (λ t. refusal ≡ None) (λ e. Told e refusal)) (sym is) none
told_reading {T} (Err e) x refusal is fails =
    subst (λ (y : Result T Failure). MatchResult y (λ t. refusal ≡ None) (λ e. Told e refusal)) (sym is) (told e refusal fails)

-- What isn't refused leaves it to the next one, and what is decides.
pub first_passes : (a b : Option OpenFault) → a ≡ None → first_of a b ≡ b
first_passes a b none = ap (λ r. first_of r b) none

refuses : (e : Failure) (a b : Option OpenFault) → Some e ≡ option_map of_image a → Some e ≡ option_map of_image (first_of a b)
refuses e None b is = cc
refuses e (Some fault) b is = is

pub first_refuses : (e : Failure) (a b : Option OpenFault) → Told e a
    → (e ≡ NoMemory) ⊎ (e ≡ Device) ⊎ (e ≡ CannotWrite) ⊎ (Some e ≡ option_map of_image (first_of a b))
first_refuses e a b = ⊎_elim inl (⊎_elim (λ is. inr (inl is)) (λ is. inr (inr (inr (refuses e a b is)))))
