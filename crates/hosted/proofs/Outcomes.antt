-- What is known of how a call ended.
use Rattle.std.proofs.Common.{◌≡◌, ◌≢◌, ◌⊎◌, List, [], ◌∷◌, ℕ, zero, suc, Result, Ok, Err, Option, Some, None, inl, refl, ap}
use Rattle.std.specs.Prelude.{IfErr, IfOk, IfSome, MatchResult, OnOk, unwrap_or}
use Rattle.journal.specs.Maps.{block_in, contents, fresh, none_pending, pending_in}
use Rattle.recovery.specs.Opened.{first_of}
use Rattle.recovery.specs.declared.fault.OpenFault.{OpenFault}
use Rattle.recovery.specs.declared.fault.OpenFault.TheVariants as image
use Rattle.hosted.specs.Refusals.{IsOfImage, IsOfSession, of_image}
use Rattle.hosted.specs.declared.refusal.Refusal.{Refusal}
use Rattle.hosted.specs.declared.refusal.Refusal.TheVariants.{BadSize, NoLabel, OtherVersion, WrongCount, Device, Damaged, NoBlock, BadLength, NoSteps, Input, Output, NoMemory}

module _ {D : Type 0} where
  pub on_any : (r : Result D (Refusal × D)) (P : Type 0) → P → OnOk r P
  on_any (Ok d) P p = p
  on_any (Err e) P p = tt

  pub ok_map : (r : Result D (Refusal × D)) (P Q : D → Type 0) → ((d : D) → P d → Q d) → IfOk r P → IfOk r Q
  ok_map (Ok d) P Q f p = f d p
  ok_map (Err e) P Q f p = tt

  pub err_map : (r : Result D (Refusal × D)) (P Q : Refusal × D → Type 0) → ((e : Refusal × D) → P e → Q e) → IfErr r P → IfErr r Q
  err_map (Ok d) P Q f p = tt
  err_map (Err e) P Q f p = f e p

  -- Only the device was to blame.
  pub blames : (r : Result D (Refusal × D)) (A : Type 0) (B : Refusal × D → Type 0) → A → IfErr r (λ e. e.0 ≡ Device)
      → MatchResult r (λ d. A) (λ e. (e.0 ≡ Device) ⊎ B e)
  blames (Ok d) A B a is = a
  blames (Err e) A B a is = inl is

no_pending : (saved : List (List ℕ)) (b : ℕ) → pending_in (none_pending saved) b ≡ None
no_pending [] b = refl
no_pending (x ∷ saved) zero = refl
no_pending (x ∷ saved) (suc b) = no_pending saved b

-- A store that was just opened gives what is saved.
pub contents_fresh : (saved : List (List ℕ)) (b : ℕ) → contents (fresh saved) b ≡ block_in saved b
contents_fresh saved b = ap (λ p. unwrap_or p (block_in saved b)) (no_pending saved b)

pub no_refusal : {E : Type 0} (o : Option E) (P : E → Type 0) → o ≡ None → IfSome o P
no_refusal None P is = tt
no_refusal (Some e) P is = absurd (cc)

pub second_of : {E : Type 0} (first second : Option E) (e : E) → first ≡ None → second ≡ Some e → first_of first second ≡ Some e
second_of None second e none is = is
second_of (Some f) second e none is = absurd (cc)

pub lies_with_image : (fault : OpenFault) → IsOfImage (of_image fault)
lies_with_image image.BadSize = tt
lies_with_image image.NoLabel = tt
lies_with_image image.OtherVersion = tt
lies_with_image image.WrongCount = tt
lies_with_image image.Device = tt
lies_with_image image.Damaged = tt

-- What lies with the session doesn't lie with the image.
pub not_both : (e : Refusal) → IsOfImage e → IsOfSession e → ⊥
not_both BadSize of_image_is of_session_is = of_session_is
not_both NoLabel of_image_is of_session_is = of_session_is
not_both OtherVersion of_image_is of_session_is = of_session_is
not_both WrongCount of_image_is of_session_is = of_session_is
not_both Device of_image_is of_session_is = of_session_is
not_both Damaged of_image_is of_session_is = of_session_is
not_both NoBlock of_image_is of_session_is = of_image_is
not_both BadLength of_image_is of_session_is = of_image_is
not_both NoSteps of_image_is of_session_is = of_image_is
not_both Input of_image_is of_session_is = of_image_is
not_both Output of_image_is of_session_is = of_image_is
not_both NoMemory of_image_is of_session_is = of_image_is
