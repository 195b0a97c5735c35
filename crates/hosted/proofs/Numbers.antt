-- What is known of a call by the number that C is told.
use Rattle.std.proofs.Common.{◌≡◌, ◌≢◌, ◌∙◌, ◌⊎◌, ◌∷◌, [], ℕ, Bool, List, Result, Ok, Err, Option, Some, None, inl, inr, refl, slice_index_or, sym, subst, ap}
use Rattle.std.specs.Prelude.{◌↔◌, IfErr, IfOk, IfSome, MatchResult, OnOk}
use Rattle.sector_disk.specs.declared.device.SectorDevice.{Ghosts}
use Rattle.hosted.specs.Calls.{device_after}
use Rattle.hosted.specs.Keeping.{HoldsOpen, KeepsOpen, gate_in, kept_after, kept_answer}
use Rattle.hosted.specs.Refusals.{IsOfImage, IsOfSession, answer_of, code_of, number_of}
use Rattle.hosted.specs.Sessions.{RanNothing, TellsSession}
use Rattle.hosted.specs.declared.open_store.OpenStore.{OpenStore}
use Rattle.hosted.specs.declared.refusal.Refusal.{Refusal}
use Rattle.hosted.specs.declared.refusal.Refusal.TheVariants.{BadSize, NoLabel, OtherVersion, WrongCount, Device, Damaged, NoBlock, BadLength, NoSteps, Input, Output, NoMemory}

-- No refusal has the number 0.
refused_not_done : (e : Refusal) → code_of e ≡ 0 → ⊥
refused_not_done BadSize is = cc
refused_not_done NoLabel is = cc
refused_not_done OtherVersion is = cc
refused_not_done WrongCount is = cc
refused_not_done Device is = cc
refused_not_done Damaged is = cc
refused_not_done NoBlock is = cc
refused_not_done BadLength is = cc
refused_not_done NoSteps is = cc
refused_not_done Input is = cc
refused_not_done Output is = cc
refused_not_done NoMemory is = cc

-- Each has a number of its own.
abbrev by_number : List Refusal
by_number = BadSize ∷ BadSize ∷ NoLabel ∷ OtherVersion ∷ WrongCount ∷ Device ∷ Damaged ∷ NoBlock ∷ BadLength ∷ NoSteps ∷ Input ∷ Output ∷ NoMemory ∷ []

at_number : (e : Refusal) → slice_index_or by_number (code_of e) BadSize ≡ e
at_number BadSize = refl
at_number NoLabel = refl
at_number OtherVersion = refl
at_number WrongCount = refl
at_number Device = refl
at_number Damaged = refl
at_number NoBlock = refl
at_number BadLength = refl
at_number NoSteps = refl
at_number Input = refl
at_number Output = refl
at_number NoMemory = refl

same_code : (a b : Refusal) → code_of a ≡ code_of b → a ≡ b
same_code a b is = sym (at_number a) ∙ ap (λ n. slice_index_or by_number n BadSize) is ∙ at_number b

-- what is known of a call that was done, of one that told this refusal, of one that was refused for anything else, and of one that ran nothing
module _ {D : Type 0} (outcome : Result D (Refusal × D)) (answer : ℕ) (after : D) (P : D → Type 0) (number : answer ≡ answer_of outcome)
    (device : after ≡ device_after outcome)
  where
    pub when_done : IfOk outcome P → answer ≡ 0 → P after
    when_done known is = by outcome number device known
      where
        by : (r : Result D (Refusal × D)) → answer ≡ answer_of r → after ≡ device_after r → IfOk r P → P after
        by (Ok d) told left p = subst P (sym left) p
        by (Err e) told left p = absurd (refused_not_done e.0 (sym told ∙ is))

    pub when_told : (refusal : Refusal) → IfErr outcome (λ e. e.0 ≡ refusal → P e.1) → answer ≡ code_of refusal → P after
    when_told refusal known is = by outcome number device known
      where
        by : (r : Result D (Refusal × D)) → answer ≡ answer_of r → after ≡ device_after r → IfErr r (λ e. e.0 ≡ refusal → P e.1) → P after
        by (Ok d) told left p = absurd (refused_not_done refusal (sym is ∙ told))
        by (Err e) told left p = subst P (sym left) (p (same_code e.0 refusal (sym told ∙ is)))

    pub when_other : (refusal : Refusal) → IfErr outcome (λ e. e.0 ≢ refusal → P e.1) → answer ≢ 0 → answer ≢ code_of refusal → P after
    when_other refusal known not_done other = by outcome number device known
      where
        by : (r : Result D (Refusal × D)) → answer ≡ answer_of r → after ≡ device_after r → IfErr r (λ e. e.0 ≢ refusal → P e.1) → P after
        by (Ok d) told left p = absurd (not_done told)
        by (Err e) told left p = subst P (sym left) (p (λ is. other (told ∙ ap code_of is)))

    pub when_nothing_ran : IfErr outcome (λ e. e.0 ≢ Input → e.0 ≢ Output → P e.1) → RanNothing answer → P after
    when_nothing_ran known none = by outcome number device known
      where
        by : (r : Result D (Refusal × D)) → answer ≡ answer_of r → after ≡ device_after r → IfErr r (λ e. e.0 ≢ Input → e.0 ≢ Output → P e.1) → P after
        by (Ok d) told left p = absurd (none.not_done told)
        by (Err e) told left p =
            subst P (sym left) (p (λ is. none.not_input (told ∙ ap code_of is)) (λ is. none.not_output (told ∙ ap code_of is)))

-- which number a session's refusal has
session_number : (e : Refusal) → IsOfSession e → (code_of e ≡ code_of Input) ⊎ ((code_of e ≡ code_of Output) ⊎ (code_of e ≡ code_of NoMemory))
session_number Input is = inl refl
session_number Output is = inr (inl refl)
session_number NoMemory is = inr (inr refl)
session_number BadSize is = absurd is
session_number NoLabel is = absurd is
session_number OtherVersion is = absurd is
session_number WrongCount is = absurd is
session_number Device is = absurd is
session_number Damaged is = absurd is
session_number NoBlock is = absurd is
session_number BadLength is = absurd is
session_number NoSteps is = absurd is

-- What is told of a session is the first test that failed.
pub tells_session : {D : Type 0} (outcome : Result D (Refusal × D)) (answer steps : ℕ) (first : Option Refusal) → answer ≡ answer_of outcome
    → OnOk outcome (first ≡ None) → IfErr outcome (λ e. IsOfImage e.0 → (e.0 ≡ Device) ⊎ (first ≡ Some e.0))
    → IfErr outcome (λ e. IsOfSession e.0 → first ≡ None)
    → IfErr outcome (λ e. (e.0 ≡ NoSteps) ⊎ (IsOfImage e.0 ⊎ IsOfSession e.0))
    → MatchResult outcome (λ d. steps ≢ 0) (λ e. (e.0 ≡ NoSteps) ↔ (steps ≡ 0))
    → steps ≢ 0 → TellsSession answer first
tells_session (Ok d) answer steps first number well image memory kind some more = inl (inr (number ∙ sym (ap number_of well)))
tells_session (Err e) answer steps first number well image memory kind some more = by kind
  where
    of_image : (e.0 ≡ Device) ⊎ (first ≡ Some e.0) → TellsSession answer first
    of_image (inl is) = inl (inl (number ∙ ap code_of is))
    of_image (inr is) = inl (inr (number ∙ sym (ap number_of is)))

    of_three : (code_of e.0 ≡ code_of Input) ⊎ ((code_of e.0 ≡ code_of Output) ⊎ (code_of e.0 ≡ code_of NoMemory))
        → (answer ≡ code_of Input) ⊎ ((answer ≡ code_of Output) ⊎ (answer ≡ code_of NoMemory))
    of_three (inl is) = inl (number ∙ is)
    of_three (inr (inl is)) = inr (inl (number ∙ is))
    of_three (inr (inr is)) = inr (inr (number ∙ is))

    by : (e.0 ≡ NoSteps) ⊎ (IsOfImage e.0 ⊎ IsOfSession e.0) → TellsSession answer first
    by (inl is) = absurd (more (some.0 is))
    by (inr (inl is)) = of_image (image is)
    by (inr (inr is)) = inr (memory is, of_three (session_number e.0 is))

-- What is wrong with the arguments is told as its number, and the device wasn't called.
pub wrong_told : {D : Type 0} (outcome : Result D (Refusal × D)) (answer : ℕ) (device after : D) (wrong : Option Refusal)
    → answer ≡ answer_of outcome → after ≡ device_after outcome → IfSome wrong (λ e. outcome ≡ Err (e, device))
    → IfSome wrong (λ e. (answer ≡ code_of e) × (after ≡ device))
wrong_told outcome answer device after None is same none = tt
wrong_told outcome answer device after (Some e) is same some = (is ∙ ap answer_of some, same ∙ ap device_after some)

-- What is known of a call over an opening that stays, which was refused for anything but this.
pub kept_other : {D : Type 0} (outcome : Result (D × Bool) (Refusal × D)) (answer : ℕ) (after : D) (P : D → Type 0) → answer ≡ kept_answer outcome
    → after ≡ kept_after outcome → (refusal : Refusal) → IfErr outcome (λ e. e.0 ≢ refusal → P e.1) → answer ≢ 0 → answer ≢ code_of refusal → P after
kept_other (Ok kept) answer after P number device refusal known not_done other = absurd (not_done number)
kept_other (Err e) answer after P number device refusal known not_done other = subst P (sym device) (known (λ is. other (number ∙ ap code_of is)))

-- Of a call that was done the store stays open, with what is known of it.
pub opens : {D : Type 0} (Q : D → Bool → List ℕ → Type 0) (outcome : Result (D × Bool) (Refusal × D)) (answer : ℕ) (after : D) (store : OpenStore) (listing : List ℕ)
    → answer ≡ kept_answer outcome → after ≡ kept_after outcome → store.listing ≡ listing
    → IfOk outcome (λ kept. gate_in store ≡ Some kept.1) → IfOk outcome (λ kept. Q kept.0 kept.1 listing) → answer ≡ 0
    → (is_open : Bool) × (gate_in store ≡ Some is_open) × Q after is_open store.listing
opens Q (Ok kept) answer after store listing number device same gate holds zero =
    (kept.1, gate, subst (λ d. Q d kept.1 store.listing) (sym device) (subst (λ l. Q kept.0 kept.1 l) (sym same) holds))
opens Q (Err e) answer after store listing number device same gate holds zero = absurd (refused_not_done e.0 (sym number ∙ zero))

-- and what came of it
pub where_kept : {D : Type 0} (outcome : Result (D × Bool) (Refusal × D)) (answer : ℕ) (P : Type 0) → answer ≡ kept_answer outcome → OnOk outcome P
    → answer ≡ 0 → P
where_kept (Ok kept) answer P number p zero = p
where_kept (Err e) answer P number p zero = absurd (refused_not_done e.0 (sym number ∙ zero))

-- The store that is kept open, by the state of its gate that its memory tells.
pub held_by : {D : Type 0} (G : Ghosts D) (device : D) (store : OpenStore) (saved : List (List ℕ)) (is_open : Bool) → KeepsOpen G device store saved
    → Some is_open ≡ gate_in store → HoldsOpen G device is_open store.listing saved
held_by G device store saved is_open keeps is =
    let one : Some is_open ≡ Some keeps.0 = is ∙ keeps.1 in
    let same : keeps.0 ≡ is_open = cc in
    subst (λ t. HoldsOpen G device t store.listing saved) same keeps.2
