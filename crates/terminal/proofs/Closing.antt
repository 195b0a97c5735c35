-- How a command ended, once what it gave back was closed.
use Rattle.std.proofs.Common.{◌≡◌, ◌⊎◌, ℕ, List, Option, Result, Ok, Err, ap, inl, inr, sym, subst}
use Rattle.std.specs.Prelude.{IsOk, IfErr, IfOk, MatchResult, OnOk}
use Rattle.sector_disk.specs.declared.device.SectorDevice.{Ghosts}
use Rattle.block_words.specs.Words.{Save}
use Rattle.interpreter.specs.State.{Forth}
use Rattle.sessions.specs.declared.run_fault.RunFault.{RunFault}
use Rattle.sessions.specs.Sessions.{BreaksOff}
use Rattle.terminal.specs.Failures.{of_run}
use Rattle.terminal.specs.InMemory.{FailsInMemory, blank_forth}
use Rattle.terminal.specs.declared.failure.Failure.{Failure}
use Rattle.terminal.specs.declared.failure.Failure.TheVariants.{NoMemory}

module _ {T U E : Type 0} where
  pub done_of : (outcome : Result T E) (r : Result U E) → MatchResult outcome (λ _. IsOk r) (λ e. r ≡ Err e)
      → (P : T → Type 0) (Q : Type 0) → ((t : T) → P t → Q) → IfOk outcome P → OnOk r Q
  done_of (Ok t) (Ok u) is P Q f p = f t p
  done_of (Ok t) (Err e) is P Q f p = tt
  done_of (Err e) r is P Q f p = subst (λ (r : Result U E). OnOk r Q) (sym is) tt

module _ {T U D : Type 0} (G : Ghosts D) where
  -- A session over blocks in memory, of which no call fails.
  pub failed_in_memory : (outcome : Result T Failure) (r : Result U Failure) → MatchResult outcome (λ _. IsOk r) (λ e. r ≡ Err e)
      → (left left' written written' : Option (List ℕ)) (old : D) → G.failures old ≡ 0 → ((after : D) → G.failures after ≡ 0)
      → (outcome ≡ Err NoMemory → left' ≡ left) → (outcome ≡ Err NoMemory → written' ≡ written)
      → IfErr outcome (λ e. (e ≡ NoMemory) ⊎ ((fault : RunFault) × (e ≡ of_run fault) × (closing : Forth) × (made : List Save) × (after : D)
      × BreaksOff G fault blank_forth closing left left' written written' old after made))
      → IfErr r (λ e. FailsInMemory G e left left' written written')
  failed_in_memory (Ok t) (Ok u) is left left' written written' old none never unread unwritten ended = tt
  failed_in_memory (Ok t) (Err e) is left left' written written' old none never unread unwritten ended = absurd (cc)
  failed_in_memory (Err e) r is left left' written written' old none never unread unwritten (inl refused) =
      subst (λ (r : Result U Failure). IfErr r (λ e. FailsInMemory G e left left' written written')) (sym is)
      (inl (refused, unread (ap (λ (it : Failure). Err it) refused), unwritten (ap (λ (it : Failure). Err it) refused)))
  failed_in_memory (Err e) r is left left' written written' old none never unread unwritten (inr broke) =
      subst (λ (r : Result U Failure). IfErr r (λ e. FailsInMemory G e left left' written written')) (sym is)
      (inr (broke.0, broke.1, (broke.2, broke.3, old, broke.4, none, never broke.4, broke.5)))
