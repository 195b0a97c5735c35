-- Two images that were compared, of which the first is one that was opened.
use Rattle.std.proofs.Common.{◌≡◌, ◌≢◌, ◌⊎◌, ℕ, IsTrue, List, Option, Some, Result, Ok, Err, inl, inr, subst, sym}
use Rattle.std.specs.Prelude.{IfErr, MatchResult, OnOk, option_map}
use Rattle.sector_disk.specs.declared.device.SectorDevice.{Ghosts}
use Rattle.recovery.specs.Steps.{OnlyRead, WentWell}
use Rattle.terminal.specs.Compared.{OneFailed, refusal_of_either}
use Rattle.terminal.specs.Shapes.{DiffDone}
use Rattle.terminal.specs.Failed.{DiffFailed}
use Rattle.terminal.specs.Failures.{of_image}
use Rattle.terminal.specs.declared.failure.Failure.{Failure}
use Rattle.terminal.specs.declared.failure.Failure.TheVariants.{CannotWrite, Device, NoMemory}
use Rattle.terminal.specs.declared.left.Left.{Left}
use Rattle.terminal.specs.declared.left.Left.TheVariants.{Compared}
use Rattle.terminal.proofs.Ended.{memory_first}

module _ {D E T : Type 0} (G : Ghosts D) where
  pub diff_done : (r : Result T Failure) (left : Left E D) (before : D) (first second : D → Type 0) (written written' : Option (List ℕ)) → first before
      → OnOk r (DiffDone G (λ device. device ≡ before) second written written' left) → OnOk r (DiffDone G first second written written' left)
  diff_done (Ok t) left before first second written written' is done =
      (done.0, done.1, done.2, done.3, subst first (sym done.4) is, done.5, done.6, done.7)
  diff_done (Err e) left before first second written written' is done = tt

  -- Both were opened, and only read.
  pub both_failed : (A : T → Type 0) (r : Result T Failure) (left : Left E D) (old old' new new' : D) (first second : D → Type 0) → first old
      → second new → left ≡ Compared old' new' → OnlyRead G old old' → OnlyRead G new new' → IfErr r (λ e. e ≡ Device → OneFailed G old old' new new')
      → IfErr r (λ e. e ≢ Device → WentWell G G old old' new new')
      → (IsTrue (G.keeps_model old) → IsTrue (G.keeps_model new) → MatchResult r A (λ e. (e ≡ NoMemory) ⊎ (e ≡ Device) ⊎ (e ≡ CannotWrite)
      ⊎ (Some e ≡ option_map of_image (refusal_of_either G old new)))) → IfErr r (λ failure. DiffFailed G first second failure left)
  both_failed A (Ok t) left old old' new new' first second is is' at reads reads' failed well told = tt
  both_failed A (Err e) left old old' new new' first second is is' at reads reads' failed well told = inr (
    old,
    is,
    new,
    is',
    old',
    new',
    at,
    record { old_reads = reads; new_reads = reads'; failed = failed; well = well; told = λ keeps keeps'. memory_first (told keeps keeps') },
  )

  pub diff_failed : (r : Result T Failure) (left : Left E D) (before : D) (first second : D → Type 0) → first before
      → IfErr r (λ failure. DiffFailed G (λ device. device ≡ before) second failure left) → IfErr r (λ failure. DiffFailed G first second failure left)
  diff_failed (Ok t) left before first second is failed = tt
  diff_failed (Err e) left before first second is (inl (inl none)) = inl (inl none)
  diff_failed (Err e) left before first second is (inl (inr one)) =
      inl (inr (one.0, one.1, (one.2.0, subst first (sym one.2.1) is, one.2.2)))
  diff_failed (Err e) left before first second is (inr both) = inr (both.0, subst first (sym both.1) is, both.2, both.3, both.4, both.5, both.6, both.7)
