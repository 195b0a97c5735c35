-- How a command ended that was to make an image.
use Rattle.std.proofs.Common.{◌≡◌, ◌≤◌, ℕ, true, Result, Ok, Err, subst, sym, arith}
use Rattle.std.specs.Prelude.{IsOk, IfErr, IfOk, OnOk}
use Rattle.std.proofs.lemmas.Bool.Decides.{nat_tests}
use Rattle.sector_disk.specs.declared.device.SectorDevice.{Ghosts}
use Rattle.journal.specs.Layout as older_layout
use Rattle.journal.specs.PageLayout as newer_layout
use Rattle.journal.specs.Store.{device_of}
use Rattle.journal.specs.declared.store.Store.{Store}
use Rattle.recovery.specs.Label as older_label
use Rattle.shadow.specs.Label as newer_label
use Rattle.terminal.specs.declared.failure.Failure.{Failure}

-- The size of a file that was made for so many blocks is that of an image.
pub older_size : (n sectors : ℕ) → 32 ≤ n → n ≤ 3840 → sectors ≡ older_layout.sectors_for n → older_label.is_size_for n sectors ≡ true
older_size n sectors many few is = grind (arith, nat_tests, many, few, is)

pub newer_size : (n sectors : ℕ) → 32 ≤ n → n ≤ 3840 → sectors ≡ newer_layout.sectors_for n → newer_label.is_size_for n sectors ≡ true
newer_size n sectors many few is = grind (arith, nat_tests, many, few, is)

pub older_sectors : (n sectors : ℕ) → older_label.is_size_for n sectors ≡ true → sectors ≡ older_layout.sectors_for n
older_sectors n sectors is = grind (arith, nat_tests, is)

pub newer_sectors : (n sectors : ℕ) → newer_label.is_size_for n sectors ≡ true → sectors ≡ newer_layout.sectors_for n
newer_sectors n sectors is = grind (arith, nat_tests, is)

on_any : {T E : Type 0} {P : Type 0} (r : Result T E) → P → OnOk r P
on_any (Ok t) p = p
on_any (Err e) p = tt

of_none : {T E : Type 0} (P : E → Type 0) (r : Result T E) → IsOk r → IfErr r P
of_none P (Ok t) is = tt
of_none P (Err e) is = absurd cc

-- The device is given back, and what it was told as.
module _ {D T : Type 0} (G : Ghosts D) where
  -- The image was made.
  pub given_done : (P : D → D → Type 0) (device : D) (outcome : Result (Store D G) (Failure × D)) (after : D) (r : Result T Failure)
      → IfOk outcome (λ store. after ≡ device_of store) → IfErr outcome (λ e. r ≡ Err e.0) → IfOk outcome (λ store. P device (device_of store))
      → OnOk r (P device after)
  given_done P device (Ok store) after r at failed done = on_any r (subst (λ (d : D). P device d) (sym at) done)
  given_done P device (Err e) after r at failed done = subst (λ (r : Result T Failure). OnOk r (P device after)) (sym failed) tt

  -- It wasn't, or not to its end.
  pub given_failed : (P : Failure → D → D → Type 0) (device : D) (outcome : Result (Store D G) (Failure × D)) (after : D) (r : Result T Failure)
      → IfErr outcome (λ e. after ≡ e.1) → OnOk outcome (IsOk r) → IfErr outcome (λ e. r ≡ Err e.0) → IfErr outcome (λ e. P e.0 device e.1)
      → IfErr r (λ failure. P failure device after)
  given_failed P device (Ok store) after r at well failed done = of_none _ r well
  given_failed P device (Err e) after r at well failed done =
      subst (λ (r : Result T Failure). IfErr r (λ failure. P failure device after)) (sym failed) (subst (λ (d : D). P e.0 device d) (sym at) done)
