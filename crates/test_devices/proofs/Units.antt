-- A write of one sector after its whole unit was touched.
use Rattle.std.proofs.Common.{◌≡◌, ◌≢◌, ◌⊎◌, ℕ, zero, suc, ◌+◌, ◌/◌, ◌%◌, ◌<◌, ◌≤◌, Bool, true, false, cond, List}
use Rattle.std.proofs.Common.{inl, inr, refl, sym, ◌∙◌, ap, arith}
use Rattle.std.specs.Prelude.{◌==◌, Result, Ok, Err, IsOk, OnOk}
use Rattle.std.proofs.Math.Path.{fun_ext}
use Rattle.std.proofs.lemmas.Bool.{cases_eq, cases_lt}
use Rattle.std.proofs.lemmas.Bool.Decides.{nat_tests}
use Rattle.test_devices.specs.Coarse.{in_eights, inside, past, unit_of}
use Rattle.sector_disk.specs.Counting.{CountsFailure}
use Rattle.sector_disk.specs.Disk.{Disk, with_sector, written}
use Rattle.sector_disk.proofs.FileCalls.{unless, when}

-- A device whose count of failures stays at 0 never fails.
pub went_well : {T E : Type 0} (result : Result T E) → CountsFailure 0 0 result → IsOk result
went_well (Ok x) counts = refl
went_well (Err e) counts = absurd (zero_one (counts.rises refl))
  where
    zero_one : zero ≡ suc zero → ⊥
    zero_one is = cc

pub on_well : {T E P : Type 0} (result : Result T E) → IsOk result → OnOk result P → P
on_well (Ok x) well ok = ok
on_well (Err e) well ok = absurd (err_ok well)
  where
    err_ok : false ≡ true → ⊥
    err_ok is = cc

apart : (count j k : ℕ) → k < count → (j < count → j / 8 ≢ k / 8) → unit_of count j ≢ unit_of count k
apart count j k below other is = elim (cases_lt j count) [
  | inl low ↦ other low (sym (inside count j low) ∙ is ∙ inside count k below)
  | inr out ↦ absurd (omega (arith, below, out, sym (past count j out) ∙ is ∙ inside count k below))
]

already : (a b : ℕ) (x : Bool) → x ≡ true → cond (a == b) true x ≡ true
already a b x is = grind (arith, nat_tests, is)

-- The disk d, whose sectors from first to end were touched, is e.
module _ (count k first end : ℕ) (d e : Disk) (below : k < count) (own : (j : ℕ) → e.unit j ≡ j)
    (begins : first + k % 8 ≡ k) (ends : end ≤ first + 8) (within : end ≤ count) (reaches : (j : ℕ) → j < count → j < first + 8 → j < end)
    (content : (j : ℕ) → e.content j ≡ d.content j) (synced : (j : ℕ) → e.synced j ≡ d.synced j)
    (touched : (j : ℕ) → first ≤ j → j < end → e.unsynced j ≡ true)
    (others : (j : ℕ) → (j < first) ⊎ (end ≤ j) → e.unsynced j ≡ d.unsynced j)
  where
    outside : (j : ℕ) → (j < first) ⊎ (end ≤ j) → (j < count → j / 8 ≢ k / 8)
        → cond (e.unit j == e.unit k) true (e.unsynced j) ≡ cond (unit_of count j == unit_of count k) true (d.unsynced j)
    outside j out other =
        unless (e.unit j) (e.unit k) (e.unsynced j) (λ is. apart count j k below other (ap (unit_of count) (sym (own j) ∙ is ∙ own k)))
        ∙ others j out
        ∙ sym (unless (unit_of count j) (unit_of count k) (d.unsynced j) (apart count j k below other))

    -- a sector of another unit is none of those from first to end
    elsewhere : (j : ℕ) → j / 8 ≢ k / 8 → (j < first) ⊎ (end ≤ j)
    elsewhere j other = elim (cases_lt j first) [
      | inl low ↦ inl low
      | inr high ↦ inr (omega (arith, high, other, begins, ends))
    ]

    marks : (bytes : List ℕ) (j : ℕ) → (written e k bytes).unsynced j ≡ (written (in_eights count d) k bytes).unsynced j
    marks bytes j = elim (cases_lt j count) [
      | inl low ↦ elim (cases_eq (j / 8) (k / 8)) [
        | inl same ↦
            already (e.unit j) (e.unit k) (e.unsynced j) (touched j (omega (arith, same, begins)) (reaches j low (omega (arith, same, begins))))
            ∙ sym (when (unit_of count j) (unit_of count k) (d.unsynced j) (inside count j low ∙ same ∙ sym (inside count k below)))
        | inr other ↦ outside j (elsewhere j other) (λ _. other)
      ]
      | inr out ↦ outside j (inr (omega (arith, out, within))) (λ low. absurd (omega (arith, low, out)))
    ]

    pub spread : (bytes : List ℕ) → in_eights count (written e k bytes) ≡ written (in_eights count d) k bytes
    spread bytes = parts (ap (λ c. with_sector c k bytes) (fun_ext content)) (fun_ext synced) (fun_ext (marks bytes)) refl
      where
        parts : {a b : Disk} → a.content ≡ b.content → a.synced ≡ b.synced → a.unsynced ≡ b.unsynced → a.unit ≡ b.unit → a ≡ b
        parts one two three four = grind (arith, one, two, three, four)
