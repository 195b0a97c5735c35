-- The blocks that a record lists, one after another.
use Rattle.std.proofs.Common.{◌≡◌, inl, inr, ℕ, zero, suc, ◌+◌, ◌<◌, ◌≤◌, true, false, cond, List, ◌++◌, sym, ◌∙◌, ap, arith}
use Rattle.std.specs.Prelude.{◌==◌, ◌/◌, ◌%◌, slice_index}
use Rattle.std.specs.Int.{bit_at}
use Rattle.std.proofs.lemmas.Nat.Bits.{bit_at-zero}
use Rattle.std.proofs.lemmas.Bool.{cases_eq, cases_lt}
use Rattle.sector_disk.specs.Disk.{Image}
use Rattle.journal.specs.Images.{slot_of, listed_slots}
use Rattle.journal.specs.Layout.{listed, count_listed, IsNextListed}
use Rattle.journal.proofs.Copies.{count_more, count_up_to}

module _ (bytes : List ℕ) where
  -- A byte of zeros lists none of its blocks.
  pub zero_byte : (b : ℕ) → slice_index bytes (b / 8) ≡ 0 → listed bytes b ≡ false
  zero_byte b none = ap (λ x. bit_at x (b % 8) == 1) none ∙ ap (λ y. y == 1) (bit_at-zero (b % 8))

  -- Where none is listed, none is counted, and no slot is added.
  count_past : (a b : ℕ) → a ≤ b → ((k : ℕ) → a ≤ k → k < b → listed bytes k ≡ false) → count_listed bytes b ≡ count_listed bytes a
  count_past a zero le none = let same : 0 ≡ a = omega arith in ap (count_listed bytes) same
  count_past a (suc b) le none = elim (cases_eq a (suc b)) [
    | inl same ↦ ap (count_listed bytes) (sym same)
    | inr other ↦
        ap (λ t. cond t (count_listed bytes b + 1) (count_listed bytes b)) (none b (omega arith) (omega arith))
        ∙ count_past a b (omega arith) (λ k from below. none k from (omega (arith, below)))
  ]

  slots_past : (image : Image) (a b : ℕ) → a ≤ b → ((k : ℕ) → a ≤ k → k < b → listed bytes k ≡ false) → listed_slots bytes image b ≡ listed_slots bytes image a
  slots_past image a zero le none = let same : 0 ≡ a = omega arith in ap (listed_slots bytes image) same
  slots_past image a (suc b) le none = elim (cases_eq a (suc b)) [
    | inl same ↦ ap (listed_slots bytes image) (sym same)
    | inr other ↦
        ap (λ t. cond t (listed_slots bytes image b ++ slot_of image b) (listed_slots bytes image b)) (none b (omega arith) (omega arith))
        ∙ slots_past image a b (omega arith) (λ k from below. none k from (omega (arith, below)))
  ]

  -- up to the first listed block
  pub count_first : (end b : ℕ) → IsNextListed bytes 0 end b → count_listed bytes b ≡ 0
  count_first end b next = count_past 0 b next.after next.none

  pub slots_first : (image : Image) (end b : ℕ) → IsNextListed bytes 0 end b → listed_slots bytes image b ≡ listed_slots bytes image 0
  slots_first image end b next = slots_past image 0 b next.after next.none

  -- from a listed block up to the next one
  module _ (b end c : ℕ) (here : listed bytes b ≡ true) (next : IsNextListed bytes (b + 1) end c) where
    pub count_next : count_listed bytes c ≡ count_listed bytes b + 1
    count_next =
        count_past (b + 1) c next.after next.none ∙ count_more bytes b ∙ ap (λ t. count_listed bytes b + cond t 1 0) here

    pub slots_next : (image : Image) → listed_slots bytes image c ≡ listed_slots bytes image b ++ slot_of image b
    slots_next image =
        slots_past image (b + 1) c next.after next.none
        ∙ ap (listed_slots bytes image) (let one : b + 1 ≡ suc b = omega arith in one)
        ∙ ap (λ t. cond t (listed_slots bytes image b ++ slot_of image b) (listed_slots bytes image b)) here

    -- what holds of the listed blocks up to this one
    pub up_to_next : (P : ℕ → Type 0) → ((a : ℕ) → a < b + 1 → listed bytes a ≡ true → P a) → (a : ℕ) → a < c → listed bytes a ≡ true → P a
    up_to_next P so_far a below is = elim (cases_lt a (b + 1)) [
      | inl before ↦ so_far a before is
      | inr past ↦ absurd (cc (is, next.none a past below))
    ]

  -- A listed block is counted.
  pub count_within : (b end : ℕ) → b < end → listed bytes b ≡ true → count_listed bytes b + 1 ≤ count_listed bytes end
  count_within b end below here =
      omega (arith, count_more bytes b, ap (λ t. count_listed bytes b + cond t 1 0) here, count_up_to bytes (b + 1) end (omega arith))
