-- Spills one after another, and what a commit of them saves.
use Rattle.std.proofs.Common.{◌≡◌, ◌∙◌, ℕ, zero, suc, ◌+◌, ◌<◌, Bool, true, false, List, [], ◌∷◌, length, drop, take, refl, ap, subst, sym, ◌*◌, arith}
use Rattle.std.specs.Prelude.{Option, Some, None, unwrap_or, slice_set, slice_index, ◌&&◌}
use Rattle.std.specs.List.{list_all}
use Rattle.std.proofs.lemmas.List.{length-drop, length-set}
use Rattle.journal.specs.Maps.{Maps, committed, fresh, latest, none_pending, overridden, spilled}
use Rattle.hosted.specs.Saving.{with_blocks}
use Rattle.hosted.specs.Spilling.{all_spilled}

overridden_set : (saved : List (List ℕ)) (pending : List (Option (List ℕ))) (b : ℕ) (bytes : List ℕ) → length pending ≡ length saved
    → overridden saved (slice_set pending b (Some bytes)) ≡ slice_set (overridden saved pending) b bytes
overridden_set [] pending b bytes same = refl
overridden_set (x ∷ saved) [] b bytes same = absurd (omega (arith, same))
overridden_set (x ∷ saved) (p ∷ pending) zero bytes same = refl
overridden_set (x ∷ saved) (p ∷ pending) (suc b) bytes same =
    ap (λ l. unwrap_or p x ∷ l) (overridden_set saved pending b bytes (omega (arith, same)))

overridden_none : (saved : List (List ℕ)) → overridden saved (none_pending saved) ≡ saved
overridden_none [] = refl
overridden_none (x ∷ saved) = ap (λ l. x ∷ l) (overridden_none saved)

latest_all : (m : Maps) (blocks bytes : List ℕ) → length m.pending ≡ length m.saved
    → latest (all_spilled m blocks bytes) ≡ with_blocks (latest m) blocks bytes
latest_all m [] bytes same = refl
latest_all m (b ∷ blocks) bytes same =
    latest_all (spilled m b (take 1024 bytes)) blocks (drop 1024 bytes) (length-set m.pending b (Some (take 1024 bytes)) ∙ same)
    ∙ ap (λ l. with_blocks l blocks (drop 1024 bytes)) (overridden_set m.saved m.pending b (take 1024 bytes) same)

length_none : (saved : List (List ℕ)) → length (none_pending saved) ≡ length saved
length_none [] = refl
length_none (x ∷ saved) = ap suc (length_none saved)

-- What a commit saves after these spills, in a store that was just opened.
pub saves : (saved : List (List ℕ)) (blocks bytes : List ℕ) → latest (all_spilled (fresh saved) blocks bytes) ≡ with_blocks saved blocks bytes
saves saved blocks bytes =
    latest_all (fresh saved) blocks bytes (length_none saved) ∙ ap (λ l. with_blocks l blocks bytes) (overridden_none saved)

-- A spill changes neither the saved blocks nor whether the store is closed.
pub saved_same : (m : Maps) (blocks bytes : List ℕ) → (all_spilled m blocks bytes).saved ≡ m.saved
saved_same m [] bytes = refl
saved_same m (b ∷ blocks) bytes = saved_same (spilled m b (take 1024 bytes)) blocks (drop 1024 bytes)

pub closed_same : (m : Maps) (blocks bytes : List ℕ) → (all_spilled m blocks bytes).closed ≡ m.closed
closed_same m [] bytes = refl
closed_same m (b ∷ blocks) bytes = closed_same (spilled m b (take 1024 bytes)) blocks (drop 1024 bytes)

none_same : {A B : Type 0} (xs : List A) (ys : List B) → length xs ≡ length ys → none_pending xs ≡ none_pending ys
none_same [] [] same = refl
none_same [] (y ∷ ys) same = absurd (omega (arith, same))
none_same (x ∷ xs) [] same = absurd (omega (arith, same))
none_same (x ∷ xs) (y ∷ ys) same = ap (λ l. None ∷ l) (none_same xs ys (omega (arith, same)))

length_pending : (m : Maps) (blocks bytes : List ℕ) → length (all_spilled m blocks bytes).pending ≡ length m.pending
length_pending m [] bytes = refl
length_pending m (b ∷ blocks) bytes =
    length_pending (spilled m b (take 1024 bytes)) blocks (drop 1024 bytes) ∙ length-set m.pending b (Some (take 1024 bytes))

length_with : (saved : List (List ℕ)) (blocks bytes : List ℕ) → length (with_blocks saved blocks bytes) ≡ length saved
length_with saved [] bytes = refl
length_with saved (b ∷ blocks) bytes =
    length_with (slice_set saved b (take 1024 bytes)) blocks (drop 1024 bytes) ∙ length-set saved b (take 1024 bytes)

-- After a commit of these spills the store is as one that was just opened.
pub committed_fresh : (saved : List (List ℕ)) (blocks bytes : List ℕ) → committed (all_spilled (fresh saved) blocks bytes) ≡ fresh (with_blocks saved blocks bytes)
committed_fresh saved blocks bytes =
    let none = none_same (all_spilled (fresh saved) blocks bytes).pending (with_blocks saved blocks bytes)
    (length_pending (fresh saved) blocks bytes ∙ length_none saved ∙ sym (length_with saved blocks bytes)) in
    λ i. record { saved = saves saved blocks bytes i; pending = none i; closed = closed_same (fresh saved) blocks bytes i }

-- what holds of all holds of the next
pub next_of : (test : ℕ → Bool) (xs : List ℕ) (i : ℕ) → i < length xs → list_all test (drop i xs) ≡ true
    → (test (slice_index xs i) ≡ true) × (list_all test (drop (suc i) xs) ≡ true)
next_of test [] i below all = absurd (omega (arith, below))
next_of test (x ∷ xs) zero below all = both (test x) (list_all test xs) all
  where
    both : (a b : Bool) → (a && b) ≡ true → (a ≡ true) × (b ≡ true)
    both true b is = (refl, is)
    both false b is = absurd (cc)
next_of test (x ∷ xs) (suc i) below all = next_of test xs i (omega (arith, below)) all

-- the spills that are left, the next one first
pub next_spill : (m : Maps) (blocks bytes : List ℕ) (i : ℕ) → i < length blocks
    → all_spilled m (drop i blocks) bytes ≡ all_spilled (spilled m (slice_index blocks i) (take 1024 bytes)) (drop (suc i) blocks) (drop 1024 bytes)
next_spill m [] bytes i below = absurd (omega (arith, below))
next_spill m (b ∷ blocks) bytes zero below = refl
next_spill m (b ∷ blocks) bytes (suc i) below = next_spill m blocks bytes i (omega (arith, below))

one_more : (i : ℕ) → suc i ≡ i + 1
one_more i = omega arith

-- One spill more was made: what is left comes to the same.
pub spilled_one : (now m : Maps) (blocks bytes rest front back : List ℕ) (i : ℕ) → i < length blocks
    → front ≡ take 1024 rest → back ≡ drop 1024 rest → all_spilled now (drop i blocks) rest ≡ all_spilled m blocks bytes
    → all_spilled (spilled now (slice_index blocks i) front) (drop (i + 1) blocks) back ≡ all_spilled m blocks bytes
spilled_one now m blocks bytes rest front back i below first second was =
    let b = slice_index blocks i in
    subst (λ n. all_spilled (spilled now b front) (drop n blocks) back ≡ all_spilled m blocks bytes) (one_more i)
    (ap (λ l. all_spilled (spilled now b l) (drop (suc i) blocks) back) first
    ∙ ap (λ l. all_spilled (spilled now b (take 1024 rest)) (drop (suc i) blocks) l) second
    ∙ sym (next_spill now blocks rest i below) ∙ was)

-- and what held of all that was left holds of the rest
pub holds_after : (test : ℕ → Bool) (xs : List ℕ) (i : ℕ) → i < length xs → list_all test (drop i xs) ≡ true
    → list_all test (drop (i + 1) xs) ≡ true
holds_after test xs i below all = subst (λ n. list_all test (drop n xs) ≡ true) (one_more i) (next_of test xs i below all).1

pub fewer_left : (xs : List ℕ) (i whole left : ℕ) → i < length xs → whole ≡ 1024 * length (drop i xs) → left + 1024 ≡ whole
    → left ≡ 1024 * length (drop (i + 1) xs)
fewer_left xs i whole left below is less = omega (arith, below, is, less, length-drop i xs, length-drop (i + 1) xs)
