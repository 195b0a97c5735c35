-- Of a valid list of buffers.
use Rattle.std.proofs.Common.{◌≡◌, ◌≤◌, ◌<◌, ◌+◌, ℕ, zero, suc, Bool, true, false, cond, List, [], ◌∷◌, length, not, filter, refl, sym, ◌∙◌, ap, subst, arith}
use Rattle.std.specs.Prelude.{◌||◌, ◌==◌}
use Rattle.std.proofs.lemmas.Bool.{eqb-true}
use Rattle.std.proofs.lemmas.Bool.Decides.{nat_tests}
use Rattle.std.proofs.lemmas.List.Filters.{length-filter_both}
use Rattle.sector_disk.specs.declared.device.SectorDevice.{Ghosts}
use Rattle.journal.specs.declared.store.Store.{Store}
use Rattle.journal.specs.Layout.{count_below}
use Rattle.block_buffers.specs.declared.buffers.Assigned.{Assigned}
use Rattle.block_buffers.specs.Buffers.{Buffers, none_assigned, updated_ones, IsApart, AreApart, IsValid}
use Rattle.block_words.specs.Uses.{is_among, is_changed, changed_count}
use Rattle.block_words.specs.Rooms.{within}
use Rattle.journal.specs.Store.{blocks_of}
use Rattle.block_words.proofs.Lists.{within_first, within_rest, within_filter}

pub valid_none : IsValid none_assigned
valid_none = record { few = omega arith; apart = tt; slots = tt; current = refl }

pub few_updated : (b : Buffers) → IsValid b → length (updated_ones b) ≤ 4
few_updated b v =
    let all = length-filter_both (λ x. x.updated) (λ x. not x.updated) (λ x. refl) b.list in
    let few = v.few in
    omega (arith, all, few)

apart_filter : (p : Assigned → Bool) (x : Assigned) (xs : List Assigned) → IsApart x xs → IsApart x (filter p xs)
apart_filter p x [] h = h
apart_filter p x (y ∷ ys) h = pick (p y) (apart_filter p x ys h.2)
  where
    pick : (t : Bool) → IsApart x (filter p ys) → IsApart x (cond t (y ∷ filter p ys) (filter p ys))
    pick true rest = (h.0, h.1, rest)
    pick false rest = rest

all_apart_filter : (p : Assigned → Bool) (xs : List Assigned) → AreApart xs → AreApart (filter p xs)
all_apart_filter p [] h = h
all_apart_filter p (x ∷ xs) h = pick (p x) (all_apart_filter p xs h.1)
  where
    pick : (t : Bool) → AreApart (filter p xs) → AreApart (cond t (x ∷ filter p xs) (filter p xs))
    pick true rest = (apart_filter p x xs h.0, rest)
    pick false rest = rest

not_among : (x : Assigned) (xs : List Assigned) → IsApart x xs → is_among xs x.block ≡ false
not_among x [] h = refl
not_among x (y ∷ ys) h = pick (x.block == y.block) refl (not_among x ys h.2)
  where
    pick : (t : Bool) → (x.block == y.block) ≡ t → is_among ys x.block ≡ false → (t || is_among ys x.block) ≡ false
    pick true is rest = absurd (h.0 (eqb-true x.block y.block is))
    pick false is rest = rest

one_more : (t s : Bool) (a b : ℕ) → (t ≡ true → s ≡ true) → a ≤ b → cond t (a + 1) a ≤ cond s (b + 1) b
one_more true true a b so le = omega (arith, le)
one_more true false a b so le = absurd (let no : false ≡ true = so refl in cc)
one_more false true a b so le = omega (arith, le)
one_more false false a b so le = le

count_grows : (p q : ℕ → Bool) (n : ℕ) → ((b : ℕ) → p b ≡ true → q b ≡ true) → count_below p n ≤ count_below q n
count_grows p q zero so = omega arith
count_grows p q (suc n) so = one_more (p n) (q n) (count_below p n) (count_below q n) (so n) (count_grows p q n so)

right_true : (a b : Bool) → b ≡ true → (a || b) ≡ true
right_true true b h = refl
right_true false b h = h

left_true : (a b : Bool) → a ≡ true → (a || b) ≡ true
left_true true b h = refl
left_true false b h = cc

-- a number that didn't pass the test passes it too
count_one_more : (q : ℕ → Bool) (b n : ℕ) → b < n → q b ≡ false → count_below q n + 1 ≤ count_below (λ u. (u == b) || q u) n
count_one_more q b zero below new = absurd (omega (arith, below))
count_one_more q b (suc n) below new = pick (n == b) refl (λ before. count_one_more q b n before new)
  where
    more : ℕ
    more = count_below (λ u. (u == b) || q u) n

    pick_old : (s : Bool) → count_below q n + 1 ≤ more → cond s (count_below q n + 1) (count_below q n) + 1 ≤ cond s (more + 1) more
    pick_old true le = omega (arith, le)
    pick_old false le = le

    pick : (t : Bool) → (n == b) ≡ t → (b < n → count_below q n + 1 ≤ more) → cond (q n) (count_below q n + 1) (count_below q n) + 1 ≤ cond (t || q n) (more + 1) more
    pick true is rest =
        let none : q n ≡ false = ap q (eqb-true n b is) ∙ new in
        let grown : count_below q n ≤ more = count_grows q (λ u. (u == b) || q u) n (λ u h. right_true (u == b) (q u) h) in
        subst (λ t. cond t (count_below q n + 1) (count_below q n) + 1 ≤ more + 1) (sym none) (omega (arith, grown))
    pick false is rest = pick_old (q n) (rest (let before : b < n = grind (arith, nat_tests) in before))

-- buffers of distinct blocks are as many as their blocks
few_among : (n : ℕ) (xs : List Assigned) → AreApart xs → within n xs ≡ true → length xs ≤ count_below (is_among xs) n
few_among n [] apart h = omega arith
few_among n (x ∷ xs) apart h =
    let rest = few_among n xs apart.1 (within_rest n x xs h) in
    let one = count_one_more (is_among xs) x.block n (within_first n x xs h) (not_among x xs apart.0) in
    omega (arith, rest, one)

pub few_changed : {D : Type 0} {G : Ghosts D} (store : Store D G) (b : Buffers) → IsValid b → within (blocks_of store) b.list ≡ true
    → length (updated_ones b) ≤ changed_count store b
few_changed store b v h =
    let xs = updated_ones b in
    let few = few_among (blocks_of store) xs (all_apart_filter (λ x. x.updated) b.list v.apart) (within_filter (blocks_of store) (λ x. x.updated) b.list h) in
    let grown = count_grows (is_among xs) (is_changed store b) (blocks_of store) (λ u is. left_true (is_among xs u) _ is) in
    omega (arith, few, grown)
