-- Buffers whose blocks are below a number.
use Rattle.std.proofs.Common.{◌≡◌, ℕ, zero, suc, ◌<◌, ◌≤◌, Bool, true, false, cond, not, List, [], ◌∷◌, length, map, take, Option, Some, None, refl, ◌∙◌, ap, subst, arith}
use Rattle.std.specs.Prelude.{◌&&◌, ◌||◌, ◌==◌, nat_lt, filter, slice_get, slice_index_or}
use Rattle.std.proofs.lemmas.Bool.{ltb-true, eqb-true}
use Rattle.block_buffers.specs.declared.buffers.Assigned.{Assigned}
use Rattle.block_buffers.specs.Buffers.{Buffers, assigned, slot_in, touched_if, after_touch, without, marked, with_mark, marked_if, after_mark, cleared, unmarked}
use Rattle.block_words.specs.Uses.{is_among}
use Rattle.block_words.specs.Rooms.{within}

left_of : (a b : Bool) → (a && b) ≡ true → a ≡ true
left_of true b h = refl
left_of false b h = h

right_of : (a b : Bool) → (a && b) ≡ true → b ≡ true
right_of true b h = h
right_of false b h = cc

both_of : (a b : Bool) → a ≡ true → b ≡ true → (a && b) ≡ true
both_of a b p q = ap (λ t. t && b) p ∙ q

pub within_first : (n : ℕ) (x : Assigned) (xs : List Assigned) → within n (x ∷ xs) ≡ true → x.block < n
within_first n x xs h = ltb-true x.block n (left_of (nat_lt x.block n) (within n xs) h)

pub within_rest : (n : ℕ) (x : Assigned) (xs : List Assigned) → within n (x ∷ xs) ≡ true → within n xs ≡ true
within_rest n x xs h = right_of (nat_lt x.block n) (within n xs) h

kept_if : (n : ℕ) (t : Bool) (x : Assigned) (ys : List Assigned) → nat_lt x.block n ≡ true → within n ys ≡ true → within n (cond t (x ∷ ys) ys) ≡ true
kept_if n true x ys h rest = both_of (nat_lt x.block n) (within n ys) h rest
kept_if n false x ys h rest = rest

pub within_filter : (n : ℕ) (p : Assigned → Bool) (xs : List Assigned) → within n xs ≡ true → within n (filter p xs) ≡ true
within_filter n p [] h = refl
within_filter n p (x ∷ xs) h = kept_if n (p x) x (filter p xs) (left_of (nat_lt x.block n) (within n xs) h) (within_filter n p xs (right_of (nat_lt x.block n) (within n xs) h))

pub within_map : (n : ℕ) (f : Assigned → Assigned) (xs : List Assigned) → ((x : Assigned) → (f x).block ≡ x.block) → within n xs ≡ true → within n (map f xs) ≡ true
within_map n f [] same h = refl
within_map n f (x ∷ xs) same h = both_of (nat_lt (f x).block n) (within n (map f xs)) (ap (λ b. nat_lt b n) (same x) ∙ left_of (nat_lt x.block n) (within n xs) h) (within_map n f xs same (right_of (nat_lt x.block n) (within n xs) h))

pub within_marked : (n b : ℕ) (bs : Buffers) → within n bs.list ≡ true → within n (with_mark bs b).list ≡ true
within_marked n b bs h = within_map n (marked b) bs.list (λ x. same (b == x.block) x) h
  where
    same : (t : Bool) (x : Assigned) → (cond t (record x { updated = true }) x).block ≡ x.block
    same true x = refl
    same false x = refl

pub within_unmarked : (n : ℕ) (bs : Buffers) → within n bs.list ≡ true → within n (unmarked bs).list ≡ true
within_unmarked n bs h = within_map n cleared bs.list (λ x. refl) h

pub within_at : (n : ℕ) (xs : List Assigned) (i : ℕ) (y : Assigned) → within n xs ≡ true → slice_get xs i ≡ Some y → y.block < n
within_at n [] i y h is = cc
within_at n (x ∷ xs) zero y h is =
    let same : x ≡ y = cc in
    ltb-true y.block n (subst (λ (z : Assigned). nat_lt z.block n ≡ true) same (left_of (nat_lt x.block n) (within n xs) h))
within_at n (x ∷ xs) (suc i) y h is = within_at n xs i y (right_of (nat_lt x.block n) (within n xs) h) is

found_within : (n b : ℕ) (xs : List Assigned) (y : Assigned) → within n xs ≡ true → assigned xs b ≡ Some y → nat_lt y.block n ≡ true
found_within n b [] y h is = cc
found_within n b (x ∷ xs) y h is = pick (b == x.block) (λ e. found_within n b xs y (right_of (nat_lt x.block n) (within n xs) h) e) is
  where
    pick : (t : Bool) → (assigned xs b ≡ Some y → nat_lt y.block n ≡ true) → cond t (Some x) (assigned xs b) ≡ Some y → nat_lt y.block n ≡ true
    pick true later e =
        let same : x ≡ y = cc in
        subst (λ (z : Assigned). nat_lt z.block n ≡ true) same (left_of (nat_lt x.block n) (within n xs) h)
    pick false later e = later e

pub within_touched : (n b : ℕ) (bs : Buffers) (o : Option Assigned) → assigned bs.list b ≡ o → within n bs.list ≡ true → within n (touched_if bs o).list ≡ true
within_touched n b bs None is h = h
within_touched n b bs (Some x) is h = both_of (nat_lt x.block n) (within n (without bs.list x.block)) (found_within n b bs.list x h is) (within_filter n (λ y. not (x.block == y.block)) bs.list h)

pub within_after_touch : (n b : ℕ) (bs : Buffers) → within n bs.list ≡ true → within n (after_touch bs b).list ≡ true
within_after_touch n b bs h = within_touched n b bs (assigned bs.list b) refl h

pub within_after_mark : (n : ℕ) (bs : Buffers) → within n bs.list ≡ true → within n (after_mark bs).list ≡ true
within_after_mark n bs h = pick bs.current
  where
    pick : (o : Option ℕ) → within n (marked_if bs o).list ≡ true
    pick None = h
    pick (Some b) = within_marked n b bs h

pub item_at : (xs : List Assigned) (i : ℕ) (x : Assigned) → i < length xs → slice_get xs i ≡ Some (slice_index_or xs i x)
item_at [] i x below = absurd (omega (arith, below))
item_at (y ∷ xs) zero x below = refl
item_at (y ∷ xs) (suc i) x below = item_at xs i x (omega (arith, below))

shift : (t s a b p : Bool) → (t || (a || p)) ≡ (b || p) → (t || ((s || a) || p)) ≡ ((s || b) || p)
shift true true a b p h = refl
shift false true a b p h = refl
shift t false a b p h = h

first : (t p : Bool) → (t || (false || p)) ≡ ((t || false) || p)
first true p = refl
first false p = refl

-- one more item is among them
pub among_more : (xs : List Assigned) (i : ℕ) (x : Assigned) (u : ℕ) (p : Bool) → slice_get xs i ≡ Some x
    → ((u == x.block) || (is_among (take i xs) u || p)) ≡ (is_among (take (suc i) xs) u || p)
among_more [] i x u p at = cc
among_more (y ∷ xs) zero x u p at =
    let same : y ≡ x = cc in
    subst (λ (z : Assigned). ((u == z.block) || (false || p)) ≡ (((u == y.block) || false) || p)) same (first (u == y.block) p)
among_more (y ∷ xs) (suc i) x u p at =
    shift (u == x.block) (u == y.block) (is_among (take i xs) u) (is_among (take (suc i) xs) u) p (among_more xs i x u p at)

pub none_of : (o : Option Assigned) → slot_in o ≡ None → o ≡ None
none_of None h = refl
none_of (Some x) h = absurd (let no : Some x.slot ≡ None = h in cc)

-- no buffer is assigned to a block that isn't there
pub none_past : (n b : ℕ) (xs : List Assigned) → within n xs ≡ true → n ≤ b → slot_in (assigned xs b) ≡ None
none_past n b [] h past = refl
none_past n b (x ∷ xs) h past = pick (none_past n b xs (right_of (nat_lt x.block n) (within n xs) h) past) (b == x.block) refl
  where
    pick : slot_in (assigned xs b) ≡ None → (t : Bool) → (b == x.block) ≡ t → slot_in (cond t (Some x) (assigned xs b)) ≡ None
    pick rest true is = absurd (omega (arith, past, eqb-true b x.block is, ltb-true x.block n (left_of (nat_lt x.block n) (within n xs) h)))
    pick rest false is = rest
