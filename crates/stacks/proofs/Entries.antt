-- The entries that lie in places.
use Rattle.std.proofs.Common.{◌≡◌, ◌∙◌, refl, sym, ap, subst, ℕ, zero, suc, ◌+◌, ◌-◌, ◌<◌, ◌≤◌, false, not, if◌then◌else◌, List, [], ◌∷◌, length, slice_set, arith}
use Rattle.std.proofs.lemmas.List.{get_or-set_same, get_or-set_other, length-set, set-get_or}
use Rattle.stacks.specs.declared.return_stack.Entry.{Entry}
use Rattle.stacks.specs.declared.return_stack.Entry.TheVariants.{Call, Value, Loop, Load}
use Rattle.stacks.specs.Stacks.{entry_units, units, is_inner_call, has_loop, with_index, top_or_load}
use Rattle.stacks.specs.Entries.{is_load, is_loop, indexed, entry_at, entries_in, IsGround}
use Rattle.stacks.proofs.Units.{at_least_one}

pub none : (most : ℕ) (p : List Entry) → entries_in most p 0 ≡ []
unfolding entries_in
none zero p = refl
none (suc most) p = refl

one_more : (most : ℕ) (p : List Entry) (k : ℕ) → entries_in (suc most) p (suc k) ≡ entry_at p (suc k) ∷ entries_in most p (suc k - entry_units (entry_at p (suc k)))
unfolding entries_in
one_more most p k = refl

no_room : (p : List Entry) (k : ℕ) → entries_in 0 p k ≡ []
unfolding entries_in
no_room p k = refl

-- there are no more entries than units
enough : (most : ℕ) (p : List Entry) (u : ℕ) → u ≤ most → entries_in (suc most) p u ≡ entries_in most p u
enough most p zero h = none (suc most) p ∙ sym (none most p)
enough zero p (suc k) h = absurd (omega arith)
enough (suc most) p (suc k) h =
    let e : Entry = entry_at p (suc k) in
    let l : suc k - entry_units e ≤ most = omega (arith, at_least_one e) in
    one_more (suc most) p k ∙ ap (λ l. e ∷ l) (enough most p (suc k - entry_units e) l) ∙ sym (one_more most p k)

-- the stack has nothing of the places above it
same : (most : ℕ) (p q : List Entry) (u : ℕ) → ((j : ℕ) → j ≤ u → entry_at q j ≡ entry_at p j) → entries_in most q u ≡ entries_in most p u
same zero p q u h = no_room q u ∙ sym (no_room p u)
same (suc most) p q zero h = none (suc most) q ∙ sym (none (suc most) p)
same (suc most) p q (suc k) h =
    let e : Entry = entry_at p (suc k) in
    one_more most q k
    ∙ ap (λ x. x ∷ entries_in most q (suc k - entry_units x)) (h (suc k) (omega arith))
    ∙ ap (λ l. e ∷ l) (same most p q (suc k - entry_units e) (λ j i. h j (omega arith)))
    ∙ sym (one_more most p k)

-- the top, and what lies below it
pub popped : (p : List Entry) (u : ℕ) → 0 < u → u ≤ 256 → entries_in 256 p u ≡ entry_at p u ∷ entries_in 256 p (u - entry_units (entry_at p u))
popped p zero h l = absurd (omega arith)
popped p (suc k) h l =
    let e : Entry = entry_at p (suc k) in
    let m : suc k - entry_units e ≤ 255 = omega (arith, at_least_one e) in
    one_more 255 p k ∙ ap (λ l. e ∷ l) (sym (enough 255 p (suc k - entry_units e) m))

-- an entry put on top
pub pushed : (p : List Entry) (u k : ℕ) (e : Entry) → k ≡ u + entry_units e → k ≤ 256 → length p ≡ 257 → entries_in 256 (slice_set p k e) k ≡ e ∷ entries_in 256 p u
pushed p u k e s l n =
    let x : entry_at (slice_set p k e) k ≡ e = get_or-set_same p k e (Load 0 0) (omega arith) in
    let d : k - entry_units e ≡ u = omega arith in
    popped (slice_set p k e) k (omega (arith, at_least_one e)) l
    ∙ ap (λ x. x ∷ entries_in 256 (slice_set p k e) (k - entry_units x)) x
    ∙ ap (λ j. e ∷ entries_in 256 (slice_set p k e) j) d
    ∙ ap (λ l. e ∷ l) (same 256 p (slice_set p k e) u (λ j i. get_or-set_other p k j e (Load 0 0) (λ f. absurd (omega (arith, f, at_least_one e)))))

-- ---- the entries as the stack keeps them: in which places, and how many units

pub record Lies (p : List Entry) (u : ℕ) (es : List Entry) : Type 0 where
  pub is : entries_in 256 p u ≡ es
  pub count : units (entries_in 256 p u) ≡ u
  pub most : u ≤ 256
  pub ground : IsGround p

pub lies : {p : List Entry} {u : ℕ} {es : List Entry} → entries_in 256 p u ≡ es → (units (entries_in 256 p u) ≡ u) × (u ≤ 256) × IsGround p → Lies p u es
lies v i = record { is = v; count = i.0; most = i.1; ground = i.2 }

module _ (p : List Entry) (u : ℕ) (es : List Entry) (h : Lies p u es) where
  abbrev top : Entry
  top = entry_at p u

  abbrev rest : List Entry
  rest = entries_in 256 p (u - entry_units top)

  pub empty : u ≡ 0 → es ≡ []
  empty e = sym h.is ∙ ap (λ k. entries_in 256 p k) e ∙ none 256 p

  pub has_top : (u ≡ 0 → ⊥) → es ≡ top ∷ rest
  has_top n = sym h.is ∙ popped p u (omega arith) h.most

  counted : (u ≡ 0 → ⊥) → entry_units top + units rest ≡ u
  counted n = sym (ap units (popped p u (omega arith) h.most)) ∙ h.count

  pub fits : (u ≡ 0 → ⊥) → entry_units top ≤ u
  fits n = omega (arith, counted n)

  pub left : (u ≡ 0 → ⊥) → units rest ≡ u - entry_units top
  left n = omega (arith, counted n)

  pub peeked : top ≡ top_or_load es
  peeked = by_units u refl
    where
      by_units : (k : ℕ) → u ≡ k → top ≡ top_or_load es
      by_units zero e = ap (λ k. entry_at p k) e ∙ h.ground.below ∙ ap top_or_load (sym (empty e))
      by_units (suc k) e = ap top_or_load (sym (has_top (λ z. absurd (omega (arith, e, z)))))

  pub looped : (l i : ℕ) → top ≡ Loop l i → (u ≡ 0 → ⊥)
  looped l i e z = let b : entry_at p 0 ≡ Loop l i = ap (λ k. entry_at p k) (sym z) ∙ e in let g = h.ground.below in cc

  pub with_loop : (l i : ℕ) → top ≡ Loop l i → es ≡ Loop l i ∷ entries_in 256 p (u - 3)
  with_loop l i e = has_top (looped l i e) ∙ ap (λ x. x ∷ entries_in 256 p (u - entry_units x)) e

  pub no_loop : ((l i : ℕ) → top ≡ Loop l i → ⊥) → has_loop es ≡ false
  no_loop n = by_units u refl
    where
      other : (x : Entry) (xs : List Entry) → ((l i : ℕ) → x ≡ Loop l i → ⊥) → has_loop (x ∷ xs) ≡ false
      other (Call y) xs n = refl
      other (Value y) xs n = refl
      other (Loop l i) xs n = absurd (n l i refl)
      other (Load y z) xs n = refl

      by_units : (k : ℕ) → u ≡ k → has_loop es ≡ false
      by_units zero e = ap has_loop (empty e)
      by_units (suc k) e = ap has_loop (has_top (λ z. absurd (omega (arith, e, z)))) ∙ other top rest n

  pub turned : (l i j : ℕ) → top ≡ Loop l i → Lies (slice_set p u (Loop l j)) u (Loop l j ∷ entries_in 256 p (u - 3))
  turned l i j e =
      let n : u ≡ 0 → ⊥ = looped l i e in
      let f : 3 ≤ u = omega (arith, fits n, ap entry_units e) in
      let x : entries_in 256 (slice_set p u (Loop l j)) u ≡ Loop l j ∷ entries_in 256 p (u - 3) = pushed p (u - 3) u (Loop l j) (omega arith) h.most h.ground.size in
      let r : units (entries_in 256 p (u - 3)) ≡ u - 3 = ap (λ k. units (entries_in 256 p (u - k))) (sym (ap entry_units e)) ∙ left n ∙ ap (λ k. u - k) (ap entry_units e) in
      record {
        is = x;
        count = ap units x ∙ omega (arith, r);
        most = h.most;
        ground = written u (Loop l j) n;
      }
    where
      written : (k : ℕ) (x : Entry) → (k ≡ 0 → ⊥) → IsGround (slice_set p k x)
      written k x n = record { size = length-set p k x ∙ h.ground.size; below = get_or-set_other p k 0 x (Load 0 0) (λ z. n (sym z)) ∙ h.ground.below }

  -- the top with another index, where it is a loop
  pub reindexed : (j : ℕ) (x : Entry) → x ≡ indexed j top → Lies (slice_set p u x) u (if is_loop top then with_index j es else es)
  reindexed j x is = by_top top refl
    where
      other : is_loop top ≡ false → indexed j top ≡ top → Lies (slice_set p u x) u (if is_loop top then with_index j es else es)
      other f equal =
          let kept : slice_set p u x ≡ p = ap (λ e. slice_set p u e) (is ∙ equal) ∙ set-get_or p u (Load 0 0) in
          subst (λ b. Lies (slice_set p u x) u (if b then with_index j es else es)) (sym f) (subst (λ q. Lies q u es) (sym kept) h)

      by_top : (e : Entry) → top ≡ e → Lies (slice_set p u x) u (if is_loop top then with_index j es else es)
      by_top (Call y) t = other (ap is_loop t) (ap (λ e. indexed j e) t ∙ sym t)
      by_top (Value y) t = other (ap is_loop t) (ap (λ e. indexed j e) t ∙ sym t)
      by_top (Load y z) t = other (ap is_loop t) (ap (λ e. indexed j e) t ∙ sym t)
      by_top (Loop limit i) t =
          let after : with_index j es ≡ Loop limit j ∷ entries_in 256 p (u - 3) = ap (λ l. with_index j l) (with_loop limit i t) in
          subst (λ b. Lies (slice_set p u x) u (if b then with_index j es else es)) (sym (ap is_loop t))
          (subst (λ e. Lies (slice_set p u e) u (with_index j es)) (sym (is ∙ ap (λ e. indexed j e) t))
          (subst (λ l. Lies (slice_set p u (Loop limit j)) u l) (sym after) (turned limit i j t)))

  pub is_topped : is_loop top ≡ has_loop es
  is_topped = ap is_loop peeked ∙ by_list es
    where
      by_list : (es : List Entry) → is_loop (top_or_load es) ≡ has_loop es
      by_list [] = refl
      by_list (Call y ∷ es) = refl
      by_list (Value y ∷ es) = refl
      by_list (Loop l i ∷ es) = refl
      by_list (Load y z ∷ es) = refl

  pub put : (k : ℕ) (e : Entry) → k ≡ u + entry_units e → k ≤ 256 → Lies (slice_set p k e) k (e ∷ es)
  put k e s l =
      let x : entries_in 256 (slice_set p k e) k ≡ e ∷ entries_in 256 p u = pushed p u k e s l h.ground.size in
      let n : k ≡ 0 → ⊥ = λ z. absurd (omega (arith, at_least_one e, z)) in
      record {
        is = x ∙ ap (λ l. e ∷ l) h.is;
        count = ap units x ∙ omega (arith, h.count);
        most = l;
        ground = record { size = length-set p k e ∙ h.ground.size; below = get_or-set_other p k 0 e (Load 0 0) (λ z. n (sym z)) ∙ h.ground.below };
      }

  pub taken : (u ≡ 0 → ⊥) → Lies p (u - entry_units top) rest
  taken n = record { is = refl; count = left n; most = omega (arith, h.most); ground = h.ground }

-- a call on top
pub record IsCalled (p : List Entry) (u : ℕ) (es : List Entry) (back : ℕ) : Type 0 where
  pub some : 0 < u
  pub lies : Lies p (u - 1) (entries_in 256 p (u - 1))
  pub is : es ≡ Call back ∷ entries_in 256 p (u - 1)

pub called : (p : List Entry) (u : ℕ) (es : List Entry) (h : Lies p u es) (back : ℕ) → entry_at p u ≡ Call back → IsCalled p u es back
called p u es h back e =
    let n : u ≡ 0 → ⊥ = λ z. let b : entry_at p 0 ≡ Call back = ap (λ k. entry_at p k) (sym z) ∙ e in let g = h.ground.below in cc in
    let one : entry_units (entry_at p u) ≡ 1 = ap entry_units e in
    record {
      some = omega arith;
      lies = subst (λ k. Lies p (u - k) (entries_in 256 p (u - k))) one (taken p u es h n);
      is = has_top p u es h n ∙ ap (λ x. x ∷ entries_in 256 p (u - entry_units x)) e;
    }

-- what lies below the bottom is a load
pub inner : (back : ℕ) (es : List Entry) → not (is_load (top_or_load es)) ≡ is_inner_call (Call back ∷ es)
inner back [] = refl
inner back (Call y ∷ es) = refl
inner back (Value y ∷ es) = refl
inner back (Loop l i ∷ es) = refl
inner back (Load y z ∷ es) = refl

pub not_inner : (es : List Entry) → ((back : ℕ) → top_or_load es ≡ Call back → ⊥) → is_inner_call es ≡ false
not_inner [] n = refl
not_inner (Call y ∷ es) n = absurd (n y refl)
not_inner (Value y ∷ es) n = refl
not_inner (Loop l i ∷ es) n = refl
not_inner (Load y z ∷ es) n = refl
