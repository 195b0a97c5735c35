-- Lemmas on the list of assigned buffers, and on the cache of slots that it is seen from.
use Rattle.std.proofs.Common.{◌≡◌, ◌≢◌, ℕ, zero, suc, ◌+◌, ◌<◌, ◌≤◌, Bool, true, false, not, nat_eq, List, [], ◌∷◌, length, map, filter, ◌++◌, take, Option, Some, None, refl, sym, ◌∙◌, ap, subst, arith, length-append, get_or, get_or-set_same, get_or-set_other, set}
use Rattle.std.proofs.lemmas.Bool.Decides.{nat_tests}
use Rattle.std.proofs.lemmas.List.Elements.{All-nil, All-cons, All-filter}
use Rattle.std.specs.List.{All}
use Rattle.std.specs.Map.{lookup, lookup_entry, remove_entry}
use Rattle.std.specs.Option.{option_map_or}
use Rattle.lru.specs.LruCache.{promoted, last_entry}
use Rattle.block_buffers.specs.declared.buffers.Assigned.{Assigned}
use Rattle.block_buffers.specs.Buffers.{Buffers, assigned, slot_in, without, touched, touched_if, after_touch, oldest, slot_for, placed, marked, with_mark, cleared, unmarked, IsApart, AreApart, SlotsBelow, IsValid}
use Rattle.block_buffers.specs.Seen.{assigned_at, seen}

-- ---- the list

same_by_test : (a b : ℕ) → nat_eq a b ≡ true → a ≡ b
same_by_test a b h = grind (arith, nat_tests)

apart_by_test : (a b : ℕ) → (a ≢ b) → nat_eq a b ≡ false
apart_by_test a b h = grind (arith, nat_tests)

assigned-block : (xs : List Assigned) (b : ℕ) (x : Assigned) → assigned xs b ≡ Some x → b ≡ x.block
assigned-block [] b x h = cc
assigned-block (y ∷ ys) b x h = (elim (nat_eq b y.block) as (λ t. nat_eq b y.block ≡ t → b ≡ x.block) [
  | true ↦ λ t. let h' = rw t at h in let same : y ≡ x = cc in subst (λ z. b ≡ z.block) same (same_by_test b y.block t)
  | false ↦ λ t. assigned-block ys b x (rw t at h)
]) refl

IsApart-without : (z : Assigned) (xs : List Assigned) (b : ℕ) → IsApart z xs → IsApart z (without xs b)
IsApart-without z [] b h = h
IsApart-without z (y ∷ ys) b h = elim (nat_eq b y.block) as (λ t. IsApart z (Rattle.std.proofs.Common.cond (not t) (y ∷ without ys b) (without ys b))) [
  | true ↦ IsApart-without z ys b h.2
  | false ↦ (h.0, h.1, IsApart-without z ys b h.2)
]

AreApart-without : (xs : List Assigned) (b : ℕ) → AreApart xs → AreApart (without xs b)
AreApart-without [] b h = h
AreApart-without (y ∷ ys) b h = elim (nat_eq b y.block) as (λ t. AreApart (Rattle.std.proofs.Common.cond (not t) (y ∷ without ys b) (without ys b))) [
  | true ↦ AreApart-without ys b h.1
  | false ↦ (IsApart-without y ys b h.0, AreApart-without ys b h.1)
]

SlotsBelow-without : (n : ℕ) (xs : List Assigned) (b : ℕ) → SlotsBelow n xs → SlotsBelow n (without xs b)
SlotsBelow-without n [] b h = h
SlotsBelow-without n (y ∷ ys) b h = elim (nat_eq b y.block) as (λ t. SlotsBelow n (Rattle.std.proofs.Common.cond (not t) (y ∷ without ys b) (without ys b))) [
  | true ↦ SlotsBelow-without n ys b h.1
  | false ↦ (h.0, SlotsBelow-without n ys b h.1)
]

IsApart-found : (z : Assigned) (xs : List Assigned) (b : ℕ) (x : Assigned) → IsApart z xs → assigned xs b ≡ Some x → (x.block ≢ z.block) × (x.slot ≢ z.slot)
IsApart-found z [] b x h found = cc
IsApart-found z (y ∷ ys) b x h found = (elim (nat_eq b y.block) as (λ t. nat_eq b y.block ≡ t → (x.block ≢ z.block) × (x.slot ≢ z.slot)) [
  | true ↦ λ t. let found' = rw t at found in let same : y ≡ x = cc in
      (subst (λ w. w.block ≢ z.block) same (λ e. h.0 (sym e)), subst (λ w. w.slot ≢ z.slot) same (λ e. h.1 (sym e)))
  | false ↦ λ t. IsApart-found z ys b x h.2 (rw t at found)
]) refl

SlotsBelow-found : (n : ℕ) (xs : List Assigned) (b : ℕ) (x : Assigned) → SlotsBelow n xs → assigned xs b ≡ Some x → x.slot < n
SlotsBelow-found n [] b x h found = cc
SlotsBelow-found n (y ∷ ys) b x h found = (elim (nat_eq b y.block) as (λ t. nat_eq b y.block ≡ t → x.slot < n) [
  | true ↦ λ t. let found' = rw t at found in let same : y ≡ x = cc in subst (λ w. w.slot < n) same h.0
  | false ↦ λ t. SlotsBelow-found n ys b x h.1 (rw t at found)
]) refl

IsApart-others : (xs : List Assigned) (b : ℕ) (x : Assigned) → AreApart xs → assigned xs b ≡ Some x → IsApart x (without xs b)
IsApart-others [] b x h found = cc
IsApart-others (y ∷ ys) b x h found = (elim (nat_eq b y.block) as (λ t. nat_eq b y.block ≡ t → IsApart x (Rattle.std.proofs.Common.cond (not t) (y ∷ without ys b) (without ys b))) [
  | true ↦ λ t. let found' = rw t at found in let same : y ≡ x = cc in subst (λ w. IsApart w (without ys b)) same (IsApart-without y ys b h.0)
  | false ↦ λ t. let apart = IsApart-found y ys b x h.0 (rw t at found) in (apart.0, apart.1, IsApart-others ys b x h.1 (rw t at found))
]) refl

without-absent : (x : Assigned) (xs : List Assigned) (b : ℕ) → b ≡ x.block → IsApart x xs → without xs b ≡ xs
without-absent x [] b e h = refl
without-absent x (y ∷ ys) b e h = (elim (nat_eq b y.block) as (λ t. nat_eq b y.block ≡ t → Rattle.std.proofs.Common.cond (not t) (y ∷ without ys b) (without ys b) ≡ y ∷ ys) [
  | true ↦ λ t. absurd (h.0 (sym e ∙ same_by_test b y.block t))
  | false ↦ λ t. ap (λ zs. y ∷ zs) (without-absent x ys b e h.2)
]) refl

length-without : (xs : List Assigned) (b : ℕ) (x : Assigned) → AreApart xs → assigned xs b ≡ Some x → length (without xs b) + 1 ≡ length xs
length-without [] b x h found = cc
length-without (y ∷ ys) b x h found = (elim (nat_eq b y.block) as (λ t. nat_eq b y.block ≡ t → length (Rattle.std.proofs.Common.cond (not t) (y ∷ without ys b) (without ys b)) + 1 ≡ suc (length ys)) [
  | true ↦ λ t. rw (without-absent y ys b (same_by_test b y.block t) h.0) (omega arith)
  | false ↦ λ t. omega (arith, length-without ys b x h.1 (rw t at found))
]) refl

valid_touched : (bs : Buffers) (b : ℕ) (x : Assigned) → IsValid bs → assigned bs.list b ≡ Some x → IsValid (touched bs x)
valid_touched bs b x v found =
    let same = assigned-block bs.list b x found in
    let len = length-without bs.list b x v.apart found in
    let short : length (without bs.list b) ≤ 3 = let few = v.few in omega arith in
    record {
      few = subst (λ k. length (x ∷ without bs.list k) ≤ 4) same (omega arith);
      apart = subst (λ k. AreApart (x ∷ without bs.list k)) same (IsApart-others bs.list b x v.apart found, AreApart-without bs.list b v.apart);
      slots =
          let total : length bs.list ≡ length (x ∷ without bs.list b) = omega arith in
          let below : SlotsBelow (length bs.list) (x ∷ without bs.list b) = (SlotsBelow-found _ bs.list b x v.slots found, SlotsBelow-without _ bs.list b v.slots) in
          subst (λ k. SlotsBelow (length (x ∷ without bs.list k)) (x ∷ without bs.list k)) same (subst (λ n. SlotsBelow n (x ∷ without bs.list b)) total below);
      current = refl;
    }

pub valid_after_touch : (bs : Buffers) (b : ℕ) → IsValid bs → IsValid (after_touch bs b)
valid_after_touch bs b v = (elim (assigned bs.list b) as (λ o. assigned bs.list b ≡ o → IsValid (touched_if bs o)) [
  | None ↦ λ e. v
  | Some x ↦ λ e. valid_touched bs b x v e
]) refl

-- ---- the list as seen from the cache and the marks

-- the facts read blocks and slots alone, and not the marks
IsApart-marks : (u v : List Bool) (e : ℕ × ℕ) (es : List (ℕ × ℕ)) → IsApart (assigned_at u e) (map (assigned_at u) es) → IsApart (assigned_at v e) (map (assigned_at v) es)
IsApart-marks u v e [] h = h
IsApart-marks u v e (f ∷ es) h = (h.0, h.1, IsApart-marks u v e es h.2)

AreApart-marks : (u v : List Bool) (es : List (ℕ × ℕ)) → AreApart (map (assigned_at u) es) → AreApart (map (assigned_at v) es)
AreApart-marks u v [] h = h
AreApart-marks u v (e ∷ es) h = (IsApart-marks u v e es h.0, AreApart-marks u v es h.1)

SlotsBelow-marks : (n : ℕ) (u v : List Bool) (es : List (ℕ × ℕ)) → SlotsBelow n (map (assigned_at u) es) → SlotsBelow n (map (assigned_at v) es)
SlotsBelow-marks n u v [] h = h
SlotsBelow-marks n u v (e ∷ es) h = (h.0, SlotsBelow-marks n u v es h.1)

length-seen : (u : List Bool) (es : List (ℕ × ℕ)) → length (map (assigned_at u) es) ≡ length es
length-seen u [] = refl
length-seen u (e ∷ es) = ap suc (length-seen u es)

pub valid_marks : (u v : List Bool) (es : List (ℕ × ℕ)) → IsValid (seen es u) → IsValid (seen es v)
valid_marks u v es h =
    let same : length (map (assigned_at u) es) ≡ length (map (assigned_at v) es) = length-seen u es ∙ sym (length-seen v es) in
    record {
      few = let few = h.few in omega arith;
      apart = AreApart-marks u v es h.apart;
      slots = subst (λ n. SlotsBelow n (map (assigned_at v) es)) same (SlotsBelow-marks _ u v es h.slots);
      current = refl;
    }

pub lookup-seen : (u : List Bool) (es : List (ℕ × ℕ)) (b : ℕ) → lookup (nat_eq b) es ≡ slot_in (assigned (map (assigned_at u) es) b)
lookup-seen u [] b = refl
lookup-seen u (e ∷ es) b = elim (nat_eq b e.0) as (λ t. Rattle.std.proofs.Common.cond t (Some e.1) (lookup (nat_eq b) es) ≡ slot_in (Rattle.std.proofs.Common.cond t (Some (assigned_at u e)) (assigned (map (assigned_at u) es) b))) [
  | true ↦ refl
  | false ↦ lookup-seen u es b
]

abbrev seen_entry : List Bool → Option (ℕ × ℕ) → Option Assigned
seen_entry u None = None
seen_entry u (Some e) = Some (assigned_at u e)

lookup_entry-seen : (u : List Bool) (es : List (ℕ × ℕ)) (b : ℕ) → assigned (map (assigned_at u) es) b ≡ seen_entry u (lookup_entry (nat_eq b) es)
lookup_entry-seen u [] b = refl
lookup_entry-seen u (e ∷ es) b = elim (nat_eq b e.0) as (λ t. Rattle.std.proofs.Common.cond t (Some (assigned_at u e)) (assigned (map (assigned_at u) es) b) ≡ seen_entry u (Rattle.std.proofs.Common.cond t (Some e) (lookup_entry (nat_eq b) es))) [
  | true ↦ refl
  | false ↦ lookup_entry-seen u es b
]

remove_entry-seen : (u : List Bool) (es : List (ℕ × ℕ)) (b : ℕ) → AreApart (map (assigned_at u) es) → map (assigned_at u) (remove_entry (nat_eq b) es) ≡ without (map (assigned_at u) es) b
remove_entry-seen u [] b h = refl
remove_entry-seen u (e ∷ es) b h = (elim (nat_eq b e.0) as (λ t. nat_eq b e.0 ≡ t → map (assigned_at u) (Rattle.std.proofs.Common.cond t es (e ∷ remove_entry (nat_eq b) es)) ≡ Rattle.std.proofs.Common.cond (not t) (assigned_at u e ∷ without (map (assigned_at u) es) b) (without (map (assigned_at u) es) b)) [
  | true ↦ λ t. sym (without-absent (assigned_at u e) (map (assigned_at u) es) b (same_by_test b e.0 t) h.0)
  | false ↦ λ t. ap (λ xs. assigned_at u e ∷ xs) (remove_entry-seen u es b h.1)
]) refl

-- a promotion is a touch
pub promoted-seen : (u : List Bool) (es : List (ℕ × ℕ)) (b : ℕ) → AreApart (map (assigned_at u) es) → seen (promoted (nat_eq b) es) u ≡ after_touch (seen es u) b
promoted-seen u es b h =
    (elim (lookup_entry (nat_eq b) es) as (λ o. assigned (map (assigned_at u) es) b ≡ seen_entry u o → seen (option_map_or (λ e. e ∷ remove_entry (nat_eq b) es) o es) u ≡ touched_if (seen es u) (assigned (map (assigned_at u) es) b)) [
      | None ↦ λ found. rw found refl
      | Some e ↦ λ found.
          let same = assigned-block (map (assigned_at u) es) b (assigned_at u e) found in
          rw found (rw (remove_entry-seen u es b h, same) refl)
    ]) (lookup_entry-seen u es b)

-- ---- a new block

-- no buffer has this slot
abbrev IsFree : ℕ → List (ℕ × ℕ) → Type 0
IsFree s [] = Unit {0}
IsFree s (e ∷ es) = (e.1 ≢ s) × IsFree s es

-- a mark by a free slot is nobody's
seen-set : (u : List Bool) (s : ℕ) (x : Bool) (es : List (ℕ × ℕ)) → IsFree s es → map (assigned_at (set u s x)) es ≡ map (assigned_at u) es
seen-set u s x [] h = refl
seen-set u s x (e ∷ es) h = rw (get_or-set_other u s e.1 x false h.0, seen-set u s x es h.1) refl

IsFree-apart : (u : List Bool) (e : ℕ × ℕ) (es : List (ℕ × ℕ)) → IsApart (assigned_at u e) (map (assigned_at u) es) → IsFree e.1 es
IsFree-apart u e [] h = tt
IsFree-apart u e (f ∷ es) h = ((λ same. h.1 (sym same)), IsFree-apart u e es h.2)

-- the others keep their marks
marked-others : (u : List Bool) (e : ℕ × ℕ) (es : List (ℕ × ℕ)) → IsApart (assigned_at u e) (map (assigned_at u) es) → map (marked e.0) (map (assigned_at u) es) ≡ map (assigned_at u) es
marked-others u e [] h = refl
marked-others u e (f ∷ es) h = rw (apart_by_test e.0 f.0 h.0, marked-others u e es h.2) refl

-- the current one's mark
pub marked-seen : (u : List Bool) (e : ℕ × ℕ) (es : List (ℕ × ℕ)) → e.1 < length u → IsValid (seen (e ∷ es) u) → seen (e ∷ es) (set u e.1 true) ≡ with_mark (seen (e ∷ es) u) e.0
marked-seen u e es lt v =
    let self : nat_eq e.0 e.0 ≡ true = grind (arith, nat_tests) in
    rw (get_or-set_same u e.1 true false lt, seen-set u e.1 true es (IsFree-apart u e es v.apart.0), self, marked-others u e es v.apart.0) refl

no_mark : (k : ℕ) → get_or (false ∷ false ∷ false ∷ false ∷ []) k false ≡ false
no_mark zero = refl
no_mark (suc zero) = refl
no_mark (suc (suc zero)) = refl
no_mark (suc (suc (suc zero))) = refl
no_mark (suc (suc (suc (suc k)))) = refl

cleared-list : (u : List Bool) (es : List (ℕ × ℕ)) → map (assigned_at (false ∷ false ∷ false ∷ false ∷ [])) es ≡ map cleared (map (assigned_at u) es)
cleared-list u [] = refl
cleared-list u (e ∷ es) = rw (no_mark e.1, cleared-list u es) refl

pub cleared-seen : (u : List Bool) (es : List (ℕ × ℕ)) → seen es (false ∷ false ∷ false ∷ false ∷ []) ≡ unmarked (seen es u)
cleared-seen u [] = refl
cleared-seen u (e ∷ es) = rw (no_mark e.1, cleared-list u es) refl

-- ---- the oldest, and a new block's slot

last_slot-below : (n : ℕ) (u : List Bool) (es : List (ℕ × ℕ)) (k : ℕ) (e : ℕ × ℕ) → SlotsBelow n (map (assigned_at u) es) → Rattle.std.specs.List.slice_get es k ≡ Some e → e.1 < n
last_slot-below n u [] k e h found = cc
last_slot-below n u (f ∷ es) zero e h found = let same : f ≡ e = cc in rw (← same) h.0
last_slot-below n u (f ∷ es) (suc k) e h found = last_slot-below n u es k e h.1 found

pub slot_below_four : (u : List Bool) (es : List (ℕ × ℕ)) (k : ℕ) (e : ℕ × ℕ) → IsValid (seen es u) → Rattle.std.specs.List.slice_get es k ≡ Some e → e.1 < 4
slot_below_four u es k e v found = let below = last_slot-below _ u es k e v.slots found in let few = v.few in omega arith

-- the last of four is the oldest
pub oldest-seen : (u : List Bool) (es : List (ℕ × ℕ)) (e : ℕ × ℕ) → IsValid (seen es u) → 4 ≤ length es → last_entry es ≡ Some e → Some (assigned_at u e) ≡ oldest (seen es u)
oldest-seen u [] e v n found = absurd (omega arith)
oldest-seen u (a ∷ []) e v n found = absurd (omega arith)
oldest-seen u (a ∷ b ∷ []) e v n found = absurd (omega arith)
oldest-seen u (a ∷ b ∷ c ∷ []) e v n found = absurd (omega arith)
oldest-seen u (a ∷ b ∷ c ∷ d ∷ []) e v n found = let same : d ≡ e = cc in rw same refl
oldest-seen u (a ∷ b ∷ c ∷ d ∷ f ∷ es) e v n found = absurd (let few = v.few in omega arith)

-- the slot that is given is nobody's of those who stay
place_free : (u : List Bool) (es : List (ℕ × ℕ)) → IsValid (seen es u) → IsFree (slot_for (seen es u)) (take 3 es)
place_free u [] v = tt
place_free u (a ∷ []) v = let below = v.slots in ((λ e. omega arith), tt)
place_free u (a ∷ b ∷ []) v = let below = v.slots in ((λ e. omega arith), ((λ e. omega arith), tt))
place_free u (a ∷ b ∷ c ∷ []) v = let below = v.slots in ((λ e. omega arith), ((λ e. omega arith), ((λ e. omega arith), tt)))
place_free u (a ∷ b ∷ c ∷ d ∷ []) v = (v.apart.0.2.2.1, (v.apart.1.0.2.1, (v.apart.1.1.0.1, tt)))
place_free u (a ∷ b ∷ c ∷ d ∷ f ∷ es) v = absurd (let few = v.few in omega arith)

-- it is a slot
pub place_below : (u : List Bool) (es : List (ℕ × ℕ)) → IsValid (seen es u) → slot_for (seen es u) < 4
place_below u [] v = omega arith
place_below u (a ∷ []) v = omega arith
place_below u (a ∷ b ∷ []) v = omega arith
place_below u (a ∷ b ∷ c ∷ []) v = omega arith
place_below u (a ∷ b ∷ c ∷ d ∷ []) v = v.slots.1.1.1.0
place_below u (a ∷ b ∷ c ∷ d ∷ f ∷ es) v = absurd (let few = v.few in omega arith)

take-seen : (u : List Bool) (n : ℕ) (es : List (ℕ × ℕ)) → map (assigned_at u) (take n es) ≡ take n (map (assigned_at u) es)
take-seen u zero es = refl
take-seen u (suc n) [] = refl
take-seen u (suc n) (e ∷ es) = ap (λ xs. assigned_at u e ∷ xs) (take-seen u n es)

pub placed-seen : (u : List Bool) (es : List (ℕ × ℕ)) (b s : ℕ) → IsValid (seen es u) → length u ≡ 4 → s ≡ slot_for (seen es u) → seen ((b, s) ∷ take 3 es) (set u s false) ≡ placed (seen es u) b
placed-seen u es b s v four e =
    let free : IsFree s (take 3 es) = subst (λ k. IsFree k (take 3 es)) (sym e) (place_free u es v) in
    let lt : s < length u = let below = place_below u es v in omega arith in
    rw (get_or-set_same u s false false lt, seen-set u s false (take 3 es) free, take-seen u 3 es, e) refl

-- the block of none of these
abbrev IsNew : ℕ → List Assigned → Type 0
IsNew b [] = Unit {0}
IsNew b (x ∷ xs) = (b ≢ x.block) × IsNew b xs

IsNew-absent : (xs : List Assigned) (b : ℕ) → assigned xs b ≡ None → IsNew b xs
IsNew-absent [] b h = tt
IsNew-absent (x ∷ xs) b h = (elim (nat_eq b x.block) as (λ t. nat_eq b x.block ≡ t → (b ≢ x.block) × IsNew b xs) [
  | true ↦ λ t. let h' = rw t at h in cc
  | false ↦ λ t. ((λ e. let yes : nat_eq b x.block ≡ true = grind (arith, nat_tests) in cc), IsNew-absent xs b (rw t at h))
]) refl

valid_list : (u : List Bool) (es : List (ℕ × ℕ)) (b : ℕ) → IsValid (seen es u) → IsNew b (map (assigned_at u) es) → IsValid (placed (seen es u) b)
valid_list u [] b v new = record { few = omega arith; apart = (tt, tt); slots = (omega arith, tt); current = refl }
valid_list u (a ∷ []) b v new = let below = v.slots in
    record { few = omega arith; apart = ((new.0, (λ e. omega arith), tt), (tt, tt)); slots = (omega arith, (omega arith, tt)); current = refl }
valid_list u (a ∷ c ∷ []) b v new = let below = v.slots in
    record { few = omega arith; apart = ((new.0, (λ e. omega arith), (new.1.0, (λ e. omega arith), tt)), v.apart); slots = (omega arith, (omega arith, (omega arith, tt))); current = refl }
valid_list u (a ∷ c ∷ d ∷ []) b v new = let below = v.slots in
    record { few = omega arith; apart = ((new.0, (λ e. omega arith), (new.1.0, (λ e. omega arith), (new.1.1.0, (λ e. omega arith), tt))), v.apart); slots = (omega arith, (omega arith, (omega arith, (omega arith, tt)))); current = refl }
valid_list u (a ∷ c ∷ d ∷ f ∷ []) b v new = let below = v.slots in
    record {
      few = omega arith;
      apart = (
        (new.0, (λ e. v.apart.0.2.2.1 (sym e)), (new.1.0, (λ e. v.apart.1.0.2.1 (sym e)), (new.1.1.0, (λ e. v.apart.1.1.0.1 (sym e)), tt))),
        ((v.apart.0.0, v.apart.0.1, (v.apart.0.2.0, v.apart.0.2.1, tt)), ((v.apart.1.0.0, v.apart.1.0.1, tt), (tt, tt))),
      );
      slots = (below.1.1.1.0, (below.0, (below.1.0, (below.1.1.0, tt))));
      current = refl;
    }
valid_list u (a ∷ c ∷ d ∷ f ∷ g ∷ es) b v new = absurd (let few = v.few in omega arith)

pub valid_placed : (u : List Bool) (es : List (ℕ × ℕ)) (b : ℕ) → IsValid (seen es u) → assigned (map (assigned_at u) es) b ≡ None → IsValid (placed (seen es u) b)
valid_placed u es b v h = valid_list u es b v (IsNew-absent _ b h)

-- a block without a buffer has no entry
pub no_entry : (u : List Bool) (es : List (ℕ × ℕ)) (b : ℕ) → assigned (map (assigned_at u) es) b ≡ None → lookup_entry (nat_eq b) es ≡ None
no_entry u es b h = (elim (lookup_entry (nat_eq b) es) as (λ o. assigned (map (assigned_at u) es) b ≡ seen_entry u o → o ≡ None) [
  | None ↦ λ e. refl
  | Some x ↦ λ e. cc
]) (lookup_entry-seen u es b)

-- ---- an entry among the others

slot_among : (n : ℕ) (u : List Bool) (before rest : List (ℕ × ℕ)) (e : ℕ × ℕ) → SlotsBelow n (map (assigned_at u) (before ++ e ∷ rest)) → e.1 < n
slot_among n u [] rest e h = h.0
slot_among n u (f ∷ before) rest e h = slot_among n u before rest e h.1

pub slot_within : (u : List Bool) (es before rest : List (ℕ × ℕ)) (e : ℕ × ℕ) → before ++ e ∷ rest ≡ es → IsValid (seen es u) → e.1 < 4
slot_within u es before rest e split v =
    let below = slot_among (length (map (assigned_at u) es)) u before rest e (subst (λ xs. SlotsBelow (length (map (assigned_at u) es)) (map (assigned_at u) xs)) (sym split) v.slots) in
    let few = v.few in
    omega arith

pub before_few : (u : List Bool) (es before rest : List (ℕ × ℕ)) (e : ℕ × ℕ) → before ++ e ∷ rest ≡ es → IsValid (seen es u) → length before < 4
before_few u es before rest e split v =
    let few = v.few in
    omega (arith, length-seen u es, ap length split, length-append before (e ∷ rest))

slots_in_front : (n : ℕ) (u : List Bool) (before rest : List (ℕ × ℕ)) → n ≤ 4 → SlotsBelow n (map (assigned_at u) (before ++ rest)) → All (λ x. x.slot < 4) (map (assigned_at u) before)
slots_in_front n u [] rest few h = All-nil (λ x. x.slot < 4)
slots_in_front n u (e ∷ before) rest few h =
    let below = h.0 in All-cons (λ x. x.slot < 4) (assigned_at u e) (map (assigned_at u) before) (omega arith) (slots_in_front n u before rest few h.1)

-- those that are updated have slots below four
pub slots_updated : (u : List Bool) (es before rest : List (ℕ × ℕ)) (xs : List Assigned) → before ++ rest ≡ es → IsValid (seen es u) → xs ≡ filter (λ x. x.updated) (map (assigned_at u) before) → All (λ x. x.slot < 4) xs
slots_updated u es before rest xs split v e =
    let slots = subst (λ l. SlotsBelow (length (map (assigned_at u) es)) (map (assigned_at u) l)) (sym split) v.slots in
    subst (All (λ x. x.slot < 4)) (sym e) (All-filter (λ x. x.updated) (λ x. x.slot < 4) (map (assigned_at u) before) (slots_in_front _ u before rest v.few slots))

-- a slot is one of four
pub slot_of_below : (bs : Buffers) (b : ℕ) → IsValid bs → Rattle.std.specs.Option.IfSome (slot_in (assigned bs.list b)) (λ s. s < 4)
slot_of_below bs b v = (elim (assigned bs.list b) as (λ o. assigned bs.list b ≡ o → Rattle.std.specs.Option.IfSome (slot_in o) (λ s. s < 4)) [
  | None ↦ λ e. tt
  | Some x ↦ λ e. let below = SlotsBelow-found _ bs.list b x v.slots e in let few = v.few in omega arith
]) refl
