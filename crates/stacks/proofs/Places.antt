-- The stack that lies in places.
use Rattle.std.proofs.Common.{◌≡◌, refl, sym, ap, ◌∙◌, ℕ, zero, suc, ◌+◌, ◌-◌, ◌<◌, ◌≤◌, List, [], ◌∷◌, ◌++◌, length, take, drop, slice_index, slice_set, arith}
use Rattle.std.proofs.lemmas.List.{get_or-set_same, get_or-set_other, get_or-take, get_or-drop, get_or-append-add, take_at, drop_at, append_assoc, length-append, length-take-le}
use Rattle.std.proofs.lemmas.Slice.{take-put_mid_below, take-put_mid}
use Rattle.std.specs.List.{RotatedLeft}
use borrow.Rule.Slice.PartMut.{put_mid}
use Rattle.stacks.specs.Stacks.{rolled}
use Rattle.stacks.specs.Places.{stack_in}

pub stack_in-none : (p : List ℕ) → stack_in p 0 ≡ []
unfolding stack_in
stack_in-none p = refl

pub stack_in-suc : (p : List ℕ) (d : ℕ) → stack_in p (suc d) ≡ slice_index p (suc d) ∷ stack_in p d
unfolding stack_in
stack_in-suc p d = refl

pub length-stack_in : (p : List ℕ) (d : ℕ) → length (stack_in p d) ≡ d
length-stack_in p zero = ap length (stack_in-none p)
length-stack_in p (suc d) = ap length (stack_in-suc p d) ∙ ap suc (length-stack_in p d)

-- the stack has nothing of the places above it
pub same : (p q : List ℕ) (d : ℕ) → ((j : ℕ) → j ≤ d → slice_index q j ≡ slice_index p j) → stack_in q d ≡ stack_in p d
same p q zero h = stack_in-none q ∙ sym (stack_in-none p)
same p q (suc d) h =
    stack_in-suc q d
    ∙ ap (λ x. x ∷ stack_in q d) (h (suc d) (omega arith))
    ∙ ap (λ l. slice_index p (suc d) ∷ l) (same p q d (λ j k. h j (omega arith)))
    ∙ sym (stack_in-suc p d)

-- nor of a cell stored above it
pub unseen : (p : List ℕ) (d k x : ℕ) → d < k → stack_in (slice_set p k x) d ≡ stack_in p d
unseen p d k x h = same p (slice_set p k x) d (λ j l. get_or-set_other p k j x 0 (λ f. absurd (omega (arith, f))))

-- a cell put on top
pub pushed : (p : List ℕ) (d k x : ℕ) → k ≡ d + 1 → k < length p → stack_in (slice_set p k x) k ≡ x ∷ stack_in p d
pushed p d k x e h =
    let s : k ≡ suc d = omega arith in
    ap (λ n. stack_in (slice_set p k x) n) s
    ∙ stack_in-suc (slice_set p k x) d
    ∙ ap (λ n. slice_index (slice_set p k x) n ∷ stack_in (slice_set p k x) d) (sym s)
    ∙ ap (λ v. v ∷ stack_in (slice_set p k x) d) (get_or-set_same p k x 0 h)
    ∙ ap (λ l. x ∷ l) (unseen p d k x (omega arith))

pub popped : (p : List ℕ) (d k : ℕ) → d ≡ k + 1 → stack_in p d ≡ slice_index p d ∷ stack_in p k
popped p d k e =
    let s : d ≡ suc k = omega arith in
    ap (λ n. stack_in p n) s ∙ stack_in-suc p k ∙ ap (λ n. slice_index p n ∷ stack_in p k) (sym s)

pub picked : (p : List ℕ) (d u i : ℕ) → u < d → i + u ≡ d → slice_index p i ≡ slice_index (stack_in p d) u
picked p zero u i h e = absurd (omega arith)
picked p (suc d) zero i h e =
    let n : i ≡ suc d = omega arith in ap (λ k. slice_index p k) n ∙ ap (λ l. slice_index l 0) (sym (stack_in-suc p d))
picked p (suc d) (suc u) i h e =
    picked p d u i (omega arith) (omega arith) ∙ ap (λ l. slice_index l (suc u)) (sym (stack_in-suc p d))

-- the lowest d cells of m
kept : (p : List ℕ) (n m d : ℕ) → m ≡ n + d → drop n (stack_in p m) ≡ stack_in p d
kept p zero m d e = let same_depth : m ≡ d = omega arith in ap (λ k. stack_in p k) same_depth
kept p (suc n) zero d e = absurd (omega arith)
kept p (suc n) (suc m) d e = ap (λ l. drop (suc n) l) (stack_in-suc p m) ∙ kept p n m d (omega arith)

pub lowest : (p : List ℕ) (m d : ℕ) → d ≤ m → drop (m - d) (stack_in p m) ≡ stack_in p d
lowest p m d h = kept p (m - d) m d (omega arith)

-- ---- a roll

-- the n cells from place `end` down
abbrev part : List ℕ → ℕ → ℕ → List ℕ
part p end zero = []
part p end (suc n) = slice_index p end ∷ part p (end - 1) n

length-part : (p : List ℕ) (end n : ℕ) → length (part p end n) ≡ n
length-part p end zero = refl
length-part p end (suc n) = ap suc (length-part p (end - 1) n)

parted : (p : List ℕ) (d n low : ℕ) → d ≡ n + low → stack_in p d ≡ part p d n ++ stack_in p low
parted p d zero low e = let same_depth : d ≡ low = omega arith in ap (λ k. stack_in p k) same_depth
parted p zero (suc n) low e = absurd (omega arith)
parted p (suc d) (suc n) low e =
    let m : d ≡ suc d - 1 = omega arith in
    stack_in-suc p d
    ∙ ap (λ l. slice_index p (suc d) ∷ l) (parted p d n low (omega arith))
    ∙ ap (λ k. slice_index p (suc d) ∷ (part p k n ++ stack_in p low)) m

-- each cell is the one that was a place above it
moved_down : (p q : List ℕ) (n end above : ℕ) → above ≡ end + 1 → n ≤ end → ((j k : ℕ) → k ≡ j + 1 → end < j + n → j ≤ end → slice_index q j ≡ slice_index p k) → part q end n ≡ part p above n
moved_down p q zero end above e f h = refl
moved_down p q (suc n) end above e f h =
    ap (λ x. x ∷ part q (end - 1) n) (h end above e (omega arith) (omega arith))
    ∙ ap (λ l. slice_index p above ∷ l) (moved_down p q n (end - 1) (above - 1) (omega arith) (omega arith) (λ j k i a b. h j k i (omega arith) (omega arith)))

-- the cell x with u cells above it
rolled_at : (above below : List ℕ) (x u : ℕ) → length above ≡ u → rolled u (above ++ x ∷ below) ≡ x ∷ (above ++ below)
rolled_at above below x u h =
    let first : take 1 (drop u (above ++ x ∷ below)) ≡ x ∷ [] = ap (λ l. take 1 l) (drop_at above (x ∷ below) u h) in
    let middle : take u (above ++ x ∷ below) ≡ above = take_at above (x ∷ below) u h in
    let k : length (above ++ x ∷ []) ≡ suc u = omega (arith, length-append above (x ∷ [])) in
    let last : drop (suc u) (above ++ x ∷ below) ≡ below =
    ap (λ l. drop (suc u) l) (sym (append_assoc above (x ∷ []) below)) ∙ drop_at (above ++ x ∷ []) below (suc u) k in
    ap (λ l. l ++ (take u (above ++ x ∷ below) ++ drop (suc u) (above ++ x ∷ below))) first
    ∙ ap (λ l. x ∷ (l ++ drop (suc u) (above ++ x ∷ below))) middle
    ∙ ap (λ l. x ∷ (above ++ l)) last

-- the cells above place a each moved a place down, and that of place a put on top
pub record IsRotated (p q : List ℕ) (a d : ℕ) : Type 0 where
  pub below : (j : ℕ) → j < a → slice_index q j ≡ slice_index p j
  pub between : (j k : ℕ) → k ≡ j + 1 → a ≤ j → j < d → slice_index q j ≡ slice_index p k
  pub top : slice_index q d ≡ slice_index p a

pub roll : (p q : List ℕ) (d u a : ℕ) → u < d → a + u ≡ d → IsRotated p q a d → stack_in q d ≡ rolled u (stack_in p d)
roll p q d u a h e r =
    let low : ℕ = a - 1 in
    let under : ℕ = d - 1 in
    let x : ℕ = slice_index p a in
    let below : stack_in q low ≡ stack_in p low = same p q low (λ j k. r.below j (omega arith)) in
    let above : part q under u ≡ part p d u =
    moved_down p q u under d (omega arith) (omega arith) (λ j k i b c. r.between j k i (omega arith) (omega arith)) in
    let left : stack_in q d ≡ x ∷ (part p d u ++ stack_in p low) =
    popped q d under (omega arith)
    ∙ ap (λ v. v ∷ stack_in q under) r.top
    ∙ ap (λ l. x ∷ l) (parted q under u low (omega arith))
    ∙ ap (λ l. x ∷ (l ++ stack_in q low)) above
    ∙ ap (λ l. x ∷ (part p d u ++ l)) below in
    let right : stack_in p d ≡ part p d u ++ x ∷ stack_in p low =
    parted p d u a (omega arith) ∙ ap (λ l. part p d u ++ l) (popped p a low (omega arith)) in
    left
    ∙ sym (rolled_at (part p d u) (stack_in p low) x u (length-part p d u))
    ∙ ap (λ l. rolled u l) (sym right)

-- a place before a written part, and one in it
written_below : (p ys : List ℕ) (a k j : ℕ) → j < a → a ≤ length p → slice_index (put_mid a k p ys) j ≡ slice_index p j
written_below p ys a k j h e =
    sym (get_or-take a (put_mid a k p ys) j 0 h) ∙ ap (λ l. slice_index l j) (take-put_mid_below a k p ys a (omega arith) e) ∙ get_or-take a p j 0 h

written_at : (p ys : List ℕ) (a k j i : ℕ) → j ≡ a + i → i < length ys → a ≤ length p → slice_index (put_mid a k p ys) j ≡ slice_index ys i
written_at p ys a k j i e h f =
    let n : length (take a p) ≡ a = length-take-le a p f in
    let b : j < a + length ys = omega arith in
    let m : j ≡ length (take a p) + i = omega arith in
    sym (get_or-take (a + length ys) (put_mid a k p ys) j 0 b)
    ∙ ap (λ l. slice_index l j) (take-put_mid a k p ys (a + length ys) refl f)
    ∙ ap (λ x. slice_index (take a p ++ ys) x) m
    ∙ get_or-append-add (take a p) ys i 0

in_part : (p : List ℕ) (a k i j : ℕ) → i < k → j ≡ a + i → slice_index (take k (drop a p)) i ≡ slice_index p j
in_part p a k i j h e = get_or-take k (drop a p) i 0 h ∙ get_or-drop a p i 0 ∙ ap (λ x. slice_index p x) (sym e)

-- a rotation by one of the places from a to d
pub rotated : (p ys : List ℕ) (a d k : ℕ) → k + a ≡ d + 1 → d < length p → a ≤ d → length ys ≡ k
    → RotatedLeft (take k (drop a p)) ys k 1 → IsRotated p (put_mid a k p ys) a d
rotated p ys a d k e f g n r =
    let fits : a ≤ length p = omega arith in record {
      below = λ j h. written_below p ys a k j h fits;
      between = λ j j' s b h.
          let i : ℕ = j - a in
          written_at p ys a k j i (omega arith) (omega arith) fits
          ∙ r.0 i 0 (omega arith)
          ∙ in_part p a k (i + 1) j' (omega arith) (omega arith);
      top =
          written_at p ys a k d (k - 1) (omega arith) (omega arith) fits
          ∙ r.1 (k - 1) 0 (omega arith) (omega arith)
          ∙ ap (λ x. slice_index (take k (drop a p)) x) (omega arith)
          ∙ in_part p a k 0 a (omega arith) (omega arith);
    }
