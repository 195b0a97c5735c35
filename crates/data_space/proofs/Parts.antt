-- A part of a move that is copied as a whole.
use Rattle.std.proofs.Common.{◌≡◌, sym, ap, ◌∙◌, ℕ, zero, suc, ◌+◌, ◌-◌, ◌<◌, ◌≤◌, ◌⊎◌, inl, inr, List, [], ◌∷◌, ◌++◌, length, take, drop, slice_index, slice_set, arith, append_assoc}
use Rattle.std.proofs.lemmas.List.{take-set-le, take_more, take_more_set, drop-set, drop-set-lt, drop_more, length-set, length-take-le, length-drop, length-append, take-append-drop, drop-set-add, get_or-drop}
use Rattle.data_space.specs.Space.{byte_at, with_byte, bytes_at, with_bytes, moved_up, moved_down}
use Rattle.data_space.specs.Apart.{AreApart}
use Rattle.data_space.proofs.Steps.{up}

-- a step of a move down
down : (space : List ℕ) (from to n rest from_at to_at : ℕ) → n ≡ rest + 1 → from_at ≡ from + rest → to_at ≡ to + rest → moved_down space from to n ≡ moved_down (with_byte space to_at (byte_at space from_at)) from to rest
down space from to n rest from_at to_at a b c =
    let s : n ≡ suc rest = omega arith in
    ap (λ k. moved_down space from to k) s
    ∙ ap (λ f. moved_down (with_byte space (to + rest) (byte_at space f)) from to rest) (sym b)
    ∙ ap (λ t. moved_down (with_byte space t (byte_at space from_at)) from to rest) (sym c)

-- the first a bytes, and then the others
pub up-two : (a : ℕ) (space : List ℕ) (from to n rest from_2 to_2 : ℕ) → n ≡ a + rest → from_2 ≡ from + a → to_2 ≡ to + a → moved_up space from to n ≡ moved_up (moved_up space from to a) from_2 to_2 rest
up-two zero space from to n rest from_2 to_2 e f g =
    let i : n ≡ rest = omega arith in
    let j : from ≡ from_2 = omega arith in
    let k : to ≡ to_2 = omega arith in
    ap (λ x. moved_up space from to x) i ∙ ap (λ x. moved_up space x to rest) j ∙ ap (λ x. moved_up space from_2 x rest) k
up-two (suc a) space from to n rest from_2 to_2 e f g =
    let m : ℕ = n - 1 in
    up space from to n (suc from) (suc to) m (omega arith) (omega arith) (omega arith)
    ∙ up-two a (with_byte space to (byte_at space from)) (suc from) (suc to) m rest from_2 to_2 (omega arith) (omega arith) (omega arith)

-- the last a bytes, and then the others
pub down-two : (a : ℕ) (space : List ℕ) (from to n rest from_2 to_2 : ℕ) → n ≡ a + rest → from_2 ≡ from + rest → to_2 ≡ to + rest → moved_down space from to n ≡ moved_down (moved_down space from_2 to_2 a) from to rest
down-two zero space from to n rest from_2 to_2 e f g = let i : n ≡ rest = omega arith in ap (λ x. moved_down space from to x) i
down-two (suc a) space from to n rest from_2 to_2 e f g =
    let m : ℕ = n - 1 in
    down space from to n m (from_2 + a) (to_2 + a) (omega arith) (omega arith) (omega arith)
    ∙ down-two a (with_byte space (to_2 + a) (byte_at space (from_2 + a))) from to m rest from_2 to_2 (omega arith) (omega arith) (omega arith)

-- a byte outside a range doesn't change it
kept : (space : List ℕ) (a n i x : ℕ) → (i < a) ⊎ (a + n ≤ i) → bytes_at (with_byte space i x) a n ≡ bytes_at space a n
kept space a n i x (inl h) = ap (λ l. take n l) (drop-set-lt a space i x h)
kept space a n i x (inr h) =
    let j : ℕ = i - a in
    let e : i ≡ a + j = omega arith in
    ap (λ k. take n (drop a (slice_set space k x))) e
    ∙ ap (λ l. take n l) (drop-set-add a space j x)
    ∙ take-set-le n (drop a space) j x (omega arith)

-- a byte stored before a range, or after one
stored_first : (space ys : List ℕ) (to to_2 x : ℕ) → to_2 ≡ to + 1 → to < length space → with_bytes (with_byte space to x) to_2 ys ≡ with_bytes space to (x ∷ ys)
stored_first space ys to to_2 x e h =
    let before : take (to + 1) (slice_set space to x) ≡ take to space ++ x ∷ [] = take_more_set space to x h in
    let after : drop (to + 1) (slice_set space to x) ≡ drop (to + 1) space = drop-set-lt (to + 1) space to x (omega arith) in
    let all : drop to space ≡ slice_index space to ∷ drop (to + 1) space = drop_more space to 0 h in
    ap (λ k. with_bytes (slice_set space to x) k ys) e
    ∙ ap (λ l. l ++ (ys ++ drop (length ys) (drop (to + 1) (slice_set space to x)))) before
    ∙ ap (λ l. (take to space ++ x ∷ []) ++ (ys ++ drop (length ys) l)) after
    ∙ append_assoc (take to space) (x ∷ []) (ys ++ drop (length ys) (drop (to + 1) space))
    ∙ ap (λ l. take to space ++ (x ∷ (ys ++ drop (suc (length ys)) l))) (sym all)

stored_last : (space ys : List ℕ) (to n x : ℕ) → length ys ≡ n → to + n < length space → with_bytes (with_byte space (to + n) x) to ys ≡ with_bytes space to (ys ++ x ∷ [])
stored_last space ys to n x e h =
    let rest : List ℕ = drop to space in
    let long : n < length rest = omega (arith, length-drop to space) in
    let before : take to (slice_set space (to + n) x) ≡ take to space = take-set-le to space (to + n) x (omega arith) in
    let after : drop n (drop to (slice_set space (to + n) x)) ≡ x ∷ drop (n + 1) rest =
    ap (λ l. drop n l) (drop-set-add to space n x) ∙ drop-set rest n x long in
    let more : n + 1 ≡ length (ys ++ x ∷ []) = omega (arith, length-append ys (x ∷ [])) in
    ap (λ l. l ++ (ys ++ drop (length ys) (drop to (slice_set space (to + n) x)))) before
    ∙ ap (λ k. take to space ++ (ys ++ drop k (drop to (slice_set space (to + n) x)))) e
    ∙ ap (λ l. take to space ++ (ys ++ l)) after
    ∙ ap (λ l. take to space ++ l) (sym (append_assoc ys (x ∷ []) (drop (n + 1) rest)))
    ∙ ap (λ k. take to space ++ ((ys ++ x ∷ []) ++ drop k rest)) more

-- bytes with one before them, or after them
with_first : (space : List ℕ) (a n a_2 : ℕ) → a_2 ≡ a + 1 → a < length space → byte_at space a ∷ bytes_at space a_2 n ≡ bytes_at space a (suc n)
with_first space a n a_2 e h =
    ap (λ k. byte_at space a ∷ bytes_at space k n) e ∙ ap (λ l. take (suc n) l) (sym (drop_more space a 0 h))

with_last : (space : List ℕ) (a n : ℕ) → a + n < length space → bytes_at space a n ++ byte_at space (a + n) ∷ [] ≡ bytes_at space a (suc n)
with_last space a n h =
    let s : n + 1 ≡ suc n = omega arith in
    ap (λ x. bytes_at space a n ++ x ∷ []) (sym (get_or-drop a space n 0))
    ∙ sym (take_more (drop a space) n 0 (omega (arith, length-drop a space)))
    ∙ ap (λ k. take k (drop a space)) s

nothing : (space : List ℕ) (a : ℕ) → space ≡ with_bytes space a []
nothing space a = sym (take-append-drop a space)

-- ranges that have no byte in common
pub up-apart : (n : ℕ) (space : List ℕ) (from to : ℕ) → from + n ≤ length space → to + n ≤ length space → AreApart from to n → moved_up space from to n ≡ with_bytes space to (bytes_at space from n)
up-apart zero space from to f t h = nothing space to
up-apart (suc n) space from to f t h =
    let x : ℕ = byte_at space from in
    let moved : List ℕ = with_byte space to x in
    let same_length : length moved ≡ length space = length-set space to x in
    up-apart n moved (suc from) (suc to) (omega arith) (omega arith) (later h)
    ∙ ap (λ ys. with_bytes moved (suc to) ys) (kept space (suc from) n to x (outside h))
    ∙ stored_first space (bytes_at space (suc from) n) to (suc to) x (omega arith) (omega arith)
    ∙ ap (λ ys. with_bytes space to ys) (with_first space from n (suc from) (omega arith) (omega arith))
  where
    later : AreApart from to (suc n) → AreApart (suc from) (suc to) n
    later (inl k) = inl (omega arith)
    later (inr k) = inr (omega arith)

    outside : AreApart from to (suc n) → (to < suc from) ⊎ (suc from + n ≤ to)
    outside (inl k) = inr (omega arith)
    outside (inr k) = inl (omega arith)

pub down-apart : (n : ℕ) (space : List ℕ) (from to : ℕ) → from + n ≤ length space → to + n ≤ length space → AreApart from to n → moved_down space from to n ≡ with_bytes space to (bytes_at space from n)
down-apart zero space from to f t h = nothing space to
down-apart (suc n) space from to f t h =
    let x : ℕ = byte_at space (from + n) in
    let moved : List ℕ = with_byte space (to + n) x in
    let same_length : length moved ≡ length space = length-set space (to + n) x in
    let fits : length (bytes_at space from n) ≡ n = length-take-le n (drop from space) (omega (arith, length-drop from space)) in
    down-apart n moved from to (omega arith) (omega arith) (later h)
    ∙ ap (λ ys. with_bytes moved to ys) (kept space from n (to + n) x (outside h))
    ∙ stored_last space (bytes_at space from n) to n x fits (omega arith)
    ∙ ap (λ ys. with_bytes space to ys) (with_last space from n (omega arith))
  where
    later : AreApart from to (suc n) → AreApart from to n
    later (inl k) = inl (omega arith)
    later (inr k) = inr (omega arith)

    outside : AreApart from to (suc n) → (to + n < from) ⊎ (from + n ≤ to + n)
    outside (inl k) = inr (omega arith)
    outside (inr k) = inl (omega arith)

-- as many bytes as lie between the two, or fewer
pub apart : (from to n : ℕ) → n ≤ (from - to) + (to - from) → AreApart from to n
apart from to n h = go (from - to) (omega arith)
  where
    go : (d : ℕ) → d ≡ from - to → AreApart from to n
    go zero e = inl (omega arith)
    go (suc d) e = inr (omega arith)
