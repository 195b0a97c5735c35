-- What each call keeps of the chains.
use Rattle.std.proofs.Common.{◌≡◌, ◌≢◌, ℕ, zero, suc, ◌+◌, ◌-◌, ◌%◌, ◌<◌, ◌≤◌, ◌⊎◌, inl, inr, true, false, cond, nat_eq, List, [], ◌∷◌, ◌++◌, length, map, take, Option, Some, None, refl, sym, ◌∙◌, ap, subst, arith, get_or, set, get_or-set_same, get_or-set_other, length-set}
use Rattle.std.specs.List.{slice_get}
use Rattle.std.specs.Option.{option_map}
use Rattle.std.proofs.lemmas.Bool.Decides.{nat_tests}
use Rattle.std.proofs.lemmas.Grind.{common_steps}
use Rattle.dictionary.specs.declared.chains.Header.{Header}
use Rattle.dictionary.specs.declared.words.Kind.TheVariants as Kind
use Rattle.std.proofs.lemmas.Option.{slice_get_past}
use Rattle.dictionary.specs.Words.{same_text, find_in, entry}
use Rattle.dictionary.specs.Dictionary.{Named}
use Rattle.dictionary.specs.Chains.{header_word, number_of, strand, vocabulary_of, strand_of, last_in, IsLinked, IsChained}
use Rattle.dictionary.proofs.Links.{get_at, get-map, get-below, get-append, get-end, get-take, last_in-same, last_in-below, last_in-chain, fits, named_in, named_in-last, find_in-strand}

pub length-words : (hs : List Header) → length (map header_word hs) ≡ length hs
length-words [] = refl
length-words (h ∷ hs) = ap suc (length-words hs)

pub word-at : (hs : List Header) (k : ℕ) (h : Header) → slice_get hs k ≡ Some h → slice_get (map header_word hs) k ≡ Some (header_word h)
word-at hs k h e = get-map header_word hs k ∙ ap (option_map header_word) e

word-back : (hs : List Header) (k : ℕ) (w : Named) → slice_get (map header_word hs) k ≡ Some w → (h : Header) × (slice_get hs k ≡ Some h) × (header_word h ≡ w)
word-back [] k w e = cc
word-back (h ∷ hs) zero w e = let same : header_word h ≡ w = cc in (h, refl, same)
word-back (h ∷ hs) (suc k) w e = word-back hs k w e

-- ---- the search

pub smaller : (hs : List Header) (last newest : List ℕ) (t : ℕ) (h : Header) → IsChained hs last newest → slice_get hs t ≡ Some h → h.older ≤ t
smaller hs last newest t h c at = rw (c.strands.links t h at) (last_in-below strand_of (map header_word hs) t (strand_of (header_word h)))

pub step_down : (hs : List Header) (last newest : List ℕ) (t : ℕ) (h : Header) (v : ℕ) (name : List ℕ) → IsChained hs last newest → slice_get hs t ≡ Some h → strand_of (header_word h) ≡ strand v name → fits (header_word h) v name ≡ false → named_in (map header_word hs) h.older v name ≡ named_in (map header_word hs) (suc t) v name
step_down hs last newest t h v name c at same differs =
    rw (word-at hs t h at, differs, c.strands.links t h at, same) (sym (named_in-last (map header_word hs) t v name))

pub found_here : (hs : List Header) (t : ℕ) (h : Header) (v : ℕ) (name : List ℕ) → slice_get hs t ≡ Some h → fits (header_word h) v name ≡ true → named_in (map header_word hs) (suc t) v name ≡ Some (suc t)
found_here hs t h v name at same = rw (word-at hs t h at, same) refl

-- what a chain leads to
in_chain : (chain : Named → ℕ) (hs : List Header) (k c t : ℕ) → last_in chain (map header_word hs) k c ≡ suc t → (h : Header) × (slice_get hs t ≡ Some h) × (chain (header_word h) ≡ c)
in_chain chain hs k c t e =
    let found = last_in-chain chain (map header_word hs) k c t e in
    let back = word-back hs t found.0 found.1 in
    (back.0, back.1, ap chain back.2 ∙ found.2)

pub strand-below : (v : ℕ) (name : List ℕ) → strand v name < 4096
strand-below v name = omega arith

pub chain_begins : (hs : List Header) (last newest : List ℕ) (v : ℕ) (name : List ℕ) → IsChained hs last newest → named_in (map header_word hs) (get_or newest (strand v name) 0) v name ≡ find_in (map header_word hs) v name
chain_begins hs last newest v name c =
    rw (c.strands.ends (strand v name) (strand-below v name), ← length-words hs) (find_in-strand (map header_word hs) v name)

-- ---- push

at_pushed : (hs : List Header) (h : Header) (k : ℕ) (g : Header) → slice_get (hs ++ h ∷ []) k ≡ Some g → ((k < length hs) × (slice_get hs k ≡ Some g)) ⊎ ((k ≡ length hs) × (g ≡ h))
at_pushed [] h zero g e = let same : h ≡ g = cc in inr (refl, sym same)
at_pushed [] h (suc k) g e = cc
at_pushed (x ∷ hs) h zero g e = inl (omega arith, e)
at_pushed (x ∷ hs) h (suc k) g e = elim (at_pushed hs h k g e) [
  | inl p ↦ inl (let lt = p.0 in omega arith, p.1)
  | inr p ↦ inr (ap suc p.0, p.1)
]

last_in-push : (chain : Named → ℕ) (hs : List Header) (h : Header) (k c : ℕ) → k ≤ length hs → last_in chain (map header_word (hs ++ h ∷ [])) k c ≡ last_in chain (map header_word hs) k c
last_in-push chain hs h k c le = last_in-same chain (map header_word (hs ++ h ∷ [])) (map header_word hs) k c
    (λ i lt. get-map header_word (hs ++ h ∷ []) i ∙ ap (option_map header_word) (get-append hs (h ∷ []) i (omega arith)) ∙ sym (get-map header_word hs i))

pushed_end : (last : List ℕ) (mine c n old : ℕ) → mine < length last → get_or last c 0 ≡ old → cond (nat_eq mine c) n old ≡ get_or (set last mine n) c 0
pushed_end last mine c n old lt e = (elim (nat_eq mine c) as (λ t. nat_eq mine c ≡ t → cond t n old ≡ get_or (set last mine n) c 0) [
  | true ↦ λ t. let same : mine ≡ c = grind (arith, nat_tests) in rw (← same) (sym (get_or-set_same last mine n 0 lt))
  | false ↦ λ t. let other : c ≢ mine = (λ e. let yes : nat_eq mine c ≡ true = grind (arith, nat_tests) in cc) in sym e ∙ sym (get_or-set_other last mine c n 0 other)
]) refl

linked_push : (chain : Named → ℕ) (most : ℕ) (link : Header → ℕ) (hs : List Header) (last : List ℕ) (h : Header) → IsLinked chain most link hs last → link h ≡ get_or last (chain (header_word h)) 0 → chain (header_word h) < most → IsLinked chain most link (hs ++ h ∷ []) (set last (chain (header_word h)) (length hs + 1))
linked_push chain most link hs last h l linked range =
    let len : length (hs ++ h ∷ []) ≡ suc (length hs) = grind (arith, common_steps) in
    let mine = chain (header_word h) in
    record {
      chains = length-set last mine (length hs + 1) ∙ l.chains;
      ends = λ c lt.
          let many = l.chains in
          rw (len, word-at (hs ++ h ∷ []) (length hs) h (get-end hs h), last_in-push chain hs h (length hs) c (omega arith))
          (sym (ap (λ n. cond (nat_eq mine c) n (last_in chain (map header_word hs) (length hs) c)) (omega arith) ∙ pushed_end last mine c (length hs + 1) (last_in chain (map header_word hs) (length hs) c) (omega arith) (l.ends c lt)));
      links = λ k g at. elim (at_pushed hs h k g at) [
        | inl p ↦ rw (last_in-push chain hs h k (chain (header_word g)) (let below = p.0 in omega arith)) (l.links k g p.1)
        | inr p ↦ rw (p.0, p.1, last_in-push chain hs h (length hs) mine (omega arith)) (linked ∙ l.ends mine range)
      ];
      ranges = λ k g at. elim (at_pushed hs h k g at) [
        | inl p ↦ l.ranges k g p.1
        | inr p ↦ rw p.1 range
      ];
    }

chained_push : (hs : List Header) (last newest : List ℕ) (h : Header) → IsChained hs last newest → length hs < 4096 → h.previous ≡ get_or last h.vocabulary 0 → h.older ≡ get_or newest (strand_of (header_word h)) 0 → h.vocabulary ≤ 4096 → 0 < h.len → h.len ≤ 31 → h.number ≡ number_of h.vocabulary (take h.len h.name) → IsChained (hs ++ h ∷ []) (set last h.vocabulary (length hs + 1)) (set newest (strand_of (header_word h)) (length hs + 1))
chained_push hs last newest h c lt prev older voc some short number =
    let len : length (hs ++ h ∷ []) ≡ suc (length hs) = grind (arith, common_steps) in
    record {
      room = omega arith;
      vocabularies = linked_push vocabulary_of 4097 (λ h. h.previous) hs last h c.vocabularies prev (omega arith);
      strands = linked_push strand_of 4096 (λ h. h.older) hs newest h c.strands older (strand-below h.vocabulary (take h.len h.name));
      names = λ k g at. elim (at_pushed hs h k g at) [
        | inl p ↦ c.names k g p.1
        | inr p ↦ rw p.1 (some, short)
      ];
      numbers = λ k g at. elim (at_pushed hs h k g at) [
        | inl p ↦ c.numbers k g p.1
        | inr p ↦ rw p.1 number
      ];
    }

pub copied_name : (name copied rest : List ℕ) → copied ≡ name → take (length name) (copied ++ rest) ≡ name
copied_name [] copied rest e = refl
copied_name (x ∷ name) [] rest e = cc
copied_name (x ∷ name) (y ∷ copied) rest e =
    let first : y ≡ x = cc in
    let others : copied ≡ name = cc in
    rw (first, copied_name name copied rest others) refl

-- with the name as it was before it was copied
pub chained_named : (hs : List Header) (last newest : List ℕ) (h : Header) (name : List ℕ) → take h.len h.name ≡ name → IsChained hs last newest → length hs < 4096 → h.previous ≡ get_or last h.vocabulary 0 → h.older ≡ get_or newest (strand h.vocabulary name) 0 → h.vocabulary ≤ 4096 → 0 < h.len → h.len ≤ 31 → h.number ≡ number_of h.vocabulary name → IsChained (hs ++ h ∷ []) (set last h.vocabulary (length hs + 1)) (set newest (strand h.vocabulary name) (length hs + 1))
chained_named hs last newest h name is c lt prev older voc some short own =
    subst (λ n. IsChained (hs ++ h ∷ []) (set last h.vocabulary (length hs + 1)) (set newest (strand h.vocabulary n) (length hs + 1))) is
    (chained_push hs last newest h c lt prev (subst (λ n. h.older ≡ get_or newest (strand h.vocabulary n) 0) (sym is) older) voc some short (subst (λ n. h.number ≡ number_of h.vocabulary n) (sym is) own))

-- ---- pop

last_in-take : (chain : Named → ℕ) (hs : List Header) (n k c : ℕ) → k ≤ n → last_in chain (map header_word (take n hs)) k c ≡ last_in chain (map header_word hs) k c
last_in-take chain hs n k c le = last_in-same chain (map header_word (take n hs)) (map header_word hs) k c
    (λ i lt. get-map header_word (take n hs) i ∙ ap (option_map header_word) (get-take hs n i (omega arith)) ∙ sym (get-map header_word hs i))

popped_end : (last : List ℕ) (mine c token old prev : ℕ) → mine < length last → get_or last c 0 ≡ cond (nat_eq mine c) token old → (mine ≡ c → prev ≡ old) → get_or (set last mine prev) c 0 ≡ old
popped_end last mine c token old prev lt e p = (elim (nat_eq mine c) as (λ t. nat_eq mine c ≡ t → get_or last c 0 ≡ cond t token old → get_or (set last mine prev) c 0 ≡ old) [
  | true ↦ λ t e. let same : mine ≡ c = grind (arith, nat_tests) in rw (← same) (get_or-set_same last mine prev 0 lt) ∙ p same
  | false ↦ λ t e. let other : c ≢ mine = (λ e. let yes : nat_eq mine c ≡ true = grind (arith, nat_tests) in cc) in get_or-set_other last mine c prev 0 other ∙ e
]) refl e

at_kept : (hs : List Header) (n k : ℕ) (g : Header) → slice_get (take n hs) k ≡ Some g → (k < n) × (slice_get hs k ≡ Some g)
at_kept hs zero k g e = cc
at_kept [] (suc n) k g e = cc
at_kept (h ∷ hs) (suc n) zero g e = (omega arith, e)
at_kept (h ∷ hs) (suc n) (suc k) g e = let on = at_kept hs n k g e in (let lt = on.0 in omega arith, on.1)

linked_pop : (chain : Named → ℕ) (most : ℕ) (link : Header → ℕ) (hs : List Header) (last : List ℕ) (k : ℕ) (h : Header) → IsLinked chain most link hs last → length hs ≡ suc k → slice_get hs k ≡ Some h → IsLinked chain most link (take k hs) (set last (chain (header_word h)) (link h))
linked_pop chain most link hs last k h l n at =
    let len : length (take k hs) ≡ k = grind (arith, common_steps) in
    let mine = chain (header_word h) in
    record {
      chains = length-set last mine (link h) ∙ l.chains;
      ends = λ c lt.
          let many = l.chains in
          let range = l.ranges k h at in
          let was : get_or last c 0 ≡ cond (nat_eq mine c) (suc k) (last_in chain (map header_word hs) k c) = l.ends c lt ∙ (rw (n, word-at hs k h at) refl) in
          rw (len, last_in-take chain hs k k c (omega arith))
          (popped_end last mine c (suc k) (last_in chain (map header_word hs) k c) (link h) (omega arith) was (λ same. l.links k h at ∙ ap (last_in chain (map header_word hs) k) same));
      links = λ i g found. let kept = at_kept hs k i g found in
          rw (last_in-take chain hs k i (chain (header_word g)) (let lt = kept.0 in omega arith)) (l.links i g kept.1);
      ranges = λ i g found. l.ranges i g (at_kept hs k i g found).1;
    }

pub chained_pop : (hs : List Header) (last newest : List ℕ) (k : ℕ) (h : Header) → IsChained hs last newest → length hs ≡ suc k → slice_get hs k ≡ Some h → IsChained (take k hs) (set last h.vocabulary h.previous) (set newest (strand_of (header_word h)) h.older)
chained_pop hs last newest k h c n at =
    let len : length (take k hs) ≡ k = grind (arith, common_steps) in
    record {
      room = let room = c.room in omega arith;
      vocabularies = linked_pop vocabulary_of 4097 (λ h. h.previous) hs last k h c.vocabularies n at;
      strands = linked_pop strand_of 4096 (λ h. h.older) hs newest k h c.strands n at;
      names = λ i g found. c.names i g (at_kept hs k i g found).1;
      numbers = λ i g found. c.numbers i g (at_kept hs k i g found).1;
    }

-- ---- an edit of a header that leaves name, vocabulary and links

pub set-other : {X : Type 0} (xs : List X) (i k : ℕ) (x : X) → k ≢ i → slice_get (set xs i x) k ≡ slice_get xs k
set-other [] i k x ne = refl
set-other (y ∷ ys) zero zero x ne = absurd (ne refl)
set-other (y ∷ ys) zero (suc k) x ne = refl
set-other (y ∷ ys) (suc i) zero x ne = refl
set-other (y ∷ ys) (suc i) (suc k) x ne = set-other ys i k x (λ e. ne (ap suc e))

set-same : {X : Type 0} (xs : List X) (i : ℕ) (x y : X) → slice_get (set xs i x) i ≡ Some y → y ≡ x
set-same [] i x y e = cc
set-same (z ∷ zs) zero x y e = cc
set-same (z ∷ zs) (suc i) x y e = set-same zs i x y e

pub set-here : {X : Type 0} (xs : List X) (i : ℕ) (x y : X) → slice_get xs i ≡ Some x → slice_get (set xs i y) i ≡ Some y
set-here [] i x y e = cc
set-here (z ∷ zs) zero x y e = refl
set-here (z ∷ zs) (suc i) x y e = set-here zs i x y e

-- the same links, number, name and vocabulary
pub record IsAlike (h g : Header) : Type 0 where
  pub number : g.number ≡ h.number
  pub previous : g.previous ≡ h.previous
  pub older : g.older ≡ h.older
  pub vocabulary : g.vocabulary ≡ h.vocabulary
  pub len : g.len ≡ h.len
  pub name : g.name ≡ h.name

-- by cases on whether two places are the same
pub one_place : (k i : ℕ) → (k ≡ i) ⊎ (k ≢ i)
one_place k i = (elim (nat_eq k i) as (λ t. nat_eq k i ≡ t → (k ≡ i) ⊎ (k ≢ i)) [
  | true ↦ λ t. inl (grind (arith, nat_tests))
  | false ↦ λ t. inr (λ e. let yes : nat_eq k i ≡ true = grind (arith, nat_tests) in cc)
]) refl

last_in-edit : (chain : Named → ℕ) (hs : List Header) (i : ℕ) (h g : Header) → slice_get hs i ≡ Some h → chain (header_word g) ≡ chain (header_word h) → (k c : ℕ) → last_in chain (map header_word (set hs i g)) k c ≡ last_in chain (map header_word hs) k c
last_in-edit chain hs i h g at alike zero c = refl
last_in-edit chain hs i h g at alike (suc k) c = elim (one_place k i) [
  | inl same ↦
      let old : slice_get (map header_word hs) k ≡ Some (header_word h) = rw same (word-at hs i h at) in
      let new : slice_get (map header_word (set hs i g)) k ≡ Some (header_word g) = rw same (word-at (set hs i g) i g (set-here hs i h g at)) in
      rw (new, old, last_in-edit chain hs i h g at alike k c, alike) refl
  | inr other ↦ rw (get-map header_word (set hs i g) k, set-other hs i k g other, ← get-map header_word hs k, last_in-edit chain hs i h g at alike k c) refl
]

linked_edit : (chain : Named → ℕ) (most : ℕ) (link : Header → ℕ) (hs : List Header) (last : List ℕ) (i : ℕ) (h g : Header) → IsLinked chain most link hs last → slice_get hs i ≡ Some h → chain (header_word g) ≡ chain (header_word h) → link g ≡ link h → IsLinked chain most link (set hs i g) last
linked_edit chain most link hs last i h g l at alike linked = record {
  chains = l.chains;
  ends = λ c lt. rw (last_in-edit chain hs i h g at alike (length (set hs i g)) c, length-set hs i g) (l.ends c lt);
  links = λ k f found. elim (one_place k i) [
    | inl same ↦
        let is : f ≡ g = set-same hs i g f (subst (λ j. slice_get (set hs i g) j ≡ Some f) same found) in
        rw (last_in-edit chain hs i h g at alike k (chain (header_word f)), is, linked, alike, same) (l.links i h at)
    | inr other ↦ rw (last_in-edit chain hs i h g at alike k (chain (header_word f))) (l.links k f (sym (set-other hs i k g other) ∙ found))
  ];
  ranges = λ k f found. elim (one_place k i) [
    | inl same ↦
        let is : f ≡ g = set-same hs i g f (subst (λ j. slice_get (set hs i g) j ≡ Some f) same found) in
        rw (is, alike) (l.ranges i h at)
    | inr other ↦ l.ranges k f (sym (set-other hs i k g other) ∙ found)
  ];
}

pub chained_edit : (hs : List Header) (last newest : List ℕ) (i : ℕ) (h g : Header) → IsChained hs last newest → slice_get hs i ≡ Some h → IsAlike h g → IsChained (set hs i g) last newest
chained_edit hs last newest i h g c at alike =
    let strand_alike : strand_of (header_word g) ≡ strand_of (header_word h) = rw (alike.vocabulary, alike.len, alike.name) refl in
    record {
      room = rw (length-set hs i g) c.room;
      vocabularies = linked_edit vocabulary_of 4097 (λ h. h.previous) hs last i h g c.vocabularies at alike.vocabulary alike.previous;
      strands = linked_edit strand_of 4096 (λ h. h.older) hs newest i h g c.strands at strand_alike alike.older;
      names = λ k f found. elim (one_place k i) [
        | inl same ↦
            let is : f ≡ g = set-same hs i g f (subst (λ j. slice_get (set hs i g) j ≡ Some f) same found) in
            rw (is, alike.len) (c.names i h at)
        | inr other ↦ c.names k f (sym (set-other hs i k g other) ∙ found)
      ];
      numbers = λ k f found. elim (one_place k i) [
        | inl same ↦
            let is : f ≡ g = set-same hs i g f (subst (λ j. slice_get (set hs i g) j ≡ Some f) same found) in
            rw (is, alike.number, alike.vocabulary, alike.len, alike.name) (c.numbers i h at)
        | inr other ↦ c.numbers k f (sym (set-other hs i k g other) ∙ found)
      ];
    }

-- ---- the last header

-- the words are as many as the headers
pub last_place : (hs : List Header) (ws : List Named) (n : ℕ) → map header_word hs ≡ ws → 0 < length ws → n ≡ length hs → n - 1 + 1 ≡ length hs
last_place hs ws n view some len =
    let some' : 0 < length hs = rw (← length-words hs, view) some in omega arith

pub last_read : (hs : List Header) (ws : List Named) (n : ℕ) (h : Header) → map header_word hs ≡ ws → 0 < length ws → n ≡ length hs → h ≡ get_or hs (n - 1) h → slice_get hs (n - 1) ≡ Some h
last_read hs ws n h view some len read =
    let place = last_place hs ws n view some len in get_at hs (n - 1) h (omega arith) read

pub chained_last : (hs : List Header) (ws : List Named) (last newest : List ℕ) (n : ℕ) (h g : Header) → map header_word hs ≡ ws → 0 < length ws → n ≡ length hs → h ≡ get_or hs (n - 1) h → IsChained hs last newest → IsAlike h g → IsChained (set hs (n - 1) g) last newest
chained_last hs ws last newest n h g view some len read c alike =
    chained_edit hs last newest (n - 1) h g c (last_read hs ws n h view some len read) alike

-- ---- a header that is read

get_or-at : {X : Type 0} (xs : List X) (i : ℕ) (x d : X) → slice_get xs i ≡ Some x → get_or xs i d ≡ x
get_or-at [] i x d e = cc
get_or-at (y ∷ ys) zero x d e = cc
get_or-at (y ∷ ys) (suc i) x d e = get_or-at ys i x d e

-- where a strand stands at a word
abbrev pub Leads : List Header → ℕ → ℕ → Type 0
Leads hs strand token = (t : ℕ) → token ≡ suc t → (h : Header) × (slice_get hs t ≡ Some h) × (strand_of (header_word h) ≡ strand)

pub leads_within : (hs : List Header) (s token : ℕ) → Leads hs s token → (token ≡ 0 → ⊥) → token ≤ length hs
leads_within hs s token leads some =
    let at = leads (token - 1) (omega arith) in
    let below = get-below hs (token - 1) at.0 at.1 in
    omega arith

pub read_at : (hs : List Header) (s token : ℕ) (r : Header) → Leads hs s token → (token ≡ 0 → ⊥) → r ≡ get_or hs (token - 1) r → (slice_get hs (token - 1) ≡ Some r) × (strand_of (header_word r) ≡ s)
read_at hs s token r leads some read =
    let at = leads (token - 1) (omega arith) in
    let same : at.0 ≡ r = sym (read ∙ get_or-at hs (token - 1) at.0 r at.1) in
    (subst (λ h. slice_get hs (token - 1) ≡ Some h) same at.1, subst (λ h. strand_of (header_word h) ≡ s) same at.2)

-- the next place of a strand
pub leads_on : (hs : List Header) (last newest : List ℕ) (t s : ℕ) (h : Header) → IsChained hs last newest → slice_get hs t ≡ Some h → strand_of (header_word h) ≡ s → Leads hs s h.older
leads_on hs last newest t s h c at same u e = in_chain strand_of hs t s u (rw (← same) (sym (c.strands.links t h at) ∙ e))

pub leads_first : (hs : List Header) (last newest : List ℕ) (s : ℕ) → IsChained hs last newest → s < 4096 → Leads hs s (get_or newest s 0)
leads_first hs last newest s c lt u e = in_chain strand_of hs (length hs) s u (sym (c.strands.ends s lt) ∙ e)

-- a number that is read is so with any default
pub read_or : (xs : List ℕ) (i r : ℕ) → i < length xs → r ≡ get_or xs i r → r ≡ get_or xs i 0
read_or [] i r lt e = absurd (omega arith)
read_or (x ∷ xs) zero r lt e = e
read_or (x ∷ xs) (suc i) r lt e = read_or xs i r (omega arith) e

-- ---- a word by its token, one below which its header lies

pub found_word : (hs : List Header) (ws : List Named) (last newest : List ℕ) (token i : ℕ) (h : Header) → map header_word hs ≡ ws → IsChained hs last newest → token < 65536 → i ≡ (token + 65535) % 65536 → i < length hs → h ≡ get_or hs i h → (slice_get hs i ≡ Some h) × (Some (header_word h) ≡ entry ws token)
found_word hs ws last newest zero i h view c fits place below read = absurd (let room = c.room in omega arith)
found_word hs ws last newest (suc t) i h view c fits place below read =
    let same : i ≡ t = omega arith in
    let at = get_at hs i h below read in
    (at, rw (← view) (sym (word-at hs t h (subst (λ k. slice_get hs k ≡ Some h) same at))))

pub no_word : (hs : List Header) (ws : List Named) (last newest : List ℕ) (token i : ℕ) → map header_word hs ≡ ws → IsChained hs last newest → token < 65536 → i ≡ (token + 65535) % 65536 → length hs ≤ i → None ≡ entry ws token
no_word hs ws last newest zero i view c fits place past = refl
no_word hs ws last newest (suc t) i view c fits place past =
    let same : length hs ≤ t = omega arith in
    rw (← view, get-map header_word hs t, slice_get_past hs t same) refl

-- ---- no words

zeros : (n v : ℕ) → get_or {A = ℕ} (Rattle.std.proofs.Common.replicate {A = ℕ} n zero) v zero ≡ zero
zeros zero v = refl
zeros (suc n) zero = refl
zeros (suc n) (suc v) = zeros n v

linked_none : (chain : Named → ℕ) (most : ℕ) (link : Header → ℕ) (last : List ℕ) → last ≡ Rattle.std.proofs.Common.replicate most 0 → IsLinked chain most link [] last
linked_none chain most link last e = record {
  chains = rw e (Rattle.std.proofs.Math.ListN.length-replicate {A = ℕ} most 0);
  ends = λ c lt. rw e (zeros most c);
  links = λ k h at. cc;
  ranges = λ k h at. cc;
}

pub chained_none : (last newest : List ℕ) → last ≡ Rattle.std.proofs.Common.replicate 4097 0 → newest ≡ Rattle.std.proofs.Common.replicate 4096 0 → IsChained [] last newest
chained_none last newest e f = record {
  room = omega arith;
  vocabularies = linked_none vocabulary_of 4097 (λ h. h.previous) last e;
  strands = linked_none strand_of 4096 (λ h. h.older) newest f;
  names = λ k h at. cc;
  numbers = λ k h at. cc;
}

-- ---- the forms that the code has

pub chained_popped : (hs xs : List Header) (last newest : List ℕ) (h : Header) → IsChained hs last newest → hs ≡ xs ++ h ∷ [] → IsChained xs (set last h.vocabulary h.previous) (set newest (strand_of (header_word h)) h.older)
chained_popped hs xs last newest h c e =
    let front : take (length xs) (xs ++ h ∷ []) ≡ xs = grind (arith, common_steps) in
    let len : length (xs ++ h ∷ []) ≡ suc (length xs) = grind (arith, common_steps) in
    subst (λ ys. IsChained ys (set last h.vocabulary h.previous) (set newest (strand_of (header_word h)) h.older)) front (chained_pop (xs ++ h ∷ []) last newest (length xs) h (subst (λ ys. IsChained ys last newest) e c) len (get-end xs h))

-- the header that is taken off
pub last_popped : (hs xs : List Header) (h : Header) → hs ≡ xs ++ h ∷ [] → slice_get hs (length xs) ≡ Some h
last_popped hs xs h e = rw e (get-end xs h)

pub name_bounds : (name : List ℕ) → Rattle.std.proofs.Common.IsTrue (Rattle.dictionary.specs.Words.is_name name) → (0 < length name) × (length name ≤ 31)
name_bounds name h = (grind (arith, nat_tests), grind (arith, nat_tests))

pub immediate_last : (hs : List Header) (i : ℕ) (h g : Header) → slice_get hs i ≡ Some h → i + 1 ≡ length hs → header_word g ≡ record (header_word h) { immediate = true } → map header_word (set hs i g) ≡ Rattle.dictionary.specs.Words.with_immediate (map header_word hs)
immediate_last [] i h g at e w = cc
immediate_last (x ∷ []) zero h g at e w = let same : x ≡ h = cc in rw (w, same) refl
immediate_last (x ∷ []) (suc i) h g at e w = cc
immediate_last (x ∷ y ∷ hs) zero h g at e w = absurd (omega arith)
immediate_last (x ∷ y ∷ hs) (suc i) h g at e w = ap (λ ws. header_word x ∷ ws) (immediate_last (y ∷ hs) i h g at (omega arith) w)

pub part_last : (hs : List Header) (i : ℕ) (h g : Header) (p data_address : ℕ) (old : Option ℕ) → slice_get hs i ≡ Some h → i + 1 ≡ length hs → h.kind ≡ Kind.Created data_address old → header_word g ≡ record (header_word h) { kind = Rattle.dictionary.specs.Words.Created data_address (Some p) } → Rattle.dictionary.specs.Words.with_part (map header_word hs) p ≡ Some (map header_word (set hs i g))
part_last [] i h g p a old at e k w = cc
part_last (x ∷ []) zero h g p a old at e k w = let same : x ≡ h = cc in rw (w, same, k) refl
part_last (x ∷ []) (suc i) h g p a old at e k w = cc
part_last (x ∷ y ∷ hs) zero h g p a old at e k w = absurd (omega arith)
part_last (x ∷ y ∷ hs) (suc i) h g p a old at e k w = ap (Rattle.dictionary.specs.Words.before (header_word x)) (part_last (y ∷ hs) i h g p a old at (omega arith) k w)

pub not_created : (hs : List Header) (i : ℕ) (h : Header) (p : ℕ) → slice_get hs i ≡ Some h → i + 1 ≡ length hs → ((a : ℕ) (old : Option ℕ) → h.kind ≡ Kind.Created a old → ⊥) → Rattle.dictionary.specs.Words.with_part (map header_word hs) p ≡ None
not_created [] i h p at e k = cc
not_created (x ∷ []) zero h p at e k = let same : x ≡ h = cc in rw same ((elim h.kind as (λ t. h.kind ≡ t → Rattle.dictionary.specs.Words.with_kind (header_word h) (Rattle.dictionary.specs.Words.kind_with p (Rattle.dictionary.specs.Dictionary.kind_of t)) ≡ None) [
  | Kind.Primitive ↦ λ is. refl
  | Kind.Colon a ↦ λ is. refl
  | Kind.Created a old ↦ λ is. absurd (k a old is)
  | Kind.Constant a ↦ λ is. refl
  | Kind.Vocabulary ↦ λ is. refl
]) refl)
not_created (x ∷ []) (suc i) h p at e k = cc
not_created (x ∷ y ∷ hs) zero h p at e k = absurd (omega arith)
not_created (x ∷ y ∷ hs) (suc i) h p at e k = ap (Rattle.dictionary.specs.Words.before (header_word x)) (not_created (y ∷ hs) i h p at (omega arith) k)
