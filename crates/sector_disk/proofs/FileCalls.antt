-- Calls of a file, one after another, and what they do to its sectors.
use Rattle.std.proofs.Common.{◌≡◌, ◌≢◌, ℕ, ◌+◌, ◌*◌, ◌-◌, ◌<◌, ◌≤◌, Bool, true, false, cond, List, length, slice_index, take, replicate, refl, sym, ◌∙◌, ap, subst, inl, inr, ⊎_elim, arith}
use Rattle.std.specs.Prelude.{◌==◌, Result, Ok, Err, OnOk, OnErr}
use Rattle.std.proofs.Math.Path.{fun_ext}
use Rattle.std.proofs.lemmas.List.{get_or-replicate, get_or-take}
use Rattle.std.proofs.lemmas.Bool.{cases_eq, cases_lt}
use Rattle.std.proofs.lemmas.Bool.Decides.{nat_tests}
use Rattle.sector_disk.specs.Disk.{Image, Disk, MayLeave, MayLeaveEither, MayWrite, written, with_sector}
use Rattle.sector_disk.specs.FileBytes.{FileBytes, sector_of, disk_of_file, SameBytes, SameSector, Misses, Spoils, Puts}
use Rattle.sector_disk.specs.Opening.{KeepsGoing, WentOn}
use Rattle.sector_disk.specs.Spans.{sector_is, same_sector}
use Rattle.sector_disk.specs.Whole.{Goes}
use Rattle.sector_disk.specs.Moments.{Elapses}
use Rattle.sector_disk.proofs.Moments.{elapses_then, leaves_then}
use Rattle.sector_disk.specs.declared.host_file.HostFile.{Ghosts}

pub when : (a b : ℕ) (x : Bool) → a ≡ b → cond (a == b) true x ≡ true
when a b x same = grind (arith, nat_tests)

pub unless : (a b : ℕ) (x : Bool) → a ≢ b → cond (a == b) true x ≡ x
unless a b x other = grind (arith, nat_tests)

same_refl : (k : ℕ) (f : FileBytes) → SameSector k f f
same_refl k f = record { bytes = λ i below. refl; unsynced = refl }

same_then : (k : ℕ) (f g h : FileBytes) → SameSector k f g → SameSector k g h → SameSector k f h
same_then k f g h one two = record { bytes = λ i below. two.bytes i below ∙ one.bytes i below; unsynced = two.unsynced ∙ one.unsynced }

-- a write of a part of the bytes after another one
pub spoils_then : (at n from m : ℕ) (f g h : FileBytes) → at ≤ from → from + m ≤ at + n
    → Spoils at n f g → Spoils from m g h → Spoils at n f h
spoils_then at n from m f g h le within one two = record {
  synced = two.synced ∙ one.synced;
  unit = two.unit ∙ one.unit;
  touched = λ k.
      ⊎_elim
      (λ same. ⊎_elim
      (λ was. inl (λ j is. same_then j f g h (was j is) (same j (later j k is))))
      (λ marked. inr (λ j is. (same j (later j k is)).unsynced ∙ marked j is))
      (one.touched k))
      (λ marked. inr (λ j is. marked j (later j k is)))
      (two.touched k);
  missed = λ k out i below. two.missed k (part k out) i below ∙ one.missed k out i below;
  apart = λ k out. two.apart k (λ j is. part j (out j (earlier j k is))) ∙ one.apart k out;
}
  where
    later : (j k : ℕ) → f.unit j ≡ f.unit k → g.unit j ≡ g.unit k
    later j k is = ap (λ u. u j) one.unit ∙ is ∙ sym (ap (λ u. u k) one.unit)

    earlier : (j k : ℕ) → g.unit j ≡ g.unit k → f.unit j ≡ f.unit k
    earlier j k is = sym (ap (λ u. u j) one.unit) ∙ is ∙ ap (λ u. u k) one.unit

    part : (k : ℕ) → Misses at n k → Misses from m k
    part k out = ⊎_elim (λ low. inl (omega (arith, low, le))) (λ high. inr (omega (arith, high, within))) out

-- what one left unsynced the other does
less_synced : (at n : ℕ) (g h : FileBytes) (c : Image) → Spoils at n g h → MayLeave (disk_of_file g) c → MayLeave (disk_of_file h) c
less_synced at n g h c spoils may k is =
    ⊎_elim
    (λ same. may k (sym (same k refl).unsynced ∙ is) ∙ sym (ap (λ s. sector_of s k) spoils.synced))
    (λ marked. absurd (true_false (sym (marked k refl) ∙ is)))
    (spoils.touched k)
  where
    true_false : true ≡ false → ⊥
    true_false is = cc

module _ {H : Type 0} (G : Ghosts H) where
  goes_then : (a b d : H) → ((s t : ℕ) (c : Image) → s ≤ t → G.left_since d t c → G.left_since d s c)
      → ((c : Image) → MayLeave (disk_of_file (G.bytes b)) c → MayLeave (disk_of_file (G.bytes d)) c)
      → Goes G a b → Goes G b d → Goes G a d
  goes_then a b d widens more one two = record {
    model = two.model ∙ one.model;
    units = two.units ∙ one.units;
    settle = two.settle ∙ one.settle;
    time = elapses_then G.time G.left_since a b d widens one.time two.time;
    stops = leaves_then G.time G.left_since a b d
        (MayLeaveEither (disk_of_file (G.bytes a)) (disk_of_file (G.bytes b))) (MayLeaveEither (disk_of_file (G.bytes b)) (disk_of_file (G.bytes d)))
        (MayLeaveEither (disk_of_file (G.bytes a)) (disk_of_file (G.bytes d)))
        one.time two.time one.stops two.stops
        (λ c either. ⊎_elim (λ was. inl was) (λ mid. inr (more c mid)) either)
        (λ c either. ⊎_elim (λ mid. inr (more c mid)) (λ now. inr now) either);
  }

  pub writes_then : (a b d : H) (at n : ℕ) → ((s t : ℕ) (c : Image) → s ≤ t → G.left_since d t c → G.left_since d s c)
      → Spoils at n (G.bytes b) (G.bytes d) → Goes G a b → Goes G b d → Goes G a d
  writes_then a b d at n widens spoils one two = goes_then a b d widens (λ c may. less_synced at n (G.bytes b) (G.bytes d) c spoils may) one two

-- Sector k alone has other bytes, and its unit alone is unsynced.
module _ (k : ℕ) (f g : FileBytes) (xs : List ℕ) (synced : g.synced ≡ f.synced) (unit : g.unit ≡ f.unit)
    (other : (j : ℕ) → j ≢ k → SameBytes j f g) (marks : (j : ℕ) → f.unit j ≡ f.unit k → g.unsynced j ≡ true)
    (rest : (j : ℕ) → f.unit j ≢ f.unit k → g.unsynced j ≡ f.unsynced j) (is : sector_of g.content k ≡ xs) where
  content_at : (j : ℕ) → sector_of g.content j ≡ with_sector (sector_of f.content) k xs j
  content_at j = elim (cases_eq j k) [
    | inl same ↦ ap (sector_of g.content) same ∙ is ∙ sym (ap (with_sector (sector_of f.content) k xs) same ∙ grind (arith, nat_tests))
    | inr not ↦ same_sector g.content f.content j (other j not) ∙ grind (arith, nat_tests)
  ]

  marks_at : (j : ℕ) → g.unsynced j ≡ (written (disk_of_file f) k xs).unsynced j
  marks_at j = elim (cases_eq (f.unit j) (f.unit k)) [
    | inl same ↦ marks j same ∙ sym (when (f.unit j) (f.unit k) (f.unsynced j) same)
    | inr not ↦ rest j not ∙ sym (unless (f.unit j) (f.unit k) (f.unsynced j) not)
  ]

  pub is_written : disk_of_file g ≡ written (disk_of_file f) k xs
  is_written = parts (fun_ext content_at) (ap sector_of synced) (fun_ext marks_at) unit
    where
      parts : {a b : Disk} → a.content ≡ b.content → a.synced ≡ b.synced → a.unsynced ≡ b.unsynced → a.unit ≡ b.unit → a ≡ b
      parts one two three four = grind (arith, one, two, three, four)

misses : (j k : ℕ) → j ≢ k → Misses (512 * k) 512 j
misses j k not = ⊎_elim (λ low. inl (omega (arith, low))) (λ high. inr (omega (arith, high, not))) (cases_lt j k)

-- a sector whose unit isn't that of the one that is written
aside : (k : ℕ) (f g : FileBytes) → Spoils (512 * k) 512 f g → (j : ℕ) → f.unit j ≢ f.unit k → g.unsynced j ≡ f.unsynced j
aside k f g spoils j other = spoils.apart j (λ i is. misses i k (λ same. other (sym is ∙ ap f.unit same)))

pub one_written : (k : ℕ) (f g : FileBytes) (xs : List ℕ) → length xs ≡ 512 → Spoils (512 * k) 512 f g → Puts (512 * k) xs 512 f g
    → disk_of_file g ≡ written (disk_of_file f) k xs
one_written k f g xs long spoils puts =
    is_written k f g xs spoils.synced spoils.unit (λ j not. spoils.missed j (misses j k not))
    (λ j is. puts.marks j k is (omega arith) (omega arith) (omega arith)) (aside k f g spoils)
    (sym (sector_is g.content k xs long (λ i below. sym (puts.put i below))))

pub one_spoiled : (k : ℕ) (f g : FileBytes) → Spoils (512 * k) 512 f g → MayWrite k (disk_of_file f) (disk_of_file g)
one_spoiled k f g spoils =
    ⊎_elim
    (λ same. inl (parts (fun_ext (λ j. same_sector g.content f.content j (bytes_at same j))) (ap sector_of spoils.synced) (fun_ext (marks_at same)) spoils.unit))
    (λ marked. inr (
      sector_of g.content k,
      is_written k f g (sector_of g.content k) spoils.synced spoils.unit (λ j not. spoils.missed j (misses j k not)) marked (aside k f g spoils) refl,
    ))
    (spoils.touched k)
  where
    parts : {a b : Disk} → a.content ≡ b.content → a.synced ≡ b.synced → a.unsynced ≡ b.unsynced → a.unit ≡ b.unit → a ≡ b
    parts one two three four = grind (arith, one, two, three, four)

    bytes_at : ((j : ℕ) → f.unit j ≡ f.unit k → SameSector j f g) → (j : ℕ) → SameBytes j f g
    bytes_at same j = elim (cases_eq j k) [
      | inl is ↦ (same j (ap f.unit is)).bytes
      | inr not ↦ spoils.missed j (misses j k not)
    ]

    marks_at : ((j : ℕ) → f.unit j ≡ f.unit k → SameSector j f g) → (j : ℕ) → g.unsynced j ≡ f.unsynced j
    marks_at same j = elim (cases_eq (f.unit j) (f.unit k)) [
      | inl is ↦ (same j is).unsynced
      | inr not ↦ aside k f g spoils j not
    ]

-- the first n bytes, and then m more
pub puts_then : (at : ℕ) (bytes : List ℕ) (n : ℕ) (rest : List ℕ) (m size : ℕ) (f g h : FileBytes) → ((i : ℕ) → i < m → slice_index rest i ≡ slice_index bytes (n + i))
    → g.unit ≡ f.unit → Puts at bytes n f g → Spoils (at + n) size g h → Puts (at + n) rest m g h → Puts at bytes (n + m) f h
puts_then at bytes n rest m size f g h alike unit one spoils two = record {
  put = λ i below. elim (cases_lt i n) [
    | inl early ↦ two.before (at + i) (omega (arith, early)) ∙ one.put i early
    | inr late ↦
        let here : at + i ≡ at + n + (i - n) = omega (arith, late) in
        let there : n + (i - n) ≡ i = omega (arith, late) in
        ap h.content here ∙ two.put (i - n) (omega (arith, late, below)) ∙ alike (i - n) (omega (arith, late, below)) ∙ ap (slice_index bytes) there
  ];
  before = λ p low. two.before p (omega (arith, low)) ∙ one.before p low;
  after = λ p high. two.after p (omega (arith, high)) ∙ one.after p (omega (arith, high));
  marks = λ j k is some low high. elim (cases_lt 0 n) [
    | inl any ↦ elim (cases_lt (512 * k) (at + n)) [
      | inl first ↦ kept j (one.marks j k is any first high)
      | inr second ↦ two.marks j k (later j k is) (omega (arith, second, low)) (omega (arith, low)) (omega (arith, second))
    ]
    | inr none ↦ two.marks j k (later j k is) (omega (arith, none, some)) (omega (arith, low)) (omega (arith, none, high))
  ];
}
  where
    later : (j k : ℕ) → f.unit j ≡ f.unit k → g.unit j ≡ g.unit k
    later j k is = ap (λ u. u j) unit ∙ is ∙ sym (ap (λ u. u k) unit)

    kept : (k : ℕ) → g.unsynced k ≡ true → h.unsynced k ≡ true
    kept k is = ⊎_elim (λ same. (same k refl).unsynced ∙ is) (λ marked. marked k refl) (spoils.touched k)

pub on_ok : {T E P Q : Type 0} (r : Result T E) → OnOk r P → (P → Q) → OnOk r Q
on_ok (Ok x) p f = f p
on_ok (Err x) p f = tt

pub on_any : {T E P : Type 0} (r : Result T E) → P → OnErr r P
on_any (Ok x) p = tt
on_any (Err x) p = p

-- Calls of a file that keep to it go on with it.
pub keeps_going : {H : Type 0} (G : Ghosts H) (a b d : H) → ((s t : ℕ) (c : Image) → s ≤ t → G.left_since d t c → G.left_since d s c)
    → KeepsGoing G a b → Goes G b d → KeepsGoing G a d
keeps_going G a b d widens one two = record {
  model = two.model ∙ one.model;
  units = two.units ∙ one.units;
  settle = two.settle ∙ one.settle;
  time = elapses_then G.time G.left_since a b d widens one.time two.time;
}

-- And a call behind them goes on, however it ends.
pub went_then : {H : Type 0} (G : Ghosts H) (a b d : H) → ((s t : ℕ) (c : Image) → s ≤ t → G.left_since d t c → G.left_since d s c)
    → KeepsGoing G a b → G.keeps_model d ≡ G.keeps_model b → G.keeps_sectors d ≡ G.keeps_sectors b → Elapses G.time G.left_since b d → WentOn G a d
went_then G a b d widens one model units time = record {
  model = model ∙ one.model;
  units = units ∙ one.units;
  time = elapses_then G.time G.left_since a b d widens one.time time;
}

-- more zeros after zeros
pub zeros_then : (at n : ℕ) (piece : List ℕ) (f h : FileBytes) → length piece ≡ n → ((i : ℕ) → i < n → slice_index piece i ≡ 0)
    → ((p : ℕ) → p < at → f.content p ≡ 0) → Puts at piece (length piece) f h → (p : ℕ) → p < at + n → h.content p ≡ 0
zeros_then at n piece f h long zero before puts p below = elim (cases_lt p at) [
  | inl early ↦ puts.before p early ∙ before p early
  | inr late ↦
      let here : at + (p - at) ≡ p = omega (arith, late) in
      let inside : p - at < n = omega (arith, late, below) in
      ap h.content (sym here) ∙ puts.put (p - at) (subst (λ m. p - at < m) (sym long) inside) ∙ zero (p - at) inside
]

-- the first bytes of zeros
pub zero_taken : (n size i : ℕ) → i < n → n ≤ size → slice_index (take n (replicate size 0)) i ≡ 0
zero_taken n size i below few = get_or-take n (replicate size 0) i 0 below ∙ get_or-replicate size i 0 0 (omega (arith, below, few))
