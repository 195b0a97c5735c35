-- The wear of one thing and then another, and how many blocks a commit writes.
use Rattle.std.proofs.Common.{◌≡◌, ℕ, zero, suc, ◌+◌, ◌*◌, ◌<◌, ◌≤◌, Bool, true, false, cond, List, [], ◌∷◌, length, Option, Some, None, refl, sym, ◌∙◌, ap, subst, arith}
use Rattle.std.specs.Prelude.{slice_index_or, if◌then◌else◌}
use Rattle.sector_disk.specs.declared.device.SectorDevice.{Ghosts}
use Rattle.journal.specs.declared.store.Store.{Store}
use Rattle.journal.specs.Layout.{count_below}
use Rattle.journal.specs.Maps.{Maps, any_pending}
use Rattle.journal.specs.Store.{StandsFor, is_pending, pending_count, closed_of, disk_of, technique_of}
use Rattle.journal.specs.Technique.{spilled_of}
use Rattle.block_buffers.specs.declared.buffers.Assigned.{Assigned}
use Rattle.block_words.specs.Words.{Wear, no_wear, add_wear, spill_wear, commit_wear, pending_number}
use Rattle.block_words.specs.Calls.{WearsAtMost, reads_of, writes_of}
use Rattle.journal.specs.Calls.{BeginsAtMost, ReadsAtMost}
use Rattle.recovery.specs.Label.{is_size}
use Rattle.journal.specs.Costs.{each_reads, each_writes, more_writes, save_syncs, spill_reads, spill_writes}

pub none_more : (w : Wear) → add_wear w no_wear ≡ w
none_more w =
    let reads : w.reads + 0 ≡ w.reads = omega arith in
    let spills : w.spills + 0 ≡ w.spills = omega arith in
    let commits : w.commits + 0 ≡ w.commits = omega arith in
    let committed : w.committed + 0 ≡ w.committed = omega arith in
    λ t. record { reads = reads t; spills = spills t; commits = commits t; committed = committed t }

pub none_first : (w : Wear) → add_wear no_wear w ≡ w
none_first w =
    let reads : 0 + w.reads ≡ w.reads = omega arith in
    let spills : 0 + w.spills ≡ w.spills = omega arith in
    let commits : 0 + w.commits ≡ w.commits = omega arith in
    let committed : 0 + w.committed ≡ w.committed = omega arith in
    λ t. record { reads = reads t; spills = spills t; commits = commits t; committed = committed t }

pub wear_assoc : (a b c : Wear) → add_wear (add_wear a b) c ≡ add_wear a (add_wear b c)
wear_assoc a b c =
    let reads : a.reads + b.reads + c.reads ≡ a.reads + (b.reads + c.reads) = omega arith in
    let spills : a.spills + b.spills + c.spills ≡ a.spills + (b.spills + c.spills) = omega arith in
    let commits : a.commits + b.commits + c.commits ≡ a.commits + (b.commits + c.commits) = omega arith in
    let committed : a.committed + b.committed + c.committed ≡ a.committed + (b.committed + c.committed) = omega arith in
    λ t. record { reads = reads t; spills = spills t; commits = commits t; committed = committed t }

module _ {D : Type 0} (G : Ghosts D) where
  -- so many blocks were read
  pub reads_by : (d e : D) (reads : ℕ) → G.sector_count e ≡ G.sector_count d → BeginsAtMost G d e 0 0 → ReadsAtMost G d e (2 * reads)
      → WearsAtMost G d e (record { reads = reads; spills = 0; commits = 0; committed = 0 })
  reads_by d e reads sectors begins few =
      let t = is_size (G.sector_count d) in
      record {
        sectors = sectors;
        begins = record {
          few_writes = writes t ((G.counts d).writes) ((G.counts e).writes) begins.few_writes;
          few_syncs = syncs t ((G.counts d).syncs) ((G.counts e).syncs) begins.few_syncs;
        };
        reads = more t ((G.counts d).reads) ((G.counts e).reads) few;
      }
    where
      writes : (t : Bool) (x y : ℕ) → y ≤ x + 0 → y ≤ x + (spill_writes t * 0 + (each_writes t * 0 + more_writes t * 0))
      writes true x y p = omega (arith, p)
      writes false x y p = omega (arith, p)

      syncs : (t : Bool) (x y : ℕ) → y ≤ x + 0 → y ≤ x + save_syncs t * 0
      syncs true x y p = omega (arith, p)
      syncs false x y p = omega (arith, p)

      more : (t : Bool) (x y : ℕ) → y ≤ x + 2 * reads → y ≤ x + (2 * reads + (spill_reads t * 0 + each_reads t * 0))
      more true x y p = omega (arith, p)
      more false x y p = omega (arith, p)

  -- so many were spilled
  pub spills_by : (d e : D) (spills : ℕ) → G.sector_count e ≡ G.sector_count d
      → BeginsAtMost G d e (spill_writes (is_size (G.sector_count d)) * spills) 0 → ReadsAtMost G d e (spill_reads (is_size (G.sector_count d)) * spills)
      → WearsAtMost G d e (record { reads = 0; spills = spills; commits = 0; committed = 0 })
  spills_by d e spills sectors begins few =
      let t = is_size (G.sector_count d) in
      record {
        sectors = sectors;
        begins = record {
          few_writes = writes t ((G.counts d).writes) ((G.counts e).writes) begins.few_writes;
          few_syncs = syncs t ((G.counts d).syncs) ((G.counts e).syncs) begins.few_syncs;
        };
        reads = more t ((G.counts d).reads) ((G.counts e).reads) few;
      }
    where
      writes : (t : Bool) (x y : ℕ) → y ≤ x + spill_writes t * spills → y ≤ x + (spill_writes t * spills + (each_writes t * 0 + more_writes t * 0))
      writes true x y p = omega (arith, p)
      writes false x y p = omega (arith, p)

      syncs : (t : Bool) (x y : ℕ) → y ≤ x + 0 → y ≤ x + save_syncs t * 0
      syncs true x y p = omega (arith, p)
      syncs false x y p = omega (arith, p)

      more : (t : Bool) (x y : ℕ) → y ≤ x + spill_reads t * spills → y ≤ x + (2 * 0 + (spill_reads t * spills + each_reads t * 0))
      more true x y p = omega (arith, p)
      more false x y p = omega (arith, p)

  -- one was spilled
  pub spill_by : (d e : D) → G.sector_count e ≡ G.sector_count d
      → BeginsAtMost G d e (spill_writes (is_size (G.sector_count d))) 0 → ReadsAtMost G d e (spill_reads (is_size (G.sector_count d)))
      → WearsAtMost G d e spill_wear
  spill_by d e sectors begins few =
      let t = is_size (G.sector_count d) in
      spills_by d e 1 sectors
      (record { few_writes = writes t ((G.counts d).writes) ((G.counts e).writes) begins.few_writes; few_syncs = begins.few_syncs })
      (more t ((G.counts d).reads) ((G.counts e).reads) few)
    where
      writes : (t : Bool) (x y : ℕ) → y ≤ x + spill_writes t → y ≤ x + spill_writes t * 1
      writes true x y p = omega (arith, p)
      writes false x y p = omega (arith, p)

      more : (t : Bool) (x y : ℕ) → y ≤ x + spill_reads t → y ≤ x + spill_reads t * 1
      more true x y p = omega (arith, p)
      more false x y p = omega (arith, p)

  pub wears_none : (d : D) → WearsAtMost G d d no_wear
  wears_none d = reads_by d d 0 refl (record { few_writes = omega arith; few_syncs = omega arith }) (omega arith)

  pub wears_then : (a b d : D) (wear more : Wear) → WearsAtMost G a b wear → WearsAtMost G b d more → WearsAtMost G a d (add_wear wear more)
  wears_then a b d wear more one two =
      let t = is_size (G.sector_count a) in
      let begins = subst (λ n. BeginsAtMost G b d (writes_of (is_size n) more) (save_syncs (is_size n) * more.commits)) one.sectors two.begins in
      let reads = subst (λ n. ReadsAtMost G b d (reads_of (is_size n) more)) one.sectors two.reads in
      record {
        sectors = two.sectors ∙ one.sectors;
        begins = record {
          few_writes = sum_writes t ((G.counts a).writes) ((G.counts b).writes) ((G.counts d).writes) one.begins.few_writes begins.few_writes;
          few_syncs = sum_syncs t ((G.counts a).syncs) ((G.counts b).syncs) ((G.counts d).syncs) one.begins.few_syncs begins.few_syncs;
        };
        reads = sum_reads t ((G.counts a).reads) ((G.counts b).reads) ((G.counts d).reads) one.reads reads;
      }
    where
      sum_writes : (t : Bool) (x y z : ℕ) → y ≤ x + writes_of t wear → z ≤ y + writes_of t more → z ≤ x + writes_of t (add_wear wear more)
      sum_writes true x y z p q = omega (arith, p, q)
      sum_writes false x y z p q = omega (arith, p, q)

      sum_syncs : (t : Bool) (x y z : ℕ) → y ≤ x + save_syncs t * wear.commits → z ≤ y + save_syncs t * more.commits → z ≤ x + save_syncs t * (wear.commits + more.commits)
      sum_syncs true x y z p q = omega (arith, p, q)
      sum_syncs false x y z p q = omega (arith, p, q)

      sum_reads : (t : Bool) (x y z : ℕ) → y ≤ x + reads_of t wear → z ≤ y + reads_of t more → z ≤ x + reads_of t (add_wear wear more)
      sum_reads true x y z p q = omega (arith, p, q)
      sum_reads false x y z p q = omega (arith, p, q)

-- ---- what a save wears

-- of one spill after another
abbrev pub spills_wear : List Assigned → Wear
spills_wear [] = no_wear
spills_wear (x ∷ xs) = add_wear spill_wear (spills_wear xs)

pub spills_counted : (xs : List Assigned) → spills_wear xs ≡ record { reads = 0; spills = length xs; commits = 0; committed = 0 }
spills_counted [] = refl
spills_counted (x ∷ xs) =
    let spills : 1 + length xs ≡ suc (length xs) = omega arith in
    ap (λ w. add_wear spill_wear w) (spills_counted xs) ∙ ap (λ n. record { reads = 0; spills = n; commits = 0; committed = 0 }) spills

-- of a commit, where something is pending
abbrev pub commit_wear_if : Bool → ℕ → Wear
commit_wear_if true n = commit_wear n
commit_wear_if false n = no_wear

-- ---- how many blocks are pending

abbrev one_if : Bool → ℕ → ℕ
one_if t n = cond t (n + 1) n

-- the first number apart from those after it
count_first : (q : ℕ → Bool) (n : ℕ) → count_below q (suc n) ≡ one_if (q 0) (count_below (λ b. q (suc b)) n)
count_first q zero = refl
count_first q (suc n) = ap (λ k. one_if (q (suc n)) k) (count_first q n) ∙ turned (q (suc n)) (q 0) (count_below (λ b. q (suc b)) n)
  where
    turned : (s t : Bool) (k : ℕ) → one_if s (one_if t k) ≡ one_if t (one_if s k)
    turned true true k = refl
    turned true false k = refl
    turned false t k = refl

first_counted : (x : Option (List ℕ)) (p : List (Option (List ℕ))) (t : Bool) (bytes : List ℕ) → x ≡ (if t then Some bytes else None) → pending_number (x ∷ p) ≡ one_if t (pending_number p)
first_counted x p true bytes is = ap (λ x. pending_number (x ∷ p)) is
first_counted x p false bytes is = ap (λ x. pending_number (x ∷ p)) is

pending_counted : (p : List (Option (List ℕ))) (q : ℕ → Bool) (slot : ℕ → List ℕ) → ((b : ℕ) → b < length p → slice_index_or p b None ≡ (if q b then Some (slot b) else None))
    → pending_number p ≡ count_below q (length p)
pending_counted [] q slot h = refl
pending_counted (x ∷ p) q slot h =
    first_counted x p (q 0) (slot 0) (h 0 (omega arith))
    ∙ ap (λ n. one_if (q 0) n) (pending_counted p (λ b. q (suc b)) (λ b. slot (suc b)) (λ b below. h (suc b) (omega (arith, below))))
    ∙ sym (count_first q (length p))

-- an open store has as many blocks pending as its maps
pub pending_same : {D : Type 0} {G : Ghosts D} (store : Store D G) (m : Maps) → StandsFor store m → closed_of store ≡ false → pending_number m.pending ≡ pending_count store
pending_same {D} {G} store m stands is_open =
    pending_counted m.pending (is_pending store) (λ b. spilled_of (technique_of store) (disk_of store).content b)
    (λ b below. stands.pending is_open b (subst (λ n. b < n) stands.pending_size below))
    ∙ ap (λ n. count_below (is_pending store) n) stands.pending_size

-- where nothing is pending there are none
pub none_counted : (p : List (Option (List ℕ))) → any_pending p ≡ false → pending_number p ≡ 0
none_counted [] h = refl
none_counted (Some x ∷ p) h = cc
none_counted (None ∷ p) h = none_counted p h
