-- What a spill and a commit take by their layout.
use Rattle.std.proofs.Common.{◌≡◌, ℕ, ◌+◌, ◌*◌, ◌≤◌, Bool, true, false, arith}
use Rattle.sector_disk.specs.declared.device.SectorDevice.{Ghosts}
use Rattle.journal.specs.Calls.{BeginsAtMost, ReadsAtMost}
use Rattle.journal.specs.Costs.{each_reads, each_writes, more_writes, save_syncs, spill_reads, spill_writes}

-- so many spills, of no fewer
module _ {D : Type 0} (G : Ghosts D) (old new : D) (t : Bool) (n m : ℕ) (few : n ≤ m) where
  pub spills_within : BeginsAtMost G old new (spill_writes t * n) 0 → BeginsAtMost G old new (spill_writes t * m) 0
  spills_within begins = record { few_writes = by t ((G.counts old).writes) ((G.counts new).writes) begins.few_writes; few_syncs = begins.few_syncs }
    where
      by : (t : Bool) (x y : ℕ) → y ≤ x + spill_writes t * n → y ≤ x + spill_writes t * m
      by true x y p = omega (arith, p, few)
      by false x y p = omega (arith, p, few)

  pub reads_within : ReadsAtMost G old new (spill_reads t * n) → ReadsAtMost G old new (spill_reads t * m)
  reads_within reads = by t ((G.counts old).reads) ((G.counts new).reads) reads
    where
      by : (t : Bool) (x y : ℕ) → y ≤ x + spill_reads t * n → y ≤ x + spill_reads t * m
      by true x y p = omega (arith, p, few)
      by false x y p = omega (arith, p, few)

-- one spill
module _ {D : Type 0} (G : Ghosts D) (old new : D) (t : Bool) where
  pub one_begins : BeginsAtMost G old new (spill_writes t) 0 → BeginsAtMost G old new (spill_writes t * 1) 0
  one_begins begins = record { few_writes = by t ((G.counts old).writes) ((G.counts new).writes) begins.few_writes; few_syncs = begins.few_syncs }
    where
      by : (t : Bool) (x y : ℕ) → y ≤ x + spill_writes t → y ≤ x + spill_writes t * 1
      by true x y p = omega (arith, p)
      by false x y p = omega (arith, p)

  pub one_reads : ReadsAtMost G old new (spill_reads t) → ReadsAtMost G old new (spill_reads t * 1)
  one_reads reads = by t ((G.counts old).reads) ((G.counts new).reads) reads
    where
      by : (t : Bool) (x y : ℕ) → y ≤ x + spill_reads t → y ≤ x + spill_reads t * 1
      by true x y p = omega (arith, p)
      by false x y p = omega (arith, p)

-- Spills of n blocks, and then a commit of what is pending, q blocks, of which p were before: by either layout no more than by layout 2.
module _ {D : Type 0} (G : Ghosts D) (old mid new : D) (t : Bool) (n p q : ℕ) (few : q ≤ p + n) where
  pub most_begins : BeginsAtMost G old mid (spill_writes t * n) 0 → BeginsAtMost G mid new (each_writes t * q + more_writes t) (save_syncs t)
      → BeginsAtMost G old new (2 * p + 4 * n + 3) 4
  most_begins spills commits = record {
    few_writes = writes t ((G.counts old).writes) ((G.counts mid).writes) ((G.counts new).writes) spills.few_writes commits.few_writes;
    few_syncs = syncs t ((G.counts old).syncs) ((G.counts mid).syncs) ((G.counts new).syncs) spills.few_syncs commits.few_syncs;
  }
    where
      writes : (t : Bool) (x y z : ℕ) → y ≤ x + spill_writes t * n → z ≤ y + (each_writes t * q + more_writes t) → z ≤ x + (2 * p + 4 * n + 3)
      writes true x y z one two = omega (arith, one, two, few)
      writes false x y z one two = omega (arith, one, two)

      syncs : (t : Bool) (x y z : ℕ) → y ≤ x + 0 → z ≤ y + save_syncs t → z ≤ x + 4
      syncs true x y z one two = omega (arith, one, two)
      syncs false x y z one two = omega (arith, one, two)

  pub most_reads : ReadsAtMost G old mid (spill_reads t * n) → ReadsAtMost G mid new (each_reads t * q) → ReadsAtMost G old new (4 * p + 4 * n)
  most_reads spills commits = by t ((G.counts old).reads) ((G.counts mid).reads) ((G.counts new).reads) spills commits
    where
      by : (t : Bool) (x y z : ℕ) → y ≤ x + spill_reads t * n → z ≤ y + each_reads t * q → z ≤ x + (4 * p + 4 * n)
      by true x y z one two = omega (arith, one, two, few)
      by false x y z one two = omega (arith, one, two)

-- spills alone, of n blocks: no more than with a commit too
module _ {D : Type 0} (G : Ghosts D) (old new : D) (t : Bool) (n p : ℕ) where
  pub spills_few : BeginsAtMost G old new (spill_writes t * n) 0 → BeginsAtMost G old new (2 * p + 4 * n + 3) 4
  spills_few spills = record {
    few_writes = by t ((G.counts old).writes) ((G.counts new).writes) spills.few_writes;
    few_syncs = omega (arith, spills.few_syncs);
  }
    where
      by : (t : Bool) (x y : ℕ) → y ≤ x + spill_writes t * n → y ≤ x + (2 * p + 4 * n + 3)
      by true x y few = omega (arith, few)
      by false x y few = omega (arith, few)

  pub reads_few : ReadsAtMost G old new (spill_reads t * n) → ReadsAtMost G old new (4 * p + 4 * n)
  reads_few spills = by t ((G.counts old).reads) ((G.counts new).reads) spills
    where
      by : (t : Bool) (x y : ℕ) → y ≤ x + spill_reads t * n → y ≤ x + (4 * p + 4 * n)
      by true x y few = omega (arith, few)
      by false x y few = omega (arith, few)

-- one spill more
module _ {D : Type 0} (G : Ghosts D) (old mid new : D) (t : Bool) (n : ℕ) where
  pub spills_begin : {m : ℕ} → m ≡ n + 1 → BeginsAtMost G old mid (spill_writes t * n) 0 → BeginsAtMost G mid new (spill_writes t) 0
      → BeginsAtMost G old new (spill_writes t * m) 0
  spills_begin {m} one begins more = record {
    few_writes = by t ((G.counts old).writes) ((G.counts mid).writes) ((G.counts new).writes) begins.few_writes more.few_writes;
    few_syncs = omega (arith, begins.few_syncs, more.few_syncs);
  }
    where
      by : (t : Bool) (x y z : ℕ) → y ≤ x + spill_writes t * n → z ≤ y + spill_writes t → z ≤ x + spill_writes t * m
      by true x y z p q = omega (arith, p, q, one)
      by false x y z p q = omega (arith, p, q, one)

  pub spills_read : {m : ℕ} → m ≡ n + 1 → ReadsAtMost G old mid (spill_reads t * n) → ReadsAtMost G mid new (spill_reads t)
      → ReadsAtMost G old new (spill_reads t * m)
  spills_read {m} one reads more = by t ((G.counts old).reads) ((G.counts mid).reads) ((G.counts new).reads) reads more
    where
      by : (t : Bool) (x y z : ℕ) → y ≤ x + spill_reads t * n → z ≤ y + spill_reads t → z ≤ x + spill_reads t * m
      by true x y z p q = omega (arith, p, q, one)
      by false x y z p q = omega (arith, p, q, one)
