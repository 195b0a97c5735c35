-- Wear that grows.
use Rattle.std.proofs.Common.{◌≡◌, ◌≤◌, ◌+◌, ◌*◌, ℕ, Bool, true, false, subst, sym, arith}
use Rattle.sector_disk.specs.declared.device.SectorDevice.{Ghosts}
use Rattle.recovery.specs.Label.{is_size}
use Rattle.journal.specs.Costs.{save_syncs}
use Rattle.block_words.specs.Calls.{WearsAtMost, reads_of, writes_of}
use Rattle.block_words.specs.Words.{Wear, no_wear, add_wear}
use Rattle.interpreter.specs.Law.{IsWithin}

pub within_itself : (w : Wear) → IsWithin w w
within_itself w = record { reads = omega arith; spills = omega arith; commits = omega arith; committed = omega arith }

pub within_same : (w v : Wear) → v ≡ w → IsWithin w v
within_same w v same = subst (λ v. IsWithin w v) (sym same) (within_itself w)

pub within_then : (a b c : Wear) → IsWithin a b → IsWithin b c → IsWithin a c
within_then a b c one two = record { reads = omega (arith, one.reads, two.reads); spills = omega (arith, one.spills, two.spills); commits = omega (arith, one.commits, two.commits); committed = omega (arith, one.committed, two.committed) }

pub within_more : (a b more : Wear) → IsWithin a b → IsWithin a (add_wear b more)
within_more a b more h = record { reads = omega (arith, h.reads); spills = omega (arith, h.spills); commits = omega (arith, h.commits); committed = omega (arith, h.committed) }

-- nothing more was begun
pub within_none : (w : Wear) → IsWithin (add_wear w no_wear) w
within_none w = record { reads = omega arith; spills = omega arith; commits = omega arith; committed = omega arith }

-- What wears no more than this wears no more than what it is within.
pub wears_within : {D : Type 0} (G : Ghosts D) (old new : D) (wear most : Wear) → IsWithin wear most → WearsAtMost G old new wear → WearsAtMost G old new most
wears_within G old new wear most within wears = record {
  sectors = wears.sectors;
  begins = record {
    few_writes = more_writes (is_size (G.sector_count old)) ((G.counts old).writes) ((G.counts new).writes) wears.begins.few_writes;
    few_syncs = more_syncs (is_size (G.sector_count old)) ((G.counts old).syncs) ((G.counts new).syncs) wears.begins.few_syncs;
  };
  reads = more_reads (is_size (G.sector_count old)) ((G.counts old).reads) ((G.counts new).reads) wears.reads;
}
  where
    more_writes : (t : Bool) (x y : ℕ) → y ≤ x + writes_of t wear → y ≤ x + writes_of t most
    more_writes true x y p = omega (arith, p, within.spills, within.commits, within.committed)
    more_writes false x y p = omega (arith, p, within.spills, within.commits, within.committed)

    more_syncs : (t : Bool) (x y : ℕ) → y ≤ x + save_syncs t * wear.commits → y ≤ x + save_syncs t * most.commits
    more_syncs true x y p = omega (arith, p, within.commits)
    more_syncs false x y p = omega (arith, p, within.commits)

    more_reads : (t : Bool) (x y : ℕ) → y ≤ x + reads_of t wear → y ≤ x + reads_of t most
    more_reads true x y p = omega (arith, p, within.reads, within.spills, within.committed)
    more_reads false x y p = omega (arith, p, within.reads, within.spills, within.committed)
