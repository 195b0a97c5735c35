-- A block that isn't there, and an answer that is handed on.
use Rattle.std.proofs.Common.{◌≡◌, ◌≤◌, ℕ, true, false, Result, Ok, Err, None, refl, sym, ap, ◌∙◌, subst, arith}
use Rattle.std.specs.Prelude.{IsSome}
use Rattle.sector_disk.specs.Disk.{Image, MayLeave}
use Rattle.sector_disk.specs.declared.device.SectorDevice.{Ghosts}
use Rattle.sector_disk.proofs.Moments.{elapses_refl}
use Rattle.block_buffers.specs.Buffers.{slot_of}
use Rattle.block_words.specs.declared.buffered_blocks.BlockFault.{BlockFault}
use Rattle.block_words.specs.declared.buffered_blocks.BlockFault.TheVariants.{NoBlock, NoBuffer, Device, Closed, Memory}
use Rattle.block_words.specs.declared.buffered_blocks.Blocks.{Blocks}
use Rattle.journal.specs.declared.store.Store.{Store}
use Rattle.block_words.specs.Promises.{TellsFailures, AsksFor}
use Rattle.journal.specs.Store.{device_of, blocks_of}
use Rattle.block_words.proofs.Lists.{none_past}

abbrev the_gift : {A : Type 0} → A → Result A BlockFault
the_gift a = Ok a

abbrev the_fault : {A : Type 0} → BlockFault → Result A BlockFault
the_fault f = Err f

pub asks_past : {D : Type 0} (G : Ghosts D) {A : Type 0} (u : ℕ) (self : Blocks D G) → ((d : D) (c : Image) → G.left_since d (G.time d) c → MayLeave (G.disk d) c)
    → (blocks_of self.store) ≤ u → AsksFor {A = A} u (Err NoBlock) self self
asks_past G u self only_now past = record {
  no_block = (λ _. past, λ _. refl);
  closed = (λ is. absurd (cc), λ is. absurd (omega (arith, past, is.0.0)));
  failures = refl;
  no_buffer = λ is. absurd (cc);
  found = λ some.
      let none : slot_of self.buffers u ≡ None = none_past (blocks_of self.store) u self.buffers.list self.within past in
      absurd (let no : false ≡ true = subst IsSome none some in cc);
  found_store = λ _. refl;
  closed_same = λ _. refl;
  opened = tt;
  stops = λ m stands is_open c since. stands.left (sym stands.closed ∙ is_open) c (only_now (device_of self.store) c since);
  continues = record { blocks = refl; sectors = refl; model = refl; time = elapses_refl G.time G.left_since (device_of self.store); failures = omega arith };
}

tells : (A B : Type 0) {D : Type 0} {G : Ghosts D} (old new : Store D G) (f : BlockFault) → TellsFailures (the_fault {A = A} f) old new → TellsFailures (the_fault {A = B} f) old new
tells A B old new NoBlock h = h
tells A B old new NoBuffer h = h
tells A B old new Device h = h
tells A B old new Closed h = h
tells A B old new Memory h = h

same_fault : (A B : Type 0) (f told : BlockFault) → the_fault {A = A} f ≡ Err told → the_fault {A = B} f ≡ Err told
same_fault A B f told is = let same : f ≡ told = cc in ap Err same

-- whatever is given
pub asks_given : {A B D : Type 0} {G : Ghosts D} {u : ℕ} {old new : Blocks D G} (a : A) (b : B) → AsksFor u (Ok a) old new → AsksFor u (Ok b) old new
asks_given {A} {B} a b asks = record {
  no_block = (λ is. absurd (cc), λ past. absurd (let no : the_gift a ≡ Err NoBlock = asks.no_block.1 past in cc));
  closed = (λ is. absurd (cc), λ both. absurd (let no : the_gift a ≡ Err Closed = asks.closed.1 both in cc));
  failures = asks.failures;
  no_buffer = λ is. absurd (cc);
  found = λ some. refl;
  found_store = asks.found_store;
  closed_same = asks.closed_same;
  opened = asks.opened;
  stops = asks.stops;
  continues = asks.continues;
}

pub asks_refused : {A B D : Type 0} {G : Ghosts D} {u : ℕ} {old new : Blocks D G} (f : BlockFault) → AsksFor {A = A} u (Err f) old new → AsksFor {A = B} u (Err f) old new
asks_refused {A} {B} {u = u} {old} {new} f asks = record {
  no_block = (λ is. asks.no_block.0 (same_fault B A f NoBlock is), λ past. same_fault A B f NoBlock (asks.no_block.1 past));
  closed = (λ is. asks.closed.0 (same_fault B A f Closed is), λ both. same_fault A B f Closed (asks.closed.1 both));
  failures = tells A B old.store new.store f asks.failures;
  no_buffer = λ is. asks.no_buffer (same_fault B A f NoBuffer is);
  found = asks.found;
  found_store = asks.found_store;
  closed_same = asks.closed_same;
  opened = asks.opened;
  stops = asks.stops;
  continues = asks.continues;
}
