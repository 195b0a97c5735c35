use Rattle.std.proofs.Common.{◌≡◌, ℕ, List, Option, Some, None, Result, Ok, [], sym, ap, ◌∙◌, subst}
use Rattle.std.specs.Prelude.{IfSome}
use Rattle.sector_disk.specs.declared.device.SectorDevice.{Ghosts}
use Rattle.journal.specs.declared.store.Store.{Store}
use Rattle.data_space.specs.Space.{buffer_bytes}
use Rattle.block_buffers.specs.Buffers.{slot_of}
use Rattle.block_words.specs.declared.buffered_blocks.BlockFault.{BlockFault}
use Rattle.block_words.specs.declared.buffered_blocks.TextPlace.{TextPlace}
use Rattle.block_words.specs.declared.buffered_blocks.TextPlace.TheVariants.{InBuffer}
use Rattle.block_words.specs.Uses.{text_at}
use Rattle.block_words.specs.Words.{source}
use Rattle.block_words.specs.Calls.{CallRuns}
use Rattle.block_words.proofs.Asked.{asks_given, asks_refused}
use Rattle.block_words.proofs.buffered_blocks.Blocks.source.Goals as goal

pub returns-in-Ok-clause-runs : goal.returns-in-Ok-clause-runs
returns-in-Ok-clause-runs g c = λ m stands.
    let old = c.args.self.now in
    let new = c.find_text.new.self in
    let space = c.args.space.now in
    subst (λ bytes. CallRuns g.D.SectorDevice (source c.args.u) (Ok bytes) [] m old.store new.store old.buffers new.buffers space space)
    (sym (c.copy_from_slice.ensures.after ∙ c.text.ensures.text))
    (c.in-Ok.ensures.runs m space stands)

pub returns-in-Ok-clause-asks : goal.returns-in-Ok-clause-asks
returns-in-Ok-clause-asks g c = asks_given c.in-Ok.place tt c.in-Ok.ensures.asks

pub returns-in-Err-clause-asks : goal.returns-in-Err-clause-asks
returns-in-Err-clause-asks g c = asks_refused c.in-Err.fault c.in-Err.ensures.asks

abbrev found_at : TextPlace → Result TextPlace BlockFault
found_at place = Ok place

lent : {D : Type 0} {G : Ghosts D} (o : Option ℕ) (place : TextPlace) (store : Store D G) (space bytes : List ℕ)
    → IfSome o (λ slot. found_at place ≡ Ok (InBuffer slot)) → bytes ≡ text_at place store space → IfSome o (λ slot. bytes ≡ buffer_bytes space slot)
lent None place store space bytes at same = tt
lent (Some slot) place store space bytes at same = let is : place ≡ InBuffer slot = cc in same ∙ ap (λ p. text_at p store space) is

pub returns-in-Ok-clause-found_bytes : goal.returns-in-Ok-clause-found_bytes
returns-in-Ok-clause-found_bytes g c =
    let old = c.args.self.now in
    lent (slot_of old.buffers c.args.u) c.in-Ok.place c.find_text.new.self.store c.args.space.now c.copy_from_slice.new.self c.in-Ok.ensures.found (c.copy_from_slice.ensures.after ∙ c.text.ensures.text)
