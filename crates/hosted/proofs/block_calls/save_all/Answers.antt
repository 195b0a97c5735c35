use Rattle.std.proofs.Common.{◌≤◌, refl, arith, length}
use Rattle.journal.specs.Store.{blocks_of, device_of, is_pending, pending_count}
use Rattle.hosted.proofs.Counts.{count_none, saves_at_most}
use Rattle.hosted.proofs.Stores.{commits_then, continues_then}
use Rattle.hosted.proofs.block_calls.save_all.Goals as goal

pub returns-in-Ok-clause-stops : goal.returns-in-Ok-clause-stops
returns-in-Ok-clause-stops g c = λ m stands.
    commits_then g.D.SectorDevice c.args.store.now c.spill_all.new.store c.commit.new.self (device_of c.commit.new.self) m c.args.blocks.now c.args.bytes.now
    refl c.spill_all.ensures.continues c.commit.ensures.continues c.spill_all.ensures.stops c.commit.ensures.stops
    stands c.requires.live (c.in-Ok.ensures.ok m stands)

pub returns-in-Ok-clause-continues : goal.returns-in-Ok-clause-continues
returns-in-Ok-clause-continues g c =
    continues_then g.D.SectorDevice c.args.store.now c.spill_all.new.store c.commit.new.self g.met.D.SectorDevice.widens
    c.spill_all.ensures.continues c.commit.ensures.continues

pub returns-in-Ok-clause-begins : goal.returns-in-Ok-clause-begins
returns-in-Ok-clause-begins g c =
    let none = count_none (is_pending c.args.store.now) (blocks_of c.args.store.now) c.requires.none in
    let few : pending_count c.spill_all.new.store ≤ length c.args.blocks.now = omega (arith, c.in-Ok.ensures.pending, none) in
    saves_at_most g.D.SectorDevice c.args.store.now c.spill_all.new.store c.commit.new.self (length c.args.blocks.now)
    c.spill_all.ensures.continues few c.spill_all.ensures.begins c.spill_all.ensures.reads c.commit.ensures.begins c.commit.ensures.reads
