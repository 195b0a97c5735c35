use Rattle.std.proofs.Common.{sym}
use Rattle.stores.specs.Resting.{HasRested}
use Rattle.hosted.specs.Keeping.{HoldsOpen}
use Rattle.hosted.specs.Saving.{with_blocks}
use Rattle.hosted.proofs.Numbers.{held_by, opens}
use Rattle.hosted.proofs.promises.save_open_over.Goals as goal

pub save_kept-outcome-requires : goal.save_kept-outcome-requires
save_kept-outcome-requires g c = record { rested = λ keeps. c.requires.stays keeps c.in-Some.is_open (sym c.in-Some.ensures) }

pub returns-in-Some-clause-stays : goal.returns-in-Some-clause-stays
returns-in-Some-clause-stays g c =
    opens (λ d is_open l. HasRested g.D.SectorDevice d is_open l) c.save_kept-outcome.result c.told_kept.result.0 c.told_kept.result.1 c.told_kept.new.store
    c.save_kept-outcome.new.listing c.told_kept.ensures.number c.told_kept.ensures.device c.told_kept.ensures.listing c.told_kept.ensures.open
    (c.save_kept-outcome.ensures.rests)

pub returns-in-Some-clause-done : goal.returns-in-Some-clause-done
returns-in-Some-clause-done g c = λ saved keeps.
    opens (λ d is_open l. HoldsOpen g.D.SectorDevice d is_open l (with_blocks saved c.args.blocks.now c.args.bytes.now)) c.save_kept-outcome.result c.told_kept.result.0 c.told_kept.result.1 c.told_kept.new.store
    c.save_kept-outcome.new.listing c.told_kept.ensures.number c.told_kept.ensures.device c.told_kept.ensures.listing c.told_kept.ensures.open
    (c.save_kept-outcome.ensures.saved saved (held_by g.D.SectorDevice c.args.device c.args.store.now saved c.in-Some.is_open keeps c.in-Some.ensures))
