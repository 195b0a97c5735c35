use Rattle.std.proofs.Common.{◌≡◌, sym}
use Rattle.journal.specs.Maps.{block_in}
use Rattle.stores.specs.Resting.{HasRested}
use Rattle.hosted.specs.Keeping.{HoldsOpen}
use Rattle.hosted.proofs.Numbers.{held_by, opens, where_kept}
use Rattle.hosted.proofs.promises.read_open_over.Goals as goal

pub read_kept-outcome-requires : goal.read_kept-outcome-requires
read_kept-outcome-requires g c = record { rested = λ keeps. c.requires.stays keeps c.in-Some.is_open (sym c.in-Some.ensures) }

pub returns-in-Some-clause-bytes : goal.returns-in-Some-clause-bytes
returns-in-Some-clause-bytes g c = λ saved keeps.
    where_kept c.read_kept-outcome.result c.told_kept.result.0 (c.read_kept-outcome.new.out ≡ block_in saved c.args.block) c.told_kept.ensures.number
    (c.read_kept-outcome.ensures.bytes saved (held_by g.D.SectorDevice c.args.device c.args.store.now saved c.in-Some.is_open keeps c.in-Some.ensures))

pub returns-in-Some-clause-stays : goal.returns-in-Some-clause-stays
returns-in-Some-clause-stays g c =
    opens (λ d is_open l. HasRested g.D.SectorDevice d is_open l) c.read_kept-outcome.result c.told_kept.result.0 c.told_kept.result.1 c.told_kept.new.store
    c.read_kept-outcome.new.listing c.told_kept.ensures.number c.told_kept.ensures.device c.told_kept.ensures.listing c.told_kept.ensures.open
    (c.read_kept-outcome.ensures.rests)

pub returns-in-Some-clause-done : goal.returns-in-Some-clause-done
returns-in-Some-clause-done g c = λ saved keeps.
    opens (λ d is_open l. HoldsOpen g.D.SectorDevice d is_open l saved) c.read_kept-outcome.result c.told_kept.result.0 c.told_kept.result.1 c.told_kept.new.store
    c.read_kept-outcome.new.listing c.told_kept.ensures.number c.told_kept.ensures.device c.told_kept.ensures.listing c.told_kept.ensures.open
    (c.read_kept-outcome.ensures.holds saved (held_by g.D.SectorDevice c.args.device c.args.store.now saved c.in-Some.is_open keeps c.in-Some.ensures))
