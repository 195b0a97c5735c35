use Rattle.std.proofs.Common.{◌≡◌, ◌∙◌, true, false, sym}
use Rattle.recovery.specs.Label.{is_size}
use Rattle.stores.proofs.Resting.{newer_goes_on, newer_rested, older_goes_on, older_rested}
use Rattle.stores.proofs.resuming.resume.Goals as goal

pub resume-requires-clause-rested : goal.resume-requires-clause-rested
resume-requires-clause-rested g c = λ keeps.
    let is : is_size (g.D.SectorDevice.sector_count c.args.device) ≡ true = sym c.is_older.ensures ∙ c.if-is_older.true in
    older_rested g.D.SectorDevice c.args.device c.args.is_open c.args.listing.now c.args.blocks c.requires.count is (c.requires.rested keeps)

pub resume-requires-2-clause-rested : goal.resume-requires-2-clause-rested
resume-requires-2-clause-rested g c = λ keeps.
    let isnt : is_size (g.D.SectorDevice.sector_count c.args.device) ≡ false = sym c.is_older.ensures ∙ c.if-is_older.false in
    newer_rested g.D.SectorDevice c.args.device c.args.is_open c.args.listing.now c.args.blocks c.requires.count isnt (c.requires.rested keeps)

pub returns-then-is_older-clause-state : goal.returns-then-is_older-clause-state
returns-then-is_older-clause-state g c =
    older_goes_on g.D.SectorDevice c.args.device c.args.is_open c.args.listing.now c.args.blocks c.requires.count
    (sym c.is_older.ensures ∙ c.if-is_older.true) c.resume.result c.resume.ensures.state

pub returns-clause-state : goal.returns-clause-state
returns-clause-state g c =
    newer_goes_on g.D.SectorDevice c.args.device c.args.is_open c.args.listing.now c.args.blocks c.requires.count
    (sym c.is_older.ensures ∙ c.if-is_older.false) c.resume-2.result c.resume-2.ensures.state
