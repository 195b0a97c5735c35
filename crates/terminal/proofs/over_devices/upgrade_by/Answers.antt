use Rattle.terminal.proofs.UpgradeLemmas.{sized_newer, sized_older}
use Rattle.terminal.proofs.over_devices.upgrade_by.Goals as goal

pub returns-in-Two-clause-made : goal.returns-in-Two-clause-made
returns-in-Two-clause-made g c = rw c.in-Two.is (let sized = sized_older (g.D.SectorDevice.sector_count c.args.old.now) _ (rw c.in-Two.is at c.requires.size) in c.upgrade_older.ensures.made sized.0 sized.1 sized.2)

pub returns-in-Two-clause-failed : goal.returns-in-Two-clause-failed
returns-in-Two-clause-failed g c = rw c.in-Two.is (let sized = sized_older (g.D.SectorDevice.sector_count c.args.old.now) _ (rw c.in-Two.is at c.requires.size) in c.upgrade_older.ensures.failed sized.0 sized.1 sized.2)

pub returns-in-Two-clause-well : goal.returns-in-Two-clause-well
returns-in-Two-clause-well g c = c.upgrade_older.ensures.well

pub returns-in-Three-clause-made : goal.returns-in-Three-clause-made
returns-in-Three-clause-made g c = rw c.in-Three.is (c.upgrade_over.ensures.upgrades)

pub returns-in-Three-clause-failed : goal.returns-in-Three-clause-failed
returns-in-Three-clause-failed g c = rw c.in-Three.is (c.upgrade_over.ensures.failed (sized_newer (g.D.SectorDevice.sector_count c.args.old.now) _ (rw c.in-Three.is at c.requires.size)))

pub returns-in-Three-clause-well : goal.returns-in-Three-clause-well
returns-in-Three-clause-well g c = c.upgrade_over.ensures.well
