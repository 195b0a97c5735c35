use Rattle.std.proofs.Common.{◌≡◌}
use Rattle.terminal.specs.Done.{MakesBlank}
use Rattle.terminal.specs.Failed.{MakingFails, NewerMakingFails}
use Rattle.terminal.specs.Layout3.{MakesNewer}
use Rattle.terminal.proofs.Making.{given_done, given_failed, newer_size, older_size}
use Rattle.terminal.proofs.over_devices.make_by.Goals as goal

pub returns-in-Two-clause-made : goal.returns-in-Two-clause-made
returns-in-Two-clause-made g c = rw c.in-Two.is (given_done _ (MakesBlank g.D.SectorDevice c.args.blocks) c.args.device c.make_over.result c.given_back.result.0 c.given_back.result.1 c.given_back.ensures.made c.given_back.ensures.failed c.make_over.ensures.made)

pub returns-in-Two-clause-failed : goal.returns-in-Two-clause-failed
returns-in-Two-clause-failed g c = rw c.in-Two.is (given_failed _ (MakingFails g.D.SectorDevice c.args.blocks) c.args.device c.make_over.result c.given_back.result.0 c.given_back.result.1 c.given_back.ensures.unmade c.given_back.ensures.well c.given_back.ensures.failed (c.make_over.ensures.failed (older_size c.args.blocks _ c.requires.many c.requires.few (rw c.in-Two.is at c.requires.size))))

pub returns-in-Two-clause-well : goal.returns-in-Two-clause-well
returns-in-Two-clause-well g c = given_done _ (λ d e. g.D.SectorDevice.failures e ≡ g.D.SectorDevice.failures d) c.args.device c.make_over.result c.given_back.result.0 c.given_back.result.1 c.given_back.ensures.made c.given_back.ensures.failed c.make_over.ensures.well

pub returns-in-Three-clause-made : goal.returns-in-Three-clause-made
returns-in-Three-clause-made g c = rw c.in-Three.is (given_done _ (MakesNewer g.D.SectorDevice c.args.blocks) c.args.device c.make_newer_over.result c.given_back-in-Three.result.0 c.given_back-in-Three.result.1 c.given_back-in-Three.ensures.made c.given_back-in-Three.ensures.failed c.make_newer_over.ensures.made)

pub returns-in-Three-clause-failed : goal.returns-in-Three-clause-failed
returns-in-Three-clause-failed g c = rw c.in-Three.is (given_failed _ (NewerMakingFails g.D.SectorDevice c.args.blocks) c.args.device c.make_newer_over.result c.given_back-in-Three.result.0 c.given_back-in-Three.result.1 c.given_back-in-Three.ensures.unmade c.given_back-in-Three.ensures.well c.given_back-in-Three.ensures.failed (c.make_newer_over.ensures.failed (newer_size c.args.blocks _ c.requires.many c.requires.few (rw c.in-Three.is at c.requires.size))))

pub returns-in-Three-clause-well : goal.returns-in-Three-clause-well
returns-in-Three-clause-well g c = given_done _ (λ d e. g.D.SectorDevice.failures e ≡ g.D.SectorDevice.failures d) c.args.device c.make_newer_over.result c.given_back-in-Three.result.0 c.given_back-in-Three.result.1 c.given_back-in-Three.ensures.made c.given_back-in-Three.ensures.failed c.make_newer_over.ensures.well
