use Rattle.std.proofs.Common.{rules}
use Rattle.test_devices.proofs.recorded.add_moment.Goals as goal

pub returns-clause-ok : goal.returns-clause-ok
returns-clause-ok c = record { copy = c.in_ok-copy.copy; same = c.in_ok-copy.ensures.disk; after = search rules }
