use Rattle.std.proofs.Common.{length}
use Rattle.sessions.proofs.trace_text.+append_loads.Given as goal

abbrev pub decreases-append_loads : goal.decreases-append_loads
decreases-append_loads l = length l.loads.now
