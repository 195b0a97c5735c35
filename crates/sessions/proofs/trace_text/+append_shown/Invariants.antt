use Rattle.std.proofs.Common.{length}
use Rattle.sessions.proofs.trace_text.+append_shown.Given as goal

abbrev pub decreases-append_shown : goal.decreases-append_shown
decreases-append_shown l = length l.bytes.now
