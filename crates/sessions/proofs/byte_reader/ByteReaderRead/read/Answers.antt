use Rattle.std.proofs.Common.{◌≡◌, ◌<◌, length}
use Rattle.std.proofs.KnownBytes.{prepend_known-read}
use Rattle.sessions.proofs.Held.{held-none}
use Rattle.sessions.proofs.byte_reader.ByteReaderRead.read.Goals as goal

pub returns-in-Ok-clause-bytes : goal.returns-in-Ok-clause-bytes
returns-in-Ok-clause-bytes g c =
    let left = c.give.new.self in
    let read = prepend_known-read _ (g.R.Read.remaining left.reader) _ _ _ ((c.give.result ≡ 0) × (0 < length c.give.new.out))
    (rw c.give.ensures.reader c.in-Ok.ensures.bytes) c.give.ensures.given
    (λ p. (
      held-none left.bytes left.next left.end (c.give.ensures.still_none p.0 p.1),
      rw c.give.ensures.reader (c.in-Ok.ensures.at_end (c.give.ensures.none p.0 p.1)),
    )) in
    (read.0, λ zero some. read.1 (zero, some))
