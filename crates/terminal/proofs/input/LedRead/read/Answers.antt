use Rattle.std.proofs.Common.{◌≡◌, ◌<◌, arith, length}
use Rattle.std.proofs.KnownBytes.{Keeps-refl, prepend_known-read}
use Rattle.std.proofs.lemmas.List.{drop_all}
use Rattle.sessions.specs.Streams.{left_of}
use Rattle.terminal.proofs.InputLemmas.{read_behind_none}
use Rattle.terminal.proofs.input.LedRead.read.Goals as goal

-- a byte of the text was given, where there is room for one
pub returns-then-self-len-clause-bytes : goal.returns-then-self-len-clause-bytes
returns-then-self-len-clause-bytes g c =
    let behind = left_of c.args.self.now.is_cut (g.R.Read.remaining c.args.self.now.reader) in
    let read = prepend_known-read _ behind _ _ _ ((c.give.result ≡ 0) × (0 < length c.give.new.out)) (Keeps-refl _) c.give.ensures.given
    (λ p. absurd (omega (arith, p.0, c.give.ensures.some (omega (arith, c.if-self-len.true)) p.1))) in
    (rw (c.give.ensures.is_cut, c.give.ensures.reader) read.0, rw (c.give.ensures.is_cut, c.give.ensures.reader) (λ zero some. read.1 (zero, some)))

pub returns-clause-bytes : goal.returns-clause-bytes
returns-clause-bytes g c =
    let none = drop_all c.args.self.now.next c.args.self.now.text.items (omega (arith, c.if-self-len.false)) in
    read_behind_none _ _ _ _ c.read_behind.result _ none (rw (c.read_behind.ensures.text, c.read_behind.ensures.next) none) c.read_behind.ensures.bytes
