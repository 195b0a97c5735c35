use Rattle.std.proofs.Common.{◌∙◌, ◌++◌, ap, drop}
use Rattle.std.specs.Io.KnownBytes.{prepend_known}
use Rattle.sessions.specs.Streams.{left_of}
use Rattle.terminal.proofs.InputLemmas.{prepend_known-then}
use Rattle.terminal.proofs.input.LedInput.begin_with.Goals as goal

pub returns-clause-ok : goal.returns-clause-ok
returns-clause-ok g c =
    let old = c.args.self.now in
    let behind = left_of old.is_cut (g.R.Read.remaining old.reader) in
    ap (λ l. prepend_known l behind) (c.in_ok-extend_from_slice.ensures.items ∙ ap (λ l. c.args.text.items ++ l) c.text_left.ensures)
    ∙ prepend_known-then c.args.text.items (drop old.next old.text.items) behind
