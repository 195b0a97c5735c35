use Rattle.std.proofs.Common.{◌∙◌, ap}
use Rattle.std.specs.Prelude.{nat_lt}
use Rattle.journal.specs.PageLayout.{bits_apart, gate_open}
use Rattle.journal.proofs.pages.layout.gate_is_open.Goals as goal

pub returns : goal.returns
unfolding gate_open
returns c = λ i. nat_lt
    ((c.bits_apart.ensures ∙ ap (bits_apart c.args.gate.now) c.gate_word.ensures) i)
    ((c.bits_apart-2.ensures ∙ ap (bits_apart c.args.gate.now) c.gate_word-2.ensures) i)
