use Rattle.std.proofs.Common.{◌∙◌, ◌++◌, ap, arith}
use Rattle.terminal.specs.Scripts.{lined}
use Rattle.terminal.proofs.TextLemmas.{read_whole}
use Rattle.terminal.proofs.scripts.add_text.Goals as goal

pub returns-in-Ok-clause-added : goal.returns-in-Ok-clause-added
returns-in-Ok-clause-added g c =
    let whole = c.in_ok-bytes.ensures.whole (omega (arith, c.if-len-gt-MOST_BYTES.false)) in (
      c.in_ok-bytes.bytes.items,
      read_whole _ _ _ c.in_ok-bytes.ensures.given whole,
      c.in-Ok.ensures ∙ ap (λ l. c.args.text.now.items ++ lined l) c.as_slice.ensures.value,
    )
