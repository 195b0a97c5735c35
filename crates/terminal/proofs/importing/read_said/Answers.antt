use Rattle.std.proofs.Common.{◌∙◌, ap, arith, sym}
use Rattle.terminal.specs.Findings.{refusal, said, told}
use Rattle.terminal.proofs.TextLemmas.{read_whole}
use Rattle.terminal.proofs.importing.read_said.Goals as goal

pub returns-clause-said : goal.returns-clause-said
returns-clause-said g c =
    let is = c.as_slice.ensures.value in
    let whole = c.in_ok-file.ensures.whole (omega (arith, c.if-len-gt-MOST_BYTES.false)) in (
      c.in_ok-file.file.items,
      read_whole _ _ _ c.in_ok-file.ensures.given whole,
      sym (ap (λ l. refusal (told c.args.form c.args.room l)) is) ∙ c.in_ok-bytes.ensures.sound,
      c.in_ok-bytes.ensures.said ∙ ap (said c.args.form) is,
    )
