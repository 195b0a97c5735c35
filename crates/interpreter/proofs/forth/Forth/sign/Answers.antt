use Rattle.std.proofs.Common.{◌≡◌, false, refl, ap, ◌∙◌, arith}
use Rattle.std.specs.Prelude.{nat_lt}
use Rattle.std.proofs.lemmas.Bool.{le-ltb}
use Rattle.cell_machine.specs.Frames.{branch}
use Rattle.cell_machine.specs.Value.{Did}
use Rattle.system_words.specs.declared.words.PictureWord.TheVariants.{Sign}
use Rattle.interpreter.specs.State.{with_run}
use Rattle.interpreter.specs.Pictures.{hold, on_picture}
use Rattle.interpreter.specs.Representation.{core}
use Rattle.interpreter.proofs.Altering.{refused, altered_as}
use Rattle.interpreter.proofs.Short.{popping-none, popping-one}
use Rattle.interpreter.proofs.forth.Forth.sign.Goals as goal

pub returns-in-Err-clause-alters : goal.returns-in-Err-clause-alters
returns-in-Err-clause-alters g c = λ levels x stands.
    refused _ stands (core c.args.self.now) refl (λ r. popping-none (core c.args.self.now) (with_run r x) _ c.in-Err.ensures.empty) (omega arith)

pub returns-else-cell-lt32768-clause-alters : goal.returns-else-cell-lt32768-clause-alters
returns-else-cell-lt32768-clause-alters g c = λ levels x stands.
    let old = core c.args.self.now in
    let mid = record old { stack = c.pop.new.self } in
    let negative : nat_lt c.in-Ok.cell 32768 ≡ false = le-ltb c.in-Ok.cell 32768 (omega (arith, c.if-cell-lt32768.false)) in
    altered_as (λ r. on_picture Sign old (with_run r x)) c.args.self.now
    (λ r. popping-one old (with_run r x) _ _ _ c.in-Ok.ensures.ok
    ∙ ap (λ b. branch b mid (λ c. Did c (with_run r x)) (λ c. hold 45 c (with_run r x) (λ c x. Did c x))) negative)
    (omega arith) (c.hold.ensures.alters levels x stands)
