use Rattle.std.proofs.Common.{◌≡◌, true, false, refl, sym, ◌∙◌, arith}
use Rattle.std.specs.Prelude.{is_some}
use Rattle.interpreter.specs.State.{with_run}
use Rattle.interpreter.specs.Representation.{core}
use Rattle.interpreter.proofs.Altering.{refused, altered_as}
use Rattle.interpreter.proofs.Short.{popping-none, popping-one}
use Rattle.interpreter.proofs.Stepping.{open-no, open-yes}
use Rattle.interpreter.proofs.forth.Forth.literal.Goals as goal

pub returns-then-not-is_open-clause-alters : goal.returns-then-not-is_open-clause-alters
returns-then-not-is_open-clause-alters g c = λ levels x stands.
    let none : is_some x.definition ≡ false = sym (c.is_open.ensures _ stands.rests.meant) ∙ c.if-not-is_open.true in
    refused _ stands (core c.args.self.now) refl (λ r. open-no (core c.args.self.now) (with_run r x) _ none) (omega arith)

pub returns-in-Ok-clause-alters : goal.returns-in-Ok-clause-alters
returns-in-Ok-clause-alters g c = λ levels x stands.
    let some : is_some x.definition ≡ true = sym (c.is_open.ensures _ stands.rests.meant) ∙ c.if-not-is_open.false in
    altered_as _ c.args.self.now
    (λ r. open-yes (core c.args.self.now) (with_run r x) _ some ∙ popping-one (core c.args.self.now) (with_run r x) _ _ _ c.in-Ok.ensures.ok) (omega arith)
    (c.add_literal.ensures.alters levels x stands)

pub returns-in-Err-clause-alters : goal.returns-in-Err-clause-alters
returns-in-Err-clause-alters g c = λ levels x stands.
    let some : is_some x.definition ≡ true = sym (c.is_open.ensures _ stands.rests.meant) ∙ c.if-not-is_open.false in
    refused _ stands (core c.args.self.now) refl
    (λ r. open-yes (core c.args.self.now) (with_run r x) _ some ∙ popping-none (core c.args.self.now) (with_run r x) _ c.in-Err.ensures.empty) (omega arith)
