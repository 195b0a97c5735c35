use Rattle.std.proofs.Common.{◌≡◌, true, false, Ok, refl, sym, ap, ◌∙◌, arith}
use Rattle.std.specs.Prelude.{not}
use Rattle.cell_machine.specs.Value.{and_then}
use Rattle.dictionary.specs.System.{compile_only_token}
use Rattle.interpreter.specs.Law.{left}
use Rattle.interpreter.specs.Representation.{core}
use Rattle.interpreter.proofs.Altering.{refused}
use Rattle.interpreter.proofs.Entering.{not_entered}
use Rattle.interpreter.proofs.Short.{needing-no, needing-yes}
use Rattle.interpreter.proofs.Treating.{branch-yes, branch-no, entered_as}
use Rattle.interpreter.proofs.forth.Forth.found.Goals as goal

pub returns-then-is_compiling-clause-entered : goal.returns-then-is_compiling-clause-entered
returns-then-is_compiling-clause-entered g c = λ n levels x stands.
    entered_as n _ c.found_in_definition.result c.args.self.now
    (λ r. ap (λ o. and_then o (λ c x. left n levels c x)) (branch-yes _ (core c.args.self.now) _ _ (sym c.is_compiling.ensures ∙ c.if-is_compiling.true))) (omega arith)
    (c.found_in_definition.ensures.entered n levels x stands)

pub returns-then-is_compile_only-clause-entered : goal.returns-then-is_compile_only-clause-entered
returns-then-is_compile_only-clause-entered g c = λ n levels x stands.
    let only : not (compile_only_token c.args.token) ≡ false = ap not (sym c.is_compile_only.ensures ∙ c.if-is_compile_only.true) in
    not_entered n
    (refused {old = c.args.self.now} _ stands (core c.args.self.now) refl
    (λ r. ap (λ o. and_then o (λ c x. left n levels c x)) (branch-no _ (core c.args.self.now) _ _ (sym c.is_compiling.ensures ∙ c.if-is_compiling.false) ∙ needing-no _ _ _ _ _ only)) (omega arith))

pub returns-clause-entered : goal.returns-clause-entered
returns-clause-entered g c = λ n levels x stands.
    let any : not (compile_only_token c.args.token) ≡ true = ap not (sym c.is_compile_only.ensures ∙ c.if-is_compile_only.false) in
    entered_as n _ (Ok tt) c.args.self.now
    (λ r. ap (λ o. and_then o (λ c x. left n levels c x)) (branch-no _ (core c.args.self.now) _ _ (sym c.is_compiling.ensures ∙ c.if-is_compiling.false) ∙ needing-yes _ _ _ _ _ any)) (omega arith)
    (c.run_next.ensures.entered n levels x stands)
