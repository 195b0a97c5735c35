use Rattle.std.proofs.Common.{sym, ◌∙◌, arith}
use Rattle.interpreter.specs.Representation.{core}
use Rattle.interpreter.proofs.Altering.{altered_as}
use Rattle.interpreter.proofs.Treating.{branch-yes, branch-no}
use Rattle.interpreter.proofs.forth.Forth.number_cell.Goals as goal

pub returns-then-is_compiling-clause-alters : goal.returns-then-is_compiling-clause-alters
returns-then-is_compiling-clause-alters g c = λ levels x stands.
    altered_as _ c.args.self.now (λ r. branch-yes _ (core c.args.self.now) _ _ (sym c.is_compiling.ensures ∙ c.if-is_compiling.true)) (omega arith) (c.add_literal.ensures.alters levels x stands)

pub returns-clause-alters : goal.returns-clause-alters
returns-clause-alters g c = λ levels x stands.
    altered_as _ c.args.self.now (λ r. branch-no _ (core c.args.self.now) _ _ (sym c.is_compiling.ensures ∙ c.if-is_compiling.false)) (omega arith) (c.push.ensures.alters levels x stands)
