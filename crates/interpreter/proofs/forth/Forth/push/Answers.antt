use Rattle.std.proofs.Common.{refl, arith, rules}
use Rattle.interpreter.specs.State.{with_run}
use Rattle.interpreter.specs.Representation.{core}
use Rattle.interpreter.proofs.Altering.{refused}
use Rattle.interpreter.proofs.Short.{pushing-full}
use Rattle.interpreter.proofs.forth.Forth.push.Goals as goal

pub returns-in-Err-clause-alters : goal.returns-in-Err-clause-alters
returns-in-Err-clause-alters g c = λ levels x stands.
    refused _ stands (core c.args.self.now) refl (λ r. pushing-full c.args.cell (core c.args.self.now) (with_run r x) (λ h. search (rules, h, c.in-Err.ensures.room))) (omega arith)
