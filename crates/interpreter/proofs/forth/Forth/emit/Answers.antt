use Rattle.std.proofs.Common.{refl, arith}
use Rattle.interpreter.specs.State.{with_run}
use Rattle.interpreter.specs.Representation.{core}
use Rattle.interpreter.proofs.Altering.{refused}
use Rattle.interpreter.proofs.Running.{ran_as, quiet}
use Rattle.interpreter.proofs.Short.{popping-one, popping-none}
use Rattle.interpreter.proofs.forth.Forth.emit.Goals as goal

pub returns-in-Ok-clause-serves : goal.returns-in-Ok-clause-serves
returns-in-Ok-clause-serves g c = λ levels x stands.
    ran_as g.T.Terminal _ c.args.self.now (λ r. popping-one (core c.args.self.now) (with_run r x) _ _ _ c.in-Ok.ensures.ok) (omega arith) refl (c.print.ensures.serves levels x stands)

pub returns-in-Err-clause-serves : goal.returns-in-Err-clause-serves
returns-in-Err-clause-serves g c = λ levels x stands.
    quiet g.D.SectorDevice g.T.Terminal g.met.D.SectorDevice.only_now c.args.self.now _ c.args.terminal.now stands refl
    (refused _ stands (core c.args.self.now) refl (λ r. popping-none (core c.args.self.now) (with_run r x) _ c.in-Err.ensures.empty) (omega arith))
