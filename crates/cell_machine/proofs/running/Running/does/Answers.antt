use Rattle.std.proofs.Common.{refl, arith}
use Rattle.std.proofs.lemmas.Result.{err_from_is_err_and}
use Rattle.cell_machine.proofs.Hops.{in_code}
use Rattle.cell_machine.proofs.Paces.{does_asks, does_none}
use Rattle.cell_machine.proofs.running.Running.does.Goals as goal

pub overflow_add-part : goal.overflow_add-part
overflow_add-part c =
    let h = in_code _ _ _ c.requires.running.0 in
    omega (arith, h)

pub overflow_cast-part : goal.overflow_cast-part
overflow_cast-part c =
    let h = in_code _ _ _ c.requires.running.0 in
    omega (arith, h)

pub returns-in_err-self-clause-ends : goal.returns-in_err-self-clause-ends
returns-in_err-self-clause-ends c =
    let p = err_from_is_err_and c.from_residual.result c.from_residual.ensures.1 in
    let k = c.in_err-self.ensures in
    rw (p.1, p.2, k.fault) (does_none _ _ _ _ _ _ _ _ _ _ _ _ _ c.requires.running.0 c.requires.here refl k.none refl, refl)

pub returns-clause-ends : goal.returns-clause-ends
returns-clause-ends c =
    (does_asks _ _ _ _ _ _ _ _ _ _ _ _ c.requires.running.0 c.requires.here refl c.in_ok-self.ensures.value c.in_ok-self.ensures.below refl, refl)
