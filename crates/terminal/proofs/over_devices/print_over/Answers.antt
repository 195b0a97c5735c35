use Rattle.std.proofs.lemmas.Result.{IfErr-weaker}
use Rattle.terminal.proofs.over_devices.print_over.Goals as goal

pub returns-in-List-clause-printed : goal.returns-in-List-clause-printed
returns-in-List-clause-printed g c = rw c.in-List.is (c.list_over.ensures.listed)

pub returns-in-List-clause-failed : goal.returns-in-List-clause-failed
returns-in-List-clause-failed g c = rw c.in-List.is (c.list_over.ensures.failed)

pub returns-in-List-clause-unprinted : goal.returns-in-List-clause-unprinted
returns-in-List-clause-unprinted g c = rw c.in-List.is (c.list_over.ensures.unprinted)

pub returns-in-Export-clause-printed : goal.returns-in-Export-clause-printed
returns-in-Export-clause-printed g c = rw c.in-Export.is (c.export_over.ensures.exported)

pub returns-in-Export-clause-failed : goal.returns-in-Export-clause-failed
returns-in-Export-clause-failed g c = rw c.in-Export.is (c.export_over.ensures.failed)

pub returns-in-Export-clause-unprinted : goal.returns-in-Export-clause-unprinted
returns-in-Export-clause-unprinted g c = rw c.in-Export.is (IfErr-weaker c.export_over.result.1 _ _ (λ e same none. same none.0 none.1) c.export_over.ensures.unprinted)
