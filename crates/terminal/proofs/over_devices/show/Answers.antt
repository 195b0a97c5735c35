use Rattle.std.proofs.lemmas.Result.{IfErr-weaker}
use Rattle.terminal.proofs.over_devices.show.Goals as goal

pub returns-in-List-clause-shown : goal.returns-in-List-clause-shown
returns-in-List-clause-shown g c = rw c.in-List.is (c.show_through.ensures.shows)

pub returns-in-List-clause-failed : goal.returns-in-List-clause-failed
returns-in-List-clause-failed g c = rw c.in-List.is (c.show_through.ensures.failed)

pub returns-in-List-clause-unprinted : goal.returns-in-List-clause-unprinted
returns-in-List-clause-unprinted g c = rw c.in-List.is (c.show_through.ensures.unprinted)

pub returns-in-Export-clause-shown : goal.returns-in-Export-clause-shown
returns-in-Export-clause-shown g c = rw c.in-Export.is (c.show_blocks_over.ensures.shows)

pub returns-in-Export-clause-failed : goal.returns-in-Export-clause-failed
returns-in-Export-clause-failed g c = rw c.in-Export.is (c.show_blocks_over.ensures.failed)

pub returns-in-Export-clause-unprinted : goal.returns-in-Export-clause-unprinted
returns-in-Export-clause-unprinted g c = rw c.in-Export.is (IfErr-weaker c.show_blocks_over.result _ _ (λ e same none. same none.0 none.1) c.show_blocks_over.ensures.unprinted)
