use Rattle.std.proofs.Common.{◌≡◌, refl}
use Rattle.std.proofs.lemmas.Result.{on_ok_weaker}
use Rattle.terminal.specs.declared.deeds.Making.TheVariants.{Copy, Salvage}
use Rattle.terminal.proofs.Ended.{just_said}
use Rattle.terminal.proofs.over_devices.make_of.Goals as goal

pub returns-in-Copy-clause-made : goal.returns-in-Copy-clause-made
returns-in-Copy-clause-made g c = rw c.in-Copy.is (c.copy_over.ensures.copies)

pub returns-in-Copy-clause-failed : goal.returns-in-Copy-clause-failed
returns-in-Copy-clause-failed g c = rw c.in-Copy.is (c.copy_over.ensures.failed)

pub returns-in-Copy-clause-unprinted : goal.returns-in-Copy-clause-unprinted
returns-in-Copy-clause-unprinted g c = just_said _ c.copy_over.result refl

pub returns-in-Copy-clause-silent : goal.returns-in-Copy-clause-silent
returns-in-Copy-clause-silent g c = rw c.in-Copy.is (λ is. refl)

pub returns-in-Copy-clause-well : goal.returns-in-Copy-clause-well
returns-in-Copy-clause-well g c = on_ok_weaker c.copy_over.result (λ well. well.1) c.copy_over.ensures.well

pub returns-in-Copy-clause-old_well : goal.returns-in-Copy-clause-old_well
returns-in-Copy-clause-old_well g c = rw c.in-Copy.is (λ is. on_ok_weaker c.copy_over.result (λ well. well.0) c.copy_over.ensures.well)

pub returns-in-Salvage-clause-made : goal.returns-in-Salvage-clause-made
returns-in-Salvage-clause-made g c = rw c.in-Salvage.is (c.salvage_through.ensures.salvages)

pub returns-in-Salvage-clause-failed : goal.returns-in-Salvage-clause-failed
returns-in-Salvage-clause-failed g c = rw c.in-Salvage.is (c.salvage_through.ensures.failed)

pub returns-in-Salvage-clause-unprinted : goal.returns-in-Salvage-clause-unprinted
returns-in-Salvage-clause-unprinted g c = c.salvage_through.ensures.untold

pub returns-in-Salvage-clause-silent : goal.returns-in-Salvage-clause-silent
returns-in-Salvage-clause-silent g c = rw c.in-Salvage.is (λ is. absurd (let no : Salvage ≡ Copy = is in cc))

pub returns-in-Salvage-clause-well : goal.returns-in-Salvage-clause-well
returns-in-Salvage-clause-well g c = c.salvage_through.ensures.new_well

pub returns-in-Salvage-clause-old_well : goal.returns-in-Salvage-clause-old_well
returns-in-Salvage-clause-old_well g c = rw c.in-Salvage.is (λ is. absurd (let no : Salvage ≡ Copy = is in cc))
