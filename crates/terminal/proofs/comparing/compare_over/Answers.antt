use Rattle.std.proofs.Common.{◌≡◌, ◌⊎◌, None, Option, Some, subst, sym}
use Rattle.std.specs.Prelude.{MatchResult, option_map}
use Rattle.recovery.specs.declared.fault.OpenFault.{OpenFault}
use Rattle.terminal.specs.Compared.{refusal_on}
use Rattle.terminal.specs.Failures.{of_image}
use Rattle.terminal.specs.declared.failure.Failure.TheVariants.{CannotWrite, Device, NoMemory}
use Rattle.terminal.proofs.AllRead.{first_passes, first_refuses}
use Rattle.terminal.proofs.comparing.compare_over.Goals as goal

pub returns-in-Ok-clause-exact : goal.returns-in-Ok-clause-exact
returns-in-Ok-clause-exact g c = λ keeps keeps_new.
    let D = g.D.SectorDevice in
    subst (λ (r : Option OpenFault). MatchResult c.compare_with.result (λ x. r ≡ None)
    (λ e. (e ≡ NoMemory) ⊎ (e ≡ Device) ⊎ (e ≡ CannotWrite) ⊎ (Some e ≡ option_map of_image r)))
    (sym (first_passes (refusal_on D c.args.old.now) (refusal_on D c.args.new.now) (c.in-Ok.ensures.exact keeps)))
    (c.compare_with.ensures.exact keeps_new)

pub returns-in-Err-clause-exact : goal.returns-in-Err-clause-exact
returns-in-Err-clause-exact g c = λ keeps keeps_new.
    let D = g.D.SectorDevice in
    first_refuses c.in-Err.failure (refusal_on D c.args.old.now) (refusal_on D c.args.new.now) (c.in-Err.ensures.exact keeps)

pub returns-in-Ok-clause-unasked : goal.returns-in-Ok-clause-unasked
returns-in-Ok-clause-unasked g c = λ keeps is. absurd (is (c.in-Ok.ensures.exact keeps))
