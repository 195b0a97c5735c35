use Rattle.std.proofs.Common.{inl, refl}
use Rattle.terminal.specs.declared.left.Left.TheVariants.{Looked, Copied}
use Rattle.terminal.proofs.Copied.{both_left, some_left}
use Rattle.terminal.proofs.files.make_image.Goals as goal

pub returns-in-Ok-clause-done : goal.returns-in-Ok-clause-done
returns-in-Ok-clause-done g c =
    let ended = c.make_into-target in
    both_left (λ a. Looked a) (λ a b. Copied a b) ended.result.0 ended.result.1 c.copied.result _ c.in-Ok.source ended.new.source _ c.in-Ok.ensures.opened c.copied.ensures ended.ensures.made

pub returns-in-Ok-clause-failed : goal.returns-in-Ok-clause-failed
returns-in-Ok-clause-failed g c =
    let ended = c.make_into-target in
    some_left (λ a. Looked a) (λ a b. Copied a b) ended.result.0 ended.result.1 c.copied.result _ _ c.in-Ok.source ended.new.source c.in-Ok.ensures.opened c.copied.ensures _
    ended.ensures.unmade ended.ensures.failed

pub returns-in-Err-clause-failed : goal.returns-in-Err-clause-failed
returns-in-Err-clause-failed g c = inl (inl (refl, c.in-Err.ensures.unopened))
