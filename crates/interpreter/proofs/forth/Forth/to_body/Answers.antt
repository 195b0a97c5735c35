use Rattle.std.proofs.Common.{◌∙◌, refl, arith}
use Rattle.interpreter.specs.State.{with_run}
use Rattle.interpreter.specs.Representation.{core}
use Rattle.interpreter.proofs.Altering.{refused, altered_as}
use Rattle.interpreter.proofs.Finding.{has_field, no_field}
use Rattle.interpreter.proofs.Short.{popping-none, popping-one}
use Rattle.interpreter.proofs.forth.Forth.to_body.Goals as goal

pub returns-in-Err-clause-alters : goal.returns-in-Err-clause-alters
returns-in-Err-clause-alters g c = λ levels x stands.
    refused _ stands (core c.args.self.now) refl (λ r. popping-none (core c.args.self.now) (with_run r x) _ c.in-Err.ensures.empty) (omega arith)

pub returns-in-Some-clause-alters : goal.returns-in-Some-clause-alters
returns-in-Some-clause-alters g c = λ levels x stands.
    let old = core c.args.self.now in
    altered_as _ c.args.self.now
    (λ r. popping-one old (with_run r x) _ _ _ c.in-Ok.ensures.ok ∙ has_field _ c.in-Some.address (record old { stack = c.pop.new.self }) (with_run r x) (c.in-Some.ensures _ stands.rests.meant)) (omega arith)
    (c.push.ensures.alters levels x stands)

pub returns-in-None-clause-alters : goal.returns-in-None-clause-alters
returns-in-None-clause-alters g c = λ levels x stands.
    let old = core c.args.self.now in
    refused _ stands (record old { stack = c.pop.new.self }) refl
    (λ r. popping-one old (with_run r x) _ _ _ c.in-Ok.ensures.ok ∙ no_field _ (record old { stack = c.pop.new.self }) (with_run r x) (c.in-None.ensures _ stands.rests.meant)) (omega arith)
