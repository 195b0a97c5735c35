use Rattle.std.proofs.Common.{◌≡◌, refl, ap, sym, subst, ◌∙◌, ◌+◌, arith, true, false, nat_le}
use Rattle.std.proofs.lemmas.Bool.{le-leb, lt-leb}
use Rattle.std.proofs.lemmas.Grind.{common_steps}
use Rattle.data_space.specs.Space.{with_cell}
use Rattle.cell_machine.specs.Value.{Did}
use Rattle.interpreter.specs.State.{with_run}
use Rattle.interpreter.specs.Lexicon.{language_of}
use Rattle.interpreter.specs.Naming.{allot}
use Rattle.interpreter.specs.Representation.{core, RepresentsIn}
use Rattle.interpreter.proofs.Altering.{refused, went, becoming}
use Rattle.interpreter.proofs.Short.{popping-none, popping-one, needing-no, needing-yes}
use Rattle.interpreter.proofs.forth.Forth.comma.Goals as goal

pub returns-in-Err-clause-alters : goal.returns-in-Err-clause-alters
returns-in-Err-clause-alters g c = λ levels x stands.
    refused _ stands (core c.args.self.now) refl (λ r. popping-none (core c.args.self.now) (with_run r x) _ c.in-Err.ensures.empty) (omega arith)

pub returns-then-here-clause-alters : goal.returns-then-here-clause-alters
returns-then-here-clause-alters g c = λ levels x stands.
    let at : c.here-here.result ≡ x.here = c.here-here.ensures.here _ stands.rests.meant in
    let full : nat_le (x.here + 2) 60928 ≡ false = lt-leb _ _ (omega (arith, at, c.if-here.true)) in
    refused _ stands (record (core c.args.self.now) { stack = c.pop.new.self }) refl
    (λ r. popping-one (core c.args.self.now) (with_run r x) _ _ _ c.in-Ok.ensures.ok ∙ needing-no _ _ _ _ _ full) (omega arith)

pub returns-clause-alters : goal.returns-clause-alters
returns-clause-alters g c = λ levels x stands.
    let old = core c.args.self.now in
    let at : x.here ≡ c.here-here.result = sym (c.here-here.ensures.here _ stands.rests.meant) in
    let room : nat_le (x.here + 2) 60928 ≡ true = le-leb _ _ (omega (arith, at, c.if-here.false)) in
    let wrote : c.set_cell.new.self ≡ with_cell old.space c.here-here.result c.in-Ok.cell = grind (arith, common_steps, c.set_cell.ensures.after, c.set_cell.ensures.within) in
    let becomes = c.set_here.ensures (language_of x) stands.rests.meant in
    went _ (allot 2 x)
    (subst (λ h. RepresentsIn c.set_here.new.self c.args.self.now.machine c.args.self.now.returns c.args.self.now.picture c.args.self.now.blocks c.args.self.now.loads levels (record x { here = h + 2 })) (sym at) (becoming _ stands becomes))
    (λ r. popping-one old (with_run r x) _ _ _ c.in-Ok.ensures.ok
    ∙ needing-yes _ _ _ _ _ room
    ∙ ap (λ s. Did (record old { stack = c.pop.new.self; space = s }) (with_run r (allot 2 x))) (ap (λ a. with_cell old.space a c.in-Ok.cell) at ∙ sym wrote))
    refl (omega arith)

pub set_here-requires : goal.set_here-requires
set_here-requires g c = let at = c.here-here.ensures.in_space c.requires.sound in record { from = omega (arith, at.from); most = omega (arith, c.if-here.false) }
