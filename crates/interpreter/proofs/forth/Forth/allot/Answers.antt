use Rattle.std.proofs.Common.{◌≡◌, ◌∙◌, Bool, true, false, refl, sym, ap, arith}
use Rattle.std.specs.Prelude.{nat_le, ◌&&◌}
use Rattle.std.proofs.lemmas.Bool.{le-leb, lt-leb}
use Rattle.cell_machine.specs.Value.{Did}
use Rattle.interpreter.specs.State.{with_run}
use Rattle.interpreter.specs.Lexicon.{language_of}
use Rattle.interpreter.specs.Naming.{here_moved}
use Rattle.interpreter.specs.Representation.{core}
use Rattle.interpreter.proofs.Altering.{refused, went, becoming}
use Rattle.interpreter.proofs.Short.{popping-none, popping-one, needing-no, needing-yes}
use Rattle.interpreter.proofs.forth.Forth.allot.Goals as goal

and-false : (a b : Bool) → b ≡ false → (a && b) ≡ false
and-false true b is = is
and-false false b is = refl

and-true : (a b : Bool) → a ≡ true → b ≡ true → (a && b) ≡ true
and-true a b is is' = ap (λ a. a && b) is ∙ is'

pub returns-in-Err-clause-alters : goal.returns-in-Err-clause-alters
returns-in-Err-clause-alters g c = λ levels x stands.
    refused _ stands (core c.args.self.now) refl (λ r. popping-none (core c.args.self.now) (with_run r x) _ c.in-Err.ensures.empty) (omega arith)

pub returns-then-here-from-clause-alters : goal.returns-then-here-from-clause-alters
returns-then-here-from-clause-alters g c = λ levels x stands.
    let old = core c.args.self.now in
    let at : c.moved_here-here.result ≡ here_moved x.here c.in-Ok.n = c.moved_here-here.ensures ∙ ap (λ h. here_moved h c.in-Ok.n) (c.here.ensures.here _ stands.rests.meant) in
    let low : nat_le 1280 (here_moved x.here c.in-Ok.n) ≡ false = lt-leb _ _ (omega (arith, at, c.if-here-from.true)) in
    refused _ stands (record old { stack = c.pop.new.self }) refl
    (λ r. popping-one old (with_run r x) _ _ _ c.in-Ok.ensures.ok
    ∙ needing-no _ _ _ _ _ (ap (λ b. b && nat_le (here_moved x.here c.in-Ok.n) 60928) low)) (omega arith)

pub returns-then-here-from-2-clause-alters : goal.returns-then-here-from-2-clause-alters
returns-then-here-from-2-clause-alters g c = λ levels x stands.
    let old = core c.args.self.now in
    let at : c.moved_here-here.result ≡ here_moved x.here c.in-Ok.n = c.moved_here-here.ensures ∙ ap (λ h. here_moved h c.in-Ok.n) (c.here.ensures.here _ stands.rests.meant) in
    let high : nat_le (here_moved x.here c.in-Ok.n) 60928 ≡ false = lt-leb _ _ (omega (arith, at, c.if-here-from-2.true)) in
    refused _ stands (record old { stack = c.pop.new.self }) refl
    (λ r. popping-one old (with_run r x) _ _ _ c.in-Ok.ensures.ok
    ∙ needing-no _ _ _ _ _ (and-false (nat_le 1280 (here_moved x.here c.in-Ok.n)) _ high)) (omega arith)

pub returns-clause-alters : goal.returns-clause-alters
returns-clause-alters g c = λ levels x stands.
    let old = core c.args.self.now in
    let at : c.moved_here-here.result ≡ here_moved x.here c.in-Ok.n = c.moved_here-here.ensures ∙ ap (λ h. here_moved h c.in-Ok.n) (c.here.ensures.here _ stands.rests.meant) in
    let low : nat_le 1280 (here_moved x.here c.in-Ok.n) ≡ true = le-leb _ _ (omega (arith, at, c.if-here-from.false)) in
    let high : nat_le (here_moved x.here c.in-Ok.n) 60928 ≡ true = le-leb _ _ (omega (arith, at, c.if-here-from-2.false)) in
    let becomes = c.set_here.ensures (language_of x) stands.rests.meant in
    went _ (record x { here = c.moved_here-here.result }) (becoming _ stands becomes)
    (λ r. popping-one old (with_run r x) _ _ _ c.in-Ok.ensures.ok
    ∙ needing-yes _ _ _ _ _ (and-true _ _ low high)
    ∙ ap (λ h. Did (record old { stack = c.pop.new.self }) (with_run r (record x { here = h }))) (sym at)) refl (omega arith)
