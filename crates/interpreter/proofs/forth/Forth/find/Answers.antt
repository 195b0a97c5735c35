use Rattle.std.proofs.Common.{◌≡◌, ◌∙◌, suc, ◌+◌, Some, None, true, false, ◌∷◌, refl, sym, ap, arith}
use Rattle.std.specs.Prelude.{nat_le}
use Rattle.std.proofs.lemmas.Bool.{le-leb, lt-leb}
use Rattle.dictionary.specs.Words.{find}
use Rattle.data_space.specs.Space.{byte_at, bytes_at}
use Rattle.interpreter.specs.State.{with_run, pushing}
use Rattle.interpreter.specs.Streams.{known}
use Rattle.interpreter.specs.Naming.{found}
use Rattle.interpreter.specs.Representation.{core}
use Rattle.interpreter.proofs.Altering.{refused, altered_as}
use Rattle.interpreter.proofs.Finding.{counted}
use Rattle.interpreter.proofs.Short.{popping-none, popping-one, needing-no, needing-yes}
use Rattle.interpreter.proofs.forth.Forth.find.Goals as goal

pub returns-in-Err-clause-alters : goal.returns-in-Err-clause-alters
returns-in-Err-clause-alters g c = λ levels x stands.
    refused _ stands (core c.args.self.now) refl (λ r. popping-none (core c.args.self.now) (with_run r x) _ c.in-Err.ensures.empty) (omega arith)

pub returns-then-end-gt65536-clause-alters : goal.returns-then-end-gt65536-clause-alters
returns-then-end-gt65536-clause-alters g c = λ levels x stands.
    let old = core c.args.self.now in
    let far : nat_le (c.in-Ok.s + suc (byte_at old.space c.in-Ok.s)) 65536 ≡ false = lt-leb _ _ (omega (arith, c.byte.ensures.value, c.if-end-gt65536.true)) in
    refused _ stands (record old { stack = c.pop.new.self }) refl
    (λ r. popping-one old (with_run r x) _ _ _ c.in-Ok.ensures.ok ∙ needing-no _ _ _ _ _ far) (omega arith)

pub returns-in-Some-clause-alters : goal.returns-in-Some-clause-alters
returns-in-Some-clause-alters g c = λ levels x stands.
    let old = core c.args.self.now in
    let near : nat_le (c.in-Ok.s + suc (byte_at old.space c.in-Ok.s)) 65536 ≡ true = le-leb _ _ (omega (arith, c.byte.ensures.value, c.if-end-gt65536.false)) in
    let name = counted c.bytes.result.now old.space c.in-Ok.s c.from-start.result c.from.result (byte_at old.space c.in-Ok.s) c.from-start.ensures (c.from.ensures ∙ c.byte.ensures.value) c.bytes.ensures.value in
    let here : known x (bytes_at old.space (suc c.in-Ok.s) (byte_at old.space c.in-Ok.s)) ≡ Some c.in-Some.token = ap (λ n. find x.words x.first n) (sym name) ∙ sym (c.in-Some.ensures.found _ stands.rests.meant) in
    altered_as _ c.args.self.now
    (λ r. popping-one old (with_run r x) _ _ _ c.in-Ok.ensures.ok ∙ needing-yes _ _ _ _ _ near
    ∙ ap (λ o. found o c.in-Ok.s (record old { stack = c.pop.new.self }) (with_run r x)) here
    ∙ ap (λ m. pushing m (record old { stack = c.in-Some.token ∷ c.pop.new.self }) (with_run r x)) (sym (c.mark.ensures _ stands.rests.meant (c.in-Some.ensures.word _ stands.rests.meant)))) (omega arith)
    (c.push_two.ensures.alters levels x stands)

pub returns-in-None-clause-alters : goal.returns-in-None-clause-alters
returns-in-None-clause-alters g c = λ levels x stands.
    let old = core c.args.self.now in
    let near : nat_le (c.in-Ok.s + suc (byte_at old.space c.in-Ok.s)) 65536 ≡ true = le-leb _ _ (omega (arith, c.byte.ensures.value, c.if-end-gt65536.false)) in
    let name = counted c.bytes.result.now old.space c.in-Ok.s c.from-start.result c.from.result (byte_at old.space c.in-Ok.s) c.from-start.ensures (c.from.ensures ∙ c.byte.ensures.value) c.bytes.ensures.value in
    let here : known x (bytes_at old.space (suc c.in-Ok.s) (byte_at old.space c.in-Ok.s)) ≡ None = ap (λ n. find x.words x.first n) (sym name) ∙ sym (c.in-None.ensures.found _ stands.rests.meant) in
    altered_as _ c.args.self.now
    (λ r. popping-one old (with_run r x) _ _ _ c.in-Ok.ensures.ok ∙ needing-yes _ _ _ _ _ near
    ∙ ap (λ o. found o c.in-Ok.s (record old { stack = c.pop.new.self }) (with_run r x)) here) (omega arith)
    (c.push_two-in-None.ensures.alters levels x stands)
