use Rattle.std.proofs.Common.{◌≡◌, ◌≢◌, ◌+◌, ◌≤◌, List, ◌∷◌, drop, sym, ap, subst, arith, rules, ◌∙◌, refl}
use Rattle.compiler.specs.declared.opens.Open.{Open}
use Rattle.compiler.specs.declared.opens.Open.TheVariants as open_at
use Rattle.compiler.specs.Definition.{add_else}
use Rattle.compiler.specs.Promise.{Added}
use Rattle.compiler.proofs.Opening.{adds_else}
use Rattle.compiler.proofs.Spots.{if_spot}
use Rattle.compiler.proofs.definition.Compiler.add_else.Goals as goal

pub overflow_add-test : goal.overflow_add-test
overflow_add-test c =
    let rest = c.in-Some-If.ensures.0 in
    let s = if_spot c.args.self.now c.args.code.now c.in-Some-If.test rest c.requires (search rules) (search rules) (c.in-Some-If.ensures.1 ∙ ap (λ o. o ∷ rest) c.in-Some-If.field-0-is) in
    omega arith

pub set-requires-in-Some-If : goal.set-requires-in-Some-If
set-requires-in-Some-If c =
    let rest = c.in-Some-If.ensures.0 in
    let s = if_spot c.args.self.now c.args.code.now c.in-Some-If.test rest c.requires (search rules) (search rules) (c.in-Some-If.ensures.1 ∙ ap (λ o. o ∷ rest) c.in-Some-If.field-0-is) in
    omega arith

pub returns-in_ok-room-in-Some-If-clause-added : goal.returns-in_ok-room-in-Some-If-clause-added
returns-in_ok-room-in-Some-If-clause-added c =
    let s = c.args.self.now in
    let w = c.args.code.now in
    let here = s.here in
    let test = c.in-Some-If.test in
    let rest = c.in-Some-If.ensures.0 in
    let is : s.opens ≡ open_at.If test ∷ rest = c.in-Some-If.ensures.1 ∙ ap (λ o. o ∷ rest) c.in-Some-If.field-0-is in
    let new = c.set-in-Some-If.new.self in
    subst (λ (l : List Open). Added s w (record s { opens = l; here = here + 2 }) new (λ used. add_else used)) (sym (c.change.ensures ∙ ap (λ l. open_at.Else here ∷ drop 1 l) is))
    (adds_else s w c.set.new.self new test rest (search rules) (search rules) is (search rules)
    (record { stored = c.set.ensures.stored; others = c.set.ensures.others }) (record { stored = c.set-in-Some-If.ensures.stored; others = c.set-in-Some-If.ensures.others }))

pub returns-in_ok-room-in-Some-If-clause-bodies : goal.returns-in_ok-room-in-Some-If-clause-bodies
returns-in_ok-room-in-Some-If-clause-bodies c =
    let test = c.in-Some-If.test in
    let rest = c.in-Some-If.ensures.0 in
    let s = if_spot c.args.self.now c.args.code.now test rest c.requires (search rules) (search rules) (c.in-Some-If.ensures.1 ∙ ap (λ o. o ∷ rest) c.in-Some-If.field-0-is) in
    let after : c.args.self.now.start ≤ test = s.after in
    let before : test + 2 ≤ c.args.self.now.here = s.before in
    record { end = refl; below = record { same = λ y l. let n : y ≢ test + 1 = omega arith in let m : y ≢ c.args.self.now.here = omega arith in c.set-in-Some-If.ensures.others y n ∙ c.set.ensures.others y m } }
