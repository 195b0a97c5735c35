use Rattle.std.proofs.Common.{◌≡◌, ◌≢◌, ◌+◌, ◌≤◌, List, ◌∷◌, drop, sym, ap, subst, arith, rules, ◌∙◌, refl}
use Rattle.compiler.specs.declared.opens.Open.{Open}
use Rattle.compiler.specs.declared.opens.Open.TheVariants as open_at
use Rattle.compiler.specs.Definition.{add_then}
use Rattle.compiler.specs.Promise.{Added}
use Rattle.compiler.proofs.Spots.{if_spot, else_spot}
use Rattle.compiler.proofs.Closing.{adds_then, adds_else_then}
use Rattle.compiler.proofs.definition.Compiler.add_then.Goals as goal

pub overflow_add-test : goal.overflow_add-test
overflow_add-test c =
    let rest = c.in-Some-If.ensures.0 in
    let s = if_spot c.args.self.now c.args.code.now c.in-Some-If.test rest c.requires (search rules) (search rules) (c.in-Some-If.ensures.1 ∙ ap (λ o. o ∷ rest) c.in-Some-If.field-0-is) in
    omega arith

pub set-requires : goal.set-requires
set-requires c =
    let rest = c.in-Some-If.ensures.0 in
    let s = if_spot c.args.self.now c.args.code.now c.in-Some-If.test rest c.requires (search rules) (search rules) (c.in-Some-If.ensures.1 ∙ ap (λ o. o ∷ rest) c.in-Some-If.field-0-is) in
    omega arith

pub returns-in-Some-If-clause-added : goal.returns-in-Some-If-clause-added
returns-in-Some-If-clause-added c =
    let s = c.args.self.now in
    let w = c.args.code.now in
    let rest = c.in-Some-If.ensures.0 in
    let is : s.opens ≡ open_at.If c.in-Some-If.test ∷ rest = c.in-Some-If.ensures.1 ∙ ap (λ o. o ∷ rest) c.in-Some-If.field-0-is in
    subst (λ (l : List Open). Added s w (record s { opens = l }) c.set.new.self (λ used. add_then used)) (sym (c.close.ensures ∙ ap (drop 1) is))
    (adds_then s w c.set.new.self c.in-Some-If.test rest (search rules) (search rules) is (record { stored = c.set.ensures.stored; others = c.set.ensures.others }))

pub returns-in-Some-If-clause-bodies : goal.returns-in-Some-If-clause-bodies
returns-in-Some-If-clause-bodies c =
    let rest = c.in-Some-If.ensures.0 in
    let s = if_spot c.args.self.now c.args.code.now c.in-Some-If.test rest c.requires (search rules) (search rules) (c.in-Some-If.ensures.1 ∙ ap (λ o. o ∷ rest) c.in-Some-If.field-0-is) in
    let after : c.args.self.now.start ≤ c.in-Some-If.test = s.after in
    record { end = refl; below = record { same = λ y l. let n : y ≢ c.in-Some-If.test + 1 = omega arith in c.set.ensures.others y n } }

pub overflow_add-jump : goal.overflow_add-jump
overflow_add-jump c =
    let rest = c.in-Some-Else.ensures.0 in
    let s = else_spot c.args.self.now c.args.code.now c.in-Some-Else.jump rest c.requires (search rules) (search rules) (c.in-Some-Else.ensures.1 ∙ ap (λ o. o ∷ rest) c.in-Some-Else.field-0-is) in
    omega arith

pub set-requires-in-Some-Else : goal.set-requires-in-Some-Else
set-requires-in-Some-Else c =
    let rest = c.in-Some-Else.ensures.0 in
    let s = else_spot c.args.self.now c.args.code.now c.in-Some-Else.jump rest c.requires (search rules) (search rules) (c.in-Some-Else.ensures.1 ∙ ap (λ o. o ∷ rest) c.in-Some-Else.field-0-is) in
    omega arith

pub returns-in-Some-Else-clause-added : goal.returns-in-Some-Else-clause-added
returns-in-Some-Else-clause-added c =
    let s = c.args.self.now in
    let w = c.args.code.now in
    let rest = c.in-Some-Else.ensures.0 in
    let is : s.opens ≡ open_at.Else c.in-Some-Else.jump ∷ rest = c.in-Some-Else.ensures.1 ∙ ap (λ o. o ∷ rest) c.in-Some-Else.field-0-is in
    subst (λ (l : List Open). Added s w (record s { opens = l }) c.set-in-Some-Else.new.self (λ used. add_then used)) (sym (c.close-in-Some-Else.ensures ∙ ap (drop 1) is))
    (adds_else_then s w c.set-in-Some-Else.new.self c.in-Some-Else.jump rest (search rules) (search rules) is (record { stored = c.set-in-Some-Else.ensures.stored; others = c.set-in-Some-Else.ensures.others }))

pub returns-in-Some-Else-clause-bodies : goal.returns-in-Some-Else-clause-bodies
returns-in-Some-Else-clause-bodies c =
    let rest = c.in-Some-Else.ensures.0 in
    let s = else_spot c.args.self.now c.args.code.now c.in-Some-Else.jump rest c.requires (search rules) (search rules) (c.in-Some-Else.ensures.1 ∙ ap (λ o. o ∷ rest) c.in-Some-Else.field-0-is) in
    let after : c.args.self.now.start ≤ c.in-Some-Else.jump = s.after in
    record { end = refl; below = record { same = λ y l. let n : y ≢ c.in-Some-Else.jump + 1 = omega arith in c.set-in-Some-Else.ensures.others y n } }
