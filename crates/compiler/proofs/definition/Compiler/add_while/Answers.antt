use Rattle.std.proofs.Common.{◌≡◌, ◌≢◌, ◌+◌, List, ◌∷◌, drop, sym, ap, subst, arith, rules, ◌∙◌}
use Rattle.compiler.specs.declared.opens.Open.{Open}
use Rattle.compiler.specs.declared.opens.Open.TheVariants as open_at
use Rattle.compiler.specs.Definition.{add_while}
use Rattle.compiler.specs.Promise.{Added}
use Rattle.compiler.proofs.Opening.{adds_while}
use Rattle.compiler.proofs.definition.Compiler.add_while.Goals as goal

pub returns-in_ok-room-in-Some-Begin-clause-added : goal.returns-in_ok-room-in-Some-Begin-clause-added
returns-in_ok-room-in-Some-Begin-clause-added c =
    let s = c.args.self.now in
    let w = c.args.code.now in
    let begin = c.in-Some-Begin.begin in
    let rest = c.in-Some-Begin.ensures.0 in
    let is : s.opens ≡ open_at.Begin begin ∷ rest = c.in-Some-Begin.ensures.1 ∙ ap (λ o. o ∷ rest) c.in-Some-Begin.field-0-is in
    subst (λ (l : List Open). Added s w (record s { opens = l; here = s.here + 2 }) c.set.new.self (λ used. add_while used)) (sym (c.change.ensures ∙ ap (λ l. open_at.While begin s.here ∷ drop 1 l) is))
    (adds_while s w c.set.new.self begin rest (search rules) (search rules) is (search rules)
    (record { same = λ y l. let n : y ≢ s.here = omega arith in c.set.ensures.others y n }) c.set.ensures.stored)
