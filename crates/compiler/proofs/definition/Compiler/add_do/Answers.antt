use Rattle.std.proofs.Common.{◌≢◌, ◌+◌, List, sym, subst, arith, rules, Some}
use Rattle.compiler.specs.declared.opens.Open.{Open}
use Rattle.compiler.specs.Definition.{add_do}
use Rattle.compiler.specs.Promise.{Added}
use Rattle.compiler.proofs.Opening.{adds_do}
use Rattle.compiler.proofs.definition.Compiler.add_do.Goals as goal

pub returns-clause-added : goal.returns-clause-added
returns-clause-added c =
    let s = c.args.self.now in
    let w = c.args.code.now in
    subst (λ (l : List Open). Added s w (record s { opens = l; here = s.here + 1; leaves = Some 0 }) c.set.new.self (λ used. add_do used)) (sym c.push.ensures)
    (adds_do s w c.set.new.self (search rules) (search rules) (search rules) (search rules)
    (record { same = λ y l. let n : y ≢ s.here = omega arith in c.set.ensures.others y n }) c.set.ensures.stored)
