use Rattle.std.proofs.Common.{◌≢◌, ◌+◌, List, sym, subst, arith, rules}
use Rattle.compiler.specs.declared.opens.Open.{Open}
use Rattle.compiler.specs.Definition.{add_if}
use Rattle.compiler.specs.Promise.{Added}
use Rattle.compiler.proofs.Opening.{adds_if}
use Rattle.compiler.proofs.definition.Compiler.add_if.Goals as goal

pub returns-clause-added : goal.returns-clause-added
returns-clause-added c =
    let s = c.args.self.now in
    let w = c.args.code.now in
    subst (λ (l : List Open). Added s w (record s { opens = l; here = s.here + 2 }) c.set.new.self (λ used. add_if used)) (sym c.push.ensures)
    (adds_if s w c.set.new.self (search rules) (search rules) (search rules) (search rules)
    (record { same = λ y l. let n : y ≢ s.here = omega arith in c.set.ensures.others y n }) c.set.ensures.stored)
