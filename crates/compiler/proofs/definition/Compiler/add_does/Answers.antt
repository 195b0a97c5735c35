use Rattle.std.proofs.Common.{◌≢◌, arith, rules}
use Rattle.compiler.proofs.Ends.{adds_does}
use Rattle.compiler.proofs.definition.Compiler.add_does.Goals as goal

pub returns-clause-added : goal.returns-clause-added
returns-clause-added c =
    let s = c.args.self.now in
    adds_does s c.args.code.now c.set.new.self (search rules) (search rules) (search rules) (search rules)
    (record { same = λ y l. let n : y ≢ s.here = omega arith in c.set.ensures.others y n }) c.set.ensures.stored
