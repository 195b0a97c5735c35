use Rattle.std.proofs.Common.{◌≢◌, arith, rules, subst, sym}
use Rattle.compiler.specs.Promise.{Finished}
use Rattle.compiler.proofs.Ends.{finishes}
use Rattle.compiler.proofs.definition.Compiler.finish.Goals as goal

pub returns-clause-finished : goal.returns-clause-finished
returns-clause-finished c =
    let s = c.args.self.now in
    subst (λ code. Finished s c.args.code.now c.close.new.self code s.start) (sym c.prepare.ensures)
    (finishes s c.args.code.now c.set.new.self c.close.new.self (search rules) (search rules) (search rules) (search rules)
    (record { same = λ y l. let n : y ≢ s.here = omega arith in c.set.ensures.others y n }) c.set.ensures.stored c.close.ensures)
