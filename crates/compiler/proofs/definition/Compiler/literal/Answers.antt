use Rattle.std.proofs.Common.{◌+◌, rules}
use Rattle.compiler.specs.Definition.{add_literal}
use Rattle.compiler.proofs.Adds.{adds_literal, for_equal}
use Rattle.compiler.proofs.definition.Compiler.literal.Goals as goal

pub returns-clause-added : goal.returns-clause-added
returns-clause-added c =
    let s = c.args.self.now in
    let old = c.args.code.now in
    let new = c.pair.new.code in
    for_equal s old (record s { here = s.here + 2 }) c.pair.new.self new (λ used. add_literal used c.args.v) c.pair.ensures.here
    (adds_literal s old new c.args.v (search rules) (search rules) (search rules) c.pair.ensures.below c.pair.ensures.first c.pair.ensures.second)
