use Rattle.std.proofs.Common.{List, sym, subst, rules}
use Rattle.compiler.specs.declared.opens.Open.{Open}
use Rattle.compiler.specs.Definition.{add_begin}
use Rattle.compiler.specs.Promise.{Added}
use Rattle.compiler.proofs.Opening.{adds_begin}
use Rattle.compiler.proofs.definition.Compiler.add_begin.Goals as goal

pub returns-clause-added : goal.returns-clause-added
returns-clause-added c =
    let s = c.args.self.now in
    let w = c.args.code.now in
    subst (λ (l : List Open). Added s w (record s { opens = l }) w (λ used. add_begin used)) (sym c.push.ensures)
    (adds_begin s w (search rules) (search rules) (search rules))
