use Rattle.std.proofs.Common.{◌≡◌, ◌+◌, ◌∷◌, ap, rules, ◌∙◌}
use Rattle.compiler.specs.declared.opens.Open.TheVariants as open_at
use Rattle.compiler.specs.Definition.{add_until}
use Rattle.compiler.proofs.Adds.{for_equal}
use Rattle.compiler.proofs.Fields.{closed_fields}
use Rattle.compiler.proofs.Closing.{adds_until}
use Rattle.compiler.proofs.definition.Compiler.add_until.Goals as goal

pub returns-in_ok-room-in-Some-Begin-clause-added : goal.returns-in_ok-room-in-Some-Begin-clause-added
returns-in_ok-room-in-Some-Begin-clause-added c =
    let s = c.args.self.now in
    let w = c.args.code.now in
    let begin = c.in-Some-Begin.begin in
    let rest = c.in-Some-Begin.ensures.0 in
    let is : s.opens ≡ open_at.Begin begin ∷ rest = c.in-Some-Begin.ensures.1 ∙ ap (λ o. o ∷ rest) c.in-Some-Begin.field-0-is in
    for_equal s w (record s { opens = rest; here = s.here + 2 }) (record c.pair.new.self { opens = c.close.new.self }) c.pair.new.code (λ used. add_until used)
    (closed_fields s c.pair.new.self (open_at.Begin begin) rest c.close.new.self (s.here + 2) c.pair.ensures.here c.close.ensures is)
    (adds_until s w c.pair.new.code begin rest (search rules) (search rules) is (search rules) c.pair.ensures.below c.pair.ensures.first c.pair.ensures.second)
