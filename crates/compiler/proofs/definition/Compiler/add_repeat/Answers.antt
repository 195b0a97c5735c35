use Rattle.std.proofs.Common.{◌≡◌, ◌≢◌, ◌+◌, ◌≤◌, ◌∷◌, ap, arith, rules, ◌∙◌}
use Rattle.compiler.specs.declared.opens.Open.TheVariants as open_at
use Rattle.compiler.specs.declared.definition.Compiler.{Compiler}
use Rattle.compiler.specs.Definition.{add_repeat}
use Rattle.compiler.proofs.Adds.{for_equal}
use Rattle.compiler.proofs.Fields.{closed_fields}
use Rattle.compiler.proofs.Spots.{while_spot}
use Rattle.compiler.proofs.Closing.{adds_repeat}
use Rattle.compiler.proofs.definition.Compiler.add_repeat.Goals as goal

pub overflow_add-way_out : goal.overflow_add-way_out
overflow_add-way_out c =
    let rest = c.in-Some-While.ensures.0 in
    let s = while_spot c.args.self.now c.args.code.now c.in-Some-While.begin c.in-Some-While.way_out rest c.requires (search rules) (search rules) (c.in-Some-While.ensures.1 ∙ ap (λ o. o ∷ rest) c.in-Some-While.field-0-is) in
    omega arith

pub set-requires : goal.set-requires
set-requires c =
    let rest = c.in-Some-While.ensures.0 in
    let s = while_spot c.args.self.now c.args.code.now c.in-Some-While.begin c.in-Some-While.way_out rest c.requires (search rules) (search rules) (c.in-Some-While.ensures.1 ∙ ap (λ o. o ∷ rest) c.in-Some-While.field-0-is) in
    omega arith

pub returns-in_ok-room-in-Some-While-clause-added : goal.returns-in_ok-room-in-Some-While-clause-added
returns-in_ok-room-in-Some-While-clause-added c =
    let s = c.args.self.now in
    let w = c.args.code.now in
    let begin = c.in-Some-While.begin in
    let test = c.in-Some-While.way_out in
    let rest = c.in-Some-While.ensures.0 in
    let is : s.opens ≡ open_at.While begin test ∷ rest = c.in-Some-While.ensures.1 ∙ ap (λ o. o ∷ rest) c.in-Some-While.field-0-is in
    let here : c.pair.new.self.here ≡ s.here + 2 = ap (λ (n : Compiler). n.here) c.pair.ensures.here in
    for_equal s w (record s { opens = rest; here = s.here + 2 }) (record c.pair.new.self { opens = c.close.new.self }) c.set.new.self (λ used. add_repeat used)
    (closed_fields s c.pair.new.self (open_at.While begin test) rest c.close.new.self (s.here + 2) c.pair.ensures.here c.close.ensures is)
    (adds_repeat s w c.pair.new.code c.set.new.self begin test rest (search rules) (search rules) is (search rules) c.pair.ensures.below c.pair.ensures.first c.pair.ensures.second
    (record { stored = c.set.ensures.stored ∙ here; others = c.set.ensures.others }))

pub returns-in_ok-room-in-Some-While-clause-bodies : goal.returns-in_ok-room-in-Some-While-clause-bodies
returns-in_ok-room-in-Some-While-clause-bodies c =
    let rest = c.in-Some-While.ensures.0 in
    let s = while_spot c.args.self.now c.args.code.now c.in-Some-While.begin c.in-Some-While.way_out rest c.requires (search rules) (search rules) (c.in-Some-While.ensures.1 ∙ ap (λ o. o ∷ rest) c.in-Some-While.field-0-is) in
    let after : c.args.self.now.start ≤ c.in-Some-While.way_out = s.after in
    let before : c.in-Some-While.way_out + 2 ≤ c.args.self.now.here = s.before in
    record {
      end = ap (λ (n : Compiler). n.start) c.pair.ensures.here;
      below = record { same = λ y l. let n : y ≢ c.in-Some-While.way_out + 1 = omega arith in c.set.ensures.others y n ∙ c.pair.ensures.below.same y (omega arith) };
    }
