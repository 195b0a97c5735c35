use Rattle.std.proofs.Common.{◌≢◌, ◌+◌, ◌/◌, ◌<◌, ◌≤◌, length, refl, arith, rules, ◌∙◌}
use Rattle.compiler.specs.Promise.{kind_of}
use Rattle.compiler.proofs.Texts.{adds_text}
use Rattle.compiler.proofs.definition.Compiler.text.Goals as goal

pub set_text-requires-clause-room : goal.set_text-requires-clause-room
set_text-requires-clause-room c =
    let room : c.args.self.now.here + (2 + (length c.args.bytes.now + 1) / 2) ≤ 32768 = c.in_ok-room.ensures.ok in
    omega arith

pub returns-clause-added : goal.returns-clause-added
returns-clause-added c =
    let s = c.args.self.now in
    let at : s.here < s.here + 1 = omega arith in
    adds_text s c.args.code.now c.set_text.new.self (kind_of c.args.kind) c.args.bytes.now (2 + (length c.args.bytes.now + 1) / 2) refl (search rules) (search rules) (search rules)
    (record { same = λ y l. let n : y ≢ s.here = omega arith in c.set_text.ensures.others y (omega arith) ∙ c.set.ensures.others y n })
    (c.set_text.ensures.others s.here at ∙ c.set.ensures.stored ∙ c.mark_of.ensures) c.set_text.ensures.text
