use Rattle.std.proofs.Common.{◌≡◌, ◌+◌, ◌<◌, ◌≤◌, ◌∷◌, ap, arith, rules, ◌∙◌}
use Rattle.compiler.specs.declared.opens.Open.TheVariants as open_at
use Rattle.compiler.specs.declared.definition.Compiler.{Compiler}
use Rattle.compiler.specs.Definition.{add_loop}
use Rattle.compiler.specs.Promise.{loop_kind_of}
use Rattle.compiler.proofs.Adds.{for_equal}
use Rattle.compiler.proofs.Fields.{left_fields, last_of}
use Rattle.compiler.proofs.Spots.{do_spot}
use Rattle.compiler.proofs.Closing.{adds_loop, waiting_at}
use Rattle.compiler.proofs.definition.Compiler.end_loop.Goals as goal

pub overflow_add-begin : goal.overflow_add-begin
overflow_add-begin c =
    let rest = c.in-Some-Do.ensures.0 in
    let s = do_spot c.args.self.now c.args.code.now c.in-Some-Do.begin c.in-Some-Do.outer rest c.requires (search rules) (search rules) (c.in-Some-Do.ensures.1 ∙ ap (λ o. o ∷ rest) c.in-Some-Do.field-0-is) in
    omega arith

pub patch_leaves-requires : goal.patch_leaves-requires
patch_leaves-requires c =
    let s = c.args.self.now in
    let rest = c.in-Some-Do.ensures.0 in
    let is : s.opens ≡ open_at.Do c.in-Some-Do.begin c.in-Some-Do.outer ∷ rest = c.in-Some-Do.ensures.1 ∙ ap (λ o. o ∷ rest) c.in-Some-Do.field-0-is in
    let w = waiting_at s c.args.code.now c.pair.new.code c.in-Some-Do.begin c.unwrap_or.result c.in-Some-Do.outer rest c.requires (search rules) (search rules) is c.pair.ensures.below
    (λ own e. c.unwrap_or.ensures ∙ last_of c.pair.new.self s (s.here + 2) c.pair.ensures.here own e) in
    let room : s.here + 2 ≤ 32768 = c.in_ok-room-in-Some-Do.ensures.ok in
    (w.0, (w.1.0, λ y i. let l : y < s.here = (w.1.1 y i).1 in omega arith))

pub returns-in_ok-room-in-Some-Do-clause-added : goal.returns-in_ok-room-in-Some-Do-clause-added
returns-in_ok-room-in-Some-Do-clause-added c =
    let s = c.args.self.now in
    let w = c.args.code.now in
    let begin = c.in-Some-Do.begin in
    let outer = c.in-Some-Do.outer in
    let rest = c.in-Some-Do.ensures.0 in
    let is : s.opens ≡ open_at.Do begin outer ∷ rest = c.in-Some-Do.ensures.1 ∙ ap (λ o. o ∷ rest) c.in-Some-Do.field-0-is in
    let here : c.pair.new.self.here ≡ s.here + 2 = ap (λ (n : Compiler). n.here) c.pair.ensures.here in
    let kind = loop_kind_of c.args.end in
    for_equal s w (record s { opens = rest; here = s.here + 2; leaves = outer }) (record c.pair.new.self { leaves = outer; opens = c.close.new.self }) c.patch_leaves.new.code (λ used. add_loop used kind)
    (left_fields s c.pair.new.self (open_at.Do begin outer) rest c.close.new.self (s.here + 2) outer c.pair.ensures.here c.close.ensures is)
    (adds_loop s w c.pair.new.code c.patch_leaves.new.code kind begin c.unwrap_or.result outer rest (search rules) (search rules) is (search rules) c.pair.ensures.below (c.pair.ensures.first ∙ c.end_mark_of.ensures) c.pair.ensures.second
    (λ own e. c.unwrap_or.ensures ∙ last_of c.pair.new.self s (s.here + 2) c.pair.ensures.here own e)
    (λ ls h. record { there = λ y i. (c.patch_leaves.ensures ls h).there y i ∙ here; others = λ y n. (c.patch_leaves.ensures ls h).others y n }))

pub returns-in_ok-room-in-Some-Do-clause-bodies : goal.returns-in_ok-room-in-Some-Do-clause-bodies
returns-in_ok-room-in-Some-Do-clause-bodies c =
    let s = c.args.self.now in
    let rest = c.in-Some-Do.ensures.0 in
    let begin = c.in-Some-Do.begin in
    let is : s.opens ≡ open_at.Do begin c.in-Some-Do.outer ∷ rest = c.in-Some-Do.ensures.1 ∙ ap (λ o. o ∷ rest) c.in-Some-Do.field-0-is in
    let at = do_spot s c.args.code.now begin c.in-Some-Do.outer rest c.requires (search rules) (search rules) is in
    let after : s.start ≤ begin = at.after in
    let before : begin + 1 ≤ s.here = at.before in
    let w = waiting_at s c.args.code.now c.pair.new.code begin c.unwrap_or.result c.in-Some-Do.outer rest c.requires (search rules) (search rules) is c.pair.ensures.below
    (λ own e. c.unwrap_or.ensures ∙ last_of c.pair.new.self s (s.here + 2) c.pair.ensures.here own e) in
    record {
      end = ap (λ (n : Compiler). n.start) c.pair.ensures.here;
      below = record {
        same = λ y l.
            (c.patch_leaves.ensures w.0 w.1.0).others y (λ i. let k : begin < y = (w.1.1 y i).0 in absurd (omega arith))
            ∙ c.pair.ensures.below.same y (omega arith);
      };
    }
