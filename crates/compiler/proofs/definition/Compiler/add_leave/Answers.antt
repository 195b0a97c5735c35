use Rattle.std.proofs.Common.{◌≡◌, ◌+◌, ◌-◌, Some, ap, ◌∙◌, arith, rules}
use Rattle.std.proofs.lemmas.Result.{err_from_is_err_and}
use Rattle.compiler.specs.declared.definition.Compiler.{Compiler}
use Rattle.compiler.specs.Definition.{add_leave}
use Rattle.compiler.proofs.Adds.{for_equal}
use Rattle.compiler.proofs.Leaving.{adds_leave, refuses_outside, refuses_leave}
use Rattle.compiler.proofs.definition.Compiler.add_leave.Goals as goal

pub returns-in_err-room-in-Some-clause-refused : goal.returns-in_err-room-in-Some-clause-refused
returns-in_err-room-in-Some-clause-refused c =
    let p = err_from_is_err_and c.from_residual-in_err-room-in-Some.result c.from_residual-in_err-room-in-Some.ensures.1 in
    let e = c.in_err-room-in-Some.ensures in
    rw (p.1, p.2, e.told) (refuses_leave c.args.self.now c.args.code.now c.in-Some.last (search rules) (search rules) c.in-Some.is e.full)

pub returns-in_ok-room-in-Some-clause-added : goal.returns-in_ok-room-in-Some-clause-added
returns-in_ok-room-in-Some-clause-added c =
    let s = c.args.self.now in
    let old = c.args.code.now in
    let new = c.pair.new.code in
    let e : record c.pair.new.self { leaves = Some (c.pair.new.self.here - 1) } ≡ record s { here = s.here + 2; leaves = Some (s.here + 2 - 1) } =
    ap (λ (n : Compiler). record n { leaves = Some (n.here - 1) }) c.pair.ensures.here
    in
    let last : s.here + 2 - 1 ≡ s.here + 1 = omega arith in
    for_equal s old (record s { here = s.here + 2; leaves = Some (s.here + 1) }) (record c.pair.new.self { leaves = Some (c.pair.new.self.here - 1) }) new (λ used. add_leave used)
    (e ∙ ap (λ n. record s { here = s.here + 2; leaves = Some n }) last)
    (adds_leave s old new c.in-Some.last (search rules) (search rules) c.in-Some.is (search rules) c.pair.ensures.below c.pair.ensures.first c.pair.ensures.second)

pub returns-in-None-clause-refused : goal.returns-in-None-clause-refused
returns-in-None-clause-refused c =
    refuses_outside c.args.self.now c.args.code.now (search rules) (search rules) c.in-None.is
