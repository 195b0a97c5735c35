use Rattle.std.proofs.Common.{◌≡◌, ◌≢◌, ◌+◌, true, sym, subst, arith, rules, ◌∙◌}
use Rattle.compiler.specs.Definition.{add_word}
use Rattle.compiler.specs.Promise.{Added}
use Rattle.compiler.proofs.Adds.{adds_word, adds_mark, adds_marked, refuses_exit, refuses_word}
use Rattle.std.proofs.lemmas.Result.{err_from_is_err_and}
use Rattle.compiler.proofs.definition.Compiler.call.Goals as goal

pub returns-in_err-exits-clause-refused : goal.returns-in_err-exits-clause-refused
returns-in_err-exits-clause-refused c =
    let s = c.args.self.now in
    let p = err_from_is_err_and c.from_residual-in_err-exits.result c.from_residual-in_err-exits.ensures.1 in
    let e = c.in_err-exits.ensures in
    rw (p.1, p.2, e.told) (refuses_exit s c.args.code.now c.args.token e.unmarked e.exit e.inside (search rules))

pub returns-in_err-room-clause-refused : goal.returns-in_err-room-clause-refused
returns-in_err-room-clause-refused c =
    let s = c.args.self.now in
    let p = err_from_is_err_and c.from_residual-in_err-room.result c.from_residual-in_err-room.ensures.1 in
    let e = c.in_err-room.ensures in
    rw (p.1, p.2, e.told) (refuses_word s c.args.code.now c.args.token c.in_ok-exits.ensures.ok (search rules) e.full)

pub returns-then-self-clause-added : goal.returns-then-self-clause-added
returns-then-self-clause-added c =
    let s = c.args.self.now in
    adds_marked s c.args.code.now c.set.new.self c.args.token (record { above = c.requires.from; most = c.requires.most }) (search rules) (search rules) (search rules)
    (record { same = λ y l. let n : y ≢ s.here = omega arith in c.set.ensures.others y n }) c.set.ensures.stored

pub returns-then-token-eq-COMPILE-clause-added : goal.returns-then-token-eq-COMPILE-clause-added
returns-then-token-eq-COMPILE-clause-added c =
    let s = c.args.self.now in
    let e : c.args.token ≡ 111 = c.if-token-eq-COMPILE.true in
    subst (λ t. Added s c.args.code.now (record s { here = s.here + 1; marked = true }) c.set.new.self (λ used. add_word used t)) (sym e)
    (adds_mark s c.args.code.now c.set.new.self (search rules) (search rules) (search rules)
    (record { same = λ y l. let n : y ≢ s.here = omega arith in c.set.ensures.others y n }) (c.set.ensures.stored ∙ e))

pub returns-clause-added : goal.returns-clause-added
returns-clause-added c =
    let s = c.args.self.now in
    adds_word s c.args.code.now c.set.new.self c.args.token c.requires.from c.requires.most c.if-token-eq-COMPILE.false
    (c.in_ok-exits.ensures.ok c.if-self.false) (search rules) (search rules) (search rules)
    (record { same = λ y l. let n : y ≢ s.here = omega arith in c.set.ensures.others y n }) c.set.ensures.stored
