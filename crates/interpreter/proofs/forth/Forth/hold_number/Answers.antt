use Rattle.std.proofs.Common.{◌≡◌, ◌+◌, ◌*◌, ◌∷◌, Ok, refl, ap, sym, subst, ◌∙◌, arith}
use Rattle.std.specs.Prelude.{reverse}
use Rattle.number_io.specs.Writing.{digits_of}
use Rattle.cell_machine.specs.Cells.{double}
use Rattle.interpreter.specs.State.{with_run}
use Rattle.interpreter.specs.Pictures.{hold_all, push_double}
use Rattle.interpreter.specs.Representation.{core}
use Rattle.interpreter.specs.ServiceContract.{Altered}
use Rattle.interpreter.specs.declared.forth.Forth.{Forth}
use Rattle.interpreter.proofs.Altering.{went_then, refused_then}
use Rattle.interpreter.proofs.Holding.{hold_all_then}
use Rattle.interpreter.proofs.forth.Forth.hold_number.Goals as goal

pub returns-in-Ok-clause-alters : goal.returns-in-Ok-clause-alters
returns-in-Ok-clause-alters g c = λ levels x stands.
    let old = core c.args.self.now in
    let mid = c.hold_digits.new.self in
    let is : c.from.result * 65536 + c.from-2.result ≡ double c.args.low c.args.high = (λ t. c.from.ensures t * 65536 + c.from-2.ensures t) in
    let h = c.in-Ok.ensures.alters levels x stands in
    let left : c.leave-in-Ok.new.self ≡ record mid { stack = 0 ∷ 0 ∷ mid.stack } =
    c.leave-in-Ok.ensures.left ∙ ap (λ (f : Forth g.row.D.Denot g.D.SectorDevice). record f { stack = 0 ∷ f.stack }) c.leave.ensures.left in
    subst (λ (n : Forth g.row.D.Denot g.D.SectorDevice). Altered (λ r. hold_all (reverse (digits_of c.args.base (double c.args.low c.args.high))) old (with_run r x) (λ d y. push_double 0 d y)) (Ok tt) c.args.self.now n levels x) (sym left)
    (went_then (record mid { stack = 0 ∷ 0 ∷ mid.stack })
    (λ r. hold_all (reverse (digits_of c.args.base (double c.args.low c.args.high))) old (with_run r x) (λ d y. push_double 0 d y)) (λ d y. push_double 0 d y) h
    (λ r. ap (λ n. hold_all (reverse (digits_of c.args.base n)) old (with_run r x) (λ d y. push_double 0 d y)) (sym is)
    ∙ hold_all_then (reverse (digits_of c.args.base (c.from.result * 65536 + c.from-2.result))) old (with_run r x) (λ d y. push_double 0 d y))
    h.stands (λ r. refl) (omega arith))

pub returns-in-Err-clause-alters : goal.returns-in-Err-clause-alters
returns-in-Err-clause-alters g c = λ levels x stands.
    let old = core c.args.self.now in
    let is : c.from.result * 65536 + c.from-2.result ≡ double c.args.low c.args.high = (λ t. c.from.ensures t * 65536 + c.from-2.ensures t) in
    refused_then (λ r. hold_all (reverse (digits_of c.args.base (double c.args.low c.args.high))) old (with_run r x) (λ d y. push_double 0 d y)) (λ d y. push_double 0 d y)
    (λ r. ap (λ n. hold_all (reverse (digits_of c.args.base n)) old (with_run r x) (λ d y. push_double 0 d y)) (sym is)
    ∙ hold_all_then (reverse (digits_of c.args.base (c.from.result * 65536 + c.from-2.result))) old (with_run r x) (λ d y. push_double 0 d y))
    (c.in-Err.ensures.alters levels x stands)
