use Rattle.std.proofs.Common.{◌≡◌, suc, ◌-◌, ◌+◌, ◌*◌, ◌/◌, ◌%◌, ◌<◌, ◌∷◌, ℕ, Bool, true, false, Ok, refl, ap, sym, subst, ◌∙◌, arith}
use Rattle.std.specs.Prelude.{nat_lt}
use Rattle.std.proofs.Math.Nat.{mod-eq_of_lt, div-lt_iff_lt-mul, div-le_self}
use Rattle.data_space.specs.Space.{with_byte}
use Rattle.number_io.specs.Digits.{digit_char}
use Rattle.cell_machine.specs.Cells.{double, low, high}
use Rattle.cell_machine.specs.Fault.{Hold}
use Rattle.cell_machine.specs.Frames.{Core}
use Rattle.cell_machine.specs.Value.{Outcome, Did, and_then}
use Rattle.interpreter.specs.State.{World, with_run, needing}
use Rattle.interpreter.specs.Pictures.{hold, push_double}
use Rattle.interpreter.specs.Representation.{core}
use Rattle.interpreter.specs.ServiceContract.{Altered}
use Rattle.interpreter.specs.declared.forth.Forth.{Forth}
use Rattle.interpreter.proofs.Altering.{went_then, refused_then}
use Rattle.interpreter.proofs.forth.Forth.hold_digit.Goals as goal

small_part : (n base : ℕ) → n < 65536 * 65536 → n / base / 65536 < 65536
small_part n base h = (div-lt_iff_lt-mul {k = 65536} {x = n / base} {y = 65536} (omega arith)).1 (omega (arith, h, div-le_self n base))

needing_then : (t : Bool) (c : Core) (d : Core → Core) (x y : World) (go : Core → World → Outcome World) → needing t Hold c x (λ c. go (d c) y) ≡ and_then (needing t Hold c x (λ c. Did (d c) y)) go
needing_then true c d x y go = refl
needing_then false c d x y go = refl

hold_then : (b : ℕ) (c : Core) (x : World) (go : Core → World → Outcome World) → hold b c x go ≡ and_then (hold b c x (λ c x. Did c x)) go
hold_then b c x go = needing_then (nat_lt x.held 66) c (λ c. record c { space = with_byte c.space (x.held_end - suc x.held) b }) x (record x { held = suc x.held }) go

pub returns-in-Err-clause-alters : goal.returns-in-Err-clause-alters
returns-in-Err-clause-alters g c = λ levels x stands.
    let old = core c.args.self.now in
    let number = double c.args.low c.args.high in
    let last : c.digit_char-digit.result ≡ digit_char (number % c.args.base) = c.digit_char-digit.ensures ∙ (λ t. digit_char ((c.from.ensures t * 65536 + c.from-2.ensures t) % c.from-base.ensures t)) in
    refused_then (λ r. hold (digit_char (number % c.args.base)) old (with_run r x) (λ d y. push_double (number / c.args.base) d y)) (λ d y. push_double (number / c.args.base) d y)
    (λ r. ap (λ b. hold b old (with_run r x) (λ d y. push_double (number / c.args.base) d y)) (sym last) ∙ hold_then c.digit_char-digit.result old (with_run r x) (λ d y. push_double (number / c.args.base) d y))
    (c.in-Err.ensures.alters levels x stands)

pub returns-in-Ok-clause-alters : goal.returns-in-Ok-clause-alters
returns-in-Ok-clause-alters g c = λ levels x stands.
    let old = core c.args.self.now in
    let mid = c.hold.new.self in
    let number = double c.args.low c.args.high in
    let last : c.digit_char-digit.result ≡ digit_char (number % c.args.base) = c.digit_char-digit.ensures ∙ (λ t. digit_char ((c.from.ensures t * 65536 + c.from-2.ensures t) % c.from-base.ensures t)) in
    let h = c.in-Ok.ensures.alters levels x stands in
    let rest : ℕ = (c.from.result * 65536 + c.from-2.result) / c.from-base.result in
    let is : rest ≡ number / c.args.base = (λ t. (c.from.ensures t * 65536 + c.from-2.ensures t) / c.from-base.ensures t) in
    let small : rest / 65536 < 65536 = small_part (c.from.result * 65536 + c.from-2.result) c.from-base.result (omega (arith, c.from.ensures, c.from-2.ensures, c.ranges.high.fits, c.ranges.low.fits)) in
    let above : rest / 65536 ≡ high (number / c.args.base) = sym (mod-eq_of_lt small) ∙ ap high is in
    let below : rest % 65536 ≡ low (number / c.args.base) = ap low is in
    let left : c.leave-in-Ok.new.self ≡ record mid { stack = high (number / c.args.base) ∷ low (number / c.args.base) ∷ mid.stack } =
    c.leave-in-Ok.ensures.left
    ∙ ap (λ (f : Forth g.row.D.Denot g.D.SectorDevice). record f { stack = rest / 65536 ∷ f.stack }) c.leave.ensures.left
    ∙ (λ t. record mid { stack = above t ∷ below t ∷ mid.stack }) in
    subst (λ (n : Forth g.row.D.Denot g.D.SectorDevice). Altered (λ r. hold (digit_char (number % c.args.base)) old (with_run r x) (λ d y. push_double (number / c.args.base) d y)) (Ok tt) c.args.self.now n levels x) (sym left)
    (went_then (record mid { stack = high (number / c.args.base) ∷ low (number / c.args.base) ∷ mid.stack })
    (λ r. hold (digit_char (number % c.args.base)) old (with_run r x) (λ d y. push_double (number / c.args.base) d y)) (λ d y. push_double (number / c.args.base) d y) h
    (λ r. ap (λ b. hold b old (with_run r x) (λ d y. push_double (number / c.args.base) d y)) (sym last) ∙ hold_then c.digit_char-digit.result old (with_run r x) (λ d y. push_double (number / c.args.base) d y))
    h.stands (λ r. refl) (omega arith))
