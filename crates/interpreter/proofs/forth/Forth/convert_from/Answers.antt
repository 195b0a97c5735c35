use Rattle.std.proofs.Common.{◌≡◌, ◌+◌, ◌*◌, ◌/◌, ◌%◌, ◌^◌, ◌<◌, ◌∷◌, suc, ℕ, List, true, false, Ok, length, drop, refl, ap, sym, subst, ◌∙◌, arith}
use Rattle.std.specs.Prelude.{nat_lt}
use Rattle.std.proofs.Math.Nat.{mod-eq_of_lt, mod-lt}
use Rattle.std.proofs.lemmas.Bool.{le-ltb, lt-ltb}
use Rattle.number_io.specs.Digits.{front_digits, converted}
use Rattle.cell_machine.specs.Cells.{double, low, high}
use Rattle.cell_machine.specs.Fault.{Address}
use Rattle.interpreter.specs.State.{with_run}
use Rattle.interpreter.specs.Pictures.{convert_from}
use Rattle.interpreter.specs.Representation.{core}
use Rattle.interpreter.specs.ServiceContract.{Altered}
use Rattle.interpreter.specs.declared.forth.Forth.{Forth}
use Rattle.interpreter.proofs.Altering.{refused, went}
use Rattle.interpreter.proofs.Short.{needing-no, needing-yes}
use Rattle.interpreter.proofs.forth.Forth.convert_from.Goals as goal

pub returns-then-count-text-clause-alters : goal.returns-then-count-text-clause-alters
returns-then-count-text-clause-alters g c = λ levels x stands.
    let old = core c.args.self.now in
    let text : List ℕ = drop (suc c.args.address) old.space in
    let at : c.from-3.result + 1 ≡ suc c.args.address = omega (arith, c.from-3.ensures) in
    let is : c.split_at.result.1.now ≡ text = c.split_at.ensures.back ∙ (λ t. drop (at t) (c.bytes.ensures.value t)) in
    let all : nat_lt (length (front_digits c.args.base text)) (length text) ≡ false =
    le-ltb (length (front_digits c.args.base text)) (length text) (omega (arith, c.if-count-text.true, ap length is, c.convert-number.ensures.count, ap (λ l. length (front_digits c.args.base l)) is)) in
    refused _ stands old refl (λ r. needing-no (nat_lt (length (front_digits c.args.base text)) (length text)) Address old (with_run r x) _ all) (omega arith)

pub returns-clause-alters : goal.returns-clause-alters
returns-clause-alters g c = λ levels x stands.
    let old = core c.args.self.now in
    let text : List ℕ = drop (suc c.args.address) old.space in
    let digits : List ℕ = front_digits c.args.base text in
    let at : c.from-3.result + 1 ≡ suc c.args.address = omega (arith, c.from-3.ensures) in
    let is : c.split_at.result.1.now ≡ text = c.split_at.ensures.back ∙ (λ t. drop (at t) (c.bytes.ensures.value t)) in
    let count : c.convert-number.result.1 ≡ length digits = c.convert-number.ensures.count ∙ ap (λ l. length (front_digits c.args.base l)) is in
    let some : nat_lt (length digits) (length text) ≡ true = lt-ltb (length digits) (length text) (omega (arith, c.if-count-text.false, ap length is, count)) in
    let new : ℕ = converted c.args.base (double c.args.low c.args.high) digits in
    let number : c.convert-number.result.0 ≡ new =
    c.convert-number.ensures.value ∙ (λ t. converted c.args.base (c.from.ensures t * 65536 + c.from-2.ensures t) (front_digits c.args.base (is t))) in
    let behind : c.args.address + 1 + c.convert-number.result.1 ≡ suc c.args.address + length digits = omega (arith, count) in
    let fits : c.convert-number.result.0 < 2 ^ 32 = subst (λ n. n < 2 ^ 32) (sym number) (mod-lt _ {m = 2 ^ 32} (omega arith)) in
    let above : c.convert-number.result.0 / 65536 ≡ high new = sym (mod-eq_of_lt (omega (arith, fits))) ∙ ap high number in
    let below : c.convert-number.result.0 % 65536 ≡ low new = ap low number in
    let left : c.leave-3.new.self ≡ record c.args.self.now { stack = (suc c.args.address + length digits) ∷ high new ∷ low new ∷ old.stack } =
    c.leave-3.ensures.left
    ∙ ap (λ (f : Forth g.row.D.Denot g.D.SectorDevice). record f { stack = (c.args.address + 1 + c.convert-number.result.1) ∷ f.stack }) c.leave-2.ensures.left
    ∙ ap (λ (f : Forth g.row.D.Denot g.D.SectorDevice). record f { stack = (c.args.address + 1 + c.convert-number.result.1) ∷ c.convert-number.result.0 / 65536 ∷ f.stack }) c.leave.ensures.left
    ∙ (λ t. record c.args.self.now { stack = behind t ∷ above t ∷ below t ∷ old.stack }) in
    subst (λ (n : Forth g.row.D.Denot g.D.SectorDevice). Altered (λ r. convert_from c.args.base c.args.address (double c.args.low c.args.high) old (with_run r x)) (Ok tt) c.args.self.now n levels x) (sym left)
    (went (record c.args.self.now { stack = (suc c.args.address + length digits) ∷ high new ∷ low new ∷ old.stack }) x stands
    (λ r. needing-yes (nat_lt (length digits) (length text)) Address old (with_run r x) _ some) refl (omega arith))
