use Rattle.std.proofs.Common.{◌≡◌, ◌-◌, ◌+◌, suc, true, false, refl, ap, sym, ◌∙◌, arith}
use Rattle.std.specs.Prelude.{nat_lt}
use Rattle.std.proofs.lemmas.Bool.{le-ltb, lt-ltb}
use Rattle.data_space.specs.Space.{with_byte}
use Rattle.cell_machine.specs.Fault.{Hold}
use Rattle.cell_machine.specs.Value.{Did}
use Rattle.interpreter.specs.State.{with_run}
use Rattle.interpreter.specs.Representation.{core}
use Rattle.interpreter.proofs.Altering.{refused, went}
use Rattle.interpreter.proofs.Short.{needing-no, needing-yes}
use Rattle.interpreter.proofs.forth.Forth.hold.Goals as goal

pub returns-then-held-ge-CAPACITY-clause-alters : goal.returns-then-held-ge-CAPACITY-clause-alters
returns-then-held-ge-CAPACITY-clause-alters g c = λ levels x stands.
    let full : nat_lt x.held 66 ≡ false = le-ltb x.held 66 (omega (arith, stands.rests.held, c.if-held-ge-CAPACITY.true)) in
    refused _ stands (core c.args.self.now) refl (λ r. needing-no (nat_lt x.held 66) Hold (core c.args.self.now) (with_run r x) _ full) (omega arith)

pub returns-clause-alters : goal.returns-clause-alters
returns-clause-alters g c = λ levels x stands.
    let old = c.args.self.now in
    let room : nat_lt x.held 66 ≡ true = lt-ltb x.held 66 (omega (arith, stands.rests.held, c.if-held-ge-CAPACITY.false)) in
    let more : suc x.held ≡ old.picture.held + 1 = omega (arith, stands.rests.held) in
    let at : c.saturating_sub.result ≡ x.held_end - suc x.held = omega (arith, c.saturating_sub.ensures, c.from.ensures, stands.rests.held, stands.rests.held_end) in
    let wrote : with_byte old.space (x.held_end - suc x.held) c.args.byte ≡ c.set_byte.new.self = ap (λ a. with_byte old.space a c.args.byte) (sym at) ∙ sym c.set_byte.ensures.after in
    went _ (record x { held = suc x.held })
    (record {
      rests = record { meant = stands.rests.meant; held_end = stands.rests.held_end; held = more; buffers = stands.rests.buffers; loads = stands.rests.loads; maps = stands.rests.maps };
      left = stands.left;
    })
    (λ r. needing-yes (nat_lt x.held 66) Hold (core old) (with_run r x) _ room ∙ ap (λ s. Did (record (core old) { space = s }) (with_run r (record x { held = suc x.held }))) wrote)
    refl (omega arith)
