use Rattle.std.proofs.Common.{◌≡◌, ◌∷◌, Result, Ok, Err, sym, ap, arith}
use Rattle.std.specs.Prelude.{IsOk, OnOk}
use Rattle.interpreter.specs.Representation.{core}
use Rattle.interpreter.specs.State.{pushing, with_run}
use Rattle.interpreter.proofs.Altering.{altered_as}
use Rattle.interpreter.proofs.forth.Forth.push_two.Goals as goal

given : {T E : Type 0} (r : Result T E) (P : Type 0) → IsOk r → OnOk r P → P
given (Ok x) P is p = p
given (Err e) P is p = absurd (cc)

pub returns-clause-alters : goal.returns-clause-alters
returns-clause-alters g c = λ levels x stands.
    let old = c.args.self.now in
    let pushed : c.push.new.self ≡ c.args.under ∷ old.stack = given c.push.result _ (c.push.ensures.room.1 c.requires) c.push.ensures.ok in
    altered_as (λ r. pushing c.args.top (record (core old) { stack = c.args.under ∷ old.stack }) (with_run r x)) old
    (λ r. ap (λ s. pushing c.args.top (record (core old) { stack = s }) (with_run r x)) (sym pushed)) (omega arith) (c.push-2.ensures.alters levels x stands)
