use Rattle.std.proofs.Common.{◌≡◌, ◌∙◌, sym, ap, false, true, rules, arith}
use Rattle.std.specs.Prelude.{nat_lt}
use Rattle.stacks.proofs.Walks.{enough, next, past_other, past_call, stops, at_end}
use Rattle.stacks.proofs.return_stack.ReturnStack.calls_below.Goals as goal

pub overflow_sub-units : goal.overflow_sub-units
overflow_sub-units c =
    enough c.self.inside.places c.entries.units c.entries.invariant.lies (λ z. absurd (omega (arith, z, c.entries-test.true))) c.units-units.result c.units-units.ensures

pub entries-preserved-in_default : goal.entries-preserved-in_default
entries-preserved-in_default c = record {
  lies = next c.self.inside.places c.entries.units c.entries.invariant.lies (λ z. absurd (omega (arith, z, c.entries-test.true))) c.units-units.result c.units-units.ensures;
  same =
      past_other c.self.inside.places c.entries.units c.entries.invariant.lies (λ z. absurd (omega (arith, z, c.entries-test.true))) c.units-units.result c.units-units.ensures c.args.limit c.entries.place c.in_default.not-Call
      ∙ c.entries.invariant.same;
}

pub returns-then-place-limit : goal.returns-then-place-limit
returns-then-place-limit c =
    let b : nat_lt c.entries.place c.args.limit ≡ false = search (rules, c.if-place-limit.true) in
    stops c.self.inside.places c.entries.units c.entries.invariant.lies (λ z. absurd (omega (arith, z, c.entries-test.true))) c.args.limit c.entries.place c.in-Call.back c.in-Call.is b
    ∙ c.entries.invariant.same

pub entries-preserved : goal.entries-preserved
entries-preserved c =
    let b : nat_lt c.entries.place c.args.limit ≡ true = search (rules, c.if-place-limit.false) in
    record {
      lies = next c.self.inside.places c.entries.units c.entries.invariant.lies (λ z. absurd (omega (arith, z, c.entries-test.true))) c.units-units.result c.units-units.ensures;
      same =
          past_call c.self.inside.places c.entries.units c.entries.invariant.lies (λ z. absurd (omega (arith, z, c.entries-test.true))) c.units-units.result c.units-units.ensures c.args.limit c.entries.place c.in-Call.back c.in-Call.is b
          ∙ c.entries.invariant.same;
    }

pub returns : goal.returns
returns c =
    at_end c.self.inside.places c.entries.units c.entries.invariant.lies (omega arith) c.args.limit c.entries.place
    ∙ c.entries.invariant.same
