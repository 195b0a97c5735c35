use Rattle.std.proofs.Common.{◌≡◌, ◌∙◌, sym, ap, arith}
use Rattle.stacks.proofs.Walks.{enough, next, past_any, no_more}
use Rattle.stacks.proofs.return_stack.ReturnStack.loads.Goals as goal

pub overflow_sub-units : goal.overflow_sub-units
overflow_sub-units c =
    enough c.self.inside.places c.entries.units c.entries.invariant.lies (λ z. absurd (omega (arith, z, c.entries-test.true))) c.units-units.result c.units-units.ensures

pub entries-preserved : goal.entries-preserved
entries-preserved c =
    let e = enough c.self.inside.places c.entries.units c.entries.invariant.lies (λ z. absurd (omega (arith, z, c.entries-test.true))) c.units-units.result c.units-units.ensures in
    let p = past_any c.self.inside.places c.entries.units c.entries.invariant.lies (λ z. absurd (omega (arith, z, c.entries-test.true))) c.units-units.result c.units-units.ensures in
    record {
      lies = next c.self.inside.places c.entries.units c.entries.invariant.lies (λ z. absurd (omega (arith, z, c.entries-test.true))) c.units-units.result c.units-units.ensures;
      same = (let s = c.entries.invariant.same in let k = c.loads-count.ensures.count in omega (arith, p, s, k));
      room = (let r = c.entries.invariant.room in let k = c.loads-count.ensures.least in let q = c.units-units.ensures in omega (arith, e, r, k, q));
    }

pub returns : goal.returns
returns c =
    let z = no_more c.self.inside.places c.entries.units c.entries.invariant.lies (omega arith) in
    let s = c.entries.invariant.same in
    omega (arith, z, s)
