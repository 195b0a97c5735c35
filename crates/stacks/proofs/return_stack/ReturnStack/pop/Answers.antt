use Rattle.std.proofs.Common.{◌≡◌, ◌∙◌, ◌∷◌, ◌-◌, sym, ap, arith}
use Rattle.stacks.proofs.Entries.{lies, empty, fits, has_top, left}
use Rattle.stacks.specs.Stacks.{entry_units, units}
use Rattle.stacks.specs.Entries.{entry_at, entries_in}
use Rattle.stacks.proofs.return_stack.ReturnStack.pop.Goals as goal

pub returns-then-self-eq0-clause-empty : goal.returns-then-self-eq0-clause-empty
returns-then-self-eq0-clause-empty c = empty c.self.inside.places c.self.inside.units c.args.self.now (lies c.self.view_is c.self.invariant) c.if-self-eq0.true

pub overflow_sub-self : goal.overflow_sub-self
overflow_sub-self c = omega (arith, fits c.self.inside.places c.self.inside.units c.args.self.now (lies c.self.view_is c.self.invariant) c.if-self-eq0.false, c.units.ensures)

pub invariant_of-self : goal.invariant_of-self
invariant_of-self c =
    let k : entry_units (entry_at c.self.inside.places c.self.inside.units) ≡ c.units.result = sym c.units.ensures in
    (ap (λ k. units (entries_in 256 c.self.inside.places (c.self.inside.units - k))) (sym k) ∙ left c.self.inside.places c.self.inside.units c.args.self.now (lies c.self.view_is c.self.invariant) c.if-self-eq0.false ∙ ap (λ k. c.self.inside.units - k) k, omega (arith, c.self.invariant.1), c.self.invariant.2)

pub returns-clause-ok : goal.returns-clause-ok
returns-clause-ok c =
    has_top c.self.inside.places c.self.inside.units c.args.self.now (lies c.self.view_is c.self.invariant) c.if-self-eq0.false
    ∙ ap (λ k. entry_at c.self.inside.places c.self.inside.units ∷ entries_in 256 c.self.inside.places (c.self.inside.units - k)) (sym c.units.ensures)
