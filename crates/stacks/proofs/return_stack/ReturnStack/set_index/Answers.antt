use Rattle.std.proofs.Common.{◌∙◌, sym, ap}
use Rattle.std.specs.Prelude.{if◌then◌else◌}
use Rattle.stacks.specs.Stacks.{with_index}
use Rattle.stacks.proofs.Entries.{lies, reindexed, is_topped}
use Rattle.stacks.proofs.return_stack.ReturnStack.set_index.Goals as goal

pub invariant_of-self : goal.invariant_of-self
invariant_of-self c =
    let x = reindexed c.self.inside.places c.self.inside.units c.args.self.now (lies c.self.view_is c.self.invariant) c.args.index _ c.set_index.ensures.after in (x.count, x.most, x.ground)

pub returns-clause-top : goal.returns-clause-top
returns-clause-top c =
    c.set_index.ensures.there ∙ is_topped c.self.inside.places c.self.inside.units c.args.self.now (lies c.self.view_is c.self.invariant)

pub returns-clause-after : goal.returns-clause-after
returns-clause-after c =
    let x = reindexed c.self.inside.places c.self.inside.units c.args.self.now (lies c.self.view_is c.self.invariant) c.args.index _ c.set_index.ensures.after in
    x.is ∙ ap (λ b. if b then with_index c.args.index c.args.self.now else c.args.self.now) (sym c.set_index.ensures.there)
