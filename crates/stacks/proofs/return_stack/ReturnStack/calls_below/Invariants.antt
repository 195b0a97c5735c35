use Rattle.std.proofs.Common.{◌≡◌}
use Rattle.stacks.specs.Stacks.{calls_below}
use Rattle.stacks.specs.Entries.{entries_in}
use Rattle.stacks.proofs.Entries.{Lies}
use Rattle.stacks.proofs.return_stack.ReturnStack.calls_below.Given as goal

abbrev pub invariant-entries : goal.invariant-entries
invariant-entries l = record {
  lies : Lies l.self-inside.places l.units (entries_in 256 l.self-inside.places l.units);
  same : calls_below l.limit l.place (entries_in 256 l.self-inside.places l.units) ≡ calls_below l.limit l.fn.place l.self;
}

abbrev pub decreases-entries : goal.decreases-entries
decreases-entries l = l.units
