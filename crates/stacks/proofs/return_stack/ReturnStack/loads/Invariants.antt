use Rattle.std.proofs.Common.{◌≡◌, ◌+◌, ◌≤◌}
use Rattle.stacks.specs.Stacks.{loads}
use Rattle.stacks.specs.Entries.{entries_in}
use Rattle.stacks.proofs.Entries.{Lies}
use Rattle.stacks.proofs.return_stack.ReturnStack.loads.Given as goal

abbrev pub invariant-entries : goal.invariant-entries
invariant-entries l = record {
  lies : Lies l.self-inside.places l.units (entries_in 256 l.self-inside.places l.units);
  same : l.count + loads (entries_in 256 l.self-inside.places l.units) ≡ loads l.self;
  room : l.count + l.units ≤ 256;
}

abbrev pub decreases-entries : goal.decreases-entries
decreases-entries l = l.units
