-- An entry takes at least one unit.
use Rattle.std.proofs.Common.{ℕ, ◌≤◌, arith}
use Rattle.stacks.specs.Stacks.{entry_units}
use Rattle.stacks.specs.declared.return_stack.Entry.{Entry}
use Rattle.stacks.specs.declared.return_stack.Entry.TheVariants.{Call, Value, Loop, Load}

pub at_least_one : (entry : Entry) → 1 ≤ entry_units entry
at_least_one (Call place) = omega arith
at_least_one (Value cell) = omega arith
at_least_one (Loop limit index) = omega arith
at_least_one (Load block to_in) = omega arith
