use Rattle.std.proofs.Common.{◌+◌, arith}
use Rattle.stacks.proofs.Places.{stack_in-none, popped, length-stack_in, unseen, pushed}
use Rattle.stacks.proofs.laws.lent_places.Goals as goal

pub returns : goal.returns
returns c = record {
  empty = stack_in-none;
  top = λ places depth. popped places (depth + 1) depth (omega arith);
  count = length-stack_in;
  above = unseen;
  pushed = λ places depth cell h. pushed places depth (depth + 1) cell (omega arith) h;
}
