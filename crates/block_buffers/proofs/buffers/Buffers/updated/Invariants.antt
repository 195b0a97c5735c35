use Rattle.std.proofs.Common.{◌≡◌, ◌≤◌, ◌++◌, length, map, filter}
use Rattle.block_buffers.specs.Seen.{assigned_at}
use Rattle.block_buffers.proofs.buffers.Buffers.updated.Given as goal

abbrev pub invariant-loop-block : goal.invariant-loop-block
invariant-loop-block l = record {
  marked : l.updated.items ≡ filter (λ x. x.updated) (map (assigned_at l.self-inside.updated) (map (λ e. (e.0.now, e.1.now)) l.yielded));
  few : length l.updated.items ≤ length l.yielded;
  rest : map (λ e. (e.0.now, e.1.now)) l.yielded ++ l.block-iterator ≡ l.self-inside.slots.entries;
}
