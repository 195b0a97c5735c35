use Rattle.std.proofs.Common.{◌≡◌, ◌≤◌, length, take}
use Rattle.data_space.specs.Blanks.{trimmed}
use Rattle.cell_machine.proofs.memory_words.without_blanks.Given as goal

abbrev pub invariant-loop-count : goal.invariant-loop-count
invariant-loop-count l = (l.count ≤ length l.bytes) × (trimmed (take l.count l.bytes) ≡ trimmed l.bytes)

abbrev pub decreases-loop-count : goal.decreases-loop-count
decreases-loop-count l = l.count
