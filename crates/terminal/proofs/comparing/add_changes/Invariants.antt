use Rattle.std.proofs.Common.{◌≡◌, ◌-◌, ◌++◌, ◌/◌, ◌*◌, ◌+◌, length}
use Rattle.terminal.specs.Compared.{changes}
use Rattle.terminal.proofs.comparing.add_changes.Given as goal

abbrev pub invariant-loop-row : goal.invariant-loop-row
invariant-loop-row l = record {
  old_left : length l.old_rest + 64 * l.row ≡ length l.old;
  new_left : length l.new_rest + 64 * l.row ≡ length l.new;
  so_far : l.text.items ++ changes l.row (length l.old / 64 - l.row) l.old_rest l.new_rest
      ≡ l.initial.text.items ++ changes 0 (length l.old / 64) l.old l.new;
}
