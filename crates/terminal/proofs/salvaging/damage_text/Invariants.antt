use Rattle.std.proofs.Common.{◌≡◌, string_bytes}
use Rattle.terminal.specs.Copying.{standing_by}
use Rattle.terminal.specs.Damage.{damage_lines}
use Rattle.terminal.proofs.salvaging.damage_text.Given as goal

abbrev pub invariant-loop-b : goal.invariant-loop-b
invariant-loop-b l = string_bytes l.text ≡ damage_lines l.b (standing_by l.taken)
