use Rattle.std.proofs.Common.{◌≡◌, ◌-◌, ◌++◌, ◌/◌, ◌*◌, ◌+◌, length, string_bytes}
use Rattle.terminal.specs.Compared.{digest_lines, digest_report}
use Rattle.terminal.proofs.digests.digest_lines.Given as goal

abbrev pub invariant-loop-block : goal.invariant-loop-block
invariant-loop-block l = record {
  left : length l.rest + 1024 * l.block ≡ length l.bytes;
  so_far : string_bytes l.text ++ digest_lines l.block (length l.bytes / 1024 - l.block) l.rest ≡ digest_report l.bytes;
}
