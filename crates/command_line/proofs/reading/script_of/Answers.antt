use Rattle.std.proofs.Common.{subst, sym}
use Rattle.std.specs.Prelude.{map}
use Rattle.command_line.specs.Commands.{AreFiles}
use Rattle.command_line.proofs.reading.script_of.Goals as goal

pub returns : goal.returns
returns c = record {
  load = c.in_ok-load.ensures;
  files = subst (λ given. AreFiles given (map (λ t. t.now) c.take_input-goes_on.new.names.items) c.take_input-goes_on.result) (sym c.in_ok-files.ensures) c.take_input-goes_on.ensures;
  strict = c.in_ok-is_strict.ensures;
  traced = c.in_ok-is_traced.ensures;
  undone = c.in_ok-undoes.ensures;
}
