use Rattle.std.proofs.Common.{◌∙◌, sym}
use Rattle.std.specs.Prelude.{codes}
use Rattle.clap.specs.Words.{found_of}
use Rattle.clap.proofs.WalkLemmas.{first_value-rows}
use Rattle.command_line.proofs.reading.load_of.Goals as goal

pub returns-in-None : goal.returns-in-None
returns-in-None c = sym (c.in-None.ensures ∙ first_value-rows (found_of c.args.given.now) (codes "load"))
