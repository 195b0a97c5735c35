use Rattle.std.proofs.Common.{map, subst}
use Rattle.std.proofs.lemmas.Result.{IfOk-weaker}
use Rattle.clap.specs.Words.{Text, app_of}
use Rattle.command_line.specs.Commands.{SufficesFor, program}
use Rattle.command_line.proofs.Alone.{few_words, reads_same, suffices_in}
use Rattle.command_line.proofs.reading.command_for.Goals as goal

pub returns : goal.returns
returns g c =
    IfOk-weaker c.command_named.result _ _ (λ command suffices.
    suffices_in g.S.AsStr.text c.args.words.now c.in-Some.name.now (app_of command) c.in-Some.ensures.lookup.0 c.in-Some.ensures.lookup.1
    (subst (λ (n : Text). SufficesFor (app_of command) n) c.as_str.ensures suffices)) c.command_named.ensures

pub returns-in_default : goal.returns-in_default
returns-in_default g c =
    reads_same (app_of c.program.result) program (map g.S.AsStr.text c.args.words.now) c.program.ensures.app
    (few_words g.S.AsStr.text c.args.words.now c.in_default.ensures.lookup.0)
