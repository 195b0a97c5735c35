use Rattle.std.proofs.Common.{arith}
use Rattle.std.proofs.lemmas.Grind.{common_steps}
use Rattle.number_io.proofs.Taken.{is_word_taken}
use Rattle.number_io.proofs.taking.take_word.Goals as goal

pub returns-clause-taking : goal.returns-clause-taking
returns-clause-taking c = is_word_taken c.args.delimiter c.args.text.now c.take_text-length.result.0.now (grind (arith, common_steps))
