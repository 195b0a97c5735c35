use Rattle.std.proofs.Common.{arith, take}
use Rattle.std.proofs.lemmas.Grind.{common_steps}
use Rattle.number_io.proofs.Taken.{is_text_taken}
use Rattle.number_io.proofs.taking.take_text.Goals as goal

pub returns-then-text-end-clause-taking : goal.returns-then-text-end-clause-taking
returns-then-text-end-clause-taking c = is_text_taken c.args.delimiter c.args.text.now (take c.loop-end.end c.args.text.now) (grind (arith, common_steps))

pub returns-clause-taking : goal.returns-clause-taking
returns-clause-taking c = is_text_taken c.args.delimiter c.args.text.now c.args.text.now (grind (arith, common_steps))
