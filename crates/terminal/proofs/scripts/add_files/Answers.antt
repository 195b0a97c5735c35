use Rattle.std.proofs.Common.{arith, refl}
use Rattle.std.proofs.lemmas.Grind.{common_steps}
use Rattle.terminal.proofs.ScriptLemmas.{lines_all, lines_next}
use Rattle.terminal.proofs.TextLemmas.{first_and_others, first_unread_of, others_unread}
use Rattle.terminal.proofs.scripts.add_files.Goals as goal

pub loop-rest-init : goal.loop-rest-init
loop-rest-init g c = record { lines = λ more are. (more, are, refl); unread = λ some. some }

pub loop-rest-preserved : goal.loop-rest-preserved
loop-rest-preserved g c = record {
  lines = lines_next _ _ _ _ _ _ _ _ (first_and_others _ c.loop-rest.rest.now c.in-len1-up.len_at_least) c.in-Ok.ensures.added c.loop-rest.invariant.lines;
  unread = λ some. others_unread _ _ c.loop-rest.rest.now c.in-len1-up.len_at_least c.loop-rest.invariant.unread some;
}

pub returns-clause-added : goal.returns-clause-added
returns-clause-added g c = lines_all _ _ _ _ _ (grind (arith, common_steps)) c.loop-rest.invariant.lines

pub returns-in-Err-clause-only : goal.returns-in-Err-clause-only
returns-in-Err-clause-only g c =
    first_unread_of _ _ _ _ _ _ (first_and_others _ c.loop-rest.rest.now c.in-len1-up.len_at_least) c.loop-rest.invariant.unread c.in-Err.ensures.only
