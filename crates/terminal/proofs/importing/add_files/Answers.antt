use Rattle.std.proofs.Common.{arith, refl}
use Rattle.std.proofs.lemmas.Grind.{common_steps}
use Rattle.terminal.proofs.ScriptLemmas.{blocks_all, blocks_next}
use Rattle.terminal.proofs.TextLemmas.{first_and_others, first_unread, others_unread}
use Rattle.terminal.proofs.importing.add_files.Goals as goal

pub loop-rest-init : goal.loop-rest-init
loop-rest-init g c = record { blocks = λ more are sound. (more, are, sound, refl); unread = λ some. some }

pub loop-rest-preserved : goal.loop-rest-preserved
loop-rest-preserved g c = record {
  blocks = blocks_next _ _ _ _ _ _ _ _ _ _ _ _ (first_and_others _ c.loop-rest.rest.now c.in-len1-up.len_at_least) c.in-Ok.ensures.added c.loop-rest.invariant.blocks;
  unread = λ some. others_unread _ _ c.loop-rest.rest.now c.in-len1-up.len_at_least c.loop-rest.invariant.unread some;
}

pub returns-clause-added : goal.returns-clause-added
returns-clause-added g c = blocks_all _ _ _ _ _ _ _ _ (grind (arith, common_steps)) c.loop-rest.invariant.blocks

pub returns-in-Err-clause-cannot : goal.returns-in-Err-clause-cannot
returns-in-Err-clause-cannot g c = λ is.
    first_unread _ _ _ _ _ (first_and_others _ c.loop-rest.rest.now c.in-len1-up.len_at_least) c.loop-rest.invariant.unread (c.in-Err.ensures.cannot is)
