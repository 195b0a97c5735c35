use Rattle.std.proofs.Common.{ap, refl}
use Rattle.journal.specs.Maps.{fresh}
use Rattle.journal.specs.Store.{device_of}
use Rattle.recovery.specs.Formatted.{blank_blocks}
use Rattle.terminal.proofs.Closing.{done_of, failed_in_memory}
use Rattle.terminal.proofs.program.run_in_memory.Goals as goal

pub returns-in-Ok-format-clause-well : goal.returns-in-Ok-format-clause-well
returns-in-Ok-format-clause-well g c =
    done_of c.run_session.result c.closed.result c.closed.ensures _ _ (λ end run. (run.closing, run.made, _, device_of end, refl, refl, run.completes))
    (c.run_session.ensures.well (fresh (blank_blocks 32)) (c.in-Ok-format.ensures.ok c.in-Ok.ensures.model))

pub returns-in-Ok-format-clause-broken : goal.returns-in-Ok-format-clause-broken
returns-in-Ok-format-clause-broken g c =
    failed_in_memory _ c.run_session.result c.closed.result c.closed.ensures _ _ _ _ _ refl (λ after. refl)
    (λ none. ap g.R.Read.remaining (c.run_session.ensures.unread none)) (λ none. ap g.W.Write.contents (c.run_session.ensures.unwritten none))
    (c.run_session.ensures.broken (fresh (blank_blocks 32)) (c.in-Ok-format.ensures.ok c.in-Ok.ensures.model))
