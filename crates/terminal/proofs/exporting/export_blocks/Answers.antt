use Rattle.std.proofs.Common.{⊎_elim}
use Rattle.terminal.proofs.exporting.export_blocks.Goals as goal

pub returns-in-Err-clause-unprinted : goal.returns-in-Err-clause-unprinted
returns-in-Err-clause-unprinted g c = λ other written.
    ⊎_elim (λ is. absurd (other is)) (λ is. absurd (written is)) c.in-Err.ensures.only
