use Rattle.terminal.proofs.Pending.{spilled_one}
use Rattle.std.proofs.Common.{◌∙◌, ◌++◌, ◌-◌, ap, subst, length, replicate}
use Rattle.journal.specs.Maps.{spilled}
use Rattle.std.proofs.lemmas.Bool.{false_from_ne_true}
use Rattle.journal.specs.Store.{StandsFor, closed_of}
use Rattle.terminal.proofs.importing.spill_next.Goals as goal

pub returns-in-Ok-clause-spilled : goal.returns-in-Ok-clause-spilled
returns-in-Ok-clause-spilled g c =
    let is = c.as_slice.ensures.value ∙ c.filled.ensures ∙ ap (λ piece. piece ++ replicate (1024 - length piece) 32) c.cut_block.ensures.piece in
    record {
      opened = false_from_ne_true (closed_of c.args.store.now) (λ closed. let no = c.in-Ok.ensures.closed.1 closed in cc);
      open_still = false_from_ne_true (closed_of c.spill.new.self) (λ closed. let no = c.in-Ok.ensures.shuts.1 closed in cc);
      stands = λ m stands. subst (λ bytes. StandsFor c.spill.new.self (spilled m c.args.block bytes)) is (c.in-Ok.ensures.ok m stands);
      few = spilled_one c.args.store.now c.spill.new.self c.args.block c.in-Ok.ensures.continues c.in-Ok.ensures.pending;
    }
