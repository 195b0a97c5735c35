-- A session over a store that came to its end, from device to device.
use Rattle.std.proofs.Common.{◌≡◌, ◌∙◌, ℕ, List, Option, Result, Ok, subst, sym}
use Rattle.std.specs.Prelude.{OnOk}
use Rattle.sector_disk.specs.declared.device.SectorDevice.{Ghosts}
use Rattle.journal.specs.Store.{device_of}
use Rattle.journal.specs.declared.store.Store.{Store}
use Rattle.interpreter.specs.State.{Forth}
use Rattle.sessions.specs.OverStore.{RunsOver}
use Rattle.sessions.specs.Sessions.{Completes}
use Rattle.sessions.specs.declared.run_fault.RunFault.{RunFault}
use Rattle.terminal.specs.Done.{RunsFrom}

pub session_ran : {D T : Type 0} (G : Ghosts D) (opening : Forth) (old new : Store D G) (end : Result T RunFault) (t : T)
    (left left' written written' : Option (List ℕ)) → end ≡ Ok t → RunsOver G opening old new end left left' written written'
    → RunsFrom G opening left left' written written' (device_of old) (device_of new)
session_ran G opening old new end t left left' written written' is run = record {
  closing = run.0;
  made = run.1;
  completes = subst (λ e. OnOk e (Completes G opening run.0 left left' written written' (device_of old) (device_of new) run.1)) is run.4;
  keeps = run.3;
  saved = λ live image left_by. run.2.left (sym run.2.closed ∙ live) image left_by;
}
