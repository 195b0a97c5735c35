use Rattle.std.proofs.Common.{inl, inr, refl}
use Rattle.terminal.proofs.unread_sectors.tell_sectors.Goals as goal

pub returns-in-Ok-clause-told : goal.returns-in-Ok-clause-told
returns-in-Ok-clause-told g c = inl (refl, c.in-Ok.ensures.told)

pub returns-in-Err-clause-told : goal.returns-in-Err-clause-told
returns-in-Err-clause-told g c = inr (c.tell_unread.ensures.only_read, c.in-Err.ensures.only)

pub returns-in-Ok-clause-unprinted : goal.returns-in-Ok-clause-unprinted
returns-in-Ok-clause-unprinted g c = λ other. absurd (other refl)

pub returns-in-Err-clause-unprinted : goal.returns-in-Err-clause-unprinted
returns-in-Err-clause-unprinted g c = λ device other. c.in-Err.ensures.unprinted other
