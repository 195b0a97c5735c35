use Rattle.std.proofs.Common.{◌∙◌, inl, inr, refl, sym}
use Rattle.std.proofs.lemmas.Result.{IfErr-weaker}
use Rattle.terminal.proofs.Outcomes.{if_done}
use Rattle.terminal.proofs.Refused.{unread}
use Rattle.terminal.proofs.Unread.{not_of_device, of_device}
use Rattle.terminal.proofs.standing.list_anyway.Goals as goal

pub returns-then-is_of_device-clause-of_device : goal.returns-then-is_of_device-clause-of_device
returns-then-is_of_device-clause-of_device g c =
    if_done c.list_standing.result (of_device c.args.failure (sym c.is_of_device.ensures ∙ c.if-is_of_device.true))

pub returns-then-is_of_device-clause-failed : goal.returns-then-is_of_device-clause-failed
returns-then-is_of_device-clause-failed g c =
    IfErr-weaker c.list_standing.result _ _
    (λ e fails. inr (of_device c.args.failure (sym c.is_of_device.ensures ∙ c.if-is_of_device.true), fails)) c.list_standing.ensures.failed

pub returns-else-is_of_device-clause-failed : goal.returns-else-is_of_device-clause-failed
returns-else-is_of_device-clause-failed g c =
    inl (not_of_device c.args.failure (sym c.is_of_device.ensures ∙ c.if-is_of_device.false), refl, refl)

pub returns-else-is_of_device-clause-only_read : goal.returns-else-is_of_device-clause-only_read
returns-else-is_of_device-clause-only_read g c = unread g.D.SectorDevice g.met.D.SectorDevice.only_now c.args.device.now
