use Rattle.std.proofs.Common.{◌∙◌, inl, inr, refl, sym}
use Rattle.std.proofs.lemmas.Result.{IfErr-weaker}
use Rattle.terminal.proofs.Refused.{unread}
use Rattle.terminal.proofs.Unread.{not_of_device, of_device}
use Rattle.terminal.proofs.unread_sectors.tell_more.Goals as goal

pub returns-then-is_of_device-clause-told : goal.returns-then-is_of_device-clause-told
returns-then-is_of_device-clause-told g c =
    IfErr-weaker c.tell_sectors.result _ _
    (λ e told. inr (of_device c.args.failure (sym c.is_of_device.ensures ∙ c.if-is_of_device.true), told)) c.tell_sectors.ensures.told

pub returns-else-is_of_device-clause-told : goal.returns-else-is_of_device-clause-told
returns-else-is_of_device-clause-told g c =
    inl (not_of_device c.args.failure (sym c.is_of_device.ensures ∙ c.if-is_of_device.false), refl, refl, refl)

pub returns-else-is_of_device-clause-only_read : goal.returns-else-is_of_device-clause-only_read
returns-else-is_of_device-clause-only_read g c = unread g.D.SectorDevice g.met.D.SectorDevice.only_now c.args.device.now
