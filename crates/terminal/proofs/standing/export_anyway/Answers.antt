use Rattle.std.proofs.Common.{◌∙◌, ⊎_elim, inl, inr, refl, sym}
use Rattle.std.proofs.lemmas.Result.{IfErr-weaker}
use Rattle.terminal.proofs.Outcomes.{if_done}
use Rattle.terminal.proofs.Refused.{unread}
use Rattle.terminal.proofs.Standings.{exports_standing, standing_fails}
use Rattle.terminal.proofs.Unread.{not_of_device, of_device}
use Rattle.terminal.proofs.standing.export_anyway.Goals as goal

pub returns-then-is_of_device-clause-of_device : goal.returns-then-is_of_device-clause-of_device
returns-then-is_of_device-clause-of_device g c =
    if_done c.export_standing.result (of_device c.args.failure (sym c.is_of_device.ensures ∙ c.if-is_of_device.true))

pub returns-then-is_of_device-clause-printed : goal.returns-then-is_of_device-clause-printed
returns-then-is_of_device-clause-printed g c =
    let done = c.export_standing.ensures in
    exports_standing g.D.SectorDevice c.export_standing.result c.args.device.now c.export_standing.new.device c.args.form c.args.first c.args.last _ _
    done.only_read done.well done.sized done.ordered done.there done.whole done.printed done.reads

pub returns-then-is_of_device-clause-failed : goal.returns-then-is_of_device-clause-failed
returns-then-is_of_device-clause-failed g c =
    let done = c.export_standing.ensures in
    IfErr-weaker c.export_standing.result _ _
    (λ e fails. inr (of_device c.args.failure (sym c.is_of_device.ensures ∙ c.if-is_of_device.true), fails))
    (standing_fails g.D.SectorDevice c.export_standing.result c.args.device.now c.export_standing.new.device c.args.first c.args.last
    done.only_read done.only done.unhad done.refused)

pub returns-else-is_of_device-clause-failed : goal.returns-else-is_of_device-clause-failed
returns-else-is_of_device-clause-failed g c =
    inl (not_of_device c.args.failure (sym c.is_of_device.ensures ∙ c.if-is_of_device.false), refl, refl)

pub returns-else-is_of_device-clause-only_read : goal.returns-else-is_of_device-clause-only_read
returns-else-is_of_device-clause-only_read g c = unread g.D.SectorDevice g.met.D.SectorDevice.only_now c.args.device.now

pub returns-then-is_of_device-clause-unprinted : goal.returns-then-is_of_device-clause-unprinted
returns-then-is_of_device-clause-unprinted g c =
    IfErr-weaker c.export_standing.result _ _ (λ e only device write. absurd (⊎_elim device write only)) c.export_standing.ensures.only
