use Rattle.std.proofs.Common.{◌∙◌, ◌-◌, ℕ, ap, inl, inr, refl, subst, sym}
use Rattle.std.specs.Prelude.{OnOk}
use Rattle.std.proofs.lemmas.Result.{IfErr-weaker}
use Rattle.std.specs.Io.KnownBytes.{Appends}
use Rattle.terminal.specs.Done.{maps_on}
use Rattle.terminal.specs.Failed.{NotHad}
use Rattle.terminal.specs.Standing.{AllStand, OneIsDamaged, has_pages}
use Rattle.terminal.specs.Transfer.{exports}
use Rattle.terminal.proofs.Refused.{unread}
use Rattle.terminal.proofs.standing.export_standing.Goals as goal

pub returns-in-Some-clause-printed : goal.returns-in-Some-clause-printed
returns-in-Some-clause-printed g c = λ keeps.
    let W = g.W.Write in
    subst (λ (n : ℕ). OnOk c.print_standing.result (Appends (W.contents c.args.output.now) (W.contents c.print_standing.new.output)
    (exports c.args.form (maps_on g.D.SectorDevice c.args.device.now) c.args.first (n - c.args.first)))) c.in-Some.ensures.past
    (c.print_standing.ensures.printed keeps)

pub returns-in-Some-clause-whole : goal.returns-in-Some-clause-whole
returns-in-Some-clause-whole g c = λ keeps.
    let D = g.D.SectorDevice in
    subst (λ (n : ℕ). OnOk c.print_standing.result (AllStand c.args.first n (D.disk c.args.device.now).content)) c.in-Some.ensures.past
    (c.print_standing.ensures.whole keeps)

pub returns-in-Some-clause-unhad : goal.returns-in-Some-clause-unhad
returns-in-Some-clause-unhad g c =
    let D = g.D.SectorDevice in
    IfErr-weaker c.print_standing.result _ _
    (λ e unhad is. inr (subst (λ (n : ℕ). NotHad D (OneIsDamaged c.args.first n) c.args.device.now c.print_standing.new.device)
    c.in-Some.ensures.past (unhad is)))
    c.print_standing.ensures.unhad

pub returns-in-None-clause-unhad : goal.returns-in-None-clause-unhad
returns-in-None-clause-unhad g c = λ is.
    inl (sym (ap (has_pages c.args.first c.args.last) c.sectors.ensures) ∙ c.in-None.ensures.none, refl)

pub returns-in-None-clause-only_read : goal.returns-in-None-clause-only_read
returns-in-None-clause-only_read g c = unread g.D.SectorDevice g.met.D.SectorDevice.only_now c.args.device.now
