use Rattle.std.proofs.Common.{◌≡◌, ◌⊎◌, ◌∙◌, Some, None, ap, inl, inr, ⊎_elim, subst, sym, IsTrue}
use Rattle.std.proofs.lemmas.Result.{MatchResult-weaker}
use Rattle.std.specs.Prelude.{MatchResult}
use Rattle.sector_disk.specs.Disk.{Disk}
use Rattle.journal.specs.Layout.{HasGoodLabel}
use Rattle.recovery.specs.declared.fault.OpenFault.TheVariants.{Device}
use Rattle.recovery.specs.Opened.{damage_refusal, first_of}
use Rattle.recovery.specs.Label.{label_refusal}
use Rattle.recovery.proofs.Recoveries.{not_damaged}
use Rattle.recovery.proofs.Upgrades.{only_read_then}
use Rattle.image_care.proofs.Findings.{on_none}
use Rattle.journal.proofs.Calls.{begins_of}
use Rattle.image_care.proofs.listing.find.Goals as goal

pub returns-clause-only_read : goal.returns-clause-only_read
returns-clause-only_read g c =
    let one = c.read_label.ensures in
    let two = c.read_listing.ensures in
    only_read_then g.D.SectorDevice c.args.device.now c.read_label.new.device c.read_listing.new.device g.met.D.SectorDevice.widens
    (record { disk = one.disk; stops = one.stops; passes = one.passes; begins = begins_of g.D.SectorDevice one.costs })
    (record { disk = two.disk; stops = two.stops; passes = two.passes; begins = two.begins })

pub returns-clause-exact : goal.returns-clause-exact
returns-clause-exact g c = λ keeps.
    let D = g.D.SectorDevice in
    let n = c.args.blocks.number in
    let image = (D.disk c.args.device.now).content in
    let honest : IsTrue (D.keeps_model c.read_label.new.device) = subst IsTrue (sym c.read_label.ensures.passes.model) keeps in
    let same : first_of (label_refusal n (image 0)) (damage_refusal n image) ≡ damage_refusal n image =
    ap (λ r. first_of r (damage_refusal n image)) (c.in_ok-read_label.ensures.exact keeps) in
    MatchResult-weaker c.read_listing.result
    (subst (λ (d : Disk). MatchResult c.read_listing.result (λ _. damage_refusal n d.content ≡ None) (λ e. (e ≡ Device) ⊎ (damage_refusal n d.content ≡ Some e)))
    (c.read_label.ensures.disk keeps) (c.read_listing.ensures.exact honest))
    (λ _ none. same ∙ none)
    (λ e. ⊎_elim (λ device. inl device) (λ refused. inr (same ∙ refused)))

pub returns-clause-meaning : goal.returns-clause-meaning
returns-clause-meaning g c = λ keeps.
    let D = g.D.SectorDevice in
    let n = c.args.blocks.number in
    let image = (D.disk c.args.device.now).content in
    let honest : IsTrue (D.keeps_model c.read_label.new.device) = subst IsTrue (sym c.read_label.ensures.passes.model) keeps in
    let label : HasGoodLabel n image = record { many = c.args.blocks.many; few = c.args.blocks.few; label = c.in_ok-read_label.ensures.ok keeps } in
    on_none c.read_listing.result _
    (λ none. record { label = label; whole = not_damaged n image none })
    (subst (λ (d : Disk). MatchResult c.read_listing.result (λ _. damage_refusal n d.content ≡ None) (λ e. (e ≡ Device) ⊎ (damage_refusal n d.content ≡ Some e)))
    (c.read_label.ensures.disk keeps) (c.read_listing.ensures.exact honest))
