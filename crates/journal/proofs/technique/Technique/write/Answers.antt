use Rattle.std.proofs.Common.{◌≡◌, ◌∙◌, sym, ap, subst}
use Rattle.std.specs.Prelude.{OnOk}
use Rattle.journal.specs.Images.{pair_at}
use Rattle.journal.specs.Layout.{InPair}
use Rattle.journal.specs.Steps.{WritesOnly, IsAsSynced}
use Rattle.journal.specs.declared.sizes.Layout.TheVariants as layouts
use Rattle.journal.specs.Technique.{spilled_at, spilled_of, InSpill}
use Rattle.journal.proofs.Spilled.{spilled_more}
use Rattle.journal.proofs.Suited.{stays}
use Rattle.journal.proofs.Techniques.{journal_tagged, on_ok, on_three, pair_written, suits_journal, suits_pages, tagged_more}
use Rattle.journal.proofs.technique.Technique.write.Goals as goal

pub returns-in-Journal-clause-ok : goal.returns-in-Journal-clause-ok
returns-in-Journal-clause-ok g c = λ keeps.
    let D = g.D.SectorDevice in
    let blocks = c.args.blocks in
    let d = D.disk c.args.device.now in
    let e = D.disk c.write_pair.new.device in
    let bytes = c.args.bytes.now in
    let at = c.slot_sector.ensures ∙ sym (ap (λ t. spilled_at t c.args.b) c.in-Journal.is) in
    on_ok c.write_pair.result
    (λ wrote. subst (λ k. pair_at e.content k ≡ bytes) at (pair_written c.slot_sector.result bytes d e wrote))
    (c.write_pair.ensures.ok (g.met.D.SectorDevice.keeps_both c.args.device.now (suits_journal D c.args.self.now blocks.number c.args.device.now blocks.many blocks.few c.requires.size c.in-Journal.is keeps)))

pub returns-in-Journal-clause-tagged : goal.returns-in-Journal-clause-tagged
returns-in-Journal-clause-tagged g c = λ keeps before.
    let D = g.D.SectorDevice in
    let blocks = c.args.blocks in
    on_ok c.write_pair.result
    (λ wrote next more. journal_tagged c.args.self.now c.in-Journal.is blocks.number next c.args.sum.now (D.disk c.write_pair.new.device).content)
    (c.write_pair.ensures.ok (g.met.D.SectorDevice.keeps_both c.args.device.now (suits_journal D c.args.self.now blocks.number c.args.device.now blocks.many blocks.few c.requires.size c.in-Journal.is keeps)))

pub returns-in-Journal-clause-only : goal.returns-in-Journal-clause-only
returns-in-Journal-clause-only g c = λ keeps.
    let D = g.D.SectorDevice in
    let blocks = c.args.blocks in
    let d = D.disk c.args.device.now in
    let e = D.disk c.write_pair.new.device in
    subst (λ t. WritesOnly (InSpill t c.args.b) d e) (sym c.in-Journal.is) (subst (λ k. WritesOnly (InPair k) d e) c.slot_sector.ensures
    (c.write_pair.ensures.only layouts.Journal (suits_journal D c.args.self.now blocks.number c.args.device.now blocks.many blocks.few c.requires.size c.in-Journal.is keeps)))

pub returns-in-Journal-clause-stops : goal.returns-in-Journal-clause-stops
returns-in-Journal-clause-stops g c = λ keeps x since.
    let D = g.D.SectorDevice in
    let blocks = c.args.blocks in
    let d = D.disk c.args.device.now in
    subst (λ t. IsAsSynced (InSpill t c.args.b) d x) (sym c.in-Journal.is) (subst (λ k. IsAsSynced (InPair k) d x) c.slot_sector.ensures
    (c.write_pair.ensures.stops layouts.Journal (suits_journal D c.args.self.now blocks.number c.args.device.now blocks.many blocks.few c.requires.size c.in-Journal.is keeps) x since))

pub returns-in-Journal-clause-suits : goal.returns-in-Journal-clause-suits
returns-in-Journal-clause-suits g c =
    let passes = c.write_pair.ensures.passes in
    stays g.D.SectorDevice c.args.device.now c.write_pair.new.device passes.sectors passes.model passes.units

pub returns-in-Pages-clause-ok : goal.returns-in-Pages-clause-ok
returns-in-Pages-clause-ok g c = λ keeps.
    let D = g.D.SectorDevice in
    let blocks = c.args.blocks in
    subst (λ t. OnOk c.spill.result (spilled_of t (D.disk c.spill.new.device).content c.args.b ≡ c.args.bytes.now)) (sym c.in-Pages.is)
    (c.spill.ensures.bytes (suits_pages D c.args.self.now blocks.number c.args.device.now blocks.many blocks.few c.requires.size c.in-Pages.named c.in-Pages.is keeps))

pub returns-in-Pages-clause-tagged : goal.returns-in-Pages-clause-tagged
returns-in-Pages-clause-tagged g c = λ keeps before.
    let D = g.D.SectorDevice in
    let blocks = c.args.blocks in
    let named = c.in-Pages.named in
    let d = D.disk c.args.device.now in
    let e = D.disk c.spill.new.device in
    let pending = c.args.pending.now in
    let sum = c.args.sum.now in
    let new = c.spill.new.sum in
    let honest = suits_pages D c.args.self.now blocks.number c.args.device.now blocks.many blocks.few c.requires.size named c.in-Pages.is keeps in
    on_three c.spill.result
    (λ wrote tagged exchange next more. tagged_more c.args.self.now named c.in-Pages.is blocks.number pending sum next new d.content e.content
    (spilled_more named.listing c.args.b d e (c.spill.ensures.only honest) blocks.number c.requires.below pending next c.args.bytes.now sum new
    more.here more.others wrote tagged exchange)
    before)
    (c.spill.ensures.bytes honest) (c.spill.ensures.tag honest) (c.spill.ensures.sum honest)

pub returns-in-Pages-clause-only : goal.returns-in-Pages-clause-only
returns-in-Pages-clause-only g c = λ keeps.
    let D = g.D.SectorDevice in
    let blocks = c.args.blocks in
    subst (λ t. WritesOnly (InSpill t c.args.b) (D.disk c.args.device.now) (D.disk c.spill.new.device)) (sym c.in-Pages.is)
    (c.spill.ensures.only (suits_pages D c.args.self.now blocks.number c.args.device.now blocks.many blocks.few c.requires.size c.in-Pages.named c.in-Pages.is keeps))

pub returns-in-Pages-clause-stops : goal.returns-in-Pages-clause-stops
returns-in-Pages-clause-stops g c = λ keeps x since.
    let D = g.D.SectorDevice in
    let blocks = c.args.blocks in
    subst (λ t. IsAsSynced (InSpill t c.args.b) (D.disk c.args.device.now) x) (sym c.in-Pages.is)
    (c.spill.ensures.stops (suits_pages D c.args.self.now blocks.number c.args.device.now blocks.many blocks.few c.requires.size c.in-Pages.named c.in-Pages.is keeps) x since)

pub returns-in-Pages-clause-suits : goal.returns-in-Pages-clause-suits
returns-in-Pages-clause-suits g c =
    let passes = c.spill.ensures.passes in
    stays g.D.SectorDevice c.args.device.now c.spill.new.device passes.sectors passes.model passes.units
