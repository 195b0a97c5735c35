use Rattle.std.proofs.Common.{◌≡◌, ◌∙◌, inl, inr, ⊎_elim, sym, subst, IsTrue}
use Rattle.std.specs.Prelude.{◌≢◌}
use Rattle.journal.specs.Calls.{ReadsAtMost}
use Rattle.journal.specs.Sizes.{is_known_size}
use Rattle.journal.proofs.Choices.{at_true}
use Rattle.journal.proofs.Suited.{suits_keeps}
use Rattle.recovery.specs.declared.fault.OpenFault.TheVariants.{BadSize}
use Rattle.stores.proofs.ByLayout.{asks_is, begins_is, blocks_is, has_is, is_has, known_is, leaves_is, meaning_is, passes_by, reads_is, ready_is, refusal_is, sized_by, told_device}
use Rattle.stores.proofs.opening.ready.Goals as goal

pub returns-in-Ok-clause-is_ready : goal.returns-in-Ok-clause-is_ready
returns-in-Ok-clause-is_ready g c = λ suits.
    let D = g.D.SectorDevice in
    let device = c.args.device.now in
    let l = c.in-Some.size.layout in
    let n = c.in-Some.size.blocks.number in
    let s = sized_by c.in-Some.size c.sectors.result (D.sector_count device) c.in-Some.ensures.layout c.in-Some.ensures.sectors c.sectors.ensures in
    ready_is l n (D.sector_count device) s c.in-Ok.is_open c.ready_by.new.listing (D.disk c.ready_by.new.device)
    (c.in-Ok.ensures.opens.ready (subst IsTrue (asks_is D l n device s) suits))

pub returns-in-Ok-clause-same : goal.returns-in-Ok-clause-same
returns-in-Ok-clause-same g c = λ suits.
    let D = g.D.SectorDevice in
    let device = c.args.device.now in
    let l = c.in-Some.size.layout in
    let n = c.in-Some.size.blocks.number in
    let s = sized_by c.in-Some.size c.sectors.result (D.sector_count device) c.in-Some.ensures.layout c.in-Some.ensures.sectors c.sectors.ensures in
    sym (meaning_is l n (D.sector_count device) s (D.disk c.ready_by.new.device).content)
    ∙ c.in-Ok.ensures.opens.same (subst IsTrue (asks_is D l n device s) suits)
    ∙ meaning_is l n (D.sector_count device) s (D.disk device).content

pub returns-in-Ok-clause-blocks : goal.returns-in-Ok-clause-blocks
returns-in-Ok-clause-blocks g c =
    let D = g.D.SectorDevice in
    let device = c.args.device.now in
    let s = sized_by c.in-Some.size c.sectors.result (D.sector_count device) c.in-Some.ensures.layout c.in-Some.ensures.sectors c.sectors.ensures in
    blocks_is c.in-Some.size.layout c.in-Some.size.blocks.number (D.sector_count device) s

pub returns-in-Ok-clause-sized : goal.returns-in-Ok-clause-sized
returns-in-Ok-clause-sized g c =
    let D = g.D.SectorDevice in
    let device = c.args.device.now in
    let s = sized_by c.in-Some.size c.sectors.result (D.sector_count device) c.in-Some.ensures.layout c.in-Some.ensures.sectors c.sectors.ensures in
    known_is c.in-Some.size.layout c.in-Some.size.blocks.number (D.sector_count device) s

pub returns-in-Err-clause-bad_size : goal.returns-in-Err-clause-bad_size
returns-in-Err-clause-bad_size g c =
    let D = g.D.SectorDevice in
    let device = c.args.device.now in
    let s = sized_by c.in-Some.size c.sectors.result (D.sector_count device) c.in-Some.ensures.layout c.in-Some.ensures.sectors c.sectors.ensures in
    at_true (is_known_size (D.sector_count device)) (c.in-Err.fault ≢ BadSize) (c.in-Err.fault ≡ BadSize)
    (known_is c.in-Some.size.layout c.in-Some.size.blocks.number (D.sector_count device) s) c.in-Err.ensures.opens.tells.sized

pub returns-in-Ok-clause-exact : goal.returns-in-Ok-clause-exact
returns-in-Ok-clause-exact g c = λ suits.
    let D = g.D.SectorDevice in
    let device = c.args.device.now in
    let l = c.in-Some.size.layout in
    let n = c.in-Some.size.blocks.number in
    let s = sized_by c.in-Some.size c.sectors.result (D.sector_count device) c.in-Some.ensures.layout c.in-Some.ensures.sectors c.sectors.ensures in
    refusal_is l n (D.sector_count device) s (D.disk device).content ∙ c.in-Ok.ensures.opens.exact (subst IsTrue (asks_is D l n device s) suits)

pub returns-in-Err-clause-exact : goal.returns-in-Err-clause-exact
returns-in-Err-clause-exact g c = λ suits.
    let D = g.D.SectorDevice in
    let device = c.args.device.now in
    let l = c.in-Some.size.layout in
    let n = c.in-Some.size.blocks.number in
    let s = sized_by c.in-Some.size c.sectors.result (D.sector_count device) c.in-Some.ensures.layout c.in-Some.ensures.sectors c.sectors.ensures in
    ⊎_elim (λ failed. inl failed) (λ refused. inr (refusal_is l n (D.sector_count device) s (D.disk device).content ∙ refused))
    (c.in-Err.ensures.opens.exact (subst IsTrue (asks_is D l n device s) suits))

pub returns-in-Ok-clause-meaning : goal.returns-in-Ok-clause-meaning
returns-in-Ok-clause-meaning g c = λ suits.
    let D = g.D.SectorDevice in
    let device = c.args.device.now in
    let l = c.in-Some.size.layout in
    let n = c.in-Some.size.blocks.number in
    let s = sized_by c.in-Some.size c.sectors.result (D.sector_count device) c.in-Some.ensures.layout c.in-Some.ensures.sectors c.sectors.ensures in
    has_is l n (D.sector_count device) s (D.disk device).content (c.in-Ok.ensures.opens.meaning (subst IsTrue (asks_is D l n device s) suits))

pub returns-in-Err-clause-good : goal.returns-in-Err-clause-good
returns-in-Err-clause-good g c = λ suits known has.
    let D = g.D.SectorDevice in
    let device = c.args.device.now in
    let image = (D.disk device).content in
    let l = c.in-Some.size.layout in
    let n = c.in-Some.size.blocks.number in
    let s = sized_by c.in-Some.size c.sectors.result (D.sector_count device) c.in-Some.ensures.layout c.in-Some.ensures.sectors c.sectors.ensures in
    told_device c.in-Err.fault _ (passes_by l n (D.sector_count device) s image (is_has l n (D.sector_count device) s image has))
    (c.in-Err.ensures.opens.exact (subst IsTrue (asks_is D l n device s) suits))

pub returns-in-Err-clause-content : goal.returns-in-Err-clause-content
returns-in-Err-clause-content g c = λ suits.
    c.in-Err.ensures.opens.tells.content (suits_keeps g.D.SectorDevice g.met.D.SectorDevice.keeps_both c.args.device.now suits)

pub returns-in-Ok-clause-stops : goal.returns-in-Ok-clause-stops
returns-in-Ok-clause-stops g c = λ suits known x since.
    let D = g.D.SectorDevice in
    let device = c.args.device.now in
    let l = c.in-Some.size.layout in
    let n = c.in-Some.size.blocks.number in
    let s = sized_by c.in-Some.size c.sectors.result (D.sector_count device) c.in-Some.ensures.layout c.in-Some.ensures.sectors c.sectors.ensures in
    leaves_is l n (D.sector_count device) s (D.disk device) x (c.ready_by.ensures.opens.stops (subst IsTrue (asks_is D l n device s) suits) x since)

pub returns-in-Err-clause-stops : goal.returns-in-Err-clause-stops
returns-in-Err-clause-stops g c = λ suits known x since.
    let D = g.D.SectorDevice in
    let device = c.args.device.now in
    let l = c.in-Some.size.layout in
    let n = c.in-Some.size.blocks.number in
    let s = sized_by c.in-Some.size c.sectors.result (D.sector_count device) c.in-Some.ensures.layout c.in-Some.ensures.sectors c.sectors.ensures in
    leaves_is l n (D.sector_count device) s (D.disk device) x (c.ready_by.ensures.opens.stops (subst IsTrue (asks_is D l n device s) suits) x since)

pub returns-in-Ok-clause-begins : goal.returns-in-Ok-clause-begins
returns-in-Ok-clause-begins g c = λ suits known.
    let D = g.D.SectorDevice in
    let device = c.args.device.now in
    let l = c.in-Some.size.layout in
    let n = c.in-Some.size.blocks.number in
    let s = sized_by c.in-Some.size c.sectors.result (D.sector_count device) c.in-Some.ensures.layout c.in-Some.ensures.sectors c.sectors.ensures in
    begins_is D device c.ready_by.new.device l n s (c.ready_by.ensures.opens.costs (subst IsTrue (asks_is D l n device s) suits))

pub returns-in-Err-clause-begins : goal.returns-in-Err-clause-begins
returns-in-Err-clause-begins g c = λ suits known.
    let D = g.D.SectorDevice in
    let device = c.args.device.now in
    let l = c.in-Some.size.layout in
    let n = c.in-Some.size.blocks.number in
    let s = sized_by c.in-Some.size c.sectors.result (D.sector_count device) c.in-Some.ensures.layout c.in-Some.ensures.sectors c.sectors.ensures in
    begins_is D device c.ready_by.new.device l n s (c.ready_by.ensures.opens.costs (subst IsTrue (asks_is D l n device s) suits))

pub returns-in-Ok-clause-reads : goal.returns-in-Ok-clause-reads
returns-in-Ok-clause-reads g c = λ suits known.
    let D = g.D.SectorDevice in
    let device = c.args.device.now in
    let l = c.in-Some.size.layout in
    let n = c.in-Some.size.blocks.number in
    let s = sized_by c.in-Some.size c.sectors.result (D.sector_count device) c.in-Some.ensures.layout c.in-Some.ensures.sectors c.sectors.ensures in
    subst (λ k. ReadsAtMost D device c.ready_by.new.device k) (sym (reads_is l n (D.sector_count device) s (D.disk device).content))
    (c.ready_by.ensures.opens.costs (subst IsTrue (asks_is D l n device s) suits)).few_reads

pub returns-in-Err-clause-reads : goal.returns-in-Err-clause-reads
returns-in-Err-clause-reads g c = λ suits known.
    let D = g.D.SectorDevice in
    let device = c.args.device.now in
    let l = c.in-Some.size.layout in
    let n = c.in-Some.size.blocks.number in
    let s = sized_by c.in-Some.size c.sectors.result (D.sector_count device) c.in-Some.ensures.layout c.in-Some.ensures.sectors c.sectors.ensures in
    subst (λ k. ReadsAtMost D device c.ready_by.new.device k) (sym (reads_is l n (D.sector_count device) s (D.disk device).content))
    (c.ready_by.ensures.opens.costs (subst IsTrue (asks_is D l n device s) suits)).few_reads
