use Rattle.std.proofs.Common.{◌⊎◌, sym, subst}
use Rattle.journal.specs.Technique.{saved_of, latest_of, HasBlocks}
use Rattle.journal.proofs.Suited.{stays, sectors_suit}
use Rattle.journal.proofs.Techniques.{on_ok, on_both, journal_saved, pages_saved, pages_named, suits_journal, suits_pages, pages_suit}
use Rattle.journal.proofs.technique.Technique.save.Goals as goal

pub save-requires-clause-sound : goal.save-requires-clause-sound
save-requires-clause-sound g c = λ keeps.
    (c.requires.sound (sectors_suit g.D.SectorDevice g.met.D.SectorDevice.keeps_both c.args.device.now keeps)).journal c.in-Journal.is

pub save-requires-in-Pages-clause-sound : goal.save-requires-in-Pages-clause-sound
save-requires-in-Pages-clause-sound g c = λ keeps.
    let blocks = c.args.blocks in
    (c.requires.sound (pages_suit g.D.SectorDevice c.args.self.now blocks.number c.args.device.now blocks.many blocks.few c.requires.size c.in-Pages.named c.in-Pages.is keeps)).pages
    c.in-Pages.named c.in-Pages.is

pub save-requires-in-Pages-clause-spilled : goal.save-requires-in-Pages-clause-spilled
save-requires-in-Pages-clause-spilled g c = λ keeps.
    let blocks = c.args.blocks in
    (c.requires.tagged (pages_suit g.D.SectorDevice c.args.self.now blocks.number c.args.device.now blocks.many blocks.few c.requires.size c.in-Pages.named c.in-Pages.is keeps)).pages
    c.in-Pages.named c.in-Pages.is

pub returns-in-Journal-clause-ok : goal.returns-in-Journal-clause-ok
returns-in-Journal-clause-ok g c = λ keeps.
    let D = g.D.SectorDevice in
    let blocks = c.args.blocks in
    on_ok c.save.result (journal_saved c.args.self.now blocks.number c.args.pending.now (D.disk c.args.device.now) (D.disk c.save.new.device) c.in-Journal.is)
    (c.save.ensures.ok (suits_journal D c.args.self.now blocks.number c.args.device.now blocks.many blocks.few c.requires.size c.in-Journal.is keeps))

pub returns-in-Journal-clause-stops : goal.returns-in-Journal-clause-stops
returns-in-Journal-clause-stops g c = λ keeps x since.
    let D = g.D.SectorDevice in
    let blocks = c.args.blocks in
    let image = (D.disk c.args.device.now).content in
    subst (λ t. HasBlocks t blocks.number (saved_of t blocks.number image) x ⊎ HasBlocks t blocks.number (latest_of t blocks.number c.args.pending.now image) x) (sym c.in-Journal.is)
    (c.save.ensures.stops (suits_journal D c.args.self.now blocks.number c.args.device.now blocks.many blocks.few c.requires.size c.in-Journal.is keeps) x since)

pub returns-in-Journal-clause-gate : goal.returns-in-Journal-clause-gate
returns-in-Journal-clause-gate g c = λ is keeps x since.
    let blocks = c.args.blocks in
    c.save.ensures.gate (suits_journal g.D.SectorDevice c.args.self.now blocks.number c.args.device.now blocks.many blocks.few c.requires.size c.in-Journal.is keeps) x since

pub returns-in-Journal-clause-applied : goal.returns-in-Journal-clause-applied
returns-in-Journal-clause-applied g c = λ is keeps.
    let blocks = c.args.blocks in
    c.save.ensures.ok (suits_journal g.D.SectorDevice c.args.self.now blocks.number c.args.device.now blocks.many blocks.few c.requires.size c.in-Journal.is keeps)

pub returns-in-Journal-clause-suits : goal.returns-in-Journal-clause-suits
returns-in-Journal-clause-suits g c =
    let passes = c.save.ensures.passes in
    stays g.D.SectorDevice c.args.device.now c.save.new.device passes.sectors passes.model passes.units

pub returns-in-Pages-clause-ok : goal.returns-in-Pages-clause-ok
returns-in-Pages-clause-ok g c = λ keeps.
    let D = g.D.SectorDevice in
    let blocks = c.args.blocks in
    let run = c.save-in-Pages in
    on_both run.result
    (pages_saved c.args.self.now blocks.number c.args.pending.now c.in-Pages.named c.in-Pages.is (D.disk c.args.device.now) (D.disk run.new.device) run.new.self)
    run.ensures.turned
    (run.ensures.ok (suits_pages D c.args.self.now blocks.number c.args.device.now blocks.many blocks.few c.requires.size c.in-Pages.named c.in-Pages.is keeps))

pub returns-in-Pages-clause-stops : goal.returns-in-Pages-clause-stops
returns-in-Pages-clause-stops g c = λ keeps x since.
    let D = g.D.SectorDevice in
    let blocks = c.args.blocks in
    let image = (D.disk c.args.device.now).content in
    subst (λ t. HasBlocks t blocks.number (saved_of t blocks.number image) x ⊎ HasBlocks t blocks.number (latest_of t blocks.number c.args.pending.now image) x) (sym c.in-Pages.is)
    (c.save-in-Pages.ensures.stops (suits_pages D c.args.self.now blocks.number c.args.device.now blocks.many blocks.few c.requires.size c.in-Pages.named c.in-Pages.is keeps) x since)

pub returns-in-Pages-clause-named : goal.returns-in-Pages-clause-named
returns-in-Pages-clause-named g c = λ named is keeps.
    let D = g.D.SectorDevice in
    let blocks = c.args.blocks in
    let run = c.save-in-Pages in
    on_ok run.result
    (pages_named c.args.self.now blocks.number c.args.pending.now c.in-Pages.named c.in-Pages.is (D.disk c.args.device.now) (D.disk run.new.device) named run.new.self.listing is)
    (run.ensures.ok (suits_pages D c.args.self.now blocks.number c.args.device.now blocks.many blocks.few c.requires.size c.in-Pages.named c.in-Pages.is keeps))

pub returns-in-Pages-clause-suits : goal.returns-in-Pages-clause-suits
returns-in-Pages-clause-suits g c =
    let passes = c.save-in-Pages.ensures.passes in
    stays g.D.SectorDevice c.args.device.now c.save-in-Pages.new.device passes.sectors passes.model passes.units
