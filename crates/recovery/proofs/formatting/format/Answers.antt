use Rattle.std.proofs.Common.{◌≡◌, sym, ◌∙◌, subst, refl, arith, replicate, IsTrue}
use Rattle.sector_disk.specs.Disk.{MayLeave}
use Rattle.journal.specs.Maps.{fresh}
use Rattle.journal.specs.Store.{StandsFor}
use Rattle.recovery.specs.Formatted.{FormatLeaves, blank_blocks}
use Rattle.recovery.proofs.Formats.{half_now, making, blank_homes, made_means, blank_meaning}
use Rattle.recovery.proofs.formatting.format.Goals as goal

pub returns-then-not-fits-clause-stops : goal.returns-then-not-fits-clause-stops
returns-then-not-fits-clause-stops g c = λ keeps n size x since.
    making n (g.D.SectorDevice.disk c.args.device) (blank_blocks n) x (half_now n (g.D.SectorDevice.disk c.args.device) x (g.met.D.SectorDevice.only_now c.args.device x since))

pub returns-in-Ok-clause-ok : goal.returns-in-Ok-clause-ok
returns-in-Ok-clause-ok g c = λ keeps.
    let D = g.D.SectorDevice in
    let n = c.args.blocks in
    let fits = c.if-not-fits.ensures in
    let new = D.disk c.make_blank.new.device in
    let honest : IsTrue (D.keeps_sectors c.make_blank.new.device) = subst IsTrue (sym c.make_blank.ensures.passes.units) keeps in
    let means = made_means n fits.many fits.few (λ _. replicate 512 32) new (c.in-Ok.ensures.ok keeps) (blank_blocks n) (blank_homes n) new.content (λ k. refl) in
    subst (λ l. StandsFor c.adopt.result (fresh l)) (blank_meaning n new.content means) (c.adopt.ensures.state honest)

pub returns-in-Ok-clause-after : goal.returns-in-Ok-clause-after
returns-in-Ok-clause-after g c = λ keeps x may.
    let D = g.D.SectorDevice in
    let fits = c.if-not-fits.ensures in
    let new = D.disk c.make_blank.new.device in
    let honest : IsTrue (D.keeps_sectors c.make_blank.new.device) = subst IsTrue (sym c.make_blank.ensures.passes.units) keeps in
    let made = c.in-Ok.ensures.ok keeps in
    let left = subst (λ d. MayLeave (D.disk d) x) c.adopt.ensures.device may in
    made_means c.args.blocks fits.many fits.few (λ _. replicate 512 32) new made (blank_blocks c.args.blocks) (blank_homes c.args.blocks) x (λ k. left k (made.synced k) ∙ sym (g.met.D.SectorDevice.present c.make_blank.new.device (g.met.D.SectorDevice.keeps_both _ honest) k (made.synced k)))

pub returns-in-Ok-clause-stops : goal.returns-in-Ok-clause-stops
returns-in-Ok-clause-stops g c = λ keeps n size x since.
    let D = g.D.SectorDevice in
    let one : c.args.blocks ≡ n = omega (arith, size, c.if-not-fits.ensures.size, c.sectors.ensures) in
    subst (λ m. FormatLeaves m (D.disk c.args.device) x) one
    (c.make_blank.ensures.stops keeps x (subst (λ d. D.left_since d (D.time c.args.device) x) c.adopt.ensures.device since))

pub returns-in-Err-clause-stops : goal.returns-in-Err-clause-stops
returns-in-Err-clause-stops g c = λ keeps n size x since.
    let D = g.D.SectorDevice in
    let one : c.args.blocks ≡ n = omega (arith, size, c.if-not-fits.ensures.size, c.sectors.ensures) in
    subst (λ m. FormatLeaves m (D.disk c.args.device) x) one (c.make_blank.ensures.stops keeps x since)
