use Rattle.std.proofs.Common.{◌≡◌, subst, refl, arith, replicate, ap}
use Rattle.journal.specs.Maps.{fresh}
use Rattle.recovery.specs.Formatted.{blank_blocks}
use Rattle.shadow.specs.Formatted.{FormatLeaves}
use Rattle.journal.specs.Store.{StandsFor}
use Rattle.journal.proofs.Calls.{keeps_on, kept_before}
use Rattle.journal.specs.Technique.{is_journal}
use Rattle.journal.proofs.Stores.{left_pages}
use Rattle.shadow.proofs.Formats.{half_now, making, blanks_are, made_means, made_clean, blank_meaning}
use Rattle.shadow.proofs.formatting.format.Goals as goal

pub returns-then-not-fits-clause-stops : goal.returns-then-not-fits-clause-stops
returns-then-not-fits-clause-stops g c = λ keeps n size x since.
    making n (g.D.SectorDevice.disk c.args.device) (blank_blocks n) x (half_now n (g.D.SectorDevice.disk c.args.device) x (g.met.D.SectorDevice.only_now c.args.device x since))

pub adopt_pages-requires-clause-clean : goal.adopt_pages-requires-clause-clean
adopt_pages-requires-clause-clean g c = λ keeps.
    let D = g.D.SectorDevice in
    let fits = c.if-not-fits.ensures in
    let before = kept_before D c.args.device c.make_blank.new.device keeps c.make_blank.ensures.passes in
    made_clean c.args.blocks fits.many fits.few (λ _. replicate 1024 32) (D.disk c.make_blank.new.device) (c.in-Ok.ensures.ok before) c.make_blank.new.listing (c.in-Ok.ensures.named before)

pub returns-in-Ok-clause-ok : goal.returns-in-Ok-clause-ok
returns-in-Ok-clause-ok g c = λ keeps.
    let D = g.D.SectorDevice in
    let n = c.args.blocks in
    let fits = c.if-not-fits.ensures in
    let new = D.disk c.make_blank.new.device in
    let honest = keeps_on D c.args.device c.make_blank.new.device keeps c.make_blank.ensures.passes in
    let means = made_means n fits.many fits.few (λ _. replicate 1024 32) new (c.in-Ok.ensures.ok keeps) (blank_blocks n) (blanks_are n) new.content (λ k. refl) in
    subst (λ l. StandsFor c.adopt_pages.result (fresh l)) (blank_meaning n new.content means) (c.adopt_pages.ensures.state honest)

pub returns-in-Ok-clause-after : goal.returns-in-Ok-clause-after
returns-in-Ok-clause-after g c = λ keeps x may. left_pages c.adopt_pages.result _ (returns-in-Ok-clause-ok g c keeps) c.adopt_pages.ensures.closed x may (ap is_journal c.adopt_pages.ensures.technique)

pub returns-in-Ok-clause-stops : goal.returns-in-Ok-clause-stops
returns-in-Ok-clause-stops g c = λ keeps n size x since.
    let D = g.D.SectorDevice in
    let one : c.args.blocks ≡ n = omega (arith, size, c.if-not-fits.ensures.size, c.sectors.ensures) in
    subst (λ m. FormatLeaves m (D.disk c.args.device) x) one
    (c.make_blank.ensures.stops keeps x (subst (λ d. D.left_since d (D.time c.args.device) x) c.adopt_pages.ensures.device since))

pub returns-in-Err-clause-stops : goal.returns-in-Err-clause-stops
returns-in-Err-clause-stops g c = λ keeps n size x since.
    let D = g.D.SectorDevice in
    let one : c.args.blocks ≡ n = omega (arith, size, c.if-not-fits.ensures.size, c.sectors.ensures) in
    subst (λ m. FormatLeaves m (D.disk c.args.device) x) one (c.make_blank.ensures.stops keeps x since)
