use Rattle.std.proofs.Common.{◌≡◌, ◌∙◌, true, false, IsTrue, sym, subst}
use Rattle.journal.specs.Clean as older_clean
use Rattle.journal.specs.Maps.{fresh}
use Rattle.journal.specs.PageClean as newer_clean
use Rattle.journal.specs.Store.{StandsFor}
use Rattle.journal.proofs.Choices.{from_false, from_true}
use Rattle.journal.proofs.Suited.{newer_suits, older_suits, suits_newer, suits_older}
use Rattle.recovery.specs.Label.{is_size}
use Rattle.journal.proofs.KnownSizes.{size_of_newer, size_of_older}
use Rattle.stores.proofs.Opened.{newer_meaning, older_meaning}
use Rattle.stores.proofs.opening.adopt.Goals as goal

pub adopt-requires-clause-clean : goal.adopt-requires-clause-clean
adopt-requires-clause-clean g c =
    let D = g.D.SectorDevice in
    let device = c.args.device in
    let sectors = D.sector_count device in
    let is : is_size sectors ≡ true = sym c.is_older.ensures ∙ c.if-is_older.true in
    λ keeps. from_true (is_size sectors) (older_clean.IsClean c.args.blocks (D.disk device))
    (newer_clean.IsClean c.args.blocks c.args.is_open c.args.listing.now (D.disk device)) is
    (c.requires.is_ready (subst IsTrue (sym (older_suits D device is)) keeps))

pub adopt_pages-requires-clause-clean : goal.adopt_pages-requires-clause-clean
adopt_pages-requires-clause-clean g c =
    let D = g.D.SectorDevice in
    let device = c.args.device in
    let sectors = D.sector_count device in
    let isnt : is_size sectors ≡ false = sym c.is_older.ensures ∙ c.if-is_older.false in
    λ keeps. from_false (is_size sectors) (older_clean.IsClean c.args.blocks (D.disk device))
    (newer_clean.IsClean c.args.blocks c.args.is_open c.args.listing.now (D.disk device)) isnt
    (c.requires.is_ready (subst IsTrue (sym (newer_suits D device isnt)) keeps))

pub returns-then-is_older-clause-state : goal.returns-then-is_older-clause-state
returns-then-is_older-clause-state g c =
    let D = g.D.SectorDevice in
    let device = c.args.device in
    let sectors = D.sector_count device in
    let is : is_size sectors ≡ true = sym c.is_older.ensures ∙ c.if-is_older.true in
    λ model. subst (λ blocks. StandsFor c.adopt.result (fresh blocks))
    (older_meaning sectors (D.disk device).content is c.args.blocks (size_of_older c.args.blocks sectors is c.requires.count))
    (c.adopt.ensures.state (suits_older D device is model))

pub returns-else-is_older-clause-state : goal.returns-else-is_older-clause-state
returns-else-is_older-clause-state g c =
    let D = g.D.SectorDevice in
    let device = c.args.device in
    let sectors = D.sector_count device in
    let isnt : is_size sectors ≡ false = sym c.is_older.ensures ∙ c.if-is_older.false in
    λ model. subst (λ blocks. StandsFor c.adopt_pages.result (fresh blocks))
    (newer_meaning sectors (D.disk device).content isnt c.args.blocks (size_of_newer c.args.blocks sectors isnt c.requires.known c.requires.count))
    (c.adopt_pages.ensures.state (suits_newer D device isnt model))
