use Rattle.std.proofs.Common.{◌≡◌, ◌∙◌, true, false, subst, sym}
use Rattle.std.specs.Prelude.{MatchBool}
use Rattle.recovery.specs.Formatted as older
use Rattle.recovery.specs.Formatted.{blank_blocks}
use Rattle.recovery.specs.Label.{is_size}
use Rattle.shadow.specs.Formatted as newer
use Rattle.journal.proofs.Suited.{suits_newer, suits_older}
use Rattle.hosted.proofs.Sizes.{leaves_newer, leaves_older, newer_fits, older_fits}
use Rattle.hosted.proofs.making.make_image.Goals as goal

pub returns-then-is_older-clause-blank : goal.returns-then-is_older-clause-blank
returns-then-is_older-clause-blank g c = λ keeps.
    let G = g.D.SectorDevice in
    let is : is_size (G.sector_count c.args.device) ≡ true = sym c.is_older.ensures ∙ c.if-is_older.true in
    leaves_older G c.args.device (blank_blocks c.args.blocks) c.make_older.result is c.make_older.ensures.sectors
    (c.make_older.ensures.blank (suits_older G c.args.device is keeps))

pub returns-then-is_older-clause-stops : goal.returns-then-is_older-clause-stops
returns-then-is_older-clause-stops g c = λ keeps fits image since.
    let G = g.D.SectorDevice in
    let is : is_size (G.sector_count c.args.device) ≡ true = sym c.is_older.ensures ∙ c.if-is_older.true in
    subst (λ t. MatchBool t (older.FormatLeaves c.args.blocks (G.disk c.args.device) image) (newer.FormatLeaves c.args.blocks (G.disk c.args.device) image)) (sym is)
    (c.make_older.ensures.stops (suits_older G c.args.device is keeps) (sym (older_fits c.args.blocks (G.sector_count c.args.device) is) ∙ fits) image since)

pub returns-else-is_older-clause-blank : goal.returns-else-is_older-clause-blank
returns-else-is_older-clause-blank g c = λ keeps.
    let G = g.D.SectorDevice in
    let isnt : is_size (G.sector_count c.args.device) ≡ false = sym c.is_older.ensures ∙ c.if-is_older.false in
    leaves_newer G c.args.device (blank_blocks c.args.blocks) c.make_newer.result isnt c.make_newer.ensures.sectors
    (c.make_newer.ensures.blank (suits_newer G c.args.device isnt keeps))

pub returns-else-is_older-clause-stops : goal.returns-else-is_older-clause-stops
returns-else-is_older-clause-stops g c = λ keeps fits image since.
    let G = g.D.SectorDevice in
    let isnt : is_size (G.sector_count c.args.device) ≡ false = sym c.is_older.ensures ∙ c.if-is_older.false in
    subst (λ t. MatchBool t (older.FormatLeaves c.args.blocks (G.disk c.args.device) image) (newer.FormatLeaves c.args.blocks (G.disk c.args.device) image)) (sym isnt)
    (c.make_newer.ensures.stops (suits_newer G c.args.device isnt keeps) (sym (newer_fits c.args.blocks (G.sector_count c.args.device) isnt) ∙ fits) image since)
