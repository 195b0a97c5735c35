use Rattle.std.proofs.Common.{◌≡◌, ◌∙◌, ap, sym}
use Rattle.std.proofs.lemmas.Bool.{MatchBool-at_true}
use Rattle.journal.specs.PageLayout.{sectors_for}
use Rattle.journal.proofs.Techniques.{pages_sectors}
use Rattle.journal.proofs.Suited.{stays}
use Rattle.terminal.specs.Failures.{of_image}
use Rattle.terminal.proofs.Making.{newer_sectors}
use Rattle.terminal.proofs.images.make_newer_over.Goals as goal

pub returns-in-Ok-clause-made : goal.returns-in-Ok-clause-made
returns-in-Ok-clause-made g c =
    let sized : g.D.SectorDevice.sector_count c.args.device ≡ sectors_for c.args.blocks =
    sym c.in-Ok.ensures.sectors ∙ c.in-Ok.store.size ∙ pages_sectors _ _ c.in-Ok.ensures.technique ∙ ap sectors_for c.in-Ok.ensures.blocks in
    record {
      goes = record { model = stays g.D.SectorDevice c.args.device _ c.in-Ok.ensures.sectors c.in-Ok.ensures.model c.in-Ok.ensures.units; sectors = λ keeps. c.in-Ok.ensures.sectors; time = c.in-Ok.ensures.time; failures = c.in-Ok.ensures.failures };
      stops = λ keeps. c.in-Ok.ensures.stops keeps c.args.blocks sized;
      blank = λ keeps. c.in-Ok.ensures.after keeps;
      begins = c.in-Ok.ensures.begins;
      reads = c.in-Ok.ensures.reads;
    }

pub returns-in-Err-clause-failed : goal.returns-in-Err-clause-failed
returns-in-Err-clause-failed g c = λ sized.
    let did = c.in-Err.ensures in
    record {
      goes = record { model = stays g.D.SectorDevice c.args.device _ did.sectors did.model did.units; sectors = λ keeps. did.sectors; time = did.time; failures = did.failures };
      told = c.from.ensures ∙ ap of_image (MatchBool-at_true _ _ sized did.refusal);
      failed = did.device (MatchBool-at_true _ _ sized did.refusal);
      stops = λ keeps. did.stops keeps c.args.blocks (newer_sectors c.args.blocks (g.D.SectorDevice.sector_count c.args.device) sized);
      begins = did.begins;
      reads = did.reads;
    }
