use Rattle.std.proofs.Common.{subst, sym}
use Rattle.journal.specs.Calls.{StopsLeave}
use Rattle.recovery.specs.Formatted.{FormatLeaves}
use Rattle.sessions.specs.Devices.{Becomes}
use Rattle.journal.proofs.Suited.{stays}
use Rattle.hosted.proofs.Sizes.{sectors_older}
use Rattle.hosted.proofs.making.make_older.Goals as goal

pub returns-in-Ok-clause-stops : goal.returns-in-Ok-clause-stops
returns-in-Ok-clause-stops g c = λ keeps fits.
    let G = g.D.SectorDevice in
    subst (λ d. StopsLeave G c.args.device d (FormatLeaves c.args.blocks (G.disk c.args.device))) (sym c.into_device.ensures.device)
    (c.in-Ok.ensures.stops keeps c.args.blocks (sectors_older c.args.blocks (G.sector_count c.args.device) fits))

pub returns-in-Ok-clause-goes : goal.returns-in-Ok-clause-goes
returns-in-Ok-clause-goes g c =
    let G = g.D.SectorDevice in
    subst (λ d. Becomes G c.args.device d) (sym c.into_device.ensures.device) (record {
      model = stays G c.args.device _ c.in-Ok.ensures.sectors c.in-Ok.ensures.model c.in-Ok.ensures.units;
      sectors = λ keeps. c.in-Ok.ensures.sectors;
      time = c.in-Ok.ensures.time;
      failures = c.in-Ok.ensures.failures;
    })

pub returns-in-Err-clause-stops : goal.returns-in-Err-clause-stops
returns-in-Err-clause-stops g c = λ keeps fits.
    c.in-Err.ensures.stops keeps c.args.blocks (sectors_older c.args.blocks (g.D.SectorDevice.sector_count c.args.device) fits)

pub returns-in-Err-clause-goes : goal.returns-in-Err-clause-goes
returns-in-Err-clause-goes g c = record {
  model = stays g.D.SectorDevice c.args.device _ c.in-Err.ensures.sectors c.in-Err.ensures.model c.in-Err.ensures.units;
  sectors = λ keeps. c.in-Err.ensures.sectors;
  time = c.in-Err.ensures.time;
  failures = c.in-Err.ensures.failures;
}
