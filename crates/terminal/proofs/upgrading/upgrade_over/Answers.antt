use Rattle.std.proofs.Common.{◌≡◌}
use Rattle.journal.specs.PageLayout.{sectors_for}
use Rattle.shadow.specs.Upgraded.{known_blocks}
use Rattle.terminal.proofs.Layout3Sizes.{newer_size, older_sound}
use Rattle.journal.proofs.Suited.{stays}
use Rattle.terminal.proofs.Copies.{tells}
use Rattle.terminal.proofs.upgrading.upgrade_over.Goals as goal

pub returns-in-Ok-clause-upgrades : goal.returns-in-Ok-clause-upgrades
returns-in-Ok-clause-upgrades g c =
    let did = c.in-Ok.ensures in
    let old = g.A.SectorDevice.sector_count c.args.old.now in
    let new = g.B.SectorDevice.sector_count c.args.new.now in
    let to : new ≡ sectors_for (known_blocks old) = newer_size old new did.sized in
    record {
      old = record { model = stays g.A.SectorDevice c.args.old.now _ did.old_passes.sectors did.old_passes.model did.old_passes.units; sectors = λ keeps. did.old_passes.sectors; time = did.old_passes.time; failures = did.old_passes.failures };
      sound = λ keeps. older_sound old new (g.A.SectorDevice.disk c.args.old.now).content (did.exact keeps);
      same = did.old_disk;
      left = did.old_stops;
      unwritten = did.old_begins;
      reads = did.old_reads;
      goes = record { model = stays g.B.SectorDevice c.args.new.now _ did.new_passes.sectors did.new_passes.model did.new_passes.units; sectors = λ keeps. did.new_passes.sectors; time = did.new_passes.time; failures = did.new_passes.failures };
      stops = λ keeps keeps'. did.new_stops keeps keeps' (known_blocks old) to;
      new = λ keeps keeps'. did.after keeps keeps' (known_blocks old) to;
      begins = did.new_begins (known_blocks old) to;
      looks = did.new_reads;
    }

pub returns-in-Err-clause-failed : goal.returns-in-Err-clause-failed
returns-in-Err-clause-failed g c = λ to.
    let did = c.in-Err.ensures in
    record {
      old = record { model = stays g.A.SectorDevice c.args.old.now _ did.old_passes.sectors did.old_passes.model did.old_passes.units; sectors = λ keeps. did.old_passes.sectors; time = did.old_passes.time; failures = did.old_passes.failures };
      left = did.old_stops;
      unwritten = did.old_begins;
      goes = record { model = stays g.B.SectorDevice c.args.new.now _ did.new_passes.sectors did.new_passes.model did.new_passes.units; sectors = λ keeps. did.new_passes.sectors; time = did.new_passes.time; failures = did.new_passes.failures };
      stops = λ keeps keeps'. did.new_stops keeps keeps' (known_blocks (g.A.SectorDevice.sector_count c.args.old.now)) to;
      tells = tells g.A.SectorDevice g.B.SectorDevice _ _ c.from.result c.in-Err.fault c.args.old.now c.upgrade.new.old c.args.new.now c.upgrade.new.new
          c.from.ensures did.old_device did.new_device did.old_well did.new_well did.new_same did.exact;
    }
