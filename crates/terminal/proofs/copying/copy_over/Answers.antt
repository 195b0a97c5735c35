use Rattle.terminal.proofs.Copies.{becomes, left_after, not_refused, tells}
use Rattle.terminal.proofs.copying.copy_over.Goals as goal

pub returns-in-Ok-clause-copies : goal.returns-in-Ok-clause-copies
returns-in-Ok-clause-copies g c =
    let A = g.A.SectorDevice in
    let B = g.B.SectorDevice in
    let old = c.args.old.now in
    let new = c.args.new.now in
    let did = c.in-Ok.ensures in
    record {
      old = did.old_stops;
      sound = λ keeps. not_refused (A.sector_count old) (B.sector_count new) (A.disk old).content (did.exact keeps);
      goes = becomes A B new c.copy.new.new did.new_passes;
      stops = did.new_stops;
      new = λ keeps keeps'. left_after A B new c.copy.new.new _ did.new_passes.sectors (did.after keeps keeps');
      begins = did.new_begins;
      looks = did.new_reads;
      reads = did.old_reads;
    }

pub returns-in-Err-clause-failed : goal.returns-in-Err-clause-failed
returns-in-Err-clause-failed g c =
    let did = c.in-Err.ensures in
    record {
      made = record {
        old = did.old_stops;
        goes = becomes g.A.SectorDevice g.B.SectorDevice c.args.new.now c.copy.new.new did.new_passes;
        stops = did.new_stops;
        begins = did.new_begins;
        looks = did.new_reads;
      };
      tells = tells g.A.SectorDevice g.B.SectorDevice _ _ c.from.result c.in-Err.fault c.args.old.now c.copy.new.old c.args.new.now c.copy.new.new
          c.from.ensures did.old_device did.new_device did.old_well did.new_well did.new_same did.exact;
    }
