use Rattle.std.proofs.Common.{◌≤◌, length, IsTrue}
use Rattle.sector_disk.specs.FileBytes.{Spoils, Puts}
use Rattle.sector_disk.specs.Whole.{Goes}
use Rattle.sector_disk.proofs.whole.write_whole.Given as goal

abbrev pub invariant-loop : goal.invariant-loop
invariant-loop g l =
    let H = g.H.HostFile in
    let old = l.initial.file in
    record {
      within : l.done ≤ length l.bytes;
      puts : IsTrue (H.keeps_model old) → Puts l.at l.bytes l.done (H.bytes old) (H.bytes l.file);
      spoils : Spoils l.at (length l.bytes) (H.bytes old) (H.bytes l.file);
      goes : Goes H old l.file;
    }
