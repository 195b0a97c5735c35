use Rattle.std.proofs.Common.{◌≡◌, ◌≤◌, length, IsTrue}
use Rattle.sector_disk.specs.FileBytes.{Gives}
use Rattle.sector_disk.specs.Whole.{Goes}
use Rattle.sector_disk.proofs.whole.read_whole.Given as goal

abbrev pub invariant-loop : goal.invariant-loop
invariant-loop g l =
    let H = g.H.HostFile in
    let old = l.initial.file in
    record {
      within : l.done ≤ length l.out;
      gives : IsTrue (H.keeps_model old) → Gives (H.bytes old) l.at l.out l.done;
      bytes : H.bytes l.file ≡ H.bytes old;
      goes : Goes H old l.file;
    }
