use Rattle.std.proofs.Common.{◌≡◌, ◌-◌, ℕ, ◌<◌, ◌≤◌, IsTrue}
use Rattle.sector_disk.specs.Opening.{KeepsGoing}
use Rattle.sector_disk.proofs.host_files.fill.Given as goal

abbrev pub invariant-loop-at : goal.invariant-loop-at
invariant-loop-at g l =
    let H = g.H.HostFile in
    let old = l.initial.file in
    record {
      within : l.at ≤ l.len;
      zeros : IsTrue (H.keeps_model old) → (p : ℕ) → p < l.at → (H.bytes l.file).content p ≡ 0;
      goes : KeepsGoing H old l.file;
    }

abbrev pub decreases-loop-at : goal.decreases-loop-at
decreases-loop-at g l = l.len - l.at
