use Rattle.std.proofs.Common.{◌++◌, ℕ, ◌*◌, List, IsTrue, Ok}
use Rattle.sha2.specs.Hashers.{Holds256}
use Rattle.sector_disk.specs.declared.device.DeviceFault.{DeviceFault}
use Rattle.journal.specs.Calls.{Reads}
use Rattle.image_care.specs.View.{found_by}
use Rattle.image_care.specs.Examined.{joined_below}
use Rattle.image_care.proofs.blocks.add_blocks.Given as goal

abbrev pub invariant-loop-b : goal.invariant-loop-b
invariant-loop-b g l =
    let D = g.D.SectorDevice in
    let old = l.initial.device in
    let now = l.device in
    record {
      added : IsTrue (D.keeps_model old) → (m : List ℕ) → Holds256 l.initial.hasher m
          → Holds256 l.hasher (m ++ joined_below (found_by l.view (D.disk old).content) l.b);
      reads : Reads D {T = Unit {0}} {E = DeviceFault} old now (2 * l.b) (Ok tt);
    }
