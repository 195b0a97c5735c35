-- What is told of an image that was examined is what `check` promises.
use Rattle.std.proofs.Common.{◌≡◌, ℕ, ◌+◌, ◌*◌, Bool, false, List, Option, IsTrue, subst}
use Rattle.std.specs.Io.KnownBytes.{Appends}
use Rattle.std.specs.List.{concat}
use Rattle.sha2.specs.Sha256.{sha256}
use Rattle.sector_disk.specs.Disk.{MayLeave}
use Rattle.sector_disk.specs.declared.device.SectorDevice.{Ghosts}
use Rattle.journal.specs.Calls.{BeginsAtMost, Proceeds, ReadsAtMost, StopsLeave}
use Rattle.recovery.specs.Label.{is_size}
use Rattle.shadow.specs.Label.{blocks_in}
use Rattle.shadow.specs.Upgraded.{known_blocks}
use Rattle.stores.specs.Images.{HasMeaning, meaning}
use Rattle.image_care.specs.Looked.{gate_fits_in, reads_of_gate, reads_to_look, save_in}
use Rattle.terminal.specs.Checked.{ChecksImage, layout_by_size, report}
use Rattle.journal.proofs.Suited.{stays}

module _ {D : Type 0} (G : Ghosts D) where
  pub checked : (device after : D) (n : ℕ) (under_way : Option ℕ) (gate_fits : Bool) (digest : List ℕ) (written written' : Option (List ℕ))
      → n ≡ known_blocks (G.sector_count device) → Proceeds G device after
      → (IsTrue (G.keeps_model device) → HasMeaning (G.sector_count device) (G.disk device).content)
      → (IsTrue (G.keeps_model device) → under_way ≡ save_in (G.sector_count device) (G.disk device).content)
      → (IsTrue (G.keeps_model device) → gate_fits ≡ gate_fits_in (G.sector_count device) (G.disk device).content)
      → (IsTrue (G.keeps_model device) → digest ≡ sha256 (concat (meaning (G.sector_count device) (G.disk device).content)))
      → (IsTrue (G.keeps_model device) → G.disk after ≡ G.disk device)
      → (IsTrue (G.keeps_model device) → StopsLeave G device after (MayLeave (G.disk device)))
      → BeginsAtMost G device after 0 0
      → (IsTrue (G.keeps_model device) → ReadsAtMost G device after
      (reads_to_look (G.sector_count device) (G.disk device).content + 2 * known_blocks (G.sector_count device)
      + reads_of_gate (is_size (G.sector_count device))))
      → (is_size (G.sector_count device) ≡ false → ReadsAtMost G device after (5 * blocks_in (G.sector_count device) + 4))
      → Appends written written' (report (512 * G.sector_count device) (layout_by_size (G.sector_count device)) n under_way gate_fits digest)
      → ChecksImage G written written' device after
  checked device after n under_way gate_fits digest written written' count passes meant save fits same_digest same stops begins reads few printed = record {
    goes = record { model = stays G device after passes.sectors passes.model passes.units; sectors = λ keeps. passes.sectors; time = passes.time; failures = passes.failures };
    meant = meant;
    told = λ keeps.
        subst (λ (text : List ℕ). Appends written written' text)
        (λ i. report (512 * G.sector_count device) (layout_by_size (G.sector_count device)) (count i) (save keeps i) (fits keeps i) (same_digest keeps i))
        printed;
    same = same;
    stops = stops;
    begins = begins;
    reads = reads;
    few = few;
  }
