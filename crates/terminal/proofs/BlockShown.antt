-- What `list` promises of a block, of what was read and printed, and of how the file of its image was opened.
use Rattle.std.proofs.Common.{◌≡◌, ◌⊎◌, ◌∙◌, ℕ, ◌+◌, ◌*◌, ◌<◌, false, List, Option, None, Some, Result, Ok, Err, IsTrue, ap, inl, inr, subst, sym}
use Rattle.std.specs.Prelude.{if◌then◌else◌, nat_lt, IfErr, MatchResult, option_map, unwrap_or}
use Rattle.std.proofs.lemmas.Bool.{lt-ltb}
use Rattle.std.specs.Io.KnownBytes.{Appends}
use Rattle.sector_disk.specs.Disk.{Image, MayLeave}
use Rattle.sector_disk.specs.declared.device.SectorDevice.{Ghosts}
use Rattle.journal.specs.Calls.{BeginsAtMost, Proceeds, ReadsAtMost, StopsLeave}
use Rattle.journal.specs.Maps.{block_in, contents, fresh}
use Rattle.journal.proofs.Blocks.{at_none}
use Rattle.recovery.specs.Label.{is_size}
use Rattle.recovery.specs.Opened.{first_of}
use Rattle.shadow.specs.Label.{blocks_in}
use Rattle.shadow.specs.Upgraded.{known_blocks}
use Rattle.stores.specs.Images.{HasMeaning}
use Rattle.stores.specs.Opened.{image_refusal}
use Rattle.image_care.specs.Looked.{reads_to_look}
use Rattle.terminal.specs.Done.{blocks_on, meant_by}
use Rattle.terminal.specs.Failures.{of_image}
use Rattle.terminal.specs.Screen.{listing}
use Rattle.terminal.specs.Shown.{ShowsImage, block_refusal}
use Rattle.terminal.specs.declared.failure.Failure.{Failure}
use Rattle.terminal.specs.declared.failure.Failure.TheVariants.{CannotWrite, Device, NoBlock}
use Rattle.journal.proofs.Suited.{stays}

-- Of maps of the blocks that an image means, of which nothing is pending, a block is that of the image.
pub contents_meant : (blocks : List (List ℕ)) (b : ℕ) → contents (fresh blocks) b ≡ block_in blocks b
contents_meant blocks b = ap (λ (p : Option (List ℕ)). unwrap_or p (block_in blocks b)) (at_none blocks b)

module _ {D : Type 0} (G : Ghosts D) where
  pub shown : (device after : D) (b : ℕ) (bytes : List ℕ) (written written' : Option (List ℕ)) → Proceeds G device after
      → G.failures after ≡ G.failures device → b < blocks_on G device
      → (IsTrue (G.keeps_model device) → bytes ≡ block_in (meant_by G device) b)
      → (IsTrue (G.keeps_model device) → HasMeaning (G.sector_count device) (G.disk device).content)
      → (IsTrue (G.keeps_model device) → G.disk after ≡ G.disk device)
      → (IsTrue (G.keeps_model device) → StopsLeave G device after (MayLeave (G.disk device)))
      → BeginsAtMost G device after 0 0
      → (IsTrue (G.keeps_model device)
      → ReadsAtMost G device after (reads_to_look (G.sector_count device) (G.disk device).content + 2))
      → (is_size (G.sector_count device) ≡ false → ReadsAtMost G device after (3 * blocks_in (G.sector_count device) + 5))
      → Appends written written' (listing bytes) → ShowsImage G b written written' device after
  shown device after b bytes written written' passes well below read meant same stops begins reads few printed = record {
    goes = record { model = stays G device after passes.sectors passes.model passes.units; sectors = λ keeps. passes.sectors; time = passes.time; failures = passes.failures };
    well = well;
    meant = meant;
    there = below;
    listed = λ keeps.
        subst (λ (l : List ℕ). Appends written written' (listing l)) (read keeps ∙ sym (contents_meant (meant_by G device) b)) printed;
    same = same;
    stops = stops;
    begins = begins;
    reads = reads;
    few = few;
  }

-- A block that is there, of an image that an opening takes, isn't refused; whether its listing was printed or not.
pub block_there : (b sectors : ℕ) (image : Image) → image_refusal sectors image ≡ None → b < known_blocks sectors
    → block_refusal b sectors image ≡ None
block_there b sectors image is below =
    ap (λ r. first_of (option_map of_image r) (if nat_lt b (known_blocks sectors) then None else Some NoBlock)) is
    ∙ ap (λ t. if t then None else Some NoBlock) (lt-ltb b (known_blocks sectors) below)

pub printed_or_not : {T P : Type 0} (r : Result T Failure) (Q : Failure → Type 0) → P → IfErr r (λ e. e ≡ CannotWrite)
    → MatchResult r (λ t. P) (λ e. (e ≡ Device) ⊎ (e ≡ CannotWrite) ⊎ Q e)
printed_or_not (Ok t) Q p only = p
printed_or_not (Err e) Q p only = inr (inl only)
