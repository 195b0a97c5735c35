-- What `export` promises of blocks, of what a look has found and what was printed.
use Rattle.std.proofs.Common.{◌≡◌, ◌∙◌, ◌+◌, ◌-◌, ◌*◌, ◌<◌, ◌≤◌, ◌⊎◌, ◌&&◌, ℕ, Bool, false, true, List, Option, None, Some, Result, Ok, Err, IsTrue, ap, inl, inr, refl, sym, subst}
use Rattle.std.proofs.lemmas.Bool.{le-leb, le-ltb, lt-leb, lt-ltb}
use Rattle.std.specs.Prelude.{if◌then◌else◌, nat_le, nat_lt, IfErr, MatchResult, OnOk, option_map}
use Rattle.std.specs.Io.KnownBytes.{Appends}
use Rattle.sector_disk.specs.declared.device.SectorDevice.{Ghosts}
use Rattle.sector_disk.specs.Disk.{Disk, Image}
use Rattle.journal.specs.Calls.{ReadsAtMost}
use Rattle.journal.specs.Maps.{block_in}
use Rattle.journal.proofs.Suited.{stays}
use Rattle.recovery.specs.Label.{is_size}
use Rattle.recovery.specs.Opened.{first_of}
use Rattle.recovery.specs.Steps.{OnlyRead}
use Rattle.recovery.specs.declared.fault.OpenFault.{OpenFault}
use Rattle.recovery.specs.declared.fault.OpenFault.TheVariants as by
use Rattle.shadow.specs.Label.{blocks_in}
use Rattle.shadow.specs.Upgraded.{known_blocks}
use Rattle.stores.specs.Images.{HasMeaning}
use Rattle.stores.specs.Opened.{image_refusal}
use Rattle.image_care.specs.Looked.{reads_to_look}
use Rattle.image_care.specs.View.{found_by}
use Rattle.image_care.specs.declared.view.View.{View}
use Rattle.command_line.specs.declared.orders.Form.{Form}
use Rattle.terminal.specs.Done.{blocks_on, maps_on, meant_by}
use Rattle.terminal.specs.Failures.{of_image}
use Rattle.terminal.specs.Shown.{ShowsBlocks, blocks_refusal}
use Rattle.terminal.specs.Transfer.{IsFound, exports}
use Rattle.terminal.specs.declared.failure.Failure.{Failure}
use Rattle.terminal.specs.declared.failure.Failure.TheVariants.{CannotWrite, Device, NoBlock}
use Rattle.terminal.proofs.BlockShown.{contents_meant}

module _ {D : Type 0} (G : Ghosts D) where
  -- What a look has found of an image, in a device that was then read no further, is found of the maps of what the image means.
  pub found_of : (view : View) (device looked : D) → G.disk looked ≡ G.disk device
      → ((b : ℕ) → b < view.blocks.number → found_by view (G.disk device).content b ≡ block_in (meant_by G device) b)
      → IsFound view (G.disk looked).content (maps_on G device)
  found_of view device looked same found b below =
      subst (λ (d : Disk). found_by view d.content b ≡ block_in (meant_by G device) b) (sym same) (found b below)
      ∙ sym (contents_meant (meant_by G device) b)

  pub shows_blocks : (device after : D) (form : Form) (first last : ℕ) (written written' : Option (List ℕ)) → OnlyRead G device after
      → G.failures after ≡ G.failures device → first ≤ last → last < blocks_on G device
      → (IsTrue (G.keeps_model device) → Appends written written' (exports form (maps_on G device) first (last + 1 - first)))
      → (IsTrue (G.keeps_model device) → HasMeaning (G.sector_count device) (G.disk device).content)
      → (IsTrue (G.keeps_model device) → ReadsAtMost G device after
      (reads_to_look (G.sector_count device) (G.disk device).content + 2 * (last + 1 - first)))
      → (is_size (G.sector_count device) ≡ false
      → ReadsAtMost G device after (3 * blocks_in (G.sector_count device) + 3 + 2 * (last + 1 - first)))
      → ShowsBlocks G form first last written written' device after
  shows_blocks device after form first last written written' read well ordered below printed meant reads few = record {
    goes = record { model = stays G device after read.passes.sectors read.passes.model read.passes.units; sectors = λ keeps. read.passes.sectors; time = read.passes.time; failures = read.passes.failures };
    well = well;
    meant = meant;
    ordered = ordered;
    there = below;
    printed = printed;
    same = read.disk;
    stops = read.stops;
    begins = read.begins;
    reads = reads;
    few = few;
  }

  -- The same of what was printed or not.
  pub shows_or_not : {T E : Type 0} (r : Result T E) (device after : D) (form : Form) (first last n : ℕ) (written written' : Option (List ℕ))
      → OnlyRead G device after → OnOk r (G.failures after ≡ G.failures device) → n ≡ blocks_on G device → OnOk r (first ≤ last) → OnOk r (last < n)
      → (IsTrue (G.keeps_model device) → OnOk r (Appends written written' (exports form (maps_on G device) first (last + 1 - first))))
      → (IsTrue (G.keeps_model device) → HasMeaning (G.sector_count device) (G.disk device).content)
      → (IsTrue (G.keeps_model device) → ReadsAtMost G device after
      (reads_to_look (G.sector_count device) (G.disk device).content + 2 * (last + 1 - first)))
      → (is_size (G.sector_count device) ≡ false
      → ReadsAtMost G device after (3 * blocks_in (G.sector_count device) + 3 + 2 * (last + 1 - first)))
      → OnOk r (ShowsBlocks G form first last written written' device after)
  shows_or_not (Ok t) device after form first last n written written' read well count ordered below printed meant reads few =
      shows_blocks device after form first last written written' read well ordered (subst (λ (m : ℕ). last < m) count below) printed meant reads few
  shows_or_not (Err e) device after form first last n written written' read well count ordered below printed meant reads few = tt

-- Blocks of an image that an opening takes aren't refused where they are there, and their last doesn't come before their first; else
-- that is told.
blocks_by : (first last sectors : ℕ) (image : Image) → image_refusal sectors image ≡ None
    → blocks_refusal first last sectors image ≡ (if nat_le first last && nat_lt last (known_blocks sectors) then None else Some NoBlock)
blocks_by first last sectors image is =
    ap (λ r. first_of (option_map of_image r) (if nat_le first last && nat_lt last (known_blocks sectors) then None else Some NoBlock)) is

pub blocks_there : (first last sectors : ℕ) (image : Image) → image_refusal sectors image ≡ None → first ≤ last → last < known_blocks sectors
    → blocks_refusal first last sectors image ≡ None
blocks_there first last sectors image is ordered below =
    blocks_by first last sectors image is
    ∙ ap (λ t. if t && nat_lt last (known_blocks sectors) then None else Some NoBlock) (le-leb first last ordered)
    ∙ ap (λ t. if t then None else Some NoBlock) (lt-ltb last (known_blocks sectors) below)

pub blocks_missing : (first last sectors : ℕ) (image : Image) → image_refusal sectors image ≡ None → (last < first) ⊎ (known_blocks sectors ≤ last)
    → blocks_refusal first last sectors image ≡ Some NoBlock
blocks_missing first last sectors image is (inl after) =
    blocks_by first last sectors image is
    ∙ ap (λ t. if t && nat_lt last (known_blocks sectors) then None else Some NoBlock) (lt-leb first last after)
blocks_missing first last sectors image is (inr above) =
    blocks_by first last sectors image is
    ∙ ap (λ t. if nat_le first last && t then None else Some NoBlock) (le-ltb last (known_blocks sectors) above)
    ∙ neither (nat_le first last)
  where
    neither : (t : Bool) → (if t && false then None else Some NoBlock) ≡ Some NoBlock
    neither true = refl
    neither false = refl

-- Whether blocks of an image that isn't refused were printed or not.
pub told_or_not : {T : Type 0} (r : Result T Failure) (first last n sectors : ℕ) (image : Image) → image_refusal sectors image ≡ None
    → n ≡ known_blocks sectors → OnOk r (first ≤ last) → OnOk r (last < n) → IfErr r (λ e. (e ≡ Device) ⊎ (e ≡ CannotWrite) ⊎ (e ≡ NoBlock))
    → IfErr r (λ e. e ≡ NoBlock → (last < first) ⊎ (n ≤ last))
    → MatchResult r (λ t. blocks_refusal first last sectors image ≡ None)
    (λ e. (e ≡ Device) ⊎ (e ≡ CannotWrite) ⊎ (blocks_refusal first last sectors image ≡ Some e))
told_or_not (Ok t) first last n sectors image is count ordered below only none =
    blocks_there first last sectors image is ordered (subst (λ (m : ℕ). last < m) count below)
told_or_not (Err e) first last n sectors image is count ordered below (inl device) none = inl device
told_or_not (Err e) first last n sectors image is count ordered below (inr (inl unwritten)) none = inr (inl unwritten)
told_or_not (Err e) first last n sectors image is count ordered below (inr (inr missing)) none =
    inr (inr (blocks_missing first last sectors image is (subst (λ (m : ℕ). (last < first) ⊎ (m ≤ last)) count (none missing)) ∙ sym (ap (λ f. Some f) missing)))

-- An image that an opening refuses is refused so, whether the blocks are there or not.
pub refused_first : (e : Failure) (fault : OpenFault) (first last sectors : ℕ) (image : Image) → e ≡ of_image fault
    → (fault ≡ by.Device) ⊎ (image_refusal sectors image ≡ Some fault)
    → (e ≡ Device) ⊎ (e ≡ CannotWrite) ⊎ (blocks_refusal first last sectors image ≡ Some e)
refused_first e fault first last sectors image is (inl device) = inl (is ∙ ap of_image device)
refused_first e fault first last sectors image is (inr told) =
    inr (inr (ap (λ r. first_of (option_map of_image r) (if nat_le first last && nat_lt last (known_blocks sectors) then None else Some NoBlock)) told
    ∙ sym (ap (λ f. Some f) is)))
