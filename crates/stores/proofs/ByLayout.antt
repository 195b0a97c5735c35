-- What is said by the layout of an image is said by its size too.
use Rattle.std.proofs.Common.{◌≡◌, ◌≢◌, ◌⊎◌, ⊎_elim, ℕ, ◌+◌, ◌*◌, ◌≤◌, Bool, true, false, cond, List, Option, Some, None, refl, sym, ◌∙◌, ap, subst, arith}
use Rattle.std.specs.Prelude.{◌==◌, not, if◌then◌else◌}
use Rattle.std.proofs.lemmas.Bool.Decides.{nat_tests}
use Rattle.sector_disk.specs.Disk.{Disk, Image, MayLeave}
use Rattle.sector_disk.specs.declared.device.SectorDevice.{Ghosts}
use Rattle.journal.specs.Calls.{BeginsAtMost, CostsAtMost}
use Rattle.journal.specs.Clean as journal_clean
use Rattle.journal.specs.Layouts.{asks, is_journal, sectors_for}
use Rattle.journal.specs.PageClean as pages_clean
use Rattle.journal.specs.PageLayout as pages_layout
use Rattle.journal.specs.Sizes.{is_known_size, is_size, known_blocks}
use Rattle.journal.specs.Suits.{suits}
use Rattle.journal.specs.declared.sizes.Layout.{Layout}
use Rattle.journal.specs.declared.sizes.Layout.TheVariants.{Journal, Pages}
use Rattle.journal.specs.declared.sizes.Size.{Size}
use Rattle.journal.proofs.Choices.{at_true, at_false}
use Rattle.journal.proofs.KnownSizes.{newer_blocks, newer_count, older_blocks, older_count, older_known}
use Rattle.journal.proofs.Suited.{newer_suits, older_suits}
use Rattle.recovery.specs.Label.{blocks_in, is_named, label_refusal_by, number_at}
use Rattle.recovery.specs.Opened as journal_opened
use Rattle.recovery.specs.Opened.{first_of}
use Rattle.recovery.specs.declared.fault.OpenFault.{OpenFault}
use Rattle.recovery.specs.declared.fault.OpenFault.TheVariants.{BadSize, Device, NoLabel, OtherVersion, WrongCount}
use Rattle.recovery.proofs.Recoveries as journal_recoveries
use Rattle.recovery.proofs.Recoveries.{same_refusal}
use Rattle.shadow.specs.Label as pages_label
use Rattle.shadow.proofs.Labels as pages_labels
use Rattle.stores.specs.ByLayout.{HasMeaningBy, IsReadyBy, IsSized, LeavesBy, damage_by, meaning_by, reads_by, refusal_by, syncs_by, writes_by}
use Rattle.stores.specs.Images.{HasMeaning, meaning}
use Rattle.stores.specs.Opened.{image_refusal, newer_refusal, IsReady, OpeningLeaves, reads_for, syncs_for, writes_for}
use Rattle.stores.proofs.Damage.{passes_none}
use Rattle.stores.proofs.Opened.{has_newer, has_older, newer_has, newer_meaning, older_has, older_meaning, older_refusal}

-- Images of layout 3 of m blocks have as many sectors as those of n blocks where m is n.
module _ (n sectors : ℕ) (many : 32 ≤ n) (few : n ≤ 3840) (size : sectors ≡ pages_layout.sectors_for n) where
  same_number : (m : ℕ) → (m == n) ≡ true → m ≡ n
  same_number m same = grind (arith, nat_tests, same)

  other_number : (m : ℕ) → (m == n) ≡ false → m ≢ n
  other_number m other is = absurd (let no : true ≡ false = sym (test is) ∙ other in cc)
    where
      test : m ≡ n → (m == n) ≡ true
      test is = grind (arith, nat_tests, is)

  fitting : (m : ℕ) → pages_label.is_size_for m sectors ≡ true → sectors ≡ pages_layout.sectors_for m
  fitting m is = grind (arith, nat_tests, is)

  fits_one : (m : ℕ) (b : Bool) → (m == n) ≡ b → pages_label.is_size_for m sectors ≡ b
  fits_one m true same = ap (λ k. pages_label.is_size_for k sectors) (same_number m same) ∙ pages_labels.right_size n sectors many few size
  fits_one m false other = pick (pages_label.is_size_for m sectors) refl
    where
      pick : (b : Bool) → pages_label.is_size_for m sectors ≡ b → b ≡ false
      pick true is = absurd (other_number m other (omega (arith, size, fitting m is)))
      pick false is = refl

  pub label_same : (label : List ℕ) → pages_label.refusal sectors label ≡ label_refusal_by 3 n label
  label_same label =
      ap (λ x. cond (not x) (Some BadSize) (pages_label.label_refusal sectors label)) (pages_labels.known n sectors many few size)
      ∙ ap (λ fits. cond (not (is_named label)) (Some NoLabel) (cond (not (number_at label 8 == 3)) (Some OtherVersion) (cond (not fits) (Some WrongCount) None)))
      (fits_one (number_at label 10) (number_at label 10 == n) refl)

pub blocks_is : (layout : Layout) (n sectors : ℕ) → IsSized layout n sectors → n ≡ known_blocks sectors
blocks_is Journal n sectors s = older_blocks n sectors s.told s.size
blocks_is Pages n sectors s = newer_blocks n sectors s.told s.size

pub known_is : (layout : Layout) (n sectors : ℕ) → IsSized layout n sectors → is_known_size sectors ≡ true
known_is Journal n sectors s = older_known sectors s.told
known_is Pages n sectors s = pages_labels.known n sectors s.many s.few s.size

pub meaning_is : (layout : Layout) (n sectors : ℕ) → IsSized layout n sectors → (image : Image) → meaning_by layout n image ≡ meaning sectors image
meaning_is Journal n sectors s image = older_meaning sectors image s.told n s.size
meaning_is Pages n sectors s image = newer_meaning sectors image s.told n s.size

pub has_is : (layout : Layout) (n sectors : ℕ) → IsSized layout n sectors → (image : Image) → HasMeaningBy layout n image → HasMeaning sectors image
has_is Journal n sectors s image has = older_has sectors image s.told n s.size has
has_is Pages n sectors s image has = newer_has sectors image s.told n s.size has

pub refusal_is : (layout : Layout) (n sectors : ℕ) → IsSized layout n sectors → (image : Image) → image_refusal sectors image ≡ refusal_by layout n image
refusal_is Journal n sectors s image =
    older_refusal sectors image s.told _ (same_refusal n sectors image (sym (older_count n sectors s.size)) s.told)
refusal_is Pages n sectors s image =
    ap (λ b. if b then journal_opened.image_refusal sectors image else newer_refusal sectors image) s.told
    ∙ (λ t. first_of (label_same n sectors s.many s.few s.size (image 0) t) (damage_by Pages (newer_count n sectors s.size t) image))

pub ready_is : (layout : Layout) (n sectors : ℕ) → IsSized layout n sectors → (is_open : Bool) (listing : List ℕ) (disk : Disk)
    → IsReadyBy layout n is_open listing disk → IsReady sectors n is_open listing disk
ready_is Journal n sectors s is_open listing disk = at_true (is_size sectors) (journal_clean.IsClean n disk) (pages_clean.IsClean n is_open listing disk) s.told
ready_is Pages n sectors s is_open listing disk = at_false (is_size sectors) (journal_clean.IsClean n disk) (pages_clean.IsClean n is_open listing disk) s.told

pub leaves_is : (layout : Layout) (n sectors : ℕ) → IsSized layout n sectors → (disk : Disk) (c : Image) → LeavesBy layout n disk c → OpeningLeaves sectors disk c
leaves_is Journal n sectors s disk c leaves = at_true (is_size sectors) (journal_opened.RecoveryLeaves (blocks_in sectors) disk c) (MayLeave disk c) s.told
    (subst (λ m. journal_opened.RecoveryLeaves m disk c) (sym (older_count n sectors s.size)) leaves)
leaves_is Pages n sectors s disk c leaves = at_false (is_size sectors) (journal_opened.RecoveryLeaves (blocks_in sectors) disk c) (MayLeave disk c) s.told leaves

pub writes_is : (layout : Layout) (n sectors : ℕ) → IsSized layout n sectors → (image : Image) → writes_for sectors image ≡ writes_by layout n image
writes_is Journal n sectors s image = (λ t. if s.told t then journal_opened.writes_for (older_count n sectors s.size t) image else 0)
writes_is Pages n sectors s image = (λ t. if s.told t then journal_opened.writes_for (blocks_in sectors) image else 0)

pub syncs_is : (layout : Layout) (n sectors : ℕ) → IsSized layout n sectors → (image : Image) → syncs_for sectors image ≡ syncs_by layout n image
syncs_is Journal n sectors s image = (λ t. if s.told t then journal_opened.syncs_for image else 1)
syncs_is Pages n sectors s image = (λ t. if s.told t then journal_opened.syncs_for image else 1)

pub reads_is : (layout : Layout) (n sectors : ℕ) → IsSized layout n sectors → (image : Image) → reads_for sectors image ≡ reads_by layout n image
reads_is Journal n sectors s image =
    (λ t. if s.told t then journal_opened.reads_for (older_count n sectors s.size t) image else 3 * pages_label.blocks_in sectors + 3)
reads_is Pages n sectors s image =
    (λ t. if s.told t then journal_opened.reads_for (blocks_in sectors) image else 3 * newer_count n sectors s.size t + 3)

-- What has a meaning passes each test.
pub passes_by : (layout : Layout) (n sectors : ℕ) → IsSized layout n sectors → (image : Image) → HasMeaningBy layout n image → refusal_by layout n image ≡ None
passes_by Journal n sectors s image has =
    sym (same_refusal n sectors image (sym (older_count n sectors s.size)) s.told) ∙ journal_recoveries.passes_all n sectors image s.size has
passes_by Pages n sectors s image has = passes_none n image (record {
  label = sym (label_same n sectors s.many s.few s.size (image 0)) ∙ pages_labels.good_passes n sectors s.many s.few s.size (image 0) has.label.label;
  good = has.label.label;
  whole = has.whole;
})

pub is_has : (layout : Layout) (n sectors : ℕ) → IsSized layout n sectors → (image : Image) → HasMeaning sectors image → HasMeaningBy layout n image
is_has Journal n sectors s image has = subst (λ m. HasMeaningBy Journal m image) (older_count n sectors s.size) (has_older sectors image s.told has)
is_has Pages n sectors s image has = subst (λ m. HasMeaningBy Pages m image) (newer_count n sectors s.size) (has_newer sectors image s.told has)

pub asks_is : {D : Type 0} (G : Ghosts D) (layout : Layout) (n : ℕ) (d : D) → IsSized layout n (G.sector_count d) → suits G d ≡ asks G layout d
asks_is G Journal n d s = older_suits G d s.told
asks_is G Pages n d s = newer_suits G d s.told

-- The size of a device, as it was told.
pub sized_by : (size : Size) (told sectors : ℕ) → is_journal size.layout ≡ is_size told → told ≡ sectors_for size.layout size.blocks.number → told ≡ sectors
    → IsSized size.layout size.blocks.number sectors
sized_by size told sectors layout is same = record {
  many = size.blocks.many;
  few = size.blocks.few;
  told = sym (layout ∙ ap is_size same);
  size = sym same ∙ is;
}

pub begins_is : {D : Type 0} (G : Ghosts D) (old new : D) (layout : Layout) (n : ℕ) → IsSized layout n (G.sector_count old)
    → CostsAtMost G old new (writes_by layout n (G.disk old).content) (syncs_by layout n (G.disk old).content) (reads_by layout n (G.disk old).content)
    → BeginsAtMost G old new (writes_for (G.sector_count old) (G.disk old).content) (syncs_for (G.sector_count old) (G.disk old).content)
begins_is G old new layout n s costs = record {
  few_writes = subst (λ k. (G.counts new).writes ≤ (G.counts old).writes + k) (sym (writes_is layout n (G.sector_count old) s (G.disk old).content)) costs.few_writes;
  few_syncs = subst (λ k. (G.counts new).syncs ≤ (G.counts old).syncs + k) (sym (syncs_is layout n (G.sector_count old) s (G.disk old).content)) costs.few_syncs;
}

-- What passes each test is refused by a fault of the device alone.
pub told_device : (e : OpenFault) (refusal : Option OpenFault) → refusal ≡ None → (e ≡ Device) ⊎ (refusal ≡ Some e) → e ≡ Device
told_device e refusal none = ⊎_elim (λ device. device) (λ some. absurd (let no : None ≡ Some e = sym none ∙ some in cc))
