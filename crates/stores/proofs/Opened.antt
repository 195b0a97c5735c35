-- What is told of an image by the layout that its size tells.
use Rattle.std.proofs.Common.{◌≡◌, ℕ, true, false, Option, sym, ◌∙◌, ap, subst}
use Rattle.std.specs.Prelude.{if◌then◌else◌}
use Rattle.sector_disk.specs.Disk.{Image}
use Rattle.journal.specs.Chain as older_chain
use Rattle.journal.specs.Images as older_images
use Rattle.journal.specs.Layout as older_layout
use Rattle.recovery.specs.Label as older_label
use Rattle.recovery.specs.Opened as older
use Rattle.recovery.specs.declared.fault.OpenFault.{OpenFault}
use Rattle.journal.specs.PageImages as newer_images
use Rattle.shadow.specs.Label as newer_label
use Rattle.journal.specs.PageLayout as newer_layout
use Rattle.shadow.specs.Opened as newer
use Rattle.stores.specs.Images.{HasMeaning, meaning}
use Rattle.stores.specs.Opened.{image_refusal, newer_refusal}
use Rattle.journal.proofs.Choices.{at_true, at_false, from_true, from_false}
use Rattle.journal.proofs.KnownSizes.{newer_count, older_count}

module _ (sectors : ℕ) (image : Image) where
  abbrev OlderMeaning : Type 0
  OlderMeaning = older_chain.HasMeaning (older_label.blocks_in sectors) image

  abbrev NewerMeaning : Type 0
  NewerMeaning = newer.HasMeaning (newer_label.blocks_in sectors) image

  module _ (is : older_label.is_size sectors ≡ true) where
    pub older_refusal : (told : Option OpenFault) → older.image_refusal sectors image ≡ told → image_refusal sectors image ≡ told
    older_refusal told refuses = ap (λ b. if b then older.image_refusal sectors image else newer_refusal sectors image) is ∙ refuses

    pub older_has : (n : ℕ) → sectors ≡ older_layout.sectors_for n → older_chain.HasMeaning n image → HasMeaning sectors image
    older_has n size has = at_true (older_label.is_size sectors) OlderMeaning NewerMeaning is
        (subst (λ m. older_chain.HasMeaning m image) (sym (older_count n sectors size)) has)

    pub has_older : HasMeaning sectors image → older_chain.HasMeaning (older_label.blocks_in sectors) image
    has_older has = from_true (older_label.is_size sectors) OlderMeaning NewerMeaning is has

    pub older_meaning : (n : ℕ) → sectors ≡ older_layout.sectors_for n → older_images.meaning n image ≡ meaning sectors image
    older_meaning n size =
        sym (ap (λ m. older_images.meaning m image) (older_count n sectors size))
        ∙ sym (ap (λ b. if b then older_images.meaning (older_label.blocks_in sectors) image else newer_images.meaning (newer_label.blocks_in sectors) image) is)

  module _ (isnt : older_label.is_size sectors ≡ false) where
    pub newer_has : (n : ℕ) → sectors ≡ newer_layout.sectors_for n → newer.HasMeaning n image → HasMeaning sectors image
    newer_has n size has = at_false (older_label.is_size sectors) OlderMeaning NewerMeaning isnt
        (subst (λ m. newer.HasMeaning m image) (sym (newer_count n sectors size)) has)

    pub has_newer : HasMeaning sectors image → newer.HasMeaning (newer_label.blocks_in sectors) image
    has_newer has = from_false (older_label.is_size sectors) OlderMeaning NewerMeaning isnt has

    pub newer_meaning : (n : ℕ) → sectors ≡ newer_layout.sectors_for n → newer_images.meaning n image ≡ meaning sectors image
    newer_meaning n size =
        sym (ap (λ m. newer_images.meaning m image) (newer_count n sectors size))
        ∙ sym (ap (λ b. if b then older_images.meaning (older_label.blocks_in sectors) image else newer_images.meaning (newer_label.blocks_in sectors) image) isnt)
