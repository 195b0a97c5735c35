-- What a copy and a salvage of image_care promise is what the commands do.
use Rattle.std.proofs.Common.{◌≡◌, ◌≢◌, ◌⊎◌, ◌∙◌, ◌&&◌, ◌<◌, ◌++◌, ℕ, zero, suc, [], Bool, true, false, not, List, Option, None, Some, IsTrue, inl, inr, refl, sym, subst, ap, arith}
use Rattle.std.specs.Prelude.{if◌then◌else◌, option_and_then, option_map}
use Rattle.sector_disk.specs.Disk.{Image, MayLeave}
use Rattle.sector_disk.specs.declared.device.SectorDevice.{Ghosts}
use Rattle.journal.specs.BySize.{Means}
use Rattle.journal.specs.Calls.{Proceeds}
use Rattle.journal.specs.Layout as journal
use Rattle.journal.specs.Layout.{listed}
use Rattle.journal.specs.PageLayout as pages
use Rattle.recovery.specs.Label.{blocks_in as older_blocks_in, is_size}
use Rattle.recovery.specs.Opened.{first_of}
use Rattle.recovery.specs.Upgraded.{of_old}
use Rattle.recovery.specs.declared.fault.OpenFault.{OpenFault}
use Rattle.recovery.specs.declared.fault.OpenFault.TheVariants as image
use Rattle.recovery.specs.declared.fault.UpgradeFault.{UpgradeFault}
use Rattle.recovery.specs.declared.fault.UpgradeFault.TheVariants.{Old, New}
use Rattle.shadow.specs.Label.{blocks_in, is_known_size, is_size as is_pages_size}
use Rattle.shadow.specs.Upgraded.{known_blocks}
use Rattle.journal.specs.Layouts.{is_journal, sectors_for}
use Rattle.stores.specs.Opened.{image_refusal}
use Rattle.journal.specs.declared.sizes.Layout.{Layout}
use Rattle.journal.specs.declared.sizes.Layout.TheVariants.{Journal, Pages}
use Rattle.image_care.specs.Copied.{copy_refusal, copy_size_refusal}
use Rattle.image_care.specs.Salvaged.{standing_in}
use Rattle.image_care.specs.Standing.{is_nowhere, is_other, standing_of}
use Rattle.image_care.specs.declared.pages.standing.Standing.{Standing}
use Rattle.image_care.specs.declared.pages.standing.Standing.TheVariants.{Current, Other, Nowhere}
use Rattle.image_care.specs.declared.salvage_source.Taken.{Taken}
use Rattle.sessions.specs.Devices.{Becomes}
use Rattle.terminal.specs.Copying.{count_on, no_recovery, pages_no_recovery, salvage_told, sectors_like, standing_by}
use Rattle.terminal.specs.Damage.{damage_line, damage_lines, damage_told}
use Rattle.terminal.specs.Done.{LeavesBlocks}
use Rattle.terminal.specs.Failed.{CallFailed, IsUntold, TellsRefusal}
use Rattle.terminal.specs.Failures.{of_upgrade}
use Rattle.terminal.specs.declared.failure.Failure.{Failure}
use Rattle.terminal.specs.declared.failure.Failure.TheVariants.{CannotWrite, Device, NoMemory}
use Rattle.journal.proofs.Suited.{stays}

pub both_true : (a b : Bool) → (a && b) ≡ true → (a ≡ true) × (b ≡ true)
both_true true b is = (refl, is)
both_true false b is = cc

-- Neither of two sizes is refused.
pub fits : (a b : Bool) (x y : UpgradeFault) → (if not a then Some x else (if not b then Some y else None)) ≡ None → (a ≡ true) × (b ≡ true)
fits true true x y is = (refl, refl)
fits true false x y is = cc
fits false b x y is = cc

-- What isn't refused at all is refused by neither.
pub second_of : (a b : Option UpgradeFault) → first_of a b ≡ None → b ≡ None
second_of (Some e) b is = cc
second_of None b is = is

pub of_old_none : (o : Option OpenFault) → of_old o ≡ None → o ≡ None
of_old_none None is = refl
of_old_none (Some e) is = cc

pub not_refused : (old new : ℕ) (image : Image) → copy_refusal old new image ≡ None → image_refusal old image ≡ None
not_refused old new image is = of_old_none (image_refusal old image) (second_of (copy_size_refusal old new) (of_old (image_refusal old image)) is)

-- The failure of a device is told of one of both.
pub told_device : (fault : UpgradeFault) → of_upgrade fault ≡ Device → (fault ≡ Old image.Device) ⊎ (fault ≡ New image.Device)
told_device (Old image.Device) is = inl refl
told_device (New image.Device) is = inr refl
told_device (Old image.BadSize) is = cc
told_device (Old image.NoLabel) is = cc
told_device (Old image.OtherVersion) is = cc
told_device (Old image.WrongCount) is = cc
told_device (Old image.Damaged) is = cc
told_device (New image.BadSize) is = cc
told_device (New image.NoLabel) is = cc
told_device (New image.OtherVersion) is = cc
told_device (New image.WrongCount) is = cc
told_device (New image.Damaged) is = cc

pub either_failed : {P Q : Type 0} (fault : UpgradeFault) → (fault ≡ Old image.Device) ⊎ (fault ≡ New image.Device)
    → (fault ≡ Old image.Device → P) → (fault ≡ New image.Device → Q) → P ⊎ Q
either_failed fault (inl old) p q = inl (p old)
either_failed fault (inr new) p q = inr (q new)

-- Another failure is no fault of a device.
pub no_old_device : (e : Failure) (fault : UpgradeFault) → e ≡ of_upgrade fault → e ≢ Device → fault ≢ Old image.Device
no_old_device e fault is other same = other (is ∙ ap of_upgrade same)

pub no_new_device : (e : Failure) (fault : UpgradeFault) → e ≡ of_upgrade fault → e ≢ Device → fault ≢ New image.Device
no_new_device e fault is other same = other (is ∙ ap of_upgrade same)

-- The first refusal is told under its own name.
pub told_first : (e : Failure) (fault : UpgradeFault) (o : Option UpgradeFault) → e ≡ of_upgrade fault
    → (fault ≡ Old image.Device) ⊎ (fault ≡ New image.Device) ⊎ (o ≡ Some fault) → (e ≡ Device) ⊎ (Some e ≡ option_map of_upgrade o)
told_first e fault o is (inl old) = inl (is ∙ ap of_upgrade old)
told_first e fault o is (inr (inl new)) = inl (is ∙ ap of_upgrade new)
told_first e fault o is (inr (inr first)) = inr (ap Some is ∙ ap (option_map of_upgrade) (sym first))

-- The same where what is told may have failed too.
pub told_first_or_untold : (e : Failure) (fault : UpgradeFault) (o : Option UpgradeFault) → e ≡ of_upgrade fault
    → (fault ≡ Old image.Device) ⊎ (fault ≡ New image.Device) ⊎ (o ≡ Some fault)
    → (e ≡ Device) ⊎ (e ≡ NoMemory) ⊎ (e ≡ CannotWrite) ⊎ (Some e ≡ option_map of_upgrade o)
told_first_or_untold e fault o is (inl old) = inl (is ∙ ap of_upgrade old)
told_first_or_untold e fault o is (inr (inl new)) = inl (is ∙ ap of_upgrade new)
told_first_or_untold e fault o is (inr (inr first)) = inr (inr (inr (ap Some is ∙ ap (option_map of_upgrade) (sym first))))

-- The same, told of a salvage.
pub told_or_untold : (e : Failure) (fault : UpgradeFault) (o : Option UpgradeFault) → e ≡ of_upgrade fault
    → (fault ≡ Old image.Device) ⊎ (fault ≡ New image.Device) ⊎ (o ≡ Some fault)
    → (e ≡ Device) ⊎ IsUntold e ⊎ (Some e ≡ option_map of_upgrade o)
told_or_untold e fault o is (inl old) = inl (is ∙ ap of_upgrade old)
told_or_untold e fault o is (inr (inl new)) = inl (is ∙ ap of_upgrade new)
told_or_untold e fault o is (inr (inr first)) = inr (inr (ap Some is ∙ ap (option_map of_upgrade) (sym first)))

-- What couldn't be told is no fault of a device.
pub untold_only : {P : Type 0} (e : Failure) → IsUntold e → e ≡ Device → P
untold_only e (inl memory) is = absurd (let no : NoMemory ≡ Device = sym memory ∙ is in cc)
untold_only e (inr write) is = absurd (let no : CannotWrite ≡ Device = sym write ∙ is in cc)

-- No refusal of an image is for want of memory.
pub never_memory : (fault : UpgradeFault) → of_upgrade fault ≢ NoMemory
never_memory (Old image.BadSize) is = cc
never_memory (Old image.NoLabel) is = cc
never_memory (Old image.OtherVersion) is = cc
never_memory (Old image.WrongCount) is = cc
never_memory (Old image.Damaged) is = cc
never_memory (Old image.Device) is = cc
never_memory (New image.BadSize) is = cc
never_memory (New image.NoLabel) is = cc
never_memory (New image.OtherVersion) is = cc
never_memory (New image.WrongCount) is = cc
never_memory (New image.Damaged) is = cc
never_memory (New image.Device) is = cc

-- None is for an output that failed either.
never_written : (fault : UpgradeFault) → of_upgrade fault ≢ CannotWrite
never_written (Old image.BadSize) is = cc
never_written (Old image.NoLabel) is = cc
never_written (Old image.OtherVersion) is = cc
never_written (Old image.WrongCount) is = cc
never_written (Old image.Damaged) is = cc
never_written (Old image.Device) is = cc
never_written (New image.BadSize) is = cc
never_written (New image.NoLabel) is = cc
never_written (New image.OtherVersion) is = cc
never_written (New image.WrongCount) is = cc
never_written (New image.Damaged) is = cc
never_written (New image.Device) is = cc

pub never_untold : (fault : UpgradeFault) → (of_upgrade fault ≡ NoMemory) ⊎ (of_upgrade fault ≡ CannotWrite) → ⊥
never_untold fault (inl memory) = never_memory fault memory
never_untold fault (inr output) = never_written fault output

-- How many sectors the new image has.
like_sectors : (layout : Layout) (sectors n : ℕ) → is_journal layout ≡ is_size sectors → sectors_for layout n ≡ sectors_like sectors n
like_sectors Journal sectors n is = ap (λ b. if b then journal.sectors_for n else pages.sectors_for n) is
like_sectors Pages sectors n is = ap (λ b. if b then journal.sectors_for n else pages.sectors_for n) is

pub unknown_count : (sectors : ℕ) → is_known_size sectors ≡ false → count_on sectors ≡ None
unknown_count sectors isnt = ap (λ b. if b then Some (known_blocks sectors) else None) isnt

known_count : (sectors n : ℕ) → is_known_size sectors ≡ true → n ≡ known_blocks sectors → count_on sectors ≡ Some n
known_count sectors n known count = ap (λ b. if b then Some (known_blocks sectors) else None) known ∙ ap Some (sym count)

pub asked_sectors : (layout : Layout) (sectors n : ℕ) (count : ℕ → Option ℕ) → is_journal layout ≡ is_size sectors → is_known_size sectors ≡ true
    → n ≡ known_blocks sectors → option_map (sectors_for layout) (count n) ≡ option_map (sectors_like sectors) (option_and_then count (count_on sectors))
asked_sectors layout sectors n count is known number =
    (λ t. option_map (λ m. like_sectors layout sectors m is t) (count n))
    ∙ ap (λ o. option_map (sectors_like sectors) (option_and_then count o)) (sym (known_count sectors n known number))

-- Where the two lists of a salvage are right of the first n blocks, so is what is told of them.
lines_same : (n : ℕ) (s t : ℕ → Standing) → ((b : ℕ) → b < n → s b ≡ t b) → damage_lines n s ≡ damage_lines n t
lines_same zero s t are = refl
lines_same (suc n) s t are =
    ap (λ l. l ++ damage_line n (s n)) (lines_same n s t (λ b below. are b (omega (arith, below))))
    ∙ ap (λ x. damage_lines n t ++ damage_line n x) (are n (omega arith))

standing_told : (taken : Taken) (b : ℕ) (s : Standing) → listed taken.others b ≡ is_other s → listed taken.lost b ≡ is_nowhere s
    → standing_by taken b ≡ s
standing_told taken b Current other lost = rw other (rw lost refl)
standing_told taken b Other other lost = rw other refl
standing_told taken b Nowhere other lost = rw other (rw lost refl)

pub told_same : (sectors : ℕ) (image : Image) (taken : Taken)
    → ((b : ℕ) → b < known_blocks sectors → listed taken.others b ≡ is_other (standing_in sectors image b))
    → ((b : ℕ) → b < known_blocks sectors → listed taken.lost b ≡ is_nowhere (standing_in sectors image b))
    → salvage_told sectors (standing_by taken) ≡ salvage_told sectors (standing_of image)
told_same sectors image taken others lost = by (is_size sectors) others lost
  where
    by : (t : Bool)
        → ((b : ℕ) → b < (if t then older_blocks_in sectors else blocks_in sectors) → listed taken.others b ≡ is_other (if t then Current else standing_of image b))
        → ((b : ℕ) → b < (if t then older_blocks_in sectors else blocks_in sectors) → listed taken.lost b ≡ is_nowhere (if t then Current else standing_of image b))
        → (if t then no_recovery else damage_told sectors (standing_by taken) ++ pages_no_recovery)
        ≡ (if t then no_recovery else damage_told sectors (standing_of image) ++ pages_no_recovery)
    by true others lost = refl
    by false others lost =
        ap (λ (l : List ℕ). (if is_pages_size sectors then l else []) ++ pages_no_recovery)
        (lines_same (blocks_in sectors) (standing_by taken) (standing_of image) (λ b below.
        standing_told taken b (standing_of image b) (others b below) (lost b below)))

-- By layout 2 only that it is no recovery.
pub told_plain : (sectors : ℕ) (standing : ℕ → Standing) → is_size sectors ≡ true → salvage_told sectors standing ≡ no_recovery
told_plain sectors standing is = ap (λ (t : Bool). if t then no_recovery else damage_told sectors standing ++ pages_no_recovery) is

-- By layout 3 the damaged blocks come before that.
pub told_pages : (sectors : ℕ) (standing : ℕ → Standing) → is_size sectors ≡ false
    → salvage_told sectors standing ≡ damage_told sectors standing ++ pages_no_recovery
told_pages sectors standing isnt = ap (λ (t : Bool). if t then no_recovery else damage_told sectors standing ++ pages_no_recovery) isnt

module _ {A B : Type 0} (G : Ghosts A) (H : Ghosts B) where
  -- What a stop leaves by the size that a device had, it leaves by the one that it has.
  pub left_after : (device after : B) (blocks : List (List ℕ)) → H.sector_count after ≡ H.sector_count device
      → ((image : Image) → MayLeave (H.disk after) image → Means (H.sector_count device) blocks image) → LeavesBlocks H after blocks
  left_after device after blocks same left image may = subst (λ s. Means s blocks image) (sym same) (left image may)

  pub becomes : (device after : B) → Proceeds H device after → Becomes H device after
  becomes device after goes = record { model = stays H device after goes.sectors goes.model goes.units; sectors = λ keeps. goes.sectors; time = goes.time; failures = goes.failures }

  -- What is told where an image wasn't made of another one.
  pub tells : (keeps : Bool) (refusal : Option UpgradeFault) (failure : Failure) (fault : UpgradeFault) (source source' : A) (device after : B)
      → failure ≡ of_upgrade fault → (fault ≡ Old image.Device → CallFailed G source source') → (fault ≡ New image.Device → CallFailed H device after)
      → (fault ≢ Old image.Device → G.failures source' ≡ G.failures source) → (fault ≢ New image.Device → H.failures after ≡ H.failures device)
      → (fault ≢ Old image.Device → fault ≢ New image.Device → after ≡ device)
      → (IsTrue keeps → (fault ≡ Old image.Device) ⊎ (fault ≡ New image.Device) ⊎ (refusal ≡ Some fault))
      → TellsRefusal G H keeps refusal failure source source' device after
  tells keeps refusal failure fault source source' device after is old new old_well new_well same exact = record {
    failed = λ device_is. either_failed fault (told_device fault (sym is ∙ device_is)) old new;
    well = λ other. (old_well (no_old_device failure fault is other), new_well (no_new_device failure fault is other));
    unasked = λ other. same (no_old_device failure fault is other) (no_new_device failure fault is other);
    told = λ keeps. told_first failure fault refusal is (exact keeps);
  }
