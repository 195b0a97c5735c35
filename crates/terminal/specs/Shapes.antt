-- What is left of the files of a command, by its shape: of one image that another one is made of, of two that are compared, of one that
-- is told of. Each shape opens its files once, and whatever is done to them is a parameter of it.
use Rattle.std.specs.Prelude.{◌≡◌, ◌⊎◌, ℕ, Bool, List, Option, is_some}
use Rattle.sector_disk.specs.declared.device.SectorDevice.{Ghosts}
use Rattle.command_line.specs.declared.orders.Layout.{Layout}
use Rattle.terminal.specs.Checked.{ChecksImage}
use Rattle.terminal.specs.Compared.{Compares, TellsEach}
use Rattle.terminal.specs.Copying.{Copies, MadeOf, sectors_for_copy, sectors_for_salvage}
use Rattle.shadow.specs.Label.{is_known_size}
use Rattle.terminal.specs.Done.{ImportsBlocks, LooksAt, PutsBlock}
use Rattle.terminal.specs.Failed.{CopyFails, FailsAfter, ImportFails, IsUntouched, LooksInVain, PutFails, SalvageThroughFails, UpgradeFailsBy}
use Rattle.terminal.specs.Given.{Given}
use Rattle.terminal.specs.Layout3.{UpgradesBy, sectors_for_upgrade}
use Rattle.terminal.specs.Texts.{AreTexts, OneIsUnread}
use Rattle.terminal.specs.Through.{SalvagesThrough}
use Rattle.terminal.specs.Unopened.{IsUnopened}
use Rattle.terminal.specs.declared.deeds.Looking.{Looking}
use Rattle.terminal.specs.declared.deeds.Looking.TheVariants.{Check, Digests}
use Rattle.terminal.specs.declared.deeds.Making.{Making}
use Rattle.terminal.specs.declared.deeds.Making.TheVariants.{Copy, Salvage}
use Rattle.terminal.specs.declared.deeds.Writing.{Writing}
use Rattle.terminal.specs.declared.deeds.Writing.TheVariants.{Put, Import, CheckImport}
use Rattle.terminal.specs.declared.failure.Failure.{Failure}
use Rattle.terminal.specs.declared.failure.Failure.TheVariants.{CannotOpen}
use Rattle.terminal.specs.declared.left.Left.{Left}
use Rattle.terminal.specs.declared.left.Left.TheVariants as files

-- ---- of an image that was opened another one is made, in a file that is made for it

-- which devices the old one may be opened as: of a salvage no other program may have it
abbrev pub opened_for : {D E : Type 0} → Given D E → Making → (path : List ℕ) → E → Type 0
opened_for given Copy = given.looked
opened_for given Salvage = given.held

-- how many sectors the new one has
abbrev pub sectors_for : Making → (sectors : ℕ) (asked : Option ℕ) → Option ℕ
sectors_for Copy = sectors_for_copy
sectors_for Salvage = sectors_for_salvage

module _ {A B : Type 0} (G : Ghosts A) (H : Ghosts B) where
  -- Its device, and what it is made of, have become this.
  abbrev pub MakesBy : Making → (written written' : Option (List ℕ)) (source source' : A) (device after : B) → Type 0
  MakesBy Copy written written' = Copies G H
  MakesBy Salvage written written' = SalvagesThrough G H written written'

  -- It was made in part, or not at all.
  abbrev pub FailsBy : Making → Failure → (source source' : A) (device after : B) → Type 0
  FailsBy Copy = CopyFails G H
  FailsBy Salvage = SalvageThroughFails G H

  -- The new file was made and not finished, and no call of the old one was made; or it was made with so many sectors, and P says what was
  -- made of it.
  abbrev pub MakesSome : (made : ℕ → B → Type 0) (begun : B → Type 0) (wanted : Option ℕ) (P : (source source' : A) (device after : B) → Type 0) → Failure
      → (source source' : A) (after : B) → Type 0
  MakesSome made begun wanted P failure source source' after =
      ((failure ≡ CannotOpen) × (source' ≡ source) × begun after) ⊎ MadeOf G H made wanted P source source' after

-- What is left is the old device alone, by `one`, or with the new one, by `both`.
module _ {A B D E : Type 0} (one : A → Left D E) (both : A → B → Left D E) where
  -- On the new device the image was made, by what P says.
  abbrev pub AnotherDone : (opened : A → Type 0) (P : A → A → B → Type 0) → Left D E → Type 0
  AnotherDone opened P left = (source' : A) × (after : B) × (left ≡ both source' after) × (source : A) × opened source × P source source' after

  -- The old file wasn't opened, or doesn't fit; or the new one wasn't made, and no call of the old one was made; or P says what was made.
  abbrev pub AnotherFailed : (fits : A → Bool) (opened : A → Type 0) (P : A → A → B → Type 0) → Failure → Left D E → Type 0
  AnotherFailed fits opened P failure left =
      (((left ≡ files.Nothing) × IsUnopened failure)
      ⊎ ((after : A) × (left ≡ one after) × (source : A) × opened source × IsUntouched fits failure source after))
      ⊎ ((source : A) × opened source × (source' : A) × (after : B) × (left ≡ both source' after) × P source source' after)

-- `copy`, `salvage`: the old image is only read.
module _ {A B : Type 0} (G : Ghosts A) (H : Ghosts B) where
  abbrev pub MakeDone : (opened : A → Type 0) (made : ℕ → B → Type 0) → Making → (asked : Option ℕ) (written written' : Option (List ℕ)) → Left B A → Type 0
  MakeDone opened made by asked written written' = AnotherDone files.Looked files.Copied opened
      (λ source. MadeOf G H made (sectors_for by (G.sector_count source) asked) (MakesBy G H by written written') source)

  abbrev pub MakeFailed : (opened : A → Type 0) (made : ℕ → B → Type 0) (begun : B → Type 0) → Making → (asked : Option ℕ) → Failure → Left B A → Type 0
  MakeFailed opened made begun by asked failure = AnotherFailed files.Looked files.Copied (λ source. is_some (sectors_for by (G.sector_count source) asked)) opened
      (λ source. MakesSome G H made begun (sectors_for by (G.sector_count source) asked) (FailsBy G H by failure) failure source) failure

-- `upgrade`: the old image may be recovered, and is synced.
module _ {D E : Type 0} (G : Ghosts D) where
  abbrev pub UpgradeDone : (opened : D → Type 0) (made : ℕ → D → Type 0) → Layout → Left D E → Type 0
  UpgradeDone opened made layout = AnotherDone files.Opened files.Upgraded opened
      (λ source. MadeOf G G made (sectors_for_upgrade layout (G.sector_count source)) (UpgradesBy G layout) source)

  abbrev pub UpgradeFailed : (opened : D → Type 0) (made : ℕ → D → Type 0) (begun : D → Type 0) → Layout → Failure → Left D E → Type 0
  UpgradeFailed opened made begun layout failure = AnotherFailed files.Opened files.Upgraded (λ source. is_some (sectors_for_upgrade layout (G.sector_count source))) opened
      (λ source. MakesSome G G made begun (sectors_for_upgrade layout (G.sector_count source)) (UpgradeFailsBy G layout failure) failure source) failure

-- ---- of images that are opened for reading alone

-- `diff`: two images were compared.
abbrev pub DiffDone : {A D : Type 0} (G : Ghosts D) (first second : D → Type 0) (written written' : Option (List ℕ)) → Left A D → Type 0
DiffDone {A} {D} G first second written written' left = (old' : D) × (new' : D) × (left ≡ files.Compared old' new')
    × (old : D) × first old × (new : D) × second new × Compares G written written' old old' new new'

-- `check`, `check --blocks`: what was told of one.
abbrev pub Tells : {D : Type 0} (G : Ghosts D) → Looking → (written written' : Option (List ℕ)) (device after : D) → Type 0
Tells G Check = ChecksImage G
Tells G Digests = TellsEach G

-- ---- of an image that is opened for writing too: what is written to it, and what is left where it isn't

module _ {D : Type 0} (G : Ghosts D) (is_text : (path text : List ℕ) → Type 0) where
  abbrev pub Writes : Writing → (device after : D) → Type 0
  Writes (Put b text) = PutsBlock G b (is_text text.now)
  Writes (Import first sources form) = ImportsBlocks G form first (AreTexts is_text sources.now)
  Writes (CheckImport first sources form) = LooksAt G form first (AreTexts is_text sources.now)

  abbrev pub NotWritten : (is_unread : (path : List ℕ) → Type 0) → Writing → Failure → (device after : D) → Type 0
  NotWritten is_unread (Put b text) = FailsAfter G (PutFails G b (is_text text.now) (is_unread text.now))
  NotWritten is_unread (Import first sources form) =
      FailsAfter G (ImportFails G form first (AreTexts is_text sources.now) (OneIsUnread is_unread sources.now))
  NotWritten is_unread (CheckImport first sources form) = LooksInVain (λ device. is_known_size (G.sector_count device)) (OneIsUnread is_unread sources.now)
