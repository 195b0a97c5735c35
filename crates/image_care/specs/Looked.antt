-- What an image with so many sectors holds, by the layout that its size tells.
use Rattle.std.specs.Prelude.{◌≡◌, ◌⊎◌, ℕ, ◌+◌, ◌*◌, if◌then◌else◌, Bool, true, IsTrue, Result, OnOk, IfOk, MatchResult, Option, Some, None}
use Rattle.sector_disk.specs.Disk.{Image}
use Rattle.sector_disk.specs.declared.device.SectorDevice.{Ghosts}
use Rattle.journal.specs.Calls.{ReadsAtMost}
use Rattle.journal.specs.Layouts as layouts
use Rattle.journal.specs.declared.sizes.Layout.{Layout}
use Rattle.journal.specs.declared.sizes.Layout.TheVariants.{Journal, Pages}
use Rattle.recovery.specs.Recovered.{Tells}
use Rattle.recovery.specs.Steps.{OnlyRead}
use Rattle.recovery.specs.declared.fault.OpenFault.{OpenFault}
use Rattle.recovery.specs.declared.fault.OpenFault.TheVariants.{Device}
use Rattle.stores.specs.ByLayout.{HasMeaningBy, refusal_by}
use Rattle.image_care.specs.View.{IsOf, is_journal}
use Rattle.image_care.specs.declared.view.View.{View}
use Rattle.journal.specs.PageImages.{gate_fits}
use Rattle.recovery.specs.Label as older_label
use Rattle.shadow.specs.Label as newer_label
use Rattle.image_care.specs.Examined.{count_in, record_in, reads_to_list}

-- how many blocks a save has that is under way, where one is: by layout 3 none ever waits to be finished
abbrev pub save_in : ℕ → Image → Option ℕ
save_in sectors image =
    if older_label.is_size sectors then count_in (older_label.blocks_in sectors) (record_in image) else None

-- whether the gate is of the record that it names: by layout 2 it names none
abbrev pub gate_fits_in : ℕ → Image → Bool
gate_fits_in sectors image = if older_label.is_size sectors then true else gate_fits image

-- how many reads look at that, by layout 2 or by layout 3
abbrev pub reads_of_gate : (is_journal : Bool) → ℕ
reads_of_gate is_journal = if is_journal then 0 else 1

-- how many reads find where the blocks stand: what an opening looks at
abbrev pub reads_to_look : ℕ → Image → ℕ
reads_to_look sectors image =
    if older_label.is_size sectors then reads_to_list (older_label.blocks_in sectors) image + 1
    else 3 * newer_label.blocks_in sectors + 3

-- the same by the layout of an image of n blocks
abbrev pub reads_by : Layout → ℕ → Image → ℕ
reads_by Journal n image = reads_to_list n image + 1
reads_by Pages n image = 3 * n + 3

-- What a look at an image of n blocks finds, by reads of a device alone. It refuses what an opening does.
pub record Looks {D : Type 0} (G : Ghosts D) (layout : Layout) (n : ℕ) (old new : D) (result : Result View OpenFault) : Type 0 where
  pub count : IfOk result (λ view. view.blocks.number ≡ n)
  pub by : IfOk result (λ view. is_journal view.listing ≡ layouts.is_journal layout)
  pub listing : IsTrue (G.keeps_model old) → IfOk result (λ view. IsOf view.listing (G.disk old).content)
  pub meaning : IsTrue (G.keeps_model old) → OnOk result (HasMeaningBy layout n (G.disk old).content)
  pub exact : IsTrue (G.keeps_model old) → MatchResult result
      (λ _. refusal_by layout n (G.disk old).content ≡ None)
      (λ e. (e ≡ Device) ⊎ (refusal_by layout n (G.disk old).content ≡ Some e))
  pub tells : Tells G old new 0 result
  pub only_read : OnlyRead G old new
  pub reads : IsTrue (G.keeps_model old) → ReadsAtMost G old new (reads_by layout n (G.disk old).content)
  -- Of layout 3 over any device.
  pub few : layout ≡ Pages → ReadsAtMost G old new (3 * n + 3)
