-- What isn't refused by an upgrade to layout 3 has the sizes of images with as many blocks, and is no old image that an opening refuses.
use Rattle.std.proofs.Common.{◌≡◌, ℕ, true, None}
use Rattle.std.specs.Prelude.{◌==◌, ◌&&◌, nat_le}
use Rattle.std.proofs.lemmas.Bool.{eqb-true}
use Rattle.sector_disk.specs.Disk.{Image}
use Rattle.journal.specs.Layout.{fewest_blocks, most_blocks}
use Rattle.recovery.specs.declared.fault.OpenFault.TheVariants as image
use Rattle.recovery.specs.declared.fault.UpgradeFault.TheVariants.{Old, New}
use Rattle.recovery.specs.Upgraded.{of_old}
use Rattle.shadow.specs.Label.{is_known_size, is_size_for}
use Rattle.journal.specs.PageLayout.{sectors_for}
use Rattle.shadow.specs.Upgraded.{known_blocks, older_refusal, upgrade_refusal, upgrade_size_refusal}
use Rattle.terminal.proofs.Copies.{both_true, fits, of_old_none, second_of}

pub newer_size : (old new : ℕ) → upgrade_size_refusal old new ≡ None → new ≡ sectors_for (known_blocks old)
newer_size old new is =
    let n = known_blocks old in
    let sized : is_size_for n new ≡ true = (fits (is_known_size old) (is_size_for n new) (Old image.BadSize) (New image.BadSize) is).1 in
    eqb-true new (sectors_for n) (both_true (nat_le fewest_blocks n && nat_le n most_blocks) (new == sectors_for n) sized).1

pub older_sound : (old new : ℕ) (image : Image) → upgrade_refusal old new image ≡ None → older_refusal (known_blocks old) old image ≡ None
older_sound old new image is =
    let refusal = older_refusal (known_blocks old) old image in
    of_old_none refusal (second_of (upgrade_size_refusal old new) (of_old refusal) is)
