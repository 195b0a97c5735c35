-- Writes that spoil no sector but those of which P holds, one after another.
use Rattle.std.proofs.Common.{ℕ, refl, ◌∙◌}
use Rattle.sector_disk.specs.Disk.{Image, Disk, MayLeave}
use Rattle.journal.specs.Steps.{WritesOnly, IsAsSynced}

module _ (P : ℕ → Type 0) where
  pub nothing_written : (d : Disk) → WritesOnly P d d
  nothing_written d = record { content = λ j out. refl; synced = λ j. refl; unsynced = λ j out. refl }

  pub only_then : (d e f : Disk) → WritesOnly P d e → WritesOnly P e f → WritesOnly P d f
  only_then d e f one two = record {
    content = λ j out. two.content j out ∙ one.content j out;
    synced = λ j. two.synced j ∙ one.synced j;
    unsynced = λ j out. two.unsynced j out ∙ one.unsynced j out;
  }

  pub left_then : (d e : Disk) (c : Image) → WritesOnly P d e → IsAsSynced P e c → IsAsSynced P d c
  left_then d e c one is j out clear = is j out (one.unsynced j out ∙ clear) ∙ one.synced j

  pub now_left : (d e : Disk) (c : Image) → WritesOnly P d e → MayLeave e c → IsAsSynced P d c
  now_left d e c one may = left_then d e c one (λ j out clear. may j clear)

  -- a wider region
  module _ (Q : ℕ → Type 0) (within : (j : ℕ) → P j → Q j) where
    pub wider : (d e : Disk) → WritesOnly P d e → WritesOnly Q d e
    wider d e only = record {
      content = λ j out. only.content j (λ p. out (within j p));
      synced = only.synced;
      unsynced = λ j out. only.unsynced j (λ p. out (within j p));
    }

    pub wider_left : (d : Disk) (c : Image) → IsAsSynced P d c → IsAsSynced Q d c
    wider_left d c is j out clear = is j (λ p. out (within j p)) clear
