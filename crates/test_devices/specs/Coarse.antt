-- What a coarse disk is: a disk whose sectors lie in units of eight.
use Rattle.std.specs.Prelude.{◌≡◌, ℕ, ◌/◌, ◌<◌, ◌≤◌, nat_lt, if◌then◌else◌}
use Rattle.std.proofs.Common.{inl, inr, sym, ◌∙◌, ap, arith}
use Rattle.std.proofs.lemmas.Bool.{cases_lt}
use Rattle.std.proofs.lemmas.Bool.Decides.{nat_tests}
use Rattle.sector_disk.specs.Disk.{Disk}
use Rattle.sector_disk.specs.MemoryDisk.{held, size}
use Rattle.sector_disk.specs.Pages.{IsPaged}
use Rattle.sector_disk.specs.declared.memory_disk.MemoryDisk.{MemoryDisk}
use Rattle.test_devices.specs.declared.coarse.Coarse.{Coarse}

-- The unit of a sector: eight sectors from a multiple of eight on. The last one ends with the disk.
abbrev pub unit_of : (count k : ℕ) → ℕ
unit_of count k = if nat_lt k count then k / 8 else k

-- a disk of so many sectors, with these in units of eight
abbrev pub in_eights : ℕ → Disk → Disk
in_eights count disk = record disk { unit = unit_of count }

pub inside : (count k : ℕ) → k < count → unit_of count k ≡ k / 8
inside count k below = grind (arith, nat_tests)

pub past : (count k : ℕ) → count ≤ k → unit_of count k ≡ k
past count k out = grind (arith, nat_tests)

-- Its units lie within pages.
pub paged_in_eights : (count : ℕ) (disk : Disk) → IsPaged (in_eights count disk)
paged_in_eights count disk j k same = elim (cases_lt j count) [
  | inl low ↦ elim (cases_lt k count) [
    | inl below ↦ sym (inside count j low) ∙ same ∙ inside count k below
    | inr out ↦ absurd (omega (arith, low, out, sym (inside count j low) ∙ same ∙ past count k out))
  ]
  | inr far ↦ elim (cases_lt k count) [
    | inl below ↦ absurd (omega (arith, far, below, sym (past count j far) ∙ same ∙ inside count k below))
    | inr out ↦ ap (λ i. i / 8) (sym (past count j far) ∙ same ∙ past count k out)
  ]
]

abbrev pub coarse_device_of : Coarse → MemoryDisk
coarse_device_of d = d.device

-- what it holds
abbrev pub held_in_eights : Coarse → Disk
held_in_eights d = in_eights (size d.device) (held d.device)
