-- Which images are refused, and how much a recovery writes, syncs and reads at most.
use Rattle.std.specs.Prelude.{◌≡◌, ℕ, List, [], ◌∷◌, ◌++◌, codes, map, replicate, Some, None, refl}
use Rattle.journal.specs.Layout.{open_gate_bytes}
use Rattle.recovery.specs.Label.{refusal, label_refusal_by}
use Rattle.recovery.specs.Opened.{writes_for, syncs_for, reads_for}
use Rattle.recovery.specs.declared.fault.OpenFault.TheVariants.{BadSize, NoLabel, OtherVersion, WrongCount}
use Rattle.recovery.specs.declared.fault.UpgradeFault.TheVariants.{Old, New}
use Rattle.recovery.specs.Upgraded.{size_refusal}
use Rattle.test_definitions.specs.Images.{image_with, a_record}

-- a label with this version and this number of blocks, both below 256
abbrev pub label_with : ℕ → ℕ → List ℕ
label_with version n = codes "F83BLOCK" ++ version ∷ 0 ∷ n ∷ 0 ∷ replicate 500 0

good_labels : refusal 131 (label_with 2 32) ∷ refusal 135 (label_with 2 33) ∷ refusal 15363 (codes "F83BLOCK" ++ 2 ∷ 0 ∷ 0 ∷ 15 ∷ replicate 500 0) ∷ [] ≡ replicate 3 None
good_labels = refl

-- no sector, 131 cut to 130, one more than 131, those of 31 blocks, and of 3,841
bad_sizes : map (λ sectors. refusal sectors (label_with 2 32)) (0 ∷ 130 ∷ 132 ∷ 127 ∷ 15367 ∷ []) ≡ replicate 5 (Some BadSize)
bad_sizes = refl

no_labels : map (refusal 131) (replicate 512 0 ∷ (codes "f83block" ++ 2 ∷ 0 ∷ 32 ∷ 0 ∷ replicate 500 0) ∷ (codes "F83BLOCK" ++ 2 ∷ 0 ∷ 32 ∷ 0 ∷ replicate 499 0 ++ 1 ∷ []) ∷ []) ≡ replicate 3 (Some NoLabel)
no_labels = refl

other_versions : map (λ version. refusal 131 (label_with version 32)) (0 ∷ 1 ∷ 255 ∷ []) ≡ replicate 3 (Some OtherVersion)
other_versions = refl

wrong_counts : map (λ n. refusal 131 (label_with 2 n)) (31 ∷ 33 ∷ []) ≡ replicate 2 (Some WrongCount)
wrong_counts = refl

-- the first of two faults is told
told_first : refusal 130 (replicate 512 0) ∷ refusal 131 (2 ∷ label_with 1 33) ∷ refusal 131 (label_with 1 33) ∷ [] ≡ Some BadSize ∷ Some NoLabel ∷ Some OtherVersion ∷ []
told_first = refl

-- by layout 1, for an upgrade
old_labels : map (λ version. label_refusal_by 1 32 (label_with version 32)) (1 ∷ 2 ∷ []) ≡ None ∷ Some OtherVersion ∷ []
old_labels = refl

old_sizes : map (λ sectors. size_refusal sectors sectors) (131 ∷ 8195 ∷ 8199 ∷ 130 ∷ []) ≡ None ∷ None ∷ Some (Old BadSize) ∷ Some (Old BadSize) ∷ []
old_sizes = refl

new_sizes : size_refusal 131 135 ∷ size_refusal 130 131 ∷ [] ≡ Some (New BadSize) ∷ Some (Old BadSize) ∷ []
new_sizes = refl

-- a closed gate, an open one with three blocks listed, and one with all of them
writes : map (writes_for 32) (image_with (replicate 512 0) a_record ∷ image_with open_gate_bytes a_record ∷ image_with open_gate_bytes (replicate 512 255) ∷ []) ≡ 0 ∷ 7 ∷ 65 ∷ []
writes = refl

syncs : map syncs_for (image_with (replicate 512 0) a_record ∷ image_with open_gate_bytes a_record ∷ []) ≡ 1 ∷ 3 ∷ []
syncs = refl

reads : map (reads_for 32) (image_with (replicate 512 0) a_record ∷ image_with open_gate_bytes a_record ∷ image_with open_gate_bytes (replicate 512 255) ∷ []) ≡ 2 ∷ 15 ∷ 131 ∷ []
reads = refl
