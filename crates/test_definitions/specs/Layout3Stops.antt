-- A save by layout 3 on a disk in units of eight, stopped at every call, by the disk model and by what an image means. Where only two
-- bytes of a sector tell something, it has two bytes here.
use Rattle.std.specs.Prelude.{◌≡◌, ◌==◌, ◌||◌, ◌+◌, ◌-◌, ◌*◌, ◌%◌, ℕ, zero, suc, Bool, true, false, nat_eq, nat_lt, if◌then◌else◌, List, [], ◌∷◌, ◌++◌, map, replicate, codes, refl}
use Rattle.std.specs.List.{flat_map}
use lib.Pointwise.{pointwise}
use Rattle.test_devices.specs.Coarse.{in_eights}
use Rattle.sector_disk.specs.Disk.{Image, Disk}
use Rattle.sector_disk.specs.declared.memory_disk.Fate.{Fate}
use Rattle.sector_disk.specs.declared.memory_disk.Fate.TheVariants.{Lost, Kept, Torn}
use Rattle.journal.specs.PageLayout.{bits_apart, gate_bytes, gate_open, is_gate_of, label_of, place_at}
use Rattle.journal.specs.PageImages.{block_of}
use Rattle.test_definitions.specs.Stops.{DiskCall, Write, Sync, after_calls, at_each_stop, synced_disk, open_gate, closed_gate}

-- ---- what a stop leaves

abbrev pub torn : Fate
torn = Torn (255 ∷ 255 ∷ [])

-- the eight sectors of a unit lost, kept, torn, or some of them each
abbrev pub unit_fates : List (List Fate)
unit_fates = replicate 8 Lost ∷ replicate 8 Kept ∷ replicate 8 torn ∷ (Kept ∷ Lost ∷ torn ∷ Lost ∷ Kept ∷ torn ∷ Lost ∷ Kept ∷ []) ∷ []

-- of each unit below k that isn't synced
abbrev pub unit_choices : Disk → ℕ → List (List Fate)
unit_choices disk zero = [] ∷ []
unit_choices disk (suc k) =
    if disk.unsynced (8 * k) then flat_map (λ fates. map (λ unit. fates ++ unit) unit_fates) (unit_choices disk k)
    else unit_choices disk k

abbrev pub every_unit : Disk → List (List Fate)
every_unit disk = unit_choices disk 68

-- the bytes of the blocks 0 to 4, one after another
abbrev pub first_blocks : Image → List ℕ
first_blocks image = flat_map (block_of image) (0 ∷ 1 ∷ 2 ∷ 3 ∷ 4 ∷ [])

abbrev pub means_these : List ℕ → Image → Bool
means_these bytes image = pointwise nat_eq (first_blocks image) bytes

-- ---- gates: as written, with one bit changed, half written, with one byte, of ones alone, and closed

gates : map gate_open (codes "COMMIT83" ∷ codes "BOMMIT83" ∷ codes "COMM" ∷ codes "C" ∷ replicate 512 255 ∷ replicate 512 0 ∷ []) ≡ true ∷ true ∷ true ∷ false ∷ true ∷ false ∷ []
unfolding gate_open bits_apart
gates = refl

-- one as it is written, with a sum of sevens
a_gate_written : gate_bytes true (replicate 32 7) ≡ (67 ∷ 79 ∷ 77 ∷ 77 ∷ 73 ∷ 84 ∷ 56 ∷ 51 ∷ []) ++ replicate 32 7 ++ replicate 472 0
a_gate_written = refl

-- gates of a record with this sum, open and closed; with another sum, with one of which a byte is another, and with none
gates_of_a_record : map (λ gate. is_gate_of gate (replicate 480 1 ++ replicate 32 7)) (gate_bytes true (replicate 32 7) ∷ gate_bytes false (replicate 32 7) ∷ gate_bytes true (replicate 32 8) ∷ gate_bytes true (6 ∷ replicate 31 7) ∷ codes "COMMIT83" ∷ []) ≡ true ∷ true ∷ false ∷ false ∷ false ∷ []
gates_of_a_record = refl

-- ---- a save of the blocks 1 and 2

-- blanks in the first places and other bytes in the second ones, a closed gate, the record that it names, and that of an earlier save
abbrev pub first_image : Image
first_image k =
    if k == 0 then label_of 32 else (if k == 8 then closed_gate else (if k == 16 then 8 ∷ 0 ∷ [] else (if nat_lt k 32 then 0 ∷ 0 ∷ [] else (if nat_lt ((k - 32) % 16) 8 then 32 ∷ 32 ∷ [] else 83 ∷ 83 ∷ []))))

abbrev pub disk_at_rest : Disk
disk_at_rest = in_eights 544 (synced_disk first_image)

abbrev pub old_blocks : List ℕ
old_blocks = replicate 20 32

abbrev pub new_blocks : List ℕ
new_blocks = replicate 4 32 ++ replicate 4 65 ++ replicate 4 66 ++ replicate 8 32

-- where the first place and the second one of each of both blocks begin: they are spilled to the second ones, halves and tag
places : place_at 1 false ∷ place_at 1 true ∷ place_at 2 false ∷ place_at 2 true ∷ [] ≡ 48 ∷ 56 ∷ 64 ∷ 72 ∷ []
places = refl

abbrev pub spills : List DiskCall
spills =
    Write 56 (65 ∷ 65 ∷ []) ∷ Write 57 (65 ∷ 65 ∷ []) ∷ Write 58 (1 ∷ 1 ∷ [])
    ∷ Write 72 (66 ∷ 66 ∷ []) ∷ Write 73 (66 ∷ 66 ∷ []) ∷ Write 74 (2 ∷ 2 ∷ []) ∷ []

abbrev pub the_record : DiskCall
the_record = Write 16 (6 ∷ 0 ∷ [])

-- the order of a save: each block is spilled with its tag; then come two writes and two syncs
abbrev pub a_save : List DiskCall
a_save = spills ++ the_record ∷ Sync ∷ Write 8 open_gate ∷ Sync ∷ []

abbrev pub all_or_nothing : List DiskCall → Bool
all_or_nothing calls = at_each_stop every_unit (λ image. means_these old_blocks image || means_these new_blocks image) disk_at_rest calls

old_or_new : all_or_nothing a_save ≡ true
unfolding gate_open bits_apart
old_or_new = refl

-- once it is done, a stop leaves the new blocks alone
new_alone : at_each_stop every_unit (means_these new_blocks) (after_calls disk_at_rest a_save) [] ≡ true
unfolding gate_open bits_apart
new_alone = refl

-- a stop before the gate is written leaves the old ones
old_alone : at_each_stop every_unit (means_these old_blocks) disk_at_rest (spills ++ the_record ∷ Sync ∷ []) ≡ true
unfolding gate_open bits_apart
old_alone = refl

-- ---- the next save goes back: the other record, and the gate is closed

abbrev pub later_blocks : List ℕ
later_blocks = replicate 4 32 ++ replicate 4 67 ++ replicate 4 66 ++ replicate 8 32

abbrev pub next_save : List DiskCall
next_save = Write 48 (67 ∷ 67 ∷ []) ∷ Write 49 (67 ∷ 67 ∷ []) ∷ Write 50 (3 ∷ 3 ∷ []) ∷ Write 24 (4 ∷ 0 ∷ []) ∷ Sync ∷ Write 8 closed_gate ∷ Sync ∷ []

new_or_later : at_each_stop every_unit (λ image. means_these new_blocks image || means_these later_blocks image) (after_calls disk_at_rest a_save) next_save ≡ true
unfolding gate_open bits_apart
new_or_later = refl

-- ---- other orders lose blocks

one_sync_for_record_and_gate : all_or_nothing (spills ++ the_record ∷ Write 8 open_gate ∷ []) ≡ false
unfolding gate_open bits_apart
one_sync_for_record_and_gate = refl

gate_before_the_record : all_or_nothing (spills ++ Write 8 open_gate ∷ Sync ∷ the_record ∷ []) ≡ false
unfolding gate_open bits_apart
gate_before_the_record = refl

spilled_to_the_current_place : all_or_nothing (Write 48 (65 ∷ 65 ∷ []) ∷ []) ≡ false
unfolding gate_open bits_apart
spilled_to_the_current_place = refl
