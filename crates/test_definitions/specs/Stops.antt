-- A save that is stopped at every call, by the disk model and by what an image means. Where only two bytes of a sector
-- tell something, it has two bytes here.
use Rattle.std.specs.Prelude.{◌≡◌, ◌==◌, ◌&&◌, ◌||◌, not, ℕ, zero, suc, Bool, true, false, nat_eq, nat_lt, if◌then◌else◌, List, [], ◌∷◌, ◌++◌, codes, map, replicate, refl}
use Rattle.std.specs.List.{flat_map, list_all}
use lib.Pointwise.{pointwise}
use Rattle.test_devices.specs.Coarse.{in_eights}
use Rattle.sector_disk.specs.Disk.{Image, Disk, written, settled}
use Rattle.sector_disk.specs.Stop.{stopped}
use Rattle.sector_disk.specs.declared.memory_disk.Fate.{Fate}
use Rattle.sector_disk.specs.declared.memory_disk.Fate.TheVariants.{Lost, Kept, Torn}
use Rattle.journal.specs.Layout.{label_of}
use Rattle.sha2.specs.Sha256.{sha256, first_words, schedule, rounds, compress, hash_after, digest_bytes}
use Rattle.journal.specs.Images.{block_of, is_damaged}

pub data DiskCall : Type 0 where
  Write : ℕ → List ℕ → DiskCall
  Sync : DiskCall

abbrev pub after_call : Disk → DiskCall → Disk
after_call disk (Write k bytes) = written disk k bytes
after_call disk Sync = settled disk

abbrev pub after_calls : Disk → List DiskCall → Disk
after_calls disk [] = disk
after_calls disk (call ∷ calls) = after_calls (after_call disk call) calls

-- a disk that holds this image, all of it synced
abbrev pub synced_disk : Image → Disk
synced_disk image = record { content = image; synced = image; unsynced = λ _. false; unit = λ k. k }

-- ---- what a stop leaves

-- each unsynced sector below k lost, kept, or torn
abbrev pub choices : Disk → ℕ → List (List Fate)
choices disk zero = [] ∷ []
choices disk (suc k) =
    if disk.unsynced k then flat_map (λ fates. map (λ fate. fates ++ fate ∷ []) (Lost ∷ Kept ∷ Torn (255 ∷ 255 ∷ []) ∷ [])) (choices disk k)
    else choices disk k

abbrev pub every_way : Disk → List (List Fate)
every_way disk = choices disk 131

-- what a stop leaves where these fates are tried
abbrev pub stops : (Disk → List (List Fate)) → Disk → List Image
stops tried disk = map (stopped disk) (tried disk)

-- the test holds of each image that a stop before, between, within or after these calls leaves
abbrev pub at_each_stop : (Disk → List (List Fate)) → (Image → Bool) → Disk → List DiskCall → Bool
at_each_stop tried test disk [] = list_all test (stops tried disk)
at_each_stop tried test disk (call ∷ calls) = list_all test (stops tried disk) && at_each_stop tried test (after_call disk call) calls

-- the bytes of the blocks 0 to 4, one after another
abbrev pub first_blocks : Image → List ℕ
first_blocks image = flat_map (block_of 32 image) (0 ∷ 1 ∷ 2 ∷ 3 ∷ 4 ∷ [])

abbrev pub means_these : List ℕ → Image → Bool
means_these bytes image = pointwise nat_eq (first_blocks image) bytes

-- ---- a save of the blocks 1 and 2

abbrev pub open_gate : List ℕ
open_gate = codes "COMMIT83" ++ replicate 8 0

abbrev pub closed_gate : List ℕ
closed_gate = replicate 16 0

-- blank homes, other bytes in the slots, and the record of an earlier save, which lists block 3
abbrev pub first_image : Image
first_image k =
    if k == 0 then label_of 32 else (if k == 1 then closed_gate else (if k == 2 then 8 ∷ 0 ∷ [] else (if nat_lt k 67 then 83 ∷ 83 ∷ [] else 32 ∷ 32 ∷ [])))

abbrev pub disk_at_rest : Disk
disk_at_rest = synced_disk first_image

abbrev pub old_blocks : List ℕ
old_blocks = replicate 20 32

abbrev pub new_blocks : List ℕ
new_blocks = replicate 4 32 ++ replicate 4 65 ++ replicate 4 66 ++ replicate 8 32

abbrev pub slot_writes : List DiskCall
slot_writes = Write 5 (65 ∷ 65 ∷ []) ∷ Write 6 (65 ∷ 65 ∷ []) ∷ Write 7 (66 ∷ 66 ∷ []) ∷ Write 8 (66 ∷ 66 ∷ []) ∷ []

abbrev pub the_record : DiskCall
the_record = Write 2 (6 ∷ 0 ∷ [])

abbrev pub home_writes : List DiskCall
home_writes = Write 69 (65 ∷ 65 ∷ []) ∷ Write 70 (65 ∷ 65 ∷ []) ∷ Write 71 (66 ∷ 66 ∷ []) ∷ Write 72 (66 ∷ 66 ∷ []) ∷ []

-- the order of a save
abbrev pub a_save : List DiskCall
a_save = slot_writes ++ the_record ∷ Sync ∷ Write 1 open_gate ∷ Sync ∷ home_writes ++ Sync ∷ Write 1 closed_gate ∷ Sync ∷ []

abbrev pub keeps_either : Disk → List DiskCall → Bool
keeps_either disk calls = at_each_stop every_way (λ image. means_these old_blocks image || means_these new_blocks image) disk calls

abbrev pub all_or_nothing : List DiskCall → Bool
all_or_nothing calls = keeps_either disk_at_rest calls

old_or_new : all_or_nothing a_save ≡ true
old_or_new = refl

-- once it is done, a stop leaves the new blocks alone
new_alone : at_each_stop every_way (means_these new_blocks) (after_calls disk_at_rest a_save) [] ≡ true
new_alone = refl

-- a stop of the spills, and of the record, leaves the old ones
old_alone : at_each_stop every_way (means_these old_blocks) disk_at_rest (slot_writes ++ the_record ∷ []) ≡ true
old_alone = refl

-- ---- other orders lose blocks

gate_before_the_record : all_or_nothing (slot_writes ++ Write 1 open_gate ∷ Sync ∷ the_record ∷ []) ≡ false
gate_before_the_record = refl

one_sync_for_record_and_gate : all_or_nothing (slot_writes ++ the_record ∷ Write 1 open_gate ∷ []) ≡ false
one_sync_for_record_and_gate = refl

homes_before_the_gate_is_synced : all_or_nothing (slot_writes ++ the_record ∷ Sync ∷ Write 1 open_gate ∷ home_writes) ≡ false
homes_before_the_gate_is_synced = refl

gate_closed_before_the_homes_are_synced : all_or_nothing (slot_writes ++ the_record ∷ Sync ∷ Write 1 open_gate ∷ Sync ∷ home_writes ++ Write 1 closed_gate ∷ []) ≡ false
gate_closed_before_the_homes_are_synced = refl

-- ---- a recovery of the image with an open gate

abbrev pub keeps_new : Disk → List DiskCall → Bool
keeps_new disk calls = at_each_stop every_way (means_these new_blocks) disk calls

abbrev pub disk_with_an_open_gate : Disk
disk_with_an_open_gate = after_calls disk_at_rest (slot_writes ++ the_record ∷ Sync ∷ Write 1 open_gate ∷ Sync ∷ [])

abbrev pub a_recovery : List DiskCall
a_recovery = Sync ∷ home_writes ++ Sync ∷ Write 1 closed_gate ∷ Sync ∷ []

always_new : keeps_new disk_with_an_open_gate a_recovery ≡ true
always_new = refl

-- stopped and begun again, it still leaves the new blocks
begun_again : list_all (λ image. keeps_new (synced_disk image) a_recovery) (stops every_way (after_calls disk_with_an_open_gate (Sync ∷ home_writes))) ≡ true
begun_again = refl

-- the gate is open, but no sync has followed its write
abbrev pub disk_with_an_unsynced_gate : Disk
disk_with_an_unsynced_gate = after_calls disk_at_rest (slot_writes ++ the_record ∷ Sync ∷ Write 1 open_gate ∷ [])

old_or_new_again : keeps_either disk_with_an_unsynced_gate a_recovery ≡ true
old_or_new_again = refl

-- ---- other orders of a recovery lose blocks

gate_closed_before_the_homes : keeps_new disk_with_an_open_gate (Sync ∷ Write 1 closed_gate ∷ Sync ∷ home_writes) ≡ false
gate_closed_before_the_homes = refl

one_sync_for_homes_and_gate : keeps_new disk_with_an_open_gate (Sync ∷ home_writes ++ Write 1 closed_gate ∷ []) ≡ false
one_sync_for_homes_and_gate = refl

first_sync_left_out : keeps_either disk_with_an_unsynced_gate (home_writes ++ Sync ∷ Write 1 closed_gate ∷ Sync ∷ []) ≡ false
first_sync_left_out = refl

-- ---- where sectors lie in units of eight, the same save loses a block

-- The first home is written, under the open gate: the sectors 64 to 71 are unsynced.
abbrev pub half_saved : Disk
half_saved = after_calls (in_eights 131 disk_at_rest) (slot_writes ++ the_record ∷ Sync ∷ Write 1 open_gate ∷ Sync ∷ Write 69 (65 ∷ 65 ∷ []) ∷ [])

-- All of them are kept but sector 67, which is torn: there is the first half of block 0, which isn't saved at all.
abbrev pub torn_neighbour : Image
torn_neighbour = stopped half_saved (Kept ∷ Kept ∷ Kept ∷ Torn (255 ∷ 255 ∷ []) ∷ Kept ∷ Kept ∷ Kept ∷ Kept ∷ [])

abbrev pub other_blocks : List ℕ
other_blocks = 255 ∷ 255 ∷ 32 ∷ 32 ∷ replicate 4 65 ++ replicate 4 66 ++ replicate 8 32

neither_old_nor_new : first_blocks torn_neighbour ≡ other_blocks
neither_old_nor_new = refl

-- A recovery of it leaves block 0 as it is.
lost_for_good : first_blocks (after_calls (in_eights 131 (synced_disk torn_neighbour)) a_recovery).content ≡ other_blocks
lost_for_good = refl

-- ---- no stop leaves a damaged image

-- the record with its digest, which is taken of the slots of two bytes a sector
abbrev pub signed_record : DiskCall
signed_record = Write 2 (6 ∷ replicate 479 0 ++
    126 ∷ 9 ∷ 249 ∷ 45 ∷ 5 ∷ 85 ∷ 206 ∷ 89 ∷ 212 ∷ 78 ∷ 254 ∷ 231 ∷ 215 ∷ 38 ∷ 111 ∷ 76 ∷
    54 ∷ 121 ∷ 4 ∷ 197 ∷ 124 ∷ 195 ∷ 194 ∷ 106 ∷ 76 ∷ 187 ∷ 50 ∷ 195 ∷ 138 ∷ 246 ∷ 120 ∷ 7 ∷ [])

abbrev pub leaves_whole : Disk → List DiskCall → Bool
leaves_whole disk calls = at_each_stop every_way (λ image. not (is_damaged 32 image)) disk calls

whole_through_a_save : leaves_whole disk_at_rest (slot_writes ++ signed_record ∷ Sync ∷ Write 1 open_gate ∷ Sync ∷ Write 69 (65 ∷ 65 ∷ []) ∷ Sync ∷ Write 1 closed_gate ∷ Sync ∷ []) ≡ true
unfolding sha256 first_words schedule rounds compress hash_after digest_bytes
whole_through_a_save = refl

-- with one sync for record and gate, the record may be torn under an open gate
torn_record : leaves_whole disk_at_rest (slot_writes ++ signed_record ∷ Write 1 open_gate ∷ []) ≡ false
unfolding sha256 first_words schedule rounds compress hash_after digest_bytes
torn_record = refl

-- a slot that is written under an open gate damages the image
slot_under_an_open_gate : leaves_whole disk_at_rest (slot_writes ++ signed_record ∷ Sync ∷ Write 1 open_gate ∷ Sync ∷ Write 5 (67 ∷ 67 ∷ []) ∷ []) ≡ false
unfolding sha256 first_words schedule rounds compress hash_after digest_bytes
slot_under_an_open_gate = refl
