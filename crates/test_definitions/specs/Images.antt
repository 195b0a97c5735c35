-- Images of 32 blocks: their bytes, and what they mean.
use Rattle.std.specs.Prelude.{◌≡◌, ◌==◌, ℕ, true, false, nat_lt, if◌then◌else◌, List, [], ◌∷◌, ◌++◌, codes, map, drop, replicate, refl}
use Rattle.sector_disk.specs.Disk.{Image}
use Rattle.journal.specs.Layout.{sectors_for, label_of, gate_open, open_gate_bytes, listed, count_listed, slot_at, home_at}
use Rattle.sha2.specs.Sha256.{sha256, first_words, schedule, rounds, compress, hash_after, digest_bytes}
use Rattle.journal.specs.Images.{block_of, meaning, digest_of, is_damaged}

-- the first sectors of slots and homes: those of the blocks 0, 1 and 31, and how many sectors there are
places : map slot_at (0 ∷ 1 ∷ 31 ∷ []) ++ map (home_at 32) (0 ∷ 1 ∷ 31 ∷ []) ++ sectors_for 32 ∷ [] ≡ 3 ∷ 5 ∷ 65 ∷ 67 ∷ 69 ∷ 129 ∷ 131 ∷ []
places = refl

a_label : label_of 32 ≡ 70 ∷ 56 ∷ 51 ∷ 66 ∷ 76 ∷ 79 ∷ 67 ∷ 75 ∷ 2 ∷ 0 ∷ 32 ∷ 0 ∷ replicate 500 0
a_label = refl

label_of_the_largest : label_of 3840 ≡ codes "F83BLOCK" ++ 2 ∷ 0 ∷ 0 ∷ 15 ∷ replicate 500 0
label_of_the_largest = refl

a_gate_opened : open_gate_bytes ≡ 67 ∷ 79 ∷ 77 ∷ 77 ∷ 73 ∷ 84 ∷ 56 ∷ 51 ∷ replicate 504 0
a_gate_opened = refl

-- open exactly by its first eight bytes
gates : map gate_open (open_gate_bytes ∷ codes "COMMIT83X" ∷ codes "COMMIT8" ∷ codes "commit83" ∷ replicate 512 0 ∷ []) ≡ true ∷ true ∷ false ∷ false ∷ false ∷ []
gates = refl

-- a record that lists the blocks 1, 2 and 9
abbrev pub a_record : List ℕ
a_record = 6 ∷ 2 ∷ replicate 510 0

listed_blocks : map (listed a_record) (0 ∷ 1 ∷ 2 ∷ 3 ∷ 8 ∷ 9 ∷ 10 ∷ 3839 ∷ []) ≡ false ∷ true ∷ true ∷ false ∷ false ∷ true ∷ false ∷ false ∷ []
listed_blocks = refl

how_many : count_listed a_record 32 ∷ count_listed a_record 9 ∷ count_listed (replicate 512 255) 32 ∷ [] ≡ 3 ∷ 2 ∷ 32 ∷ []
how_many = refl

-- an image with this gate and record, with 65 in all slots and blanks in all homes
abbrev pub image_with : (gate listing : List ℕ) → Image
image_with gate listing k =
    if k == 0 then label_of 32 else (if k == 1 then gate else (if k == 2 then listing else (if nat_lt k 67 then replicate 512 65 else replicate 512 32)))

abbrev pub old_block : List ℕ
old_block = replicate 1024 32

abbrev pub new_block : List ℕ
new_block = replicate 1024 65

-- with an open gate the listed blocks are their slots
by_the_record : map (block_of 32 (image_with open_gate_bytes a_record)) (0 ∷ 1 ∷ 2 ∷ 3 ∷ 9 ∷ []) ≡ old_block ∷ new_block ∷ new_block ∷ old_block ∷ new_block ∷ []
by_the_record = refl

every_slot : meaning 32 (image_with open_gate_bytes (replicate 512 255)) ≡ replicate 32 new_block
every_slot = refl

-- with a closed gate all blocks are their homes
every_home : meaning 32 (image_with (replicate 512 0) (replicate 512 255)) ≡ replicate 32 old_block
every_home = refl

-- ---- digests

-- that of a byte 2, 479 zeros and 1,024 bytes 65, as other programs compute it
abbrev pub a_digest : List ℕ
a_digest =
    184 ∷ 164 ∷ 233 ∷ 169 ∷ 121 ∷ 166 ∷ 130 ∷ 197 ∷ 146 ∷ 189 ∷ 89 ∷ 70 ∷ 3 ∷ 223 ∷ 177 ∷ 203 ∷
    207 ∷ 80 ∷ 178 ∷ 197 ∷ 143 ∷ 25 ∷ 179 ∷ 206 ∷ 119 ∷ 125 ∷ 9 ∷ 64 ∷ 96 ∷ 210 ∷ 22 ∷ 188 ∷ []

-- a record that lists block 1 alone
abbrev pub signed_record : List ℕ
signed_record = 2 ∷ replicate 479 0 ++ a_digest

digest_of_a_record : digest_of 32 (2 ∷ replicate 511 0) (image_with open_gate_bytes []) ≡ a_digest
unfolding sha256 first_words schedule rounds compress hash_after digest_bytes
digest_of_a_record = refl

-- the image with these bytes in sector 5, the first of the slot of block 1
abbrev pub with_slot : List ℕ → Image → Image
with_slot bytes image k = if k == 5 then bytes else image k

-- whole; another block listed; a bit past the last block; no digest; another byte in the slot; and that under a closed gate
damaged :
    is_damaged 32 (image_with open_gate_bytes signed_record)
    ∷ is_damaged 32 (image_with open_gate_bytes (4 ∷ drop 1 signed_record))
    ∷ is_damaged 32 (image_with open_gate_bytes (2 ∷ 0 ∷ 0 ∷ 0 ∷ 1 ∷ drop 5 signed_record))
    ∷ is_damaged 32 (image_with open_gate_bytes (2 ∷ replicate 511 0))
    ∷ is_damaged 32 (with_slot (66 ∷ replicate 511 65) (image_with open_gate_bytes signed_record))
    ∷ is_damaged 32 (with_slot (66 ∷ replicate 511 65) (image_with (replicate 512 0) signed_record))
    ∷ [] ≡ false ∷ true ∷ true ∷ true ∷ true ∷ false ∷ []
unfolding sha256 first_words schedule rounds compress hash_after digest_bytes
damaged = refl
