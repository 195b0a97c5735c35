-- How many blocks may have been read and spilled, how many commits begun, and of how many blocks in all, after lines over 32 blank blocks.
use Rattle.std.specs.Prelude.{◌≡◌, ℕ, List, [], ◌∷◌, codes, refl}
use Rattle.block_words.specs.Words.{Answer, Well, Failed}
use Rattle.test_definitions.specs.Playing.{Exchange, ◌⇒◌, Plays, over, image, wear_after}

-- where the device answers so, these lines have these replies and this wear
abbrev pub WearsSo : List Answer → List Exchange → (reads spills commits committed : ℕ) → Type 0
WearsSo answers xs reads spills commits committed =
    Plays (over (image [])) answers xs
    × (wear_after (over (image [])) answers xs ≡ record { reads = reads; spills = spills; commits = commits; committed = committed })

-- the same where all goes well
abbrev pub Wears : List Exchange → (reads spills commits committed : ℕ) → Type 0
Wears xs reads spills commits committed = WearsSo [] xs reads spills commits committed

-- a block is read, and nothing is written
read_alone : Wears (codes "1 BLOCK DROP" ⇒ codes " ok" ∷ []) 1 0 0 0
read_alone = (refl, refl)

-- a block that has a buffer isn't read again, and neither is one that BUFFER gives
read_once : Wears (codes "1 BLOCK 1 BLOCK 2 BUFFER 2 BLOCK DROP DROP DROP DROP" ⇒ codes " ok" ∷ []) 1 0 0 0
read_once = (refl, refl)

-- of a block that is loaded each taking of a word may read it; the last one finds its end
loaded : Wears (codes "1 LOAD" ⇒ codes " ok" ∷ codes "1 BLOCK DROP" ⇒ codes " ok" ∷ codes "1 LOAD" ⇒ codes " ok" ∷ []) 2 0 0 0
loaded = (refl, refl)

-- a read that fails was begun
failed_read : WearsSo (Failed ∷ []) (codes "1 BLOCK" ⇒ codes " ? DEVICE" ∷ []) 1 0 0 0
failed_read = (refl, refl)

-- a save of nothing begins nothing: that is the read of BLOCK
saved_nothing : Wears (codes "1 BLOCK DROP SAVE-BUFFERS FLUSH" ⇒ codes " ok" ∷ []) 1 0 0 0
saved_nothing = (refl, refl)

-- a save of one block spills it and commits it; and a second save finds nothing
saved_one : Wears (codes "1 BUFFER DROP UPDATE SAVE-BUFFERS" ⇒ codes " ok" ∷ codes "SAVE-BUFFERS" ⇒ codes " ok" ∷ []) 0 1 1 1
saved_one = (refl, refl)

-- the fifth block takes the buffer of the first, which is spilled
spilled_one : Wears (codes "1 BUFFER DROP UPDATE 2 BUFFER 3 BUFFER 4 BUFFER 5 BUFFER" ⇒ codes " ok" ∷ []) 0 1 0 0
spilled_one = (refl, refl)

-- after the memory for a buffer its spill fails: it may have written all the same
failed_spill : WearsSo (Well ∷ Failed ∷ []) (codes "1 BUFFER DROP UPDATE FLUSH" ⇒ codes " ? DEVICE" ∷ []) 0 1 0 0
failed_spill = (refl, refl)
