-- Blocks: the four buffers, saves, and what the device refuses.
use Rattle.std.specs.Prelude.{◌≡◌, true, false, List, [], ◌∷◌, codes, map, replicate, refl}
use Rattle.number_io.specs.Writing.{divided, digits_of}
use Rattle.block_words.specs.Words.{Well, Failed}
use Rattle.sessions.specs.Sessions.{saves_of}
use Rattle.sessions.specs.Playing.{session}
use Rattle.test_definitions.specs.Playing.{Exchange, ◌⇒◌, asked_lines, Replies, Plays, image, over, saved_after}

-- the least recently used buffer is used again
reuse : Replies (codes "0 BLOCK 1 BLOCK 2 BLOCK 3 BLOCK 0 BLOCK 4 BLOCK U." ⇒ codes "62464  ok" ∷ [])
unfolding digits_of divided
reuse = refl

-- an edit that was not marked is lost with its buffer
not_updated : Replies (codes "65 1 BLOCK C! 2 BLOCK 3 BLOCK 4 BLOCK 5 BLOCK 1 BLOCK C@ ." ⇒ codes "32  ok" ∷ [])
unfolding digits_of divided
not_updated = refl

abbrev pub evicted : List Exchange
evicted = codes "65 1 BLOCK C! UPDATE 2 BLOCK 3 BLOCK 4 BLOCK 5 BLOCK 1 BLOCK C@ ." ⇒ codes "65  ok" ∷ []

updated : Replies evicted
unfolding digits_of divided
updated = refl

-- what wasn't saved before the input ended is gone
opened_again : Plays (over (saved_after (over (image [])) [] evicted)) [] (codes "1 BLOCK C@ ." ⇒ codes "32  ok" ∷ [])
unfolding digits_of divided
opened_again = refl

abbrev pub saving : List Exchange
saving = codes "65 1 BLOCK C! UPDATE 66 2 BLOCK C! UPDATE SAVE-BUFFERS" ⇒ codes " ok" ∷ []

saved : Replies saving
saved = refl

saved_and_opened_again : Plays (over (saved_after (over (image [])) [] saving)) [] (codes "1 BLOCK C@ . 2 BLOCK C@ ." ⇒ codes "65 66  ok" ∷ [])
unfolding digits_of divided
saved_and_opened_again = refl

-- one save, which has returned
saves : map (λ s. s.returned) (saves_of (session (over (image [])) (asked_lines saving) []).turns) ≡ true ∷ []
saves = refl

-- a buffer that gave way before the save is saved with the others
evicted_and_saved : Plays (over (saved_after (over (image [])) [] (codes "65 1 BLOCK C! UPDATE 2 BLOCK 3 BLOCK 4 BLOCK 5 BLOCK SAVE-BUFFERS" ⇒ codes " ok" ∷ []))) [] (codes "1 BLOCK C@ ." ⇒ codes "65  ok" ∷ [])
unfolding digits_of divided
evicted_and_saved = refl

-- all blocks changed in turn, saved, and opened again; a second save makes no call of the device
abbrev pub all_changed : List Exchange
all_changed =
    codes ": T 32 0 DO I 65 + I BLOCK C! UPDATE LOOP SAVE-BUFFERS ;" ⇒ codes " ok" ∷ codes "T" ⇒ codes " ok" ∷ codes "SAVE-BUFFERS" ⇒ codes " ok" ∷ []

all_saved : Plays (over (saved_after (over (image [])) [] all_changed)) [] (codes "0 BLOCK C@ . 17 BLOCK C@ . 31 BLOCK C@ ." ⇒ codes "65 82 96  ok" ∷ [])
unfolding digits_of divided
all_saved = refl

flushed : Replies (codes "0 BLOCK U. 1 BLOCK U. FLUSH 1 BLOCK U." ⇒ codes "61440 62464 61440  ok" ∷ codes "65 1 BLOCK C! UPDATE FLUSH 1 BLOCK C@ ." ⇒ codes "65  ok" ∷ codes "FLUSH UPDATE" ⇒ codes " ? NO BUFFER" ∷ [])
unfolding digits_of divided
flushed = refl

blank_buffer : Replies (codes "1 BUFFER C@ ." ⇒ codes "32  ok" ∷ codes "65 1 BLOCK C! 1 BUFFER C@ ." ⇒ codes "65  ok" ∷ [])
unfolding digits_of divided
blank_buffer = refl

no_block : Replies (codes "32 BLOCK" ⇒ codes " ? NO BLOCK" ∷ codes "32 BUFFER" ⇒ codes " ? NO BLOCK" ∷ codes "UPDATE" ⇒ codes " ? NO BUFFER" ∷ [])
no_block = refl

many_blocks : Plays (over (replicate 3840 (replicate 1024 32))) [] (codes "3839 BLOCK C@ ." ⇒ codes "32  ok" ∷ codes "3840 BLOCK" ⇒ codes " ? NO BLOCK" ∷ [])
unfolding digits_of divided
many_blocks = refl

-- ---- a device that fails

-- a save of nothing makes no call of the device
nothing_to_save : Plays (over (image [])) (Failed ∷ []) (codes "SAVE-BUFFERS" ⇒ codes " ok" ∷ codes "FLUSH" ⇒ codes " ok" ∷ [])
nothing_to_save = refl

failed_read : Plays (over (image [])) (Failed ∷ []) (codes "1 BLOCK" ⇒ codes " ? DEVICE" ∷ codes "1 BLOCK C@ ." ⇒ codes "32  ok" ∷ [])
unfolding digits_of divided
failed_read = refl

-- the read, the growth for a buffer and the spill go well, the commit fails
abbrev pub failed_commit : List Exchange
failed_commit =
    codes "65 1 BLOCK C! UPDATE" ⇒ codes " ok" ∷ codes "SAVE-BUFFERS" ⇒ codes " ? DEVICE" ∷ codes "3 BLOCK" ⇒ codes " ? CLOSED" ∷
    codes "1 BLOCK C@ ." ⇒ codes "65  ok" ∷ []

closed : Plays (over (image [])) (Well ∷ Well ∷ Well ∷ Failed ∷ []) failed_commit
unfolding digits_of divided
closed = refl

closed_by_a_spill : Plays (over (image [])) (Well ∷ Well ∷ Failed ∷ []) failed_commit
unfolding digits_of divided
closed_by_a_spill = refl

closed_and_opened_again : Plays (over (saved_after (over (image [])) (Well ∷ Well ∷ Well ∷ Failed ∷ []) failed_commit)) [] (codes "1 BLOCK C@ ." ⇒ codes "32  ok" ∷ [])
unfolding digits_of divided
closed_and_opened_again = refl

-- a save that did not return stands last
not_returned : map (λ s. s.returned) (saves_of (session (over (image [])) (asked_lines failed_commit) (Well ∷ Well ∷ Well ∷ Failed ∷ [])).turns) ≡ false ∷ []
not_returned = refl

-- with a closed store each save is CLOSED, and a block that is none is NO BLOCK first
closed_saves : Plays (over (image [])) (Well ∷ Well ∷ Failed ∷ [])
    (codes "1 BLOCK UPDATE" ⇒ codes " ok" ∷ codes "FLUSH" ⇒ codes " ? DEVICE" ∷ codes "FLUSH" ⇒ codes " ? CLOSED" ∷ codes "SAVE-BUFFERS" ⇒ codes " ? CLOSED" ∷
    codes "32 BLOCK" ⇒ codes " ? NO BLOCK" ∷ codes "2 BUFFER" ⇒ codes " ? CLOSED" ∷ codes "2 LOAD" ⇒ codes " ? CLOSED" ∷ codes "1 LOAD" ⇒ codes " ok" ∷ [])
closed_saves = refl

no_memory : Plays (over (image [])) (Well ∷ Failed ∷ []) (codes "0 BLOCK" ⇒ codes " ? MEMORY" ∷ codes "0 BLOCK U." ⇒ codes "61440  ok" ∷ [])
unfolding digits_of divided
no_memory = refl
