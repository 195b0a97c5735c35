-- What is told of a file, and the blocks for which there is room.
use Rattle.std.proofs.Common.{◌≡◌, ◌∙◌, ◌++◌, ◌∷◌, ◌-◌, ◌+◌, ◌≤◌, ◌<◌, [], ℕ, Bool, true, false, List, length, Option, Some, None, nat_lt, ◌%◌, replicate, length-append, refl, sym, subst, ap, arith, append_assoc}
use Rattle.std.proofs.lemmas.Bool.{ltb-false}
use Rattle.std.proofs.lemmas.List.{length-replicate}
use Rattle.terminal.specs.declared.findings.Finding.{Finding}
use Rattle.terminal.specs.declared.failure.Failure.{Failure}
use Rattle.command_line.specs.declared.orders.Form.{Form}
use Rattle.command_line.specs.declared.orders.Form.TheVariants.{Text, Raw}
use Rattle.terminal.specs.Findings.{AreSound, all_rows, blocks_for, failure_of, findings, first_of, in_blocks, of_form, place, refusal, row_findings, said, said_all, told, unplaced, when}
use Rattle.terminal.specs.Screen.{row, texts_of}

-- nothing of what comes later is refused either
pub refusal_after : (a b : List Finding) → refusal (a ++ b) ≡ None → refusal b ≡ None
refusal_after [] b none = none
refusal_after (f ∷ a) b none = go (failure_of f) none (refusal_after a b)
  where
    go : (o : Option Failure) → first_of o (refusal (a ++ b)) ≡ None → (refusal (a ++ b) ≡ None → refusal b ≡ None) → refusal b ≡ None
    go None rest next = next rest
    go (Some e) rest next = cc

-- there are blocks for all of it
pub placed : (form : Form) (room n : ℕ) → refusal (place form room n) ≡ None → blocks_for n ≤ room
placed form room n none = go form (nat_lt room (blocks_for n)) refl none
  where
    go : (form : Form) (t : Bool) → nat_lt room (blocks_for n) ≡ t → refusal (when t (unplaced form room)) ≡ None → blocks_for n ≤ room
    go form false e none = ltb-false room (blocks_for n) e
    go Text true e none = cc
    go Raw true e none = cc

-- what a file says has its place
pub room_in : (form : Form) (room : ℕ) (bytes : List ℕ) → (file : List ℕ) × (refusal (told form room file) ≡ None) × (bytes ≡ said form file) → blocks_for (length bytes) ≤ room
room_in form room bytes read =
    subst (λ (l : List ℕ). blocks_for (length l) ≤ room) (sym read.2)
    (placed form room (length (said form read.0)) (refusal_after (of_form form read.0) (place form room (length (said form read.0))) read.1))

-- whole blocks and then others
pub blocks_for-more : (n m : ℕ) → blocks_for ((n + (1024 - n % 1024) % 1024) + m) ≡ blocks_for n + blocks_for m
blocks_for-more n m = omega arith

-- so many blocks are enough for all that is said
pub room_for_all : (form : Form) (room : ℕ) (files : List (List ℕ)) → AreSound form room files → blocks_for (length (said_all form files)) ≤ room
room_for_all form room [] sound = omega arith
room_for_all form room (file ∷ files) sound =
    let bytes = said form file in
    let fits = room_in form room bytes (file, sound.0, refl) in
    let rest = room_for_all form (room - blocks_for (length bytes)) files sound.1 in
    let long : length (in_blocks bytes ++ said_all form files) ≡ (length bytes + (1024 - length bytes % 1024) % 1024) + length (said_all form files) =
    length-append (in_blocks bytes) (said_all form files)
    ∙ ap (λ k. k + length (said_all form files)) (length-append bytes (replicate ((1024 - length bytes % 1024) % 1024) 32) ∙ ap (λ k. length bytes + k) (length-replicate ((1024 - length bytes % 1024) % 1024) 32)) in
    let count = ap blocks_for long ∙ blocks_for-more (length bytes) (length (said_all form files)) in
    omega (arith, fits, rest, count)

-- what is said has its place behind the blocks before it
pub room_for : (form : Form) (blocks first : ℕ) (bytes : List ℕ) (are_texts : List (List ℕ) → Type 0) → first < blocks
    → (files : List (List ℕ)) × are_texts files × AreSound form (blocks - first) files × (bytes ≡ said_all form files) → first + blocks_for (length bytes) ≤ blocks
room_for form blocks first bytes are_texts below read =
    let few : blocks_for (length bytes) ≤ blocks - first = subst (λ (l : List ℕ). blocks_for (length l) ≤ blocks - first) (sym read.3) (room_for_all form (blocks - first) read.0 read.2) in
    omega (arith, below, few)

-- one line more
pub rows_more : (bytes new line file rest all : List ℕ) → new ≡ bytes ++ row line → texts_of file ≡ line ∷ texts_of rest
    → bytes ++ all_rows (texts_of file) ≡ all → new ++ all_rows (texts_of rest) ≡ all
rows_more bytes new line file rest all is cut before =
    ap (λ l. l ++ all_rows (texts_of rest)) is ∙ append_assoc bytes (row line) (all_rows (texts_of rest))
    ∙ ap (λ l. bytes ++ all_rows l) (sym cut) ∙ before

pub told_more : (n : ℕ) (below full : Bool) (found new all : List Finding) (line file rest : List ℕ) → new ≡ found ++ row_findings n below (row line)
    → texts_of file ≡ line ∷ texts_of rest → findings n below (line ∷ texts_of rest) ≡ row_findings n below (row line) ++ findings (n + 1) full (texts_of rest)
    → found ++ findings n below (texts_of file) ≡ all → new ++ findings (n + 1) full (texts_of rest) ≡ all
told_more n below full found new all line file rest is cut step before =
    ap (λ l. l ++ findings (n + 1) full (texts_of rest)) is ∙ append_assoc found (row_findings n below (row line)) (findings (n + 1) full (texts_of rest))
    ∙ ap (λ l. found ++ l) (sym step) ∙ ap (λ l. found ++ findings n below l) (sym cut) ∙ before
