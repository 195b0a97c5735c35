-- A file as blocks, and what is told of it.
use Rattle.std.specs.Prelude.{◌≡◌, ℕ, suc, ◌+◌, ◌-◌, ◌*◌, ◌%◌, ◌/◌, ◌==◌, ◌&&◌, nat_le, nat_lt, not, if◌then◌else◌, Bool, false, List, [], ◌∷◌, ◌++◌, length, replicate, slice_index, Option, Some, None, ⊤}
use Rattle.std.specs.List.{list_all}
use Rattle.terminal.specs.declared.failure.Failure.{Failure}
use Rattle.terminal.specs.declared.failure.Failure.TheVariants as failure
use Rattle.terminal.specs.declared.findings.Finding.{Finding}
use Rattle.terminal.specs.declared.findings.Finding.TheVariants.{LongLine, RunsOn, Unprintable, NoBlock, PartOfABlock, MoreBlocks}
use Rattle.command_line.specs.declared.orders.Form.{Form}
use Rattle.command_line.specs.declared.orders.Form.TheVariants.{Text, Raw}
use Rattle.terminal.specs.Screen.{row, texts_of}

-- the rows of lines
abbrev pub all_rows : List (List ℕ) → List ℕ
all_rows [] = []
all_rows (line ∷ lines) = row line ++ all_rows lines

-- the bytes that a file says: the rows of its lines, or its own
abbrev pub said : Form → List ℕ → List ℕ
said Text file = all_rows (texts_of file)
said Raw file = file

-- how many blocks so many bytes take
abbrev pub blocks_for : ℕ → ℕ
blocks_for n = (n + 1023) / 1024

-- what is told where something is so
abbrev pub when : Bool → Finding → List Finding
when is_so finding = if is_so then finding ∷ [] else []

-- the row ends in a word
abbrev pub is_full : List ℕ → Bool
is_full bytes = length bytes == 64 && not (slice_index bytes 63 == 32)

abbrev pub begins_a_word : List ℕ → Bool
begins_a_word [] = false
begins_a_word (b ∷ bytes) = not (b == 32)

abbrev pub is_printable : ℕ → Bool
is_printable b = nat_le 32 b && nat_le b 126

-- what is told of the row of line n, which stands below a full one of its block, or doesn't
abbrev pub row_findings : (n : ℕ) (below_full : Bool) → List ℕ → List Finding
row_findings n below_full bytes = when (nat_lt 64 (length bytes)) (LongLine n)
    ++ when (below_full && begins_a_word bytes) (RunsOn n)
    ++ when (not (list_all is_printable bytes)) (Unprintable n)

-- what is told of lines, of which the first is line n; a block has 16
abbrev pub findings : (n : ℕ) (below_full : Bool) → List (List ℕ) → List Finding
findings n below_full [] = []
findings n below_full (line ∷ lines) = row_findings n below_full (row line)
    ++ findings (suc n) (is_full (row line) && not (n % 16 == 0)) lines

-- what is told of a file for which so many blocks are too few
abbrev pub unplaced : Form → ℕ → Finding
unplaced Text room = NoBlock (16 * room + 1)
unplaced Raw room = MoreBlocks

abbrev pub place : Form → ℕ → ℕ → List Finding
place form room bytes = when (nat_lt room (blocks_for bytes)) (unplaced form room)

abbrev pub of_form : Form → List ℕ → List Finding
of_form Text file = findings 1 false (texts_of file)
of_form Raw file = when (not (length file % 1024 == 0)) PartOfABlock

-- what is told of a file for which there are so many blocks
abbrev pub told : Form → ℕ → List ℕ → List Finding
told form room file = of_form form file ++ place form room (length (said form file))

-- the failure for which nothing of the file is imported
abbrev pub failure_of : Finding → Option Failure
failure_of (LongLine n) = Some failure.NotAScreen
failure_of PartOfABlock = Some failure.NotAScreen
failure_of (NoBlock n) = Some failure.NoBlock
failure_of MoreBlocks = Some failure.NoBlock
failure_of _ = None

abbrev pub first_of : Option Failure → Option Failure → Option Failure
first_of (Some e) next = Some e
first_of None next = next

-- the first refusal
abbrev pub refusal : List Finding → Option Failure
refusal [] = None
refusal (finding ∷ found) = first_of (failure_of finding) (refusal found)

-- ---- files, each of which begins a block

-- bytes, and blanks up to the end of their last block
abbrev pub in_blocks : List ℕ → List ℕ
in_blocks bytes = bytes ++ replicate ((1024 - length bytes % 1024) % 1024) 32

-- the bytes that files say
abbrev pub said_all : Form → List (List ℕ) → List ℕ
said_all form [] = []
said_all form (file ∷ files) = in_blocks (said form file) ++ said_all form files

-- nothing is refused of files, for which there are so many blocks: each has its place behind the one before it
abbrev pub AreSound : Form → (room : ℕ) → List (List ℕ) → Type 0
AreSound form room [] = ⊤
AreSound form room (file ∷ files) = (refusal (told form room file) ≡ None) × AreSound form (room - blocks_for (length (said form file))) files
