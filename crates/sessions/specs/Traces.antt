-- What is told, beside the reply, of a line that a fault ended or ABORT left.
use Rattle.std.specs.Prelude.{◌≡◌, ℕ, zero, suc, ◌+◌, ◌/◌, ◌%◌, ◌==◌, ◌&&◌, nat_lt, if◌then◌else◌, List, [], ◌∷◌, ◌++◌, map, take, codes, MatchBool, Option, Some, None}
use Rattle.std.specs.Io.KnownBytes.{Appends}
use Rattle.number_io.specs.Writing.{number_text}
use Rattle.cell_machine.specs.Fault.{Fault}
use Rattle.interpreter.specs.declared.place.LeftAt.{LeftAt}
use Rattle.interpreter.specs.declared.place.Place.{Place}
use Rattle.interpreter.specs.FaultNames.{fault_name}
use Rattle.interpreter.specs.Lines.{LineEnd, Fails}
use Rattle.interpreter.specs.Told.{has_aborted}

-- the number of the line after the n-th: the largest one stays
abbrev pub next_number : ℕ → ℕ
next_number n = if n == 4294967295 then n else suc n

abbrev pub decimal : ℕ → List ℕ
decimal n = number_text 10 n

-- where a byte stands: in the line by its column, in a block by its line too, both counted from 1
abbrev pub in_line : ℕ → List ℕ
in_line at = codes "column " ++ decimal (at + 1)

abbrev pub in_block : (block at : ℕ) → List ℕ
in_block block at = codes "block " ++ decimal block ++ codes " line " ++ decimal (at / 64 + 1) ++ codes " " ++ in_line (at % 64)

abbrev pub text_at : (block at : ℕ) → List ℕ
text_at zero at = in_line at
text_at (suc b) at = in_block (suc b) at

abbrev pub place_text : Place → List ℕ
place_text place = text_at place.block place.to_in

-- and nothing, where there is no place
abbrev pub at_place : Option Place → List ℕ
at_place None = []
at_place (Some place) = codes " at " ++ place_text place

-- in which line of the input, which fault, and where
abbrev pub fault_told : ℕ → Fault → Option Place → List ℕ
fault_told number fault place = codes "line " ++ decimal number ++ codes ": " ++ fault_name fault ++ at_place place

-- a point for what isn't printable ASCII
abbrev pub shown : ℕ → ℕ
shown b = if nat_lt 31 b && nat_lt b 127 then b else 46

-- the word that begins there, its first bytes, and nothing where there is none
abbrev pub word_text : List ℕ → List ℕ
word_text [] = []
word_text (b ∷ word) = codes ": " ++ map shown (take 31 (b ∷ word))

-- the loads that led there, as they are given
abbrev pub load_text : Place → List ℕ
load_text load = codes ", loaded at " ++ place_text load

abbrev pub loads_text : List Place → List ℕ
loads_text [] = []
loads_text (load ∷ loads) = load_text load ++ loads_text loads

-- a trace is one line
abbrev pub trace_of : ℕ → Fault → Option Place → List ℕ → List Place → List ℕ
trace_of number fault place word loads = ((fault_told number fault place ++ word_text word) ++ loads_text loads) ++ 10 ∷ []

-- of a line that ABORT or a true ABORT" left
abbrev pub abort_line : ℕ → List ℕ
abort_line number = (codes "line " ++ decimal number) ++ codes ": ABORT" ++ 10 ∷ []

-- This was written of the line: the trace of the fault that ended it, or that it was aborted. Else nothing.
abbrev pub WritesFailure : ℕ → LineEnd → Option LeftAt → Option Place → List ℕ → List Place → (written written' : Option (List ℕ)) → Type 0
WritesFailure number (Fails fault) left place word loads written written' = Appends written written' (trace_of number fault place word loads)
WritesFailure number ending left place word loads written written' = MatchBool (has_aborted left) (Appends written written' (abort_line number)) (written' ≡ written)

-- of each block whose changes were taken back one line
abbrev pub undone_line : ℕ → ℕ → List ℕ
undone_line number block = ((codes "line " ++ decimal number) ++ codes ": undone: block ") ++ decimal block ++ 10 ∷ []

abbrev pub undone_text : ℕ → List ℕ → List ℕ
undone_text number [] = []
undone_text number (block ∷ blocks) = undone_line number block ++ undone_text number blocks

-- This was written for the line: first of its failure, and then of the blocks that were undone.
abbrev pub Writes : ℕ → LineEnd → Option LeftAt → Option Place → List ℕ → List Place → (undone : List ℕ) → (written written' : Option (List ℕ)) → Type 0
Writes number ending left place word loads undone written written' =
    (mid : Option (List ℕ)) × WritesFailure number ending left place word loads written mid × Appends mid written' (undone_text number undone)
