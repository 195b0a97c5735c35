-- Lines that fail, and with which of them a run ends.
use Rattle.std.specs.Prelude.{◌≡◌, Bool, true, false, List, [], ◌∷◌, take}
use Rattle.std.specs.List.{AllByRecursion}
use Rattle.interpreter.specs.Lines.{Turn, has_failed}
use Rattle.sessions.specs.declared.strictness.Strictness.{Strictness}
use Rattle.sessions.specs.declared.strictness.Strictness.TheVariants.{Never, First, Always}

-- whether the line failed: a fault, ABORT or a true ABORT" ended it
abbrev pub is_failed : Turn → Bool
is_failed turn = has_failed turn.ending turn.place

-- none of these lines failed
abbrev pub NoneFailed : List Turn → Type 0
NoneFailed turns = AllByRecursion (λ turn. is_failed turn ≡ false) turns

-- those of a run's lines with which it ends where they fail
abbrev pub strict_ones : Strictness → List Turn → List Turn
strict_ones Never turns = []
strict_ones First turns = take 1 turns
strict_ones Always turns = turns

-- whether it ends with its next line, where that fails; and how strict it is behind that one
abbrev pub is_due : Strictness → Bool
is_due Never = false
is_due First = true
is_due Always = true

abbrev pub behind_line : Strictness → Strictness
behind_line Never = Never
behind_line First = Never
behind_line Always = Always

-- and behind some lines
abbrev pub behind_lines : Strictness → List Turn → Strictness
behind_lines strictness [] = strictness
behind_lines strictness (turn ∷ turns) = behind_lines (behind_line strictness) turns
