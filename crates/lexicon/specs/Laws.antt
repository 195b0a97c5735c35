-- What holds of what is left to do, and of the system words.
use Rattle.std.specs.Prelude.{◌≡◌, ℕ, List, [], ◌∷◌, Some, None}
use Rattle.stacks.specs.declared.return_stack.Entry.{Entry}
use Rattle.stacks.specs.declared.return_stack.Entry.TheVariants.{Load as LoadOf}
use Rattle.cell_machine.specs.declared.event.Work.TheVariants as work
use Rattle.system_words.specs.declared.words.Mark.{Mark}
use Rattle.system_words.specs.declared.words.Meaning.{Meaning}
use Rattle.system_words.specs.Rows.{rows, at_token}
use Rattle.cell_machine.specs.Frames.{Level, Once, Load}
use Rattle.cell_machine.specs.Events.{Doing, Entered}
use Rattle.lexicon.specs.declared.language.Lexicon.{Lexicon}
use Rattle.lexicon.specs.Language.{Language}
use Rattle.lexicon.specs.Stands.{Stands, IsLeft}
use Rattle.lexicon.specs.Running.{meanings, looks}

-- where no entry stands and no word waits, nothing is left
abbrev pub NothingIsLeft : Type 0
NothingIsLeft = (l : Lexicon) (x : Language) (doing : Doing) → doing.pending ≡ None → IsLeft l x doing [] []

-- a word that is entered by itself stands before what was left
abbrev pub WordsEnter : Type 0
WordsEnter =
    (l : Lexicon) (x : Language) (doing doing' : Doing) (entries entries' : List Entry) (stack stack' : List ℕ) (levels : List Level) (w : ℕ) → IsLeft l x doing entries levels →
    Entered l.code (work.Primitive w) doing.pending doing.place entries stack doing'.pending doing'.place entries' stack' → IsLeft l x doing' entries' (Once w ∷ levels)

-- so does a load, and what was around it is left where it goes
abbrev pub LoadsEnter : Type 0
LoadsEnter =
    (l : Lexicon) (x : Language) (doing : Doing) (entries : List Entry) (levels : List Level) (blk to_in : ℕ) → doing.pending ≡ None →
    IsLeft l x doing entries levels → IsLeft l x doing (LoadOf blk to_in ∷ entries) (Load blk to_in ∷ levels)

abbrev pub LoadsLeave : Type 0
LoadsLeave =
    (l : Lexicon) (x : Language) (doing : Doing) (entries : List Entry) (levels : List Level) (blk to_in : ℕ) → doing.pending ≡ None →
    IsLeft l x doing entries (Load blk to_in ∷ levels) → (below : List Entry) × ((entries ≡ LoadOf blk to_in ∷ below) × IsLeft l x doing below levels)

-- a system word, which has a row, is none that the machine can call, but for those that only look
abbrev pub SystemWordsAreOutsideOrLook : Type 0
SystemWordsAreOutsideOrLook =
    (l : Lexicon) (x : Language) → Stands l x → (w : ℕ) (row : Mark × Meaning) → at_token rows w ≡ Some row → meanings x w ≡ looks x w
