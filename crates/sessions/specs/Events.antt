-- Sessions whose lines are events.
use Rattle.std.specs.Prelude.{◌≡◌, ℕ, true, List, [], ◌∷◌, ◌++◌}
use Rattle.interpreter.specs.State.{Forth}
use Rattle.interpreter.specs.Lines.{IsAsSaved, Turn, has_failed}
use Rattle.sessions.specs.Sessions.{Session}

-- Where lines are events, the blocks are behind each line that failed as they were saved last: so no save of a later line contains
-- what a line that failed had changed and not saved.
abbrev pub FailedEventsAreUndone : Type 0
FailedEventsAreUndone =
    (opening : Forth) (input : List ℕ) (turns : List Turn) (last : Turn) (closing : Forth)
    → opening.undoes ≡ true → Session opening input (turns ++ last ∷ []) closing → has_failed last.ending last.place ≡ true → IsAsSaved closing
