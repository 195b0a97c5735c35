-- Lines that are events.
use Rattle.std.proofs.Common.{◌≡◌, ◌∙◌, ℕ, true, List, [], ◌∷◌, ◌++◌, ap, subst, sym}
use Rattle.interpreter.specs.State.{Forth}
use Rattle.interpreter.specs.Lines.{IsAsSaved, Turn, has_failed}
use Rattle.interpreter.proofs.Undoing.{failed_undone}
use Rattle.sessions.specs.Cut.{line_text}
use Rattle.sessions.specs.Sessions.{Session}

pub events_undone : (opening : Forth) (input : List ℕ) (turns : List Turn) (last : Turn) (closing : Forth)
    → opening.undoes ≡ true → Session opening input (turns ++ last ∷ []) closing → has_failed last.ending last.place ≡ true → IsAsSaved closing
events_undone opening input [] last closing undoes s failed =
    subst (λ (f : Forth). IsAsSaved f) (sym s.3.1) (failed_undone opening (line_text s.2.bytes) last s.1 undoes s.2.line failed)
events_undone opening input (turn ∷ turns) last closing undoes s failed =
    events_undone s.1 s.0 turns last closing (sym (ap (λ (f : Forth). f.undoes) s.2.line.leaves) ∙ undoes) s.3 failed
