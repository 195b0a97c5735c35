use denote.Text.{Utf8}
use denote.Shadow.{shadow}
use Rattle.test_transcripts.proofs.page.Page.console.Given as goal

-- the command that the lines belong to is text
abbrev pub invariant-loop-line : goal.invariant-loop-line
invariant-loop-line g l =
    (goal.iterator-loop-line g).can_next l.line-iterator ×
    (goal.iterator-loop-line g).is_finite l.line-iterator ×
    shadow (Utf8 l.command)
