use Rattle.std.proofs.Common.{◌≡◌, None}
use Rattle.lexicon.specs.Running.{IsReady}
use Rattle.test_language.proofs.words.calls.follow.Given as goal

abbrev pub invariant-loop-line : goal.invariant-loop-line
invariant-loop-line g l = record {
  ready : IsReady l.desk.lexicon l.desk.machine l.desk.returns;
  idle : l.desk.machine.pending ≡ None;
}
