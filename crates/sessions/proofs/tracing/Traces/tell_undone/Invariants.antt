use Rattle.std.proofs.Common.{◌≡◌, false}
use Rattle.std.specs.Io.KnownBytes.{Appends}
use Rattle.interpreter.specs.Lines.{changed_below}
use Rattle.sessions.specs.Traces.{undone_text}
use Rattle.sessions.proofs.tracing.Traces.tell_undone.Given as goal

abbrev pub invariant-loop-b : goal.invariant-loop-b
invariant-loop-b g l = record {
  next : l.self.next ≡ l.fn.self.next;
  told : l.self.failed ≡ false → (l.fn.self.failed ≡ false)
      × Appends (g.W.Write.contents l.fn.self.writer.now) (g.W.Write.contents l.self.writer.now)
      (undone_text l.fn.number (changed_below (g.F.Lines.undone l.fn.forth l.fn.end) l.b));
}
