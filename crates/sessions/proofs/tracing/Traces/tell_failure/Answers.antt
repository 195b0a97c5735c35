use Rattle.std.proofs.Common.{◌≡◌, ◌∙◌, ap, ap₂, refl, subst}
use Rattle.std.specs.Prelude.{MatchBool}
use Rattle.std.specs.Io.KnownBytes.{Appends}
use Rattle.interpreter.specs.Stops.{fault_of}
use Rattle.sessions.specs.Traces.{abort_line, trace_of}
use Rattle.sessions.proofs.TraceLemmas.{appended_as, writes_none, writes_one}
use Rattle.sessions.proofs.tracing.Traces.tell_failure.Goals as goal

pub returns-in-None-clause-told : goal.returns-in-None-clause-told
returns-in-None-clause-told g c = λ still.
    let abort = c.tell_abort.ensures.told still in (
      abort.0,
      writes_none _ (g.F.Lines.ending c.args.end.now) (g.F.Lines.placed c.args.forth.now) (g.F.Lines.told_start c.args.forth.now) _ _ _ _ c.in-None.ensures
          (subst (λ b. MatchBool b (Appends (g.W.Write.contents c.args.self.now.writer.now) (g.W.Write.contents c.tell_abort.new.self.writer.now) (abort_line c.args.number))
          (g.W.Write.contents c.tell_abort.new.self.writer.now ≡ g.W.Write.contents c.args.self.now.writer.now)) c.has_aborted.ensures abort.1),
    )

pub returns-in-Some-clause-told : goal.returns-in-Some-clause-told
returns-in-Some-clause-told g c = λ still.
    let text = c.as_slice.ensures.value ∙ c.trace_text-trace.ensures
    ∙ ap (λ place. trace_of c.args.number (fault_of c.in-Some.fault) place c.last_word-word.result.now c.loads-loads.result.now) c.start_of_word.ensures.told
    ∙ ap₂ (λ word loads. trace_of c.args.number (fault_of c.in-Some.fault) (g.F.Lines.told_start c.args.forth.now) word loads) c.last_word-word.ensures.told c.loads-loads.ensures.told in (
      c.write.ensures.well still,
      writes_one _ (g.F.Lines.ending c.args.end.now) (g.F.Lines.placed c.args.forth.now) (g.F.Lines.told_start c.args.forth.now) _ _ c.in-Some.fault _ _ c.in-Some.ensures
          (appended_as _ _ _ _ _ refl text (c.write.ensures.told still)),
    )
