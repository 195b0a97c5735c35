use Rattle.std.proofs.Common.{[], ◌≡◌, ◌<◌, ap, ap₂, subst, sym, ◌∙◌}
use Rattle.interpreter.specs.Told.{AreRead, AreStarts, loads_told}
use Rattle.interpreter.specs.Lines.{has_failed, settled_by, undone_by}
use Rattle.interpreter.proofs.Underway.{led_by}
use Rattle.interpreter.proofs.Undoing.{keeps_settled}
use Rattle.std.specs.Io.BufRead.{strip_last}
use Rattle.sessions.specs.Strict.{is_failed}
use Rattle.sessions.proofs.Hearing.{heard_as}
use Rattle.sessions.proofs.OneLine.{answered, was_stopped, was_replied, line_stopped, line_replied, line_unflushed, line_unread}
use Rattle.sessions.proofs.session.turn.Goals as goal

pub returns-in-Err-clause-err : goal.returns-in-Err-clause-err
returns-in-Err-clause-err g c = λ opening is.
    let part = c.in-Err.ensures.err in
    (opening, [], is, g.met.F.Lines.rests _ opening is, line_unread g.D.SectorDevice c.turn.ensures opening _ _ _ _ _ c.in-Err.ensures.output part.0 part.1)

pub returns-then-has_failed-clause-err : goal.returns-then-has_failed-clause-err
returns-then-has_failed-clause-err g c = λ opening is.
    let kept = rw c.in-Ok-true.field-0-test at c.in-Ok-true.ensures.line in
    let end = g.F.Lines.ending c.line-end.result in
    let at = g.F.Lines.placed c.line-end.new.self in
    let ran = c.line-end.ensures.runs opening is in
    let none = c.in-Ok-true.ensures.none_failed ∙ c.requires.none_failed in
    let some : 0 < c.line-end.new.terminal.failures = rw c.if-has_failed.true at c.has_failed.ensures.yes in rw c.settle.ensures.device (
      settled_by end at ran.0,
      ran.1,
      c.settle.ensures.stands ran.0 ran.2,
      keeps_settled g.D.SectorDevice end at opening ran.0 _ _ ran.1 ran.4,
      line_stopped g.D.SectorDevice c.long_lines.ensures opening _ _ _ _ _ _ c.read_line.new.line.items c.text.result.now kept (c.text.ensures ∙ ap (strip_last 13) c.as_slice.ensures.value) c.in-Ok-true.ensures.output _ _ ran.1 (settled_by end at ran.0) c.line-end.ensures.time c.fault.result
          (was_stopped g.D.SectorDevice opening c.text.result.now (settled_by end at ran.0) _ _ _ _ _ _ _ _ ran.1 _ _ end at (undone_by end at ran.0) ran.3 c.line-end.ensures.terminal_failures none some),
    )

pub returns-in-Ok-clause-done : goal.returns-in-Ok-clause-done
returns-in-Ok-clause-done g c = λ opening is.
    let kept = rw c.in-Ok-true.field-0-test at c.in-Ok-true.ensures.line in
    let end = g.F.Lines.ending c.line-end.result in
    let at = g.F.Lines.placed c.line-end.new.self in
    let ran = c.line-end.ensures.runs opening is in
    let none = c.in-Ok-true.ensures.none_failed ∙ c.requires.none_failed in
    let still : c.line-end.new.terminal.failures ≡ 0 = rw c.if-has_failed.false at c.has_failed.ensures.no_call in
    let replied = was_replied g.D.SectorDevice opening c.text.result.now (settled_by end at ran.0) _ _ _ _ _ _ _ _ ran.1 _ _ end at (undone_by end at ran.0) ran.3 c.line-end.ensures.terminal_failures none still in
    let done = line_replied g.D.SectorDevice c.long_lines.ensures opening _ _ _ _ _ _ c.read_line.new.line.items c.text.result.now kept (c.text.ensures ∙ ap (strip_last 13) c.as_slice.ensures.value) c.in-Ok-true.ensures.output _ _ ran.1 (settled_by end at ran.0) c.line-end.ensures.time
    end at (undone_by end at ran.0)
    replied
    _ _ c.in-Ok.ensures.input c.in-Ok.ensures.output in rw c.settle-in-Ok.ensures.device (
      settled_by end at ran.0,
      ran.1,
      c.settle-in-Ok.ensures.stands ran.0 ran.2,
      keeps_settled g.D.SectorDevice end at opening ran.0 _ _ ran.1 ran.4,
      (
        done.0,
        record {
          start = g.F.Lines.told_start c.line-end.new.self;
          word = g.F.Lines.told_word c.line-end.new.self;
          loads = g.F.Lines.told_loads c.line-end.new.self;
          read = subst (λ place. AreRead place (g.F.Lines.told_start c.line-end.new.self) (g.F.Lines.told_word c.line-end.new.self)) (sym (ap (λ t. t.place) done.1 ∙ replied.placed)) (g.met.F.Lines.reads c.line-end.new.self);
          led = subst (λ loads. AreStarts loads (g.F.Lines.told_loads c.line-end.new.self))
              (sym (ap (λ t. t.loads) done.1 ∙ led_by opening c.text.result.now replied.turn (settled_by end at ran.0) replied.line ∙ ap (λ place. loads_told place ran.0.world.loads) replied.placed))
              (g.met.F.Lines.leads c.line-end.new.self ran.0 (g.met.F.Lines.shows c.line-end.new.self ran.0 ran.2));
          heard = subst (λ undone. g.T.Tracer.hears c.args.tracer.now c.line_ended.new.self done.0.turn.ending done.0.turn.place (g.F.Lines.told_start c.line-end.new.self) (g.F.Lines.told_word c.line-end.new.self) (g.F.Lines.told_loads c.line-end.new.self) undone)
              (g.met.F.Lines.undoes c.line-end.new.self c.line-end.result ran.0 ran.2 ∙ sym (ap (λ t. t.undone) done.1 ∙ replied.taken_back))
              (heard_as g.T.Tracer.hears _ _ end _ at _ (sym (ap (λ t. t.ending) done.1 ∙ replied.ends)) (sym (ap (λ t. t.place) done.1 ∙ replied.placed)) c.line_ended.ensures);
        },
        ap is_failed done.1 ∙ ap₂ has_failed replied.ends replied.placed ∙ sym c.has_failed-has_failed.ensures,
      ),
    )

pub has_failed-has_failed-requires-clause-answered : goal.has_failed-has_failed-requires-clause-answered
has_failed-has_failed-requires-clause-answered g c =
    answered (g.F.Lines.ending c.line-end.result) c.line-end.ensures.terminal_failures (c.in-Ok-true.ensures.none_failed ∙ c.requires.none_failed)
    (rw c.if-has_failed.false at c.has_failed.ensures.no_call)

pub returns-in-Err-flush-clause-err : goal.returns-in-Err-flush-clause-err
returns-in-Err-flush-clause-err g c = λ opening is.
    let kept = rw c.in-Ok-true.field-0-test at c.in-Ok-true.ensures.line in
    let end = g.F.Lines.ending c.line-end.result in
    let at = g.F.Lines.placed c.line-end.new.self in
    let ran = c.line-end.ensures.runs opening is in
    let none = c.in-Ok-true.ensures.none_failed ∙ c.requires.none_failed in
    let still : c.line-end.new.terminal.failures ≡ 0 = rw c.if-has_failed.false at c.has_failed.ensures.no_call in rw c.settle-in-Err-flush.ensures.device (
      settled_by end at ran.0,
      ran.1,
      c.settle-in-Err-flush.ensures.stands ran.0 ran.2,
      keeps_settled g.D.SectorDevice end at opening ran.0 _ _ ran.1 ran.4,
      line_unflushed g.D.SectorDevice c.long_lines.ensures opening _ _ _ _ _ _ c.read_line.new.line.items c.text.result.now kept (c.text.ensures ∙ ap (strip_last 13) c.as_slice.ensures.value) c.in-Ok-true.ensures.output _ _ ran.1 (settled_by end at ran.0) c.line-end.ensures.time
          end at (undone_by end at ran.0)
          (was_replied g.D.SectorDevice opening c.text.result.now (settled_by end at ran.0) _ _ _ _ _ _ _ _ ran.1 _ _ end at (undone_by end at ran.0) ran.3 c.line-end.ensures.terminal_failures none still)
          _ _ c.in-Err-flush.ensures.input c.in-Err-flush.ensures.output,
    )
