use Rattle.std.proofs.Common.{◌∙◌, ap, sym}
use Rattle.sessions.proofs.TraceLemmas.{blocks_as, failure_as}
use Rattle.sessions.proofs.tracing.TracesTracer.line_ended.Goals as goal

pub returns : goal.returns
returns g c =
    let rest = c.count-number.ensures.rest in (
      c.tell_undone.ensures.next ∙ c.tell_failure.ensures.next ∙ c.count-number.ensures.next,
      λ still.
          let blocks = c.tell_undone.ensures.told still in
          let fault = c.tell_failure.ensures.told blocks.0 in (
            sym (ap (λ s. s.failed) rest) ∙ fault.0,
            (
              g.W.Write.contents c.tell_failure.new.self.writer.now,
              failure_as (g.F.Lines.ending c.args.end.now) (g.F.Lines.placed c.args.forth.now) _ _ _ _ _ _ _ _ c.count-number.ensures.number (ap (λ s. g.W.Write.contents s.writer.now) rest) fault.1,
              blocks_as _ _ _ _ _ c.count-number.ensures.number blocks.1,
            ),
          ),
    )
