use Rattle.std.proofs.Common.{◌∙◌, ◌+◌, arith, refl, subst, sym}
use Rattle.std.proofs.KnownBytes.{Appends-nil, Appends-trans}
use Rattle.std.specs.Io.KnownBytes.{Appends}
use Rattle.sessions.proofs.TraceLemmas.{undone_step}
use Rattle.sessions.proofs.tracing.Traces.tell_undone.Goals as goal

pub loop-b-init : goal.loop-b-init
loop-b-init g c = record { next = refl; told = λ still. (still, Appends-nil _) }

pub loop-b-preserved : goal.loop-b-preserved
loop-b-preserved g c = record {
  next = c.tell_block.ensures.next ∙ c.loop-b.invariant.next;
  told = λ still.
      let now = c.tell_block.ensures.told still in
      let before = c.loop-b.invariant.told now.0 in
      let changed = g.F.Lines.undone c.args.forth.now c.args.end.now in (
        before.0,
        subst (λ l. Appends (g.W.Write.contents c.args.self.now.writer.now) (g.W.Write.contents c.tell_block.new.self.writer.now) l)
            (sym (undone_step c.args.number changed c.loop-b.b (c.loop-b.b + 1) (omega arith)))
            (Appends-trans _ _ _ _ _ before.1 now.1),
      );
}
