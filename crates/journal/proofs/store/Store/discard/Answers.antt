use Rattle.std.proofs.Common.{◌∙◌, ap, cond, sym}
use Rattle.journal.specs.Technique.{saved_of, spilled_of}
use Rattle.journal.proofs.Blocks.{nothing_over}
use Rattle.journal.proofs.Techniques.{rest_tagged}
use Rattle.journal.proofs.store.Store.discard.Goals as goal

pub invariant_of-self : goal.invariant_of-self
invariant_of-self g c =
    let old = c.args.self.now in
    record {
      size = old.size;
      clear = λ b past. c.empty_record-self.ensures b;
      sound = old.sound;
      tagged = λ model now. rest_tagged old.technique old.blocks.number c.empty_record-self.result c.record_sum-self.result (g.D.SectorDevice.disk old.device)
          c.empty_record-self.ensures c.record_sum-self.ensures (old.sound model now);
      keeps = λ model now b kept.
          let content = (g.D.SectorDevice.disk old.device).content in
          old.keeps model now b (c.saved_text-self.ensures.kept b kept)
          ∙ ap (λ t. cond t (spilled_of old.technique content b) (saved_of old.technique old.blocks.number content b))
          (c.saved_text-self.ensures.saved b kept ∙ sym (c.empty_record-self.ensures b));
    }

pub returns-clause-latest : goal.returns-clause-latest
returns-clause-latest g c = λ m. nothing_over m.saved m.pending
