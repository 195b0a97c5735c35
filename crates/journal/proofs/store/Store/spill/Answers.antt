use Rattle.std.proofs.Common.{arith, cond, Some, None, sym, ◌∙◌, ap, subst, IsTrue, refl}
use Rattle.std.proofs.lemmas.List.{length-set}
use Rattle.journal.specs.BySize.{Means}
use Rattle.journal.specs.Layout.{listed}
use Rattle.journal.specs.Costs.{spill_reads, spill_writes}
use Rattle.journal.specs.Calls.{BeginsAtMost, ReadsAtMost}
use Rattle.journal.proofs.Calls.{begins_of}
use Rattle.journal.specs.Technique.{spilled_of, InSpill}
use Rattle.journal.proofs.Stores.{saved_means, pending_more, one_more, told_by}
use Rattle.journal.proofs.Techniques.{in_spills, saved_kept, sound_spilled, spilled_kept}
use Rattle.journal.proofs.store.Store.spill.Goals as goal

pub invariant_of-self : goal.invariant_of-self
invariant_of-self g c =
    let D = g.D.SectorDevice in
    let old = c.args.self.now in
    let new = c.write.new.device in
    record {
      size = c.write.ensures.passes.sectors ∙ old.size;
      clear = λ a past. c.list.ensures.others a (λ same. absurd (omega (arith, past, same, c.requires.below))) ∙ old.clear a past;
      sound = λ model now.
          let before = subst IsTrue c.write.ensures.suits model in
          sound_spilled old.blocks.number c.args.b c.requires.below (D.disk old.device) (D.disk new) old.technique (c.write.ensures.only before) (old.sound before now);
      tagged = λ model now.
          let before = subst IsTrue c.write.ensures.suits model in
          c.in-Ok.ensures.tagged before (old.tagged before now) c.list.new.bits (record { here = c.list.ensures.listed; others = c.list.ensures.others });
      keeps = λ model now b kept. cc;
    }

pub returns-in-Ok-clause-pending : goal.returns-in-Ok-clause-pending
returns-in-Ok-clause-pending g c = λ a.
    one_more a c.args.b (listed c.list.new.bits a) (listed c.args.self.now.pending a)
    (λ same. ap (listed c.list.new.bits) same ∙ c.list.ensures.listed) (c.list.ensures.others a)

pub returns-in-Ok-clause-ok : goal.returns-in-Ok-clause-ok
returns-in-Ok-clause-ok g c = λ s stands.
    let D = g.D.SectorDevice in
    let M = g.met.D.SectorDevice in
    let old = c.args.self.now in
    let t = old.technique in
    let n = old.blocks.number in
    let b = c.args.b in
    let d = D.disk old.device in
    let e = D.disk c.write.new.device in
    let only = c.write.ensures.only stands.model in
    let bits = c.list.new.bits in
    record {
      model = subst IsTrue (sym c.write.ensures.suits) stands.model;
      closed = stands.closed;
      saved = λ now a below. stands.saved now a below ∙ sym (saved_kept n b c.requires.below d e t only a);
      size = stands.size;
      pending_size = length-set s.pending b (Some c.args.bytes.now) ∙ stands.pending_size;
      pending = λ now a below. pending_more s.pending a b c.args.bytes.now (spilled_of t e.content a) (listed bits a) (omega (arith, stands.pending_size, c.requires.below))
          (λ same. (ap (listed bits) same ∙ c.list.ensures.listed, ap (spilled_of t e.content) same ∙ c.in-Ok.ensures.ok stands.model))
          (λ other. stands.pending now a below
          ∙ (λ i. cond (sym (c.list.ensures.others a other) i) (Some (sym (spilled_kept n b c.requires.below d e t only a other) i)) None));
      left = λ now x may. subst (λ n. Means n s.saved x) (sym c.write.ensures.passes.sectors)
          (saved_means g.D.SectorDevice M.present M.keeps_both old s stands (stands.closed ∙ c.if-self.false) (InSpill t b) (λ k at. in_spills t n b k c.requires.below at) x
          (c.write.ensures.stops stands.model x (M.counts_now c.write.new.device (D.time old.device) x c.write.ensures.passes.time.later may)));
    }

pub returns-in-Ok-clause-stops : goal.returns-in-Ok-clause-stops
returns-in-Ok-clause-stops g c = λ s stands is_open x since.
    let M = g.met.D.SectorDevice in
    let old = c.args.self.now in
    saved_means g.D.SectorDevice M.present M.keeps_both old s stands is_open (InSpill old.technique c.args.b)
    (λ k at. in_spills old.technique old.blocks.number c.args.b k c.requires.below at) x (c.write.ensures.stops stands.model x since)

pub returns-in-Err-clause-stops : goal.returns-in-Err-clause-stops
returns-in-Err-clause-stops g c = λ s stands is_open x since.
    let M = g.met.D.SectorDevice in
    let old = c.args.self.now in
    saved_means g.D.SectorDevice M.present M.keeps_both old s stands is_open (InSpill old.technique c.args.b)
    (λ k at. in_spills old.technique old.blocks.number c.args.b k c.requires.below at) x (c.write.ensures.stops stands.model x since)

pub returns-in-Err-clause-fault : goal.returns-in-Err-clause-fault
returns-in-Err-clause-fault g c =
    λ m stands failed. record {
      model = subst IsTrue (sym c.write.ensures.suits) stands.model;
      closed = refl;
      size = stands.size;
      pending_size = stands.pending_size;
      saved = λ now. absurd (cc);
      pending = λ now. absurd (cc);
      left = λ now. absurd (cc);
    }

pub returns-in-Ok-clause-begins : goal.returns-in-Ok-clause-begins
returns-in-Ok-clause-begins g c =
    let old = c.args.self.now in
    subst (λ t. BeginsAtMost g.D.SectorDevice old.device c.write.new.device (spill_writes t) 0) (sym (told_by old)) (begins_of g.D.SectorDevice c.write.ensures.costs)

pub returns-in-Ok-clause-reads : goal.returns-in-Ok-clause-reads
returns-in-Ok-clause-reads g c =
    let old = c.args.self.now in
    subst (λ t. ReadsAtMost g.D.SectorDevice old.device c.write.new.device (spill_reads t)) (sym (told_by old)) c.write.ensures.costs.few_reads

pub returns-in-Err-clause-begins : goal.returns-in-Err-clause-begins
returns-in-Err-clause-begins g c =
    let old = c.args.self.now in
    subst (λ t. BeginsAtMost g.D.SectorDevice old.device c.write.new.device (spill_writes t) 0) (sym (told_by old)) (begins_of g.D.SectorDevice c.write.ensures.costs)

pub returns-in-Err-clause-reads : goal.returns-in-Err-clause-reads
returns-in-Err-clause-reads g c =
    let old = c.args.self.now in
    subst (λ t. ReadsAtMost g.D.SectorDevice old.device c.write.new.device (spill_reads t)) (sym (told_by old)) c.write.ensures.costs.few_reads
