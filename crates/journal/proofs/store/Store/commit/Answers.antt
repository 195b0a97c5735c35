use Rattle.std.proofs.Common.{arith, inl, inr, sym, subst, cond, Some, None, ◌∙◌, ap, IsTrue, ◌+◌, ◌*◌}
use Rattle.std.proofs.lemmas.List.{length-map}
use Rattle.journal.specs.Costs.{each_reads, each_writes, more_writes, save_syncs}
use Rattle.journal.specs.Calls.{BeginsAtMost, ReadsAtMost}
use Rattle.journal.proofs.Calls.{begins_of}
use Rattle.journal.specs.Maps.{block_in, latest}
use Rattle.journal.specs.Store.{MeansBy, pending_count}
use Rattle.journal.specs.Technique.{is_journal, spilled_of}
use Rattle.journal.proofs.Blocks.{length-overridden, at_none}
use Rattle.journal.proofs.Copies.{none_listed}
use Rattle.journal.proofs.Meaning.{sound_homes}
use Rattle.journal.proofs.Signing.{listed_same}
use Rattle.journal.proofs.Stores.{latest_in, latest_size, none_pending, nothing_new, means_either, homes_either, told_by, has_left}
use Rattle.journal.proofs.Suited.{newer_suits, sectors_suit, suits_keeps}
use Rattle.journal.proofs.Techniques.{rest_tagged}
use Rattle.journal.proofs.store.Store.commit.Goals as goal

pub invariant_of-self-in-Ok : goal.invariant_of-self-in-Ok
invariant_of-self-in-Ok g c =
    let old = c.args.self.now in
    record {
      size = c.save.ensures.passes.sectors ∙ old.size ∙ sym c.save.ensures.sectors;
      clear = λ b past. c.empty_record-self.ensures b;
      sound = λ model now. (c.in-Ok.ensures.ok (subst IsTrue c.save.ensures.suits model)).sound;
      tagged = λ model now. rest_tagged c.save.new.self old.blocks.number c.empty_record-self.result c.record_sum-self.result (g.D.SectorDevice.disk c.save.new.device)
          c.empty_record-self.ensures c.record_sum-self.ensures (c.in-Ok.ensures.ok (subst IsTrue c.save.ensures.suits model)).sound;
      keeps = λ model now b kept. cc;
    }

pub returns-then-count_blocks-eq0-clause-pending : goal.returns-then-count_blocks-eq0-clause-pending
returns-then-count_blocks-eq0-clause-pending g c =
    none_listed c.args.self.now.pending c.args.self.now.blocks.number (sym c.count_blocks.ensures ∙ c.if-count_blocks-eq0.true) c.args.self.now.clear

pub returns-then-count_blocks-eq0-clause-stops : goal.returns-then-count_blocks-eq0-clause-stops
returns-then-count_blocks-eq0-clause-stops g c = λ s stands is_open x since.
    inl (stands.left c.if-self.false x (g.met.D.SectorDevice.only_now c.args.self.now.device x since))

pub returns-then-count_blocks-eq0-clause-ok : goal.returns-then-count_blocks-eq0-clause-ok
returns-then-count_blocks-eq0-clause-ok g c = λ s stands.
    let old = c.args.self.now in
    let zero = sym c.count_blocks.ensures ∙ c.if-count_blocks-eq0.true in
    let same = nothing_new old s stands c.if-self.false zero in
    record {
      model = stands.model;
      closed = stands.closed;
      size = length-overridden s.saved s.pending ∙ stands.size;
      pending_size = length-map s.pending _ ∙ stands.pending_size;
      saved = λ now b below. ap (λ xs. block_in xs b) same ∙ stands.saved now b below;
      pending = λ now b below. at_none s.pending b ∙ sym (none_pending old s stands c.if-self.false zero b below) ∙ stands.pending now b below;
      left = λ now x may. subst (λ xs. MeansBy old xs x) (sym same) (stands.left now x may);
    }

pub returns-then-count_blocks-eq0-clause-after : goal.returns-then-count_blocks-eq0-clause-after
returns-then-count_blocks-eq0-clause-after g c = λ s stands x may.
    let old = c.args.self.now in
    let same = nothing_new old s stands c.if-self.false (sym c.count_blocks.ensures ∙ c.if-count_blocks-eq0.true) in
    subst (λ xs. MeansBy old xs x) (sym same) (stands.left c.if-self.false x may)

pub returns-then-count_blocks-eq0-clause-gate : goal.returns-then-count_blocks-eq0-clause-gate
returns-then-count_blocks-eq0-clause-gate g c = λ is s stands is_open x since.
    let D = g.D.SectorDevice in
    let M = g.met.D.SectorDevice in
    let old = c.args.self.now in
    homes_either old s stands c.if-self.false is x (inr (inl
    (sound_homes old.blocks.number (D.disk old.device) (M.present old.device (suits_keeps D M.keeps_both old.device stands.model))
    ((old.sound stands.model c.if-self.false).journal is) (λ k. ⊥) (λ k none. absurd none) x (λ k _ synced. M.only_now old.device x since k synced))))

pub returns-in-Ok-clause-after : goal.returns-in-Ok-clause-after
returns-in-Ok-clause-after g c = λ s stands x may.
    let D = g.D.SectorDevice in
    let M = g.met.D.SectorDevice in
    let old = c.args.self.now in
    let new = c.save.new.device in
    let saved = c.in-Ok.ensures.ok stands.model in
    has_left D M.present M.keeps_both c.save.new.self old.blocks.number new old.blocks.many old.blocks.few
    (c.save.ensures.passes.sectors ∙ old.size ∙ sym c.save.ensures.sectors)
    (subst IsTrue (sym c.save.ensures.suits) stands.model) saved.sound (latest s) (latest_size old s stands c.if-self.false)
    (λ b below. latest_in old s stands c.if-self.false b below ∙ sym (saved.blocks b below)) x may

pub returns-in-Ok-clause-ok : goal.returns-in-Ok-clause-ok
returns-in-Ok-clause-ok g c = λ s stands.
    let D = g.D.SectorDevice in
    let old = c.args.self.now in
    let saved = c.in-Ok.ensures.ok stands.model in
    record {
      model = subst IsTrue (sym c.save.ensures.suits) stands.model;
      closed = stands.closed;
      size = length-overridden s.saved s.pending ∙ stands.size;
      pending_size = length-map s.pending _ ∙ stands.pending_size;
      saved = λ now b below. latest_in old s stands c.if-self.false b below ∙ sym (saved.blocks b below);
      pending = λ now b below. at_none s.pending b
          ∙ sym (ap (λ t. cond t (Some (spilled_of c.save.new.self (D.disk c.save.new.device).content b)) None) (c.empty_record-self.ensures b));
      left = λ now x may. returns-in-Ok-clause-after g c s stands x may;
    }

pub returns-in-Ok-clause-stops : goal.returns-in-Ok-clause-stops
returns-in-Ok-clause-stops g c = λ s stands is_open x since. means_either c.args.self.now s stands c.if-self.false x (c.save.ensures.stops stands.model x since)

pub returns-in-Err-clause-stops : goal.returns-in-Err-clause-stops
returns-in-Err-clause-stops g c = λ s stands is_open x since. means_either c.args.self.now s stands c.if-self.false x (c.save.ensures.stops stands.model x since)

pub returns-in-Ok-clause-gate : goal.returns-in-Ok-clause-gate
returns-in-Ok-clause-gate g c = λ is s stands is_open x since. homes_either c.args.self.now s stands c.if-self.false is x (c.save.ensures.gate is stands.model x since)

pub returns-in-Err-clause-gate : goal.returns-in-Err-clause-gate
returns-in-Err-clause-gate g c = λ is s stands is_open x since. homes_either c.args.self.now s stands c.if-self.false is x (c.save.ensures.gate is stands.model x since)

pub returns-in-Ok-clause-recorded : goal.returns-in-Ok-clause-recorded
returns-in-Ok-clause-recorded g c = λ is keeps some.
    let old = c.args.self.now in
    let saved = c.in-Ok.ensures.applied is (sectors_suit g.D.SectorDevice g.met.D.SectorDevice.keeps_both old.device keeps) in
    record {
      each = λ b below. listed_same _ old.pending saved.bits b (omega (arith, below, old.blocks.few));
      rest = λ b past low. listed_same _ old.pending saved.bits b low ∙ old.clear b past;
      digest = saved.digest;
    }

pub returns-in-Ok-clause-shut_gate : goal.returns-in-Ok-clause-shut_gate
returns-in-Ok-clause-shut_gate g c = λ is keeps some.
    (c.in-Ok.ensures.applied is (sectors_suit g.D.SectorDevice g.met.D.SectorDevice.keeps_both c.args.self.now.device keeps)).closed

pub returns-in-Ok-clause-named : goal.returns-in-Ok-clause-named
returns-in-Ok-clause-named g c = λ named is keeps some.
    let old = c.args.self.now in
    c.in-Ok.ensures.named named is
    (subst IsTrue (sym (newer_suits g.D.SectorDevice old.device (told_by old ∙ ap is_journal is))) keeps)

pub returns-in-Ok-clause-begins : goal.returns-in-Ok-clause-begins
returns-in-Ok-clause-begins g c =
    let old = c.args.self.now in
    subst (λ t. BeginsAtMost g.D.SectorDevice old.device c.save.new.device (each_writes t * pending_count old + more_writes t) (save_syncs t))
    (sym (told_by old)) (begins_of g.D.SectorDevice c.save.ensures.costs)

pub returns-in-Err-clause-begins : goal.returns-in-Err-clause-begins
returns-in-Err-clause-begins g c =
    let old = c.args.self.now in
    subst (λ t. BeginsAtMost g.D.SectorDevice old.device c.save.new.device (each_writes t * pending_count old + more_writes t) (save_syncs t))
    (sym (told_by old)) (begins_of g.D.SectorDevice c.save.ensures.costs)

pub returns-in-Ok-clause-reads : goal.returns-in-Ok-clause-reads
returns-in-Ok-clause-reads g c =
    let old = c.args.self.now in
    subst (λ t. ReadsAtMost g.D.SectorDevice old.device c.save.new.device (each_reads t * pending_count old)) (sym (told_by old)) c.save.ensures.costs.few_reads

pub returns-in-Err-clause-reads : goal.returns-in-Err-clause-reads
returns-in-Err-clause-reads g c =
    let old = c.args.self.now in
    subst (λ t. ReadsAtMost g.D.SectorDevice old.device c.save.new.device (each_reads t * pending_count old)) (sym (told_by old)) c.save.ensures.costs.few_reads
