use Rattle.std.proofs.Common.{◌≡◌, IsTrue, sym, ◌∙◌, ap, subst}
use Rattle.sector_disk.specs.Disk.{Disk}
use Rattle.journal.specs.BySize.{Means}
use Rattle.journal.specs.Technique.{IsSound, IsTagged, latest_of}
use Rattle.journal.proofs.Stores.{latest_is}
use Rattle.journal.proofs.store.Store.read_text.Goals as goal

pub invariant_of-self : goal.invariant_of-self
invariant_of-self g c =
    let old = c.args.self.now in
    let t = old.technique in
    let n = old.blocks.number in
    record {
      size = c.read.ensures.passes.sectors ∙ old.size;
      clear = old.clear;
      sound = λ model now.
          let before = subst IsTrue c.read.ensures.suits model in
          subst (IsSound t n) (sym (c.read.ensures.disk before)) (old.sound before now);
      tagged = λ model now.
          let before = subst IsTrue c.read.ensures.suits model in
          subst (λ (d : Disk). IsTagged t n old.pending old.next_sum d.content) (sym (c.read.ensures.disk before)) (old.tagged before now);
      keeps = λ model now a kept.
          let before = subst IsTrue c.read.ensures.suits model in
          let same : c.args.b ≡ a = cc in
          c.in-Ok.ensures.bytes before ∙ ap (latest_of t n old.pending (g.D.SectorDevice.disk old.device).content) same
          ∙ ap (λ (d : Disk). latest_of t n old.pending d.content a) (sym (c.read.ensures.disk before));
    }

pub invariant_of-self-in-Err : goal.invariant_of-self-in-Err
invariant_of-self-in-Err g c =
    let old = c.args.self.now in
    let t = old.technique in
    let n = old.blocks.number in
    record {
      size = c.read.ensures.passes.sectors ∙ old.size;
      clear = old.clear;
      sound = λ model now.
          let before = subst IsTrue c.read.ensures.suits model in
          subst (IsSound t n) (sym (c.read.ensures.disk before)) (old.sound before now);
      tagged = λ model now.
          let before = subst IsTrue c.read.ensures.suits model in
          subst (λ (d : Disk). IsTagged t n old.pending old.next_sum d.content) (sym (c.read.ensures.disk before)) (old.tagged before now);
      keeps = λ model now a kept.
          let before = subst IsTrue c.read.ensures.suits model in
          c.in-Err.ensures.err ∙ old.keeps before now a kept
          ∙ ap (λ (d : Disk). latest_of t n old.pending d.content a) (sym (c.read.ensures.disk before));
    }

pub returns-then-eq-clause-stops : goal.returns-then-eq-clause-stops
returns-then-eq-clause-stops g c = λ m stands is_open x since. stands.left c.if-self.false x (g.met.D.SectorDevice.only_now c.args.self.now.device x since)

pub returns-in-Ok-clause-ok : goal.returns-in-Ok-clause-ok
returns-in-Ok-clause-ok g c = λ m stands.
    c.in-Ok.ensures.bytes stands.model ∙ sym (latest_is c.args.self.now m stands c.if-self.false c.args.b c.requires.below)

pub returns-in-Ok-clause-state : goal.returns-in-Ok-clause-state
returns-in-Ok-clause-state g c = λ m stands.
    let same = c.read.ensures.disk stands.model in
    record {
      model = subst IsTrue (sym c.read.ensures.suits) stands.model;
      closed = stands.closed;
      size = stands.size;
      pending_size = stands.pending_size;
      saved = λ now b below. rw same (stands.saved now b below);
      pending = λ now b below. rw same (stands.pending now b below);
      left = λ now x may. subst (λ n. Means n m.saved x) (sym c.read.ensures.passes.sectors) (stands.left now x (rw same at may));
    }

pub returns-in-Err-clause-state : goal.returns-in-Err-clause-state
returns-in-Err-clause-state g c = λ m stands.
    let same = c.read.ensures.disk stands.model in
    record {
      model = subst IsTrue (sym c.read.ensures.suits) stands.model;
      closed = stands.closed;
      size = stands.size;
      pending_size = stands.pending_size;
      saved = λ now b below. rw same (stands.saved now b below);
      pending = λ now b below. rw same (stands.pending now b below);
      left = λ now x may. subst (λ n. Means n m.saved x) (sym c.read.ensures.passes.sectors) (stands.left now x (rw same at may));
    }

pub returns-in-Ok-clause-stops : goal.returns-in-Ok-clause-stops
returns-in-Ok-clause-stops g c = λ s stands is_open x since. stands.left c.if-self.false x (c.read.ensures.stops stands.model x since)

pub returns-in-Err-clause-stops : goal.returns-in-Err-clause-stops
returns-in-Err-clause-stops g c = λ s stands is_open x since. stands.left c.if-self.false x (c.read.ensures.stops stands.model x since)
