use Rattle.std.proofs.Common.{IsTrue, sym, ◌∙◌, subst}
use Rattle.journal.specs.BySize.{Means}
use Rattle.sector_disk.specs.Disk.{Disk}
use Rattle.journal.specs.Technique.{IsSound, IsTagged}
use Rattle.journal.proofs.Stores.{latest_is}
use Rattle.journal.proofs.store.Store.read_block.Goals as goal

pub invariant_of-self : goal.invariant_of-self
invariant_of-self g c =
    let old = c.args.self.now in
    record {
      size = c.read.ensures.passes.sectors ∙ old.size;
      clear = old.clear;
      sound = λ model now.
          let before = subst IsTrue c.read.ensures.suits model in
          subst (IsSound old.technique old.blocks.number) (sym (c.read.ensures.disk before)) (old.sound before now);
      tagged = λ model now.
          let before = subst IsTrue c.read.ensures.suits model in
          subst (λ (d : Disk). IsTagged old.technique old.blocks.number old.pending old.next_sum d.content) (sym (c.read.ensures.disk before)) (old.tagged before now);
      keeps = λ model now b kept. cc;
    }

pub returns-in-Ok-clause-ok : goal.returns-in-Ok-clause-ok
returns-in-Ok-clause-ok g c = λ m stands.
    c.in-Ok.ensures.bytes stands.model ∙ sym (latest_is c.args.self.now m stands c.if-self.false c.args.b c.requires.below)

pub returns-in-Ok-clause-state : goal.returns-in-Ok-clause-state
returns-in-Ok-clause-state g c = λ m stands.
    let same = c.read.ensures.disk stands.model in
    record {
      model = subst IsTrue (sym c.read.ensures.suits) stands.model;
      closed = stands.closed;
      size = stands.size;
      pending_size = stands.pending_size;
      saved = λ now b below. rw same (stands.saved now b below);
      pending = λ now b below. rw same (stands.pending now b below);
      left = λ now x may. subst (λ n. Means n m.saved x) (sym c.read.ensures.passes.sectors) (stands.left now x (rw same at may));
    }

pub returns-in-Err-clause-state : goal.returns-in-Err-clause-state
returns-in-Err-clause-state g c = λ m stands.
    let same = c.read.ensures.disk stands.model in
    record {
      model = subst IsTrue (sym c.read.ensures.suits) stands.model;
      closed = stands.closed;
      size = stands.size;
      pending_size = stands.pending_size;
      saved = λ now b below. rw same (stands.saved now b below);
      pending = λ now b below. rw same (stands.pending now b below);
      left = λ now x may. subst (λ n. Means n m.saved x) (sym c.read.ensures.passes.sectors) (stands.left now x (rw same at may));
    }

pub returns-in-Ok-clause-stops : goal.returns-in-Ok-clause-stops
returns-in-Ok-clause-stops g c = λ s stands is_open x since. stands.left c.if-self.false x (c.read.ensures.stops stands.model x since)

pub returns-in-Err-clause-stops : goal.returns-in-Err-clause-stops
returns-in-Err-clause-stops g c = λ s stands is_open x since. stands.left c.if-self.false x (c.read.ensures.stops stands.model x since)
