use Rattle.std.proofs.Common.{◌-◌, ℕ, List, [], Ok, Err, refl, ap, sym, ◌∙◌, arith, length, drop}
use Rattle.interpreter.specs.Taken.{cut_of, after_cut}
use Rattle.block_words.specs.Words.{source}
use Rattle.block_words.specs.Uses.{text_at}
use Rattle.cell_machine.specs.Fault.{Faults}
use Rattle.cell_machine.specs.Value.{Ends}
use Rattle.interpreter.specs.State.{with_run}
use Rattle.interpreter.specs.Deeds.{after}
use Rattle.interpreter.specs.Representation.{core}
use Rattle.interpreter.proofs.Called.{called, failed, tells_left, comes_of, rests_on, stands_on, world, deed}
use Rattle.interpreter.proofs.Looking.{looks, from_block}
use Rattle.interpreter.proofs.forth.Forth.look_at_block.Goals as goal

pub returns-in-Ok-clause-hands : goal.returns-in-Ok-clause-hands
returns-in-Ok-clause-hands g c = λ levels x stands.
    let old = c.args.self.now in
    let text = text_at c.in-Ok.place c.find_text.new.self.store old.space in
    let h = called g.D.SectorDevice (source c.args.block) (Ok text) (λ m. []) old.blocks c.find_text.new.self old.space old.space
    (λ m. c.in-Ok.ensures.runs m old.space) (λ m shut. refl) (tells_left {A = Unit {0}} (Ok tt) text _ _ c.in-Ok.ensures.asks.failures) c.in-Ok.ensures.asks.continues.model stands.rests in
    let word = c.keep-count.ensures.taken ∙ (λ t. cut_of c.args.cut c.args.delimiter (drop (c.cell_of-to_in.ensures t) (c.text-text.ensures.text t))) in
    let behind = c.keep-count.ensures.moved ∙ (λ t. length (c.text-text.ensures.text t) - length (after_cut c.args.cut c.args.delimiter (drop (c.cell_of-to_in.ensures t) (c.text-text.ensures.text t)))) in
    record {
      answers = h.answers;
      failures = 0;
      wear = h.wear;
      saves = h.saves;
      world = world h;
      stands = stands_on h stands;
      steps = omega arith;
      hands = λ model r go.
          from_block c.args.cut c.args.delimiter go c.args.block (core old) _ c.requires.block c.requires.loaded
          ∙ comes_of h model r (core old) (looks c.args.cut c.args.delimiter go)
          ∙ sym (λ t. go (record { bytes = word t; behind = behind t }) (core old) (with_run (after (deed h) r) (world h)));
      cause = h.cause;
      keeps = h.keeps;
    }

pub returns-in-Err-clause-hands : goal.returns-in-Err-clause-hands
returns-in-Err-clause-hands g c = λ levels x stands.
    let old = c.args.self.now in
    let h = called g.D.SectorDevice (source c.args.block) (Err c.in-Err.fault) (λ m. []) old.blocks c.find_text.new.self old.space old.space
    (λ m. c.in-Err.ensures.runs m old.space) (λ m shut. refl) (tells_left {A = Unit {0}} (Err c.in-Err.fault) [] _ _ c.in-Err.ensures.asks.failures) c.in-Err.ensures.asks.continues.model stands.rests in
    record {
      answers = h.answers;
      failures = failed {A = List ℕ} (Err c.in-Err.fault);
      wear = h.wear;
      saves = h.saves;
      world = world h;
      stands = rests_on h stands.rests;
      steps = omega arith;
      hands = λ model. (
        core old,
        refl,
        λ r go. from_block c.args.cut c.args.delimiter go c.args.block (core old) _ c.requires.block c.requires.loaded
            ∙ comes_of h model r (core old) (looks c.args.cut c.args.delimiter go)
            ∙ ap (λ f. Ends (Faults f) (core old) (with_run (after (deed h) r) (world h))) (sym c.block_fault.ensures.fault),
      );
      cause = h.cause;
      keeps = h.keeps;
    }
