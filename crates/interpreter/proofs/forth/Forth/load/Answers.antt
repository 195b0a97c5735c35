use Rattle.std.proofs.Common.{◌≡◌, ◌∙◌, ◌+◌, length, ◌<◌, ◌≤◌, suc, ◌∷◌, true, false, refl, sym, ap, subst, arith}
use Rattle.std.proofs.lemmas.Grind.{common_steps}
use Rattle.stacks.specs.declared.return_stack.Entry.TheVariants as entry
use Rattle.stacks.specs.Stacks.{units}
use Rattle.data_space.specs.Space.{cell_at, with_cell}
use Rattle.cell_machine.specs.Frames.{Load, around_of}
use Rattle.cell_machine.specs.Value.{and_then}
use Rattle.lexicon.specs.Stands.{IsLeft}
use Rattle.interpreter.specs.LoadStart.{start_now}
use Rattle.interpreter.specs.State.{with_load, with_run, place_in}
use Rattle.interpreter.specs.Law.{left}
use Rattle.interpreter.specs.Lexicon.{language_of}
use Rattle.interpreter.specs.Representation.{core}
use Rattle.interpreter.specs.Told.{AreStarts, IsStart, first_byte, text_around}
use Rattle.interpreter.proofs.Altering.{refused}
use Rattle.interpreter.proofs.Entering.{not_entered}
use Rattle.interpreter.proofs.Short.{popping-none}
use Rattle.interpreter.proofs.Underway.{as_many, starts_at}
use Rattle.interpreter.proofs.Loading.{units_left, left_loaded, no_block, too_deep, no_units, loads_text}
use Rattle.interpreter.proofs.forth.Forth.load.Goals as goal

pub returns-in_default-clause-entered : goal.returns-in_default-clause-entered
returns-in_default-clause-entered g c = λ m levels x less stands.
    not_entered (suc m)
    (refused _ stands (core c.args.self.now) refl (λ r. ap (λ o. and_then o (λ c x. left (suc m) levels c x)) (popping-none (core c.args.self.now) (with_run r x) _ c.in_default.ensures.empty)) (omega arith))

pub returns-then-block-eq0-clause-entered : goal.returns-then-block-eq0-clause-entered
returns-then-block-eq0-clause-entered g c = λ m levels x less stands.
    not_entered (suc m)
    (refused _ stands (record (core c.args.self.now) { stack = c.pop.new.self }) refl
    (λ r. no_block m levels (core c.args.self.now) (with_run r x) c.in-Ok.block c.pop.new.self c.in-Ok.ensures.ok c.if-block-eq0.true) (omega arith))

pub returns-then-depth-ge-MOST_LOADS-clause-entered :
    goal.returns-then-depth-ge-MOST_LOADS-clause-entered
returns-then-depth-ge-MOST_LOADS-clause-entered g c = λ m levels x less stands.
    let same = as_many x.loads c.args.self.now.loads stands.rests.loads in
    let deep : 8 ≤ length x.loads = omega (arith, same, c.count-depth.ensures.value, c.if-depth-ge-MOST_LOADS.true) in
    not_entered (suc m)
    (refused _ stands (record (core c.args.self.now) { stack = c.pop.new.self }) refl
    (λ r. too_deep m levels (core c.args.self.now) (with_run r x) c.in-Ok.block c.pop.new.self c.in-Ok.ensures.ok c.if-block-eq0.false deep) (omega arith))

pub returns-in_default-push-clause-entered : goal.returns-in_default-push-clause-entered
returns-in_default-push-clause-entered g c = λ m levels x less stands.
    let same = as_many x.loads c.args.self.now.loads stands.rests.loads in
    let few : length x.loads < 8 = omega (arith, same, c.count-depth.ensures.value, c.if-depth-ge-MOST_LOADS.false) in
    let all = units_left c.args.self.now.lexicon (language_of x) c.args.self.now.machine c.args.self.now.returns levels c.requires.idle stands.left in
    let may_push = rw c.lend.ensures.value at c.in_default-push.ensures.room in
    let full : units c.args.self.now.returns + 2 ≤ 256 → ⊥ = λ room. (let e : false ≡ true = may_push.1 room in cc) in
    let many : 256 < (around_of levels).units + 2 = omega (arith, all, full) in
    record {
      levels = levels;
      world = x;
      stands = stands.rests;
      goes = (
        record (core c.args.self.now) { stack = c.pop.new.self },
        refl,
        λ r. no_units m levels (core c.args.self.now) (with_run r x) c.in-Ok.block c.pop.new.self c.in-Ok.ensures.ok c.if-block-eq0.false few many,
      );
      maps = refl;
      steps = omega arith;
    }

pub returns-clause-entered : goal.returns-clause-entered
returns-clause-entered g c = λ m levels x less stands.
    let same = as_many x.loads c.args.self.now.loads stands.rests.loads in
    let few : length x.loads < 8 = omega (arith, same, c.count-depth.ensures.value, c.if-depth-ge-MOST_LOADS.false) in
    let all = units_left c.args.self.now.lexicon (language_of x) c.args.self.now.machine c.args.self.now.returns levels c.requires.idle stands.left in
    let old = core c.args.self.now in
    let may_push = rw c.lend.ensures.value at c.in-Ok-push.ensures.room in
    let did_push = rw c.lend.ensures.value at c.in-Ok-push.ensures.ok in
    let room : units c.args.self.now.returns + 2 ≤ 256 = may_push.0 refl in
    let fits : (around_of levels).units + 2 ≤ 256 = omega (arith, all, room) in
    let blk = cell_at old.space 22 in
    let to_in = cell_at old.space 20 in
    let pushed : c.push.new.self ≡ entry.Load blk to_in ∷ c.args.self.now.returns =
    did_push ∙ ap (λ b. entry.Load b c.cell_of-2.result ∷ c.args.self.now.returns) c.cell_of.ensures ∙ ap (λ t. entry.Load blk t ∷ c.args.self.now.returns) c.cell_of-2.ensures in
    let first : c.set_cell.new.self ≡ with_cell old.space 22 c.in-Ok.block = grind (arith, common_steps, c.set_cell.ensures.after, c.set_cell.ensures.within) in
    let second : c.set_cell-2.new.self ≡ with_cell c.set_cell.new.self 20 0 = grind (arith, common_steps, c.set_cell-2.ensures.after, c.set_cell-2.ensures.within) in
    let here = c.args.self.now in
    let began : IsStart (place_in old.space) c.start_before-start.result =
    starts_at (place_in old.space) c.here_in_stream.result c.start_before-start.result (text_around c.here_in_stream.result here.blocks here.space)
    c.here_in_stream.ensures c.start_before-start.ensures.block c.start_before-start.ensures.byte in
    let under : AreStarts (place_in old.space ∷ x.loads) c.begin.new.self =
    subst (λ starts. AreStarts (place_in old.space ∷ x.loads) starts) (sym c.begin.ensures) (began, stands.rests.loads) in
    record {
      levels = Load blk to_in ∷ levels;
      world = with_load (place_in old.space) x;
      stands = record {
        rests = record {
          meant = stands.rests.meant;
          held_end = stands.rests.held_end;
          held = stands.rests.held;
          buffers = stands.rests.buffers;
          loads = under;
          maps = stands.rests.maps;
        };
        left =
            subst (λ es. IsLeft c.args.self.now.lexicon (language_of x) c.args.self.now.machine es (Load blk to_in ∷ levels)) (sym pushed)
            (left_loaded c.args.self.now.lexicon (language_of x) c.args.self.now.machine c.args.self.now.returns levels blk to_in c.requires.idle stands.left);
      };
      goes = λ r.
          loads_text m levels old (with_run r x) c.in-Ok.block c.pop.new.self c.in-Ok.ensures.ok c.if-block-eq0.false few fits less
          ∙ ap (λ s. left (suc m) (Load blk to_in ∷ levels) (record old { stack = c.pop.new.self; space = s }) (with_run r (with_load (place_in old.space) x))) (sym (second ∙ ap (λ s. with_cell s 20 0) first));
      maps = refl;
      steps = omega arith;
    }

pub returns-clause-begun : goal.returns-clause-begun
returns-clause-begun g c =
    let here = c.args.self.now in
    let start = c.start_before-start in
    let block : start.result.block ≡ (place_in here.space).block = start.ensures.block ∙ ap (λ p. p.block) c.here_in_stream.ensures in
    let byte : start.result.to_in ≡ first_byte (place_in here.space).to_in (text_around (place_in here.space) here.blocks here.space) =
    start.ensures.byte ∙ ap (λ p. first_byte p.to_in (text_around p here.blocks here.space)) c.here_in_stream.ensures in
    let is : start.result ≡ start_now (place_in here.space) here.blocks here.space = λ i. record { block = block i; to_in = byte i } in
    c.begin.ensures ∙ ap (λ p. p ∷ here.loads) is
