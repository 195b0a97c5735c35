use Rattle.std.proofs.Common.{◌≡◌, ◌≤◌, ◌∷◌, [], ◌∙◌, sym, ap, subst, arith}
use Rattle.std.proofs.lemmas.Grind.{common_steps}
use Rattle.data_space.specs.Space.{with_cell}
use Rattle.stacks.specs.declared.return_stack.Entry.TheVariants.{Load as LoadOf}
use Rattle.stacks.specs.Stacks.{units}
use Rattle.interpreter.specs.Lexicon.{language_of}
use Rattle.interpreter.proofs.Advancing.{text_over, load_over, load_left, no_load, no_other, load_down}
use Rattle.interpreter.proofs.forth.Forth.leave_text.Goals as goal

pub returns-in_default-clause-passed : goal.returns-in_default-clause-passed
returns-in_default-clause-passed g c = λ n levels x stands at.
    let old = c.args.self.now in
    text_over n old _ c.end.new.self levels x (c.in_default.ensures.err ∙ c.lend.ensures.value) c.end.ensures
    (no_load old.lexicon (language_of x) old.machine old.returns levels c.requires.idle
    (λ block to_in below is. let e : [] ≡ _ ∷ below = sym c.in_default.ensures.empty ∙ c.lend.ensures.value ∙ is in absurd cc) at stands.left) stands

pub returns-clause-passed : goal.returns-clause-passed
returns-clause-passed g c = λ n levels x stands at.
    let old = c.args.self.now in
    let top : old.returns ≡ LoadOf c.in-Load.block c.in-Load.to_in ∷ c.pop.new.self = sym c.lend.ensures.value ∙ c.in-Ok.ensures.ok ∙ ap (λ e. e ∷ c.pop.new.self) c.in-Load.is in
    let first : c.set_cell.new.self ≡ with_cell old.space 22 c.in-Load.block = grind (arith, common_steps, c.set_cell.ensures.after, c.set_cell.ensures.within) in
    let second : c.set_cell-2.new.self ≡ with_cell c.set_cell.new.self 20 c.in-Load.to_in = grind (arith, common_steps, c.set_cell-2.ensures.after, c.set_cell-2.ensures.within) in
    load_over n old c.pop.new.self c.end.new.self c.set_cell-2.new.self levels x c.in-Load.block c.in-Load.to_in
    (load_left c.levels.ensures.left old.lexicon (language_of x) old.machine old.returns c.pop.new.self levels c.in-Load.block c.in-Load.to_in c.requires.idle top at stands.left) c.end.ensures
    (second ∙ ap (λ s. with_cell s 20 c.in-Load.to_in) first) stands

pub returns-clause-down : goal.returns-clause-down
returns-clause-down g c =
    load_down c.args.self.now.steps c.in-Load.block c.in-Load.to_in c.args.self.now.returns c.pop.new.self
    (sym c.lend.ensures.value ∙ c.in-Ok.ensures.ok ∙ ap (λ e. e ∷ c.pop.new.self) c.in-Load.is)
    (subst (λ entries. units entries ≤ 256) c.lend.ensures.value c.in-Ok.ensures.bound)

pub returns-in_default-entry-clause-passed : goal.returns-in_default-entry-clause-passed
returns-in_default-entry-clause-passed g c = λ n levels x stands at.
    let old = c.args.self.now in
    absurd (no_other old.lexicon (language_of x) old.machine old.returns c.pop.new.self c.in-Ok.entry levels c.requires.idle (sym c.lend.ensures.value ∙ c.in-Ok.ensures.ok) c.in_default-entry.not-Load at stands.left)
