use Rattle.std.proofs.Common.{◌≡◌, ◌∷◌, ◌++◌, [], true, refl, ap, sym, ◌∙◌, arith}
use Rattle.std.specs.Prelude.{nat_le, ◌&&◌}
use Rattle.data_space.specs.Space.{cell_at}
use Rattle.number_io.specs.Writing.{number_text}
use Rattle.cell_machine.specs.Fault.{Base}
use Rattle.system_words.specs.declared.words.TerminalWord.TheVariants.{UnsignedDot}
use Rattle.interpreter.specs.State.{with_run}
use Rattle.interpreter.specs.Terminals.{print, on_terminal}
use Rattle.interpreter.specs.Representation.{core}
use Rattle.interpreter.proofs.Short.{popping-none, popping-one, needing-no, needing-yes, a_base, no_base}
use Rattle.interpreter.proofs.Popping.{ran_refused, ran_popped}
use Rattle.interpreter.proofs.forth.Forth.unsigned_dot.Goals as goal

pub returns-in-Some-clause-serves : goal.returns-in-Some-clause-serves
returns-in-Some-clause-serves g c = λ levels x stands.
    let old = c.args.self.now in
    let mid = record old { stack = c.pop.new.self } in
    let base : c.in-Some.base ≡ cell_at old.space 16 = c.in-Some.ensures.cell in
    let yes : (nat_le 2 (cell_at old.space 16) && nat_le (cell_at old.space 16) 72) ≡ true = a_base (cell_at old.space 16) (omega (arith, base, c.in-Some.ensures.from)) (omega (arith, base, c.in-Some.ensures.most)) in
    ran_popped g.D.SectorDevice g.T.Terminal (λ r. on_terminal UnsignedDot (core old) (with_run r x)) old mid mid refl
    (λ r. popping-one (core old) (with_run r x) _ _ _ c.in-Ok.ensures.ok
    ∙ needing-yes (nat_le 2 (cell_at old.space 16) && nat_le (cell_at old.space 16) 72) Base (core mid) (with_run r x) _ yes
    ∙ ap (λ b. print (number_text b c.in-Ok.cell ++ 32 ∷ []) (core mid) (with_run r x)) (sym base)
    ∙ ap (λ l. print l (core mid) (with_run r x)) (sym (c.finish.ensures.value ∙ c.unsigned_text.ensures.bytes)))
    (c.print.ensures.serves levels x stands)

pub returns-in-None-clause-serves : goal.returns-in-None-clause-serves
returns-in-None-clause-serves g c = λ levels x stands.
    let old = c.args.self.now in
    let mid = record old { stack = c.pop.new.self } in
    ran_refused g.D.SectorDevice g.T.Terminal g.met.D.SectorDevice.only_now old mid c.args.terminal.now stands refl (core mid) refl
    (λ r. popping-one (core old) (with_run r x) _ _ _ c.in-Ok.ensures.ok
    ∙ needing-no (nat_le 2 (cell_at old.space 16) && nat_le (cell_at old.space 16) 72) Base (core mid) (with_run r x) _ (no_base (cell_at old.space 16) c.in-None.ensures.none))

pub returns-in-Err-clause-serves : goal.returns-in-Err-clause-serves
returns-in-Err-clause-serves g c = λ levels x stands.
    let old = c.args.self.now in
    ran_refused g.D.SectorDevice g.T.Terminal g.met.D.SectorDevice.only_now old (record old { stack = c.pop.new.self }) c.args.terminal.now stands refl (core old) refl
    (λ r. popping-none (core old) (with_run r x) _ c.in-Err.ensures.empty)
