use Rattle.std.proofs.Common.{◌≡◌, ◌+◌, ℕ, true, false, Err, refl, ap, sym, ◌∙◌, subst, arith}
use Rattle.std.proofs.lemmas.Bool.{le-leb, lt-leb}
use Rattle.cell_machine.specs.Fault.{Address}
use Rattle.cell_machine.specs.Frames.{Core}
use Rattle.cell_machine.specs.Value.{Outcome}
use Rattle.system_words.specs.declared.words.TerminalWord.TheVariants.{Expect}
use Rattle.interpreter.specs.State.{World, with_run, needing, fits}
use Rattle.interpreter.specs.Terminals.{expect_of, on_terminal}
use Rattle.interpreter.specs.Representation.{core}
use Rattle.interpreter.specs.ServiceContract.{Ran}
use Rattle.interpreter.specs.declared.fault.Fault.{Fault}
use Rattle.interpreter.specs.declared.fault.Stop.TheVariants as stop
use Rattle.interpreter.proofs.Short.{two-args, few-args, needing-no, needing-yes}
use Rattle.interpreter.proofs.Popping.{ran_refused, ran_popped, stands_popped, core_popped}
use Rattle.interpreter.proofs.forth.Forth.expect.Goals as goal

-- with its operands taken
abbrev taken : ℕ → ℕ → World → Core → Outcome World
taken u a x c = needing (fits a u) Address c x (λ c. expect_of x.run.terminal a u c x)

pub returns-then-from-gt65536-clause-serves : goal.returns-then-from-gt65536-clause-serves
returns-then-from-gt65536-clause-serves g c = λ levels x stands.
    let old = core c.args.self.now in
    let no : fits c.in-Ok.a c.in-Ok.u ≡ false = lt-leb (c.in-Ok.a + c.in-Ok.u) 65536 (omega (arith, c.if-from-gt65536.true, c.from.ensures, c.from-in-Ok.ensures)) in
    ran_refused g.D.SectorDevice g.T.Terminal g.met.D.SectorDevice.only_now c.args.self.now c.pop_two.new.self c.args.terminal.now stands c.in-Ok.ensures.rest (record old { stack = c.pop_two.new.self.stack }) refl
    (λ r. two-args old (with_run r x) (λ u a c. taken u a (with_run r x) c) c.in-Ok.u c.in-Ok.a c.pop_two.new.self.stack c.in-Ok.ensures.popped
    ∙ needing-no (fits c.in-Ok.a c.in-Ok.u) Address _ (with_run r x) _ no)

pub returns-else-from-gt65536-clause-serves : goal.returns-else-from-gt65536-clause-serves
returns-else-from-gt65536-clause-serves g c = λ levels x stands.
    let old = core c.args.self.now in
    let yes : fits c.in-Ok.a c.in-Ok.u ≡ true = le-leb (c.in-Ok.a + c.in-Ok.u) 65536 (omega (arith, c.if-from-gt65536.false, c.from.ensures, c.from-in-Ok.ensures)) in
    ran_popped g.D.SectorDevice g.T.Terminal (λ r. on_terminal Expect old (with_run r x)) c.args.self.now c.pop_two.new.self c.fill.new.self c.in-Ok.ensures.rest
    (λ r. two-args old (with_run r x) (λ u a c. taken u a (with_run r x) c) c.in-Ok.u c.in-Ok.a c.pop_two.new.self.stack c.in-Ok.ensures.popped
    ∙ needing-yes (fits c.in-Ok.a c.in-Ok.u) Address _ (with_run r x) _ yes
    ∙ ap (λ c0. expect_of r.terminal c.in-Ok.a c.in-Ok.u c0 (with_run r x)) (sym (core_popped c.args.self.now c.pop_two.new.self c.in-Ok.ensures.rest)))
    (c.fill.ensures.serves levels x (stands_popped c.args.self.now c.pop_two.new.self c.in-Ok.ensures.rest stands))

pub returns-in-Err-clause-serves : goal.returns-in-Err-clause-serves
returns-in-Err-clause-serves g c = λ levels x stands.
    let old = core c.args.self.now in
    subst (λ (f : Fault). Ran g.T.Terminal (λ r. on_terminal Expect old (with_run r x)) (Err (stop.Fault f)) c.args.self.now c.pop_two.new.self c.args.terminal.now c.args.terminal.now levels x) (sym c.in-Err.ensures.fault)
    (ran_refused g.D.SectorDevice g.T.Terminal g.met.D.SectorDevice.only_now c.args.self.now c.pop_two.new.self c.args.terminal.now stands c.in-Err.ensures.rest old refl
    (λ r. few-args 2 old (with_run r x) _ c.in-Err.ensures.few))
