use Rattle.std.proofs.Common.{◌≡◌, ◌-◌, ◌+◌, ◌<◌, ◌≤◌, ℕ, true, false, Err, ⊎_elim, refl, ap, sym, subst, ◌∙◌, arith}
use Rattle.std.proofs.lemmas.Bool.{le-leb, lt-leb, cases_lt}
use Rattle.data_space.specs.Space.{bytes_at}
use Rattle.cell_machine.specs.Fault.{Address}
use Rattle.cell_machine.specs.Frames.{Core}
use Rattle.cell_machine.specs.Value.{Outcome}
use Rattle.system_words.specs.declared.words.TerminalWord.TheVariants.{TypeText}
use Rattle.interpreter.specs.State.{World, with_run, needing, fits}
use Rattle.interpreter.specs.Terminals.{paying, print, on_terminal}
use Rattle.interpreter.specs.Representation.{core}
use Rattle.interpreter.specs.ServiceContract.{Ran}
use Rattle.interpreter.specs.declared.fault.Fault.{Fault}
use Rattle.interpreter.specs.declared.fault.Stop.TheVariants as stop
use Rattle.interpreter.specs.declared.forth.Forth.{Forth}
use Rattle.interpreter.proofs.Short.{two-args, few-args, needing-no, needing-yes, paying-no, paying-yes}
use Rattle.interpreter.proofs.Running.{ran_as}
use Rattle.interpreter.proofs.Popping.{ran_refused, ran_refused_paid, stands_popped, blocks_popped}
use Rattle.interpreter.proofs.forth.Forth.type_text.Goals as goal

-- with its operands taken
abbrev taken : ℕ → ℕ → World → Core → Outcome World
taken u a x c = paying u c x (λ c. needing (fits a u) Address c x (λ c. print (bytes_at c.space a u) c x))

pub returns-then-self-from-clause-serves : goal.returns-then-self-from-clause-serves
returns-then-self-from-clause-serves g c = λ levels x stands.
    let old = c.args.self.now in
    let mid = c.pop_two.new.self in
    let u = c.in-Ok.u in
    let steps = ap (λ (f : Forth g.row.D.Denot g.D.SectorDevice). f.steps) c.in-Ok.ensures.rest in
    let few : old.steps < u = omega (arith, c.if-self-from.true, c.from.ensures, steps) in
    ran_refused g.D.SectorDevice g.T.Terminal g.met.D.SectorDevice.only_now old mid c.args.terminal.now stands c.in-Ok.ensures.rest (record (core old) { stack = mid.stack }) refl
    (λ r. two-args (core old) (with_run r x) (λ u a c. taken u a (with_run r x) c) u c.in-Ok.a mid.stack c.in-Ok.ensures.popped
    ∙ paying-no u (record (core old) { stack = mid.stack }) (with_run r x) _ few)

pub returns-in-Some-clause-serves : goal.returns-in-Some-clause-serves
returns-in-Some-clause-serves g c = λ levels x stands.
    let old = c.args.self.now in
    let mid = c.pop_two.new.self in
    let u = c.in-Ok.u in
    let a = c.in-Ok.a in
    let rest = c.in-Ok.ensures.rest in
    let steps = ap (λ (f : Forth g.row.D.Denot g.D.SectorDevice). f.steps) rest in
    let is : c.from-in-Ok.result ≡ u = c.from-in-Ok.ensures in
    let enough : u ≤ old.steps = omega (arith, c.if-self-from.false, c.from.ensures, steps) in
    let within : fits a u ≡ true = le-leb (a + u) 65536 (c.in-Some.ensures.within.0 refl) in
    let paid = record mid { steps = mid.steps - c.from-in-Ok.result } in
    ran_as g.T.Terminal (λ r. on_terminal TypeText (core old) (with_run r x)) old
    (λ r. two-args (core old) (with_run r x) (λ u a c. taken u a (with_run r x) c) u a mid.stack c.in-Ok.ensures.popped
    ∙ paying-yes u (record (core old) { stack = mid.stack }) (with_run r x) _ enough
    ∙ needing-yes (fits a u) Address (record (core old) { stack = mid.stack; steps = old.steps - u }) (with_run r x) _ within
    ∙ (λ t. print (bytes_at (sym rest t).space a u) (record (core (sym rest t)) { steps = (sym rest t).steps - sym is t }) (with_run r x))
    ∙ ap (λ l. print l (core paid) (with_run r x)) (sym c.in-Some.ensures.value))
    (omega (arith, steps)) (blocks_popped old mid rest)
    (c.print.ensures.serves levels x (stands_popped old mid rest stands))

pub returns-in-None-clause-serves : goal.returns-in-None-clause-serves
returns-in-None-clause-serves g c = λ levels x stands.
    let old = c.args.self.now in
    let mid = c.pop_two.new.self in
    let u = c.in-Ok.u in
    let a = c.in-Ok.a in
    let rest = c.in-Ok.ensures.rest in
    let steps = ap (λ (f : Forth g.row.D.Denot g.D.SectorDevice). f.steps) rest in
    let enough : u ≤ old.steps = omega (arith, c.if-self-from.false, c.from.ensures, steps) in
    let over : 65536 < a + u = ⊎_elim (λ more. more) (λ fewer. absurd (let e : false ≡ true = c.in-None.ensures.within.1 fewer in cc)) (cases_lt 65536 (a + u)) in
    ran_refused_paid g.D.SectorDevice g.T.Terminal g.met.D.SectorDevice.only_now old mid (mid.steps - c.from-in-Ok.result) c.args.terminal.now stands rest (omega arith) (record (core old) { stack = mid.stack; steps = old.steps - u }) refl
    (λ r. two-args (core old) (with_run r x) (λ u a c. taken u a (with_run r x) c) u a mid.stack c.in-Ok.ensures.popped
    ∙ paying-yes u (record (core old) { stack = mid.stack }) (with_run r x) _ enough
    ∙ needing-no (fits a u) Address (record (core old) { stack = mid.stack; steps = old.steps - u }) (with_run r x) _ (lt-leb (a + u) 65536 over))

pub returns-in-Err-clause-serves : goal.returns-in-Err-clause-serves
returns-in-Err-clause-serves g c = λ levels x stands.
    let old = core c.args.self.now in
    subst (λ (f : Fault). Ran g.T.Terminal (λ r. on_terminal TypeText old (with_run r x)) (Err (stop.Fault f)) c.args.self.now c.pop_two.new.self c.args.terminal.now c.args.terminal.now levels x) (sym c.in-Err.ensures.fault)
    (ran_refused g.D.SectorDevice g.T.Terminal g.met.D.SectorDevice.only_now c.args.self.now c.pop_two.new.self c.args.terminal.now stands c.in-Err.ensures.rest old refl
    (λ r. few-args 2 old (with_run r x) _ c.in-Err.ensures.few))
