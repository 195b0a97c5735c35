use Rattle.std.proofs.Common.{◌≡◌, ◌-◌, ◌<◌, ◌≤◌, ℕ, Bool, true, false, refl, sym, ap, ◌∙◌, arith}
use Rattle.std.specs.Prelude.{nat_lt, if◌then◌else◌, replicate, take}
use Rattle.std.proofs.lemmas.Bool.{ltb-true}
use Rattle.std.proofs.lemmas.List.{take-replicate}
use Rattle.system_words.specs.declared.words.TerminalWord.TheVariants.{Blanks}
use Rattle.interpreter.specs.State.{with_run}
use Rattle.interpreter.specs.Terminals.{print, on_terminal}
use Rattle.interpreter.specs.Representation.{core}
use Rattle.interpreter.proofs.Short.{popping-none, popping-one, paying-no, paying-yes}
use Rattle.interpreter.proofs.Running.{ran_as}
use Rattle.interpreter.proofs.Popping.{ran_refused}
use Rattle.interpreter.proofs.forth.Forth.blanks.Goals as goal

-- no more than there are
within : (cell : ℕ) (positive : Bool) → nat_lt cell 32768 ≡ positive → (if positive then cell else 0) ≤ 32767
within cell true is = let less : cell < 32768 = ltb-true cell 32768 is in omega (arith, less)
within cell false is = omega arith

pub returns-then-self-from-clause-serves : goal.returns-then-self-from-clause-serves
returns-then-self-from-clause-serves g c = λ levels x stands.
    let old = c.args.self.now in
    let mid = record old { stack = c.pop.new.self } in
    let n : ℕ = if nat_lt c.in-Ok.cell 32768 then c.in-Ok.cell else 0 in
    let few : old.steps < n = omega (arith, c.if-self-from.true, c.from.ensures, c.count_of-count.ensures) in
    ran_refused g.D.SectorDevice g.T.Terminal g.met.D.SectorDevice.only_now old mid c.args.terminal.now stands refl (core mid) refl
    (λ r. popping-one (core old) (with_run r x) _ _ _ c.in-Ok.ensures.ok ∙ paying-no n (core mid) (with_run r x) _ few)

pub returns-else-self-from-clause-serves : goal.returns-else-self-from-clause-serves
returns-else-self-from-clause-serves g c = λ levels x stands.
    let old = c.args.self.now in
    let mid = record old { stack = c.pop.new.self } in
    let n : ℕ = if nat_lt c.in-Ok.cell 32768 then c.in-Ok.cell else 0 in
    let is : c.count_of-count.result ≡ n = c.count_of-count.ensures in
    let paid : c.from-in-Ok.result ≡ n = c.from-in-Ok.ensures ∙ is in
    let enough : n ≤ old.steps = omega (arith, c.if-self-from.false, c.from.ensures, is) in
    let all : take c.from-in-Ok-2.result (replicate 32767 32) ≡ replicate n 32 = ap (λ n. take n (replicate 32767 32)) (c.from-in-Ok-2.ensures ∙ is) ∙ take-replicate n 32767 32 (within c.in-Ok.cell (nat_lt c.in-Ok.cell 32768) refl) in
    ran_as g.T.Terminal (λ r. on_terminal Blanks (core old) (with_run r x)) old
    (λ r. popping-one (core old) (with_run r x) _ _ _ c.in-Ok.ensures.ok
    ∙ paying-yes n (core mid) (with_run r x) _ enough
    ∙ (λ t. print (sym all t) (record (core mid) { steps = old.steps - sym paid t }) (with_run r x)))
    (omega arith) refl (c.print.ensures.serves levels x stands)

pub returns-in-Err-clause-serves : goal.returns-in-Err-clause-serves
returns-in-Err-clause-serves g c = λ levels x stands.
    let old = c.args.self.now in
    ran_refused g.D.SectorDevice g.T.Terminal g.met.D.SectorDevice.only_now old (record old { stack = c.pop.new.self }) c.args.terminal.now stands refl (core old) refl
    (λ r. popping-none (core old) (with_run r x) _ c.in-Err.ensures.empty)
