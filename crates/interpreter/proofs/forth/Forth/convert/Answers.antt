use Rattle.std.proofs.Common.{◌≡◌, ℕ, Err, ap, sym, subst, ◌∙◌, arith}
use Rattle.std.specs.Prelude.{nat_le, ◌&&◌}
use Rattle.data_space.specs.Space.{cell_at}
use Rattle.interpreter.specs.Pictures.{convert_from}
use Rattle.cell_machine.specs.Cells.{double}
use Rattle.cell_machine.specs.Fault.{Base}
use Rattle.cell_machine.specs.Frames.{Core}
use Rattle.cell_machine.specs.Value.{Outcome}
use Rattle.system_words.specs.declared.words.PictureWord.TheVariants.{Convert}
use Rattle.interpreter.specs.State.{World, with_run, system_cell, base_cell}
use Rattle.interpreter.specs.Pictures.{on_picture, with_base}
use Rattle.interpreter.specs.Representation.{core}
use Rattle.interpreter.specs.ServiceContract.{Altered}
use Rattle.interpreter.specs.declared.fault.Fault.{Fault}
use Rattle.interpreter.specs.declared.forth.Forth.{Forth}
use Rattle.interpreter.proofs.Altering.{refused, altered_as}
use Rattle.interpreter.proofs.Popping.{stands_popped, core_popped}
use Rattle.interpreter.proofs.Short.{three-args, few-args, needing-no, needing-yes, a_base, no_base}
use Rattle.interpreter.proofs.forth.Forth.convert.Goals as goal

-- with its operands taken
abbrev taken : ℕ → ℕ → ℕ → World → Core → Outcome World
taken a h l x c = with_base c x (λ c. convert_from (system_cell base_cell c) a (double l h) c x)

pub returns-in-Some-clause-alters : goal.returns-in-Some-clause-alters
returns-in-Some-clause-alters g c = λ levels x stands.
    let old = c.args.self.now in
    let mid = c.pop_three.new.self in
    let rest = c.in-Ok.ensures.rest in
    let same : mid.space ≡ old.space = ap (λ (f : Forth g.row.D.Denot g.D.SectorDevice). f.space) rest in
    let base : c.in-Some.base ≡ cell_at old.space 16 = c.in-Some.ensures.cell ∙ ap (λ s. cell_at s 16) same in
    let yes = a_base (cell_at old.space 16) (omega (arith, base, c.in-Some.ensures.from)) (omega (arith, base, c.in-Some.ensures.most)) in
    altered_as (λ r. on_picture Convert (core old) (with_run r x)) old
    (λ r. three-args (core old) (with_run r x) (λ a h l c. taken a h l (with_run r x) c) c.in-Ok.address c.in-Ok.high c.in-Ok.low mid.stack c.in-Ok.ensures.popped
    ∙ needing-yes (nat_le 2 (cell_at old.space 16) && nat_le (cell_at old.space 16) 72) Base (record (core old) { stack = mid.stack }) (with_run r x) _ yes
    ∙ (λ t. convert_from (sym base t) c.in-Ok.address (double c.in-Ok.low c.in-Ok.high) (sym (core_popped old mid rest) t) (with_run r x)))
    (omega (arith, ap (λ (f : Forth g.row.D.Denot g.D.SectorDevice). f.steps) rest))
    (c.convert_from.ensures.alters levels x (stands_popped old mid rest stands))

pub returns-in-None-clause-alters : goal.returns-in-None-clause-alters
returns-in-None-clause-alters g c = λ levels x stands.
    let old = c.args.self.now in
    let mid = c.pop_three.new.self in
    let rest = c.in-Ok.ensures.rest in
    let same : mid.space ≡ old.space = ap (λ (f : Forth g.row.D.Denot g.D.SectorDevice). f.space) rest in
    let no = ap (λ s. nat_le 2 (cell_at s 16) && nat_le (cell_at s 16) 72) (sym same) ∙ no_base (cell_at mid.space 16) c.in-None.ensures.none in
    refused mid (stands_popped old mid rest stands) (record (core old) { stack = mid.stack }) (sym same)
    (λ r. three-args (core old) (with_run r x) (λ a h l c. taken a h l (with_run r x) c) c.in-Ok.address c.in-Ok.high c.in-Ok.low mid.stack c.in-Ok.ensures.popped
    ∙ needing-no (nat_le 2 (cell_at old.space 16) && nat_le (cell_at old.space 16) 72) Base (record (core old) { stack = mid.stack }) (with_run r x) _ no)
    (omega (arith, ap (λ (f : Forth g.row.D.Denot g.D.SectorDevice). f.steps) rest))

pub returns-in-Err-clause-alters : goal.returns-in-Err-clause-alters
returns-in-Err-clause-alters g c = λ levels x stands.
    let old = c.args.self.now in
    let mid = c.pop_three.new.self in
    let rest = c.in-Err.ensures.rest in
    subst (λ (f : Fault). Altered (λ r. on_picture Convert (core old) (with_run r x)) (Err f) old mid levels x) (sym c.in-Err.ensures.fault)
    (refused mid (stands_popped old mid rest stands) (core old) (sym (ap (λ (f : Forth g.row.D.Denot g.D.SectorDevice). f.space) rest))
    (λ r. few-args 3 (core old) (with_run r x) _ c.in-Err.ensures.few)
    (omega (arith, ap (λ (f : Forth g.row.D.Denot g.D.SectorDevice). f.steps) rest)))
