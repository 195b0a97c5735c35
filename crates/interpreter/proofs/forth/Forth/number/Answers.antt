use Rattle.std.proofs.Common.{◌<◌, ◌≤◌, take, Ok, Err, refl, sym, ap, ◌∙◌, arith}
use Rattle.number_io.specs.Number.{number}
use Rattle.interpreter.specs.State.{with_run}
use Rattle.interpreter.specs.Representation.{core}
use Rattle.data_space.specs.Space.{cell_at}
use Rattle.interpreter.proofs.Altering.{altered_as, refused}
use Rattle.interpreter.proofs.Treating.{base-low, base-high, number_is, no_base}
use Rattle.interpreter.proofs.forth.Forth.number.Goals as goal

pub returns-then-base-lt2-clause-alters : goal.returns-then-base-lt2-clause-alters
returns-then-base-lt2-clause-alters g c = λ levels x stands.
    let old = core c.args.self.now in
    let low : cell_at old.space 16 < 2 = omega (arith, c.cell_of-base.ensures, c.if-base-lt2.true) in
    refused _ stands old refl (λ r. no_base old (with_run r x) _ (base-low (cell_at old.space 16) low)) (omega arith)

pub returns-then-base-gt72-clause-alters : goal.returns-then-base-gt72-clause-alters
returns-then-base-gt72-clause-alters g c = λ levels x stands.
    let old = core c.args.self.now in
    let high : 72 < cell_at old.space 16 = omega (arith, c.cell_of-base.ensures, c.if-base-gt72.true) in
    refused _ stands old refl (λ r. no_base old (with_run r x) _ (base-high (cell_at old.space 16) high)) (omega arith)

pub returns-in-Ok-Single-clause-alters : goal.returns-in-Ok-Single-clause-alters
returns-in-Ok-Single-clause-alters g c = λ levels x stands.
    let old = core c.args.self.now in
    let low : 2 ≤ cell_at old.space 16 = omega (arith, c.cell_of-base.ensures, c.if-base-lt2.false) in
    let high : cell_at old.space 16 ≤ 72 = omega (arith, c.cell_of-base.ensures, c.if-base-gt72.false) in
    let reads = ap (λ b. number b (take c.args.count c.args.self.now.text)) (sym c.cell_of-base.ensures) ∙ sym c.in-Ok-Single.ensures ∙ ap (λ v. Ok v) c.in-Ok-Single.field-0-is in
    altered_as _ c.args.self.now (λ r. number_is old (with_run r x) (take c.args.count c.args.self.now.text) _ low high reads) (omega arith) (c.number_cell.ensures.alters levels x stands)

pub returns-in-Ok-Double-clause-alters : goal.returns-in-Ok-Double-clause-alters
returns-in-Ok-Double-clause-alters g c = λ levels x stands.
    let old = core c.args.self.now in
    let low : 2 ≤ cell_at old.space 16 = omega (arith, c.cell_of-base.ensures, c.if-base-lt2.false) in
    let high : cell_at old.space 16 ≤ 72 = omega (arith, c.cell_of-base.ensures, c.if-base-gt72.false) in
    let reads = ap (λ b. number b (take c.args.count c.args.self.now.text)) (sym c.cell_of-base.ensures) ∙ sym c.in-Ok-Double.ensures ∙ ap (λ v. Ok v) c.in-Ok-Double.field-0-is in
    altered_as _ c.args.self.now (λ r. number_is old (with_run r x) (take c.args.count c.args.self.now.text) _ low high reads) (omega arith) (c.number_cells.ensures.alters levels x stands)

pub returns-in-Err-NotANumber-clause-alters : goal.returns-in-Err-NotANumber-clause-alters
returns-in-Err-NotANumber-clause-alters g c = λ levels x stands.
    let old = core c.args.self.now in
    let low : 2 ≤ cell_at old.space 16 = omega (arith, c.cell_of-base.ensures, c.if-base-lt2.false) in
    let high : cell_at old.space 16 ≤ 72 = omega (arith, c.cell_of-base.ensures, c.if-base-gt72.false) in
    let reads = ap (λ b. number b (take c.args.count c.args.self.now.text)) (sym c.cell_of-base.ensures) ∙ sym c.in-Err-NotANumber.ensures ∙ ap (λ e. Err e) c.in-Err-NotANumber.field-0-is in
    refused _ stands old refl (λ r. number_is old (with_run r x) (take c.args.count c.args.self.now.text) _ low high reads) (omega arith)

pub returns-in-Err-OutOfRange-clause-alters : goal.returns-in-Err-OutOfRange-clause-alters
returns-in-Err-OutOfRange-clause-alters g c = λ levels x stands.
    let old = core c.args.self.now in
    let low : 2 ≤ cell_at old.space 16 = omega (arith, c.cell_of-base.ensures, c.if-base-lt2.false) in
    let high : cell_at old.space 16 ≤ 72 = omega (arith, c.cell_of-base.ensures, c.if-base-gt72.false) in
    let reads = ap (λ b. number b (take c.args.count c.args.self.now.text)) (sym c.cell_of-base.ensures) ∙ sym c.in-Err-OutOfRange.ensures ∙ ap (λ e. Err e) c.in-Err-OutOfRange.field-0-is in
    refused _ stands old refl (λ r. number_is old (with_run r x) (take c.args.count c.args.self.now.text) _ low high reads) (omega arith)
