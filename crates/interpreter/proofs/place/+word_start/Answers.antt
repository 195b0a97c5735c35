use Rattle.std.proofs.Common.{◌≡◌, ◌<◌, ◌-◌, ◌∙◌, ◌==◌, true, false, sym, arith}
use Rattle.std.proofs.lemmas.Grind.{common_steps}
use Rattle.std.specs.Prelude.{slice_index_or}
use Rattle.interpreter.proofs.Worded.{start_none, start_here, start_before}
use Rattle.interpreter.proofs.place.+word_start.Goals as goal

pub returns-then-end-eq0-clause-start : goal.returns-then-end-eq0-clause-start
returns-then-end-eq0-clause-start t c =
    let none : c.args.end ≡ 0 = grind (arith, common_steps) in
    sym (start_none c.args.end c.args.text.now none)

pub returns-then-text-end-eq32-clause-start : goal.returns-then-text-end-eq32-clause-start
returns-then-text-end-eq32-clause-start t c =
    let some : 0 < c.args.end = grind (arith, common_steps) in
    sym (start_here c.args.end c.args.text.now some c.if-text-end-eq32.true)

pub returns-clause-start : goal.returns-clause-start
returns-clause-start t c =
    let some : 0 < c.args.end = grind (arith, common_steps) in
    c.word_start.ensures.start ∙ sym (start_before c.args.end c.args.text.now some c.if-text-end-eq32.false)
