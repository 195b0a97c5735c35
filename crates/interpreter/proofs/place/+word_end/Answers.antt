use Rattle.std.proofs.Common.{◌≡◌, ◌<◌, ◌-◌, ◌∙◌, ◌==◌, true, false, sym, arith}
use Rattle.std.proofs.lemmas.Grind.{common_steps}
use Rattle.std.specs.Prelude.{slice_index_or}
use Rattle.interpreter.proofs.Worded.{end_none, end_blank, end_here}
use Rattle.interpreter.proofs.place.+word_end.Goals as goal

pub returns-then-count-eq0-clause-end : goal.returns-then-count-eq0-clause-end
returns-then-count-eq0-clause-end t c =
    let none : c.args.count ≡ 0 = grind (arith, common_steps) in
    sym (end_none c.args.count c.args.text.now none)

pub returns-then-text-count-eq32-clause-end : goal.returns-then-text-count-eq32-clause-end
returns-then-text-count-eq32-clause-end t c =
    let some : 0 < c.args.count = grind (arith, common_steps) in
    c.word_end.ensures.end ∙ sym (end_blank c.args.count c.args.text.now some c.if-text-count-eq32.true)

pub returns-clause-end : goal.returns-clause-end
returns-clause-end t c =
    let some : 0 < c.args.count = grind (arith, common_steps) in
    sym (end_here c.args.count c.args.text.now some c.if-text-count-eq32.false)
