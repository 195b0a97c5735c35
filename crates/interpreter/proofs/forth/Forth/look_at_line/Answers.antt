use Rattle.std.proofs.Common.{◌≡◌, ◌-◌, ◌∙◌, drop, length, take}
use Rattle.data_space.specs.Space.{cell_at}
use Rattle.interpreter.specs.Taken.{line_of, cut_of, after_cut}
use Rattle.interpreter.proofs.forth.Forth.look_at_line.Goals as goal

pub returns-clause-seen : goal.returns-clause-seen
returns-clause-seen g c =
    let space = c.args.self.now.space in
    let word : take c.keep-count.result.0 c.keep-count.new.kept ≡ cut_of c.args.cut c.args.delimiter (drop (cell_at space 20) (line_of space)) =
    c.keep-count.ensures.taken ∙ (λ t. cut_of c.args.cut c.args.delimiter (drop (c.cell_of-to_in.ensures t) (c.line_of.ensures.line t))) in
    let behind : c.keep-count.result.1 ≡ length (line_of space) - length (after_cut c.args.cut c.args.delimiter (drop (cell_at space 20) (line_of space))) =
    c.keep-count.ensures.moved ∙ (λ t. length (c.line_of.ensures.line t) - length (after_cut c.args.cut c.args.delimiter (drop (c.cell_of-to_in.ensures t) (c.line_of.ensures.line t)))) in
    λ t. record { bytes = word t; behind = behind t }
