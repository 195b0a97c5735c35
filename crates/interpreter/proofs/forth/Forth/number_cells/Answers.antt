use Rattle.std.proofs.Common.{◌/◌}
use Rattle.interpreter.specs.Lexicon.{language_of}
use Rattle.interpreter.specs.Text.{with_number}
use Rattle.interpreter.proofs.Treating.{altered_refused, altered_then}
use Rattle.interpreter.proofs.forth.Forth.number_cells.Goals as goal

pub returns-in-Ok-clause-alters : goal.returns-in-Ok-clause-alters
returns-in-Ok-clause-alters g c = λ levels x stands.
    let low = c.in-Ok.ensures.alters levels x stands in
    altered_then _ (λ c' x. with_number (c.args.double / 65536) c' x) low (c.number_cell-in-Ok.ensures.alters levels low.world low.stands)

pub returns-in-Err-clause-alters : goal.returns-in-Err-clause-alters
returns-in-Err-clause-alters g c = λ levels x stands. altered_refused (λ c' x. with_number (c.args.double / 65536) c' x) (c.in-Err.ensures.alters levels x stands)

pub number_cell-requires : goal.number_cell-requires
number_cell-requires g c = let s = c.requires.sound in record { sound = (language_of s.1, s.2.rests.meant) }
