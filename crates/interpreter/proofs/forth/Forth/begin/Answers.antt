use Rattle.std.proofs.Common.{◌≡◌, take, Some, refl, sym, ap, arith}
use Rattle.cell_machine.specs.Value.{Did}
use Rattle.interpreter.specs.State.{with_run}
use Rattle.interpreter.specs.Lexicon.{language_of}
use Rattle.interpreter.specs.Representation.{core}
use Rattle.std.proofs.lemmas.Grind.{common_steps}
use Rattle.data_space.specs.Space.{with_cell}
use Rattle.compiler.specs.Definition.{opened}
use Rattle.interpreter.proofs.Altering.{went, becoming}
use Rattle.interpreter.proofs.Added.{new_word}
use Rattle.interpreter.proofs.forth.Forth.begin.Goals as goal

pub returns-clause-alters : goal.returns-clause-alters
returns-clause-alters g c = λ levels x stands.
    let old = core c.args.self.now in
    let name = take c.args.count c.args.self.now.text in
    let wrote : c.set_cell.new.self ≡ with_cell old.space 18 65535 = grind (arith, common_steps, c.set_cell.ensures.after, c.set_cell.ensures.within) in
    went _ (record x { first = x.current; definition = Some (opened name x.here) })
    (becoming (record (language_of x) { first = x.current; definition = Some (opened name x.here) }) stands
    (new_word c.begin.result c.args.self.now.lexicon c.begin.new.self name (λ m. record m { first = m.current; definition = Some (opened name m.here) }) (language_of x) c.requires.fits stands.rests.meant c.begin.ensures.begun c.begin.ensures.refused))
    (λ r. ap (λ s. Did (record old { space = s }) (with_run r (record x { first = x.current; definition = Some (opened name x.here) }))) (sym wrote)) refl (omega arith)
