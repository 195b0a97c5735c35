use Rattle.std.proofs.Common.{Ok, refl, sym, ap, subst, ◌∙◌, arith}
use Rattle.interpreter.specs.State.{with_run}
use Rattle.interpreter.specs.Representation.{core}
use Rattle.interpreter.specs.ServiceContract.{Handed}
use Rattle.interpreter.specs.Looking.{look, seen_in}
use Rattle.interpreter.specs.declared.forth.Forth.{Forth}
use Rattle.interpreter.proofs.Called.{handed_quiet}
use Rattle.interpreter.proofs.Looking.{from_line}
use Rattle.interpreter.proofs.forth.Forth.look.Goals as goal

pub returns-in-0-clause-hands : goal.returns-in-0-clause-hands
returns-in-0-clause-hands g c = λ levels x stands.
    let old = c.args.self.now in
    let new = c.look_at_line.new.self in
    subst (λ (n : Forth g.row.D.Denot g.D.SectorDevice). Handed (λ r go. look c.args.cut c.args.delimiter (core old) (with_run r x) go) (Ok (seen_in c.look_at_line.result new.text)) old n levels x)
    (sym c.look_at_line.ensures.rest)
    (handed_quiet g.D.SectorDevice g.met.D.SectorDevice.only_now old (record old { text = new.text }) stands stands refl (omega arith)
    (λ r go. from_line c.args.cut c.args.delimiter go (core old) (with_run r x) (sym c.in-0.is ∙ c.cell_of.ensures) ∙ ap (λ s. go s (core old) (with_run r x)) (sym c.look_at_line.ensures.seen)))
