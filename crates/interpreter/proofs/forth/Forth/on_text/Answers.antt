use Rattle.std.proofs.Common.{sym, subst}
use Rattle.interpreter.specs.Text.{on_text}
use Rattle.interpreter.specs.State.{with_run}
use Rattle.interpreter.specs.Representation.{core}
use Rattle.interpreter.specs.ServiceContract.{Consulted}
use Rattle.interpreter.proofs.forth.Forth.on_text.Goals as goal

pub returns-in-Comment-clause-consults : goal.returns-in-Comment-clause-consults
returns-in-Comment-clause-consults g c = λ levels x stands.
    subst (λ w. Consulted {D = g.row.D.Denot} {G = g.D.SectorDevice} (λ r. on_text w (core c.args.self.now) (with_run r x)) c.comment.result c.args.self.now
    c.comment.new.self levels x) (sym c.in-Comment.is)
    (c.comment.ensures.consults levels x stands)

pub returns-in-ParseWord-clause-consults : goal.returns-in-ParseWord-clause-consults
returns-in-ParseWord-clause-consults g c = λ levels x stands.
    subst (λ w. Consulted {D = g.row.D.Denot} {G = g.D.SectorDevice} (λ r. on_text w (core c.args.self.now) (with_run r x)) c.word.result c.args.self.now
    c.word.new.self levels x) (sym c.in-ParseWord.is)
    (c.word.ensures.consults levels x stands)

pub returns-in-DotQuote-clause-consults : goal.returns-in-DotQuote-clause-consults
returns-in-DotQuote-clause-consults g c = λ levels x stands.
    subst (λ w. Consulted {D = g.row.D.Denot} {G = g.D.SectorDevice} (λ r. on_text w (core c.args.self.now) (with_run r x)) c.compile_text.result c.args.self.now
    c.compile_text.new.self levels x) (sym c.in-DotQuote.is)
    (c.compile_text.ensures.consults levels x stands)

pub returns-in-AbortQuote-clause-consults : goal.returns-in-AbortQuote-clause-consults
returns-in-AbortQuote-clause-consults g c = λ levels x stands.
    subst (λ w. Consulted {D = g.row.D.Denot} {G = g.D.SectorDevice} (λ r. on_text w (core c.args.self.now) (with_run r x)) c.compile_text-in-AbortQuote.result c.args.self.now
    c.compile_text-in-AbortQuote.new.self levels x) (sym c.in-AbortQuote.is)
    (c.compile_text-in-AbortQuote.ensures.consults levels x stands)
