use Rattle.std.proofs.Common.{sym, subst}
use Rattle.interpreter.specs.Terminals.{on_terminal}
use Rattle.interpreter.specs.State.{with_run}
use Rattle.interpreter.specs.Representation.{core}
use Rattle.interpreter.specs.ServiceContract.{Ran}
use Rattle.interpreter.proofs.forth.Forth.on_terminal.Goals as goal

pub returns-in-NewLine-clause-serves : goal.returns-in-NewLine-clause-serves
returns-in-NewLine-clause-serves g c = λ levels x stands.
    subst (λ w. Ran {D = g.row.D.Denot} {T = g.row.T.Denot} {G = g.D.SectorDevice} g.T.Terminal (λ r. on_terminal w (core c.args.self.now) (with_run r x))
    c.new_line.result c.args.self.now c.new_line.new.self c.args.terminal.now c.new_line.new.terminal levels x) (sym c.in-NewLine.is)
    (c.new_line.ensures.serves levels x stands)

pub returns-in-Emit-clause-serves : goal.returns-in-Emit-clause-serves
returns-in-Emit-clause-serves g c = λ levels x stands.
    subst (λ w. Ran {D = g.row.D.Denot} {T = g.row.T.Denot} {G = g.D.SectorDevice} g.T.Terminal (λ r. on_terminal w (core c.args.self.now) (with_run r x))
    c.emit.result c.args.self.now c.emit.new.self c.args.terminal.now c.emit.new.terminal levels x) (sym c.in-Emit.is)
    (c.emit.ensures.serves levels x stands)

pub returns-in-Expect-clause-serves : goal.returns-in-Expect-clause-serves
returns-in-Expect-clause-serves g c = λ levels x stands.
    subst (λ w. Ran {D = g.row.D.Denot} {T = g.row.T.Denot} {G = g.D.SectorDevice} g.T.Terminal (λ r. on_terminal w (core c.args.self.now) (with_run r x))
    c.expect.result c.args.self.now c.expect.new.self c.args.terminal.now c.expect.new.terminal levels x) (sym c.in-Expect.is)
    (c.expect.ensures.serves levels x stands)

pub returns-in-Key-clause-serves : goal.returns-in-Key-clause-serves
returns-in-Key-clause-serves g c = λ levels x stands.
    subst (λ w. Ran {D = g.row.D.Denot} {T = g.row.T.Denot} {G = g.D.SectorDevice} g.T.Terminal (λ r. on_terminal w (core c.args.self.now) (with_run r x))
    c.key.result c.args.self.now c.key.new.self c.args.terminal.now c.key.new.terminal levels x) (sym c.in-Key.is)
    (c.key.ensures.serves levels x stands)

pub returns-in-Blank-clause-serves : goal.returns-in-Blank-clause-serves
returns-in-Blank-clause-serves g c = λ levels x stands.
    subst (λ w. Ran {D = g.row.D.Denot} {T = g.row.T.Denot} {G = g.D.SectorDevice} g.T.Terminal (λ r. on_terminal w (core c.args.self.now) (with_run r x))
    c.blank.result c.args.self.now c.blank.new.self c.args.terminal.now c.blank.new.terminal levels x) (sym c.in-Blank.is)
    (c.blank.ensures.serves levels x stands)

pub returns-in-Blanks-clause-serves : goal.returns-in-Blanks-clause-serves
returns-in-Blanks-clause-serves g c = λ levels x stands.
    subst (λ w. Ran {D = g.row.D.Denot} {T = g.row.T.Denot} {G = g.D.SectorDevice} g.T.Terminal (λ r. on_terminal w (core c.args.self.now) (with_run r x))
    c.blanks.result c.args.self.now c.blanks.new.self c.args.terminal.now c.blanks.new.terminal levels x) (sym c.in-Blanks.is)
    (c.blanks.ensures.serves levels x stands)

pub returns-in-TypeText-clause-serves : goal.returns-in-TypeText-clause-serves
returns-in-TypeText-clause-serves g c = λ levels x stands.
    subst (λ w. Ran {D = g.row.D.Denot} {T = g.row.T.Denot} {G = g.D.SectorDevice} g.T.Terminal (λ r. on_terminal w (core c.args.self.now) (with_run r x))
    c.type_text.result c.args.self.now c.type_text.new.self c.args.terminal.now c.type_text.new.terminal levels x) (sym c.in-TypeText.is)
    (c.type_text.ensures.serves levels x stands)

pub returns-in-Dot-clause-serves : goal.returns-in-Dot-clause-serves
returns-in-Dot-clause-serves g c = λ levels x stands.
    subst (λ w. Ran {D = g.row.D.Denot} {T = g.row.T.Denot} {G = g.D.SectorDevice} g.T.Terminal (λ r. on_terminal w (core c.args.self.now) (with_run r x))
    c.dot.result c.args.self.now c.dot.new.self c.args.terminal.now c.dot.new.terminal levels x) (sym c.in-Dot.is)
    (c.dot.ensures.serves levels x stands)

pub returns-in-PrintText-clause-serves : goal.returns-in-PrintText-clause-serves
returns-in-PrintText-clause-serves g c = λ levels x stands.
    subst (λ w. Ran {D = g.row.D.Denot} {T = g.row.T.Denot} {G = g.D.SectorDevice} g.T.Terminal (λ r. on_terminal w (core c.args.self.now) (with_run r x))
    c.print_text.result c.args.self.now c.print_text.new.self c.args.terminal.now c.print_text.new.terminal levels x) (sym c.in-PrintText.is)
    (c.print_text.ensures.serves levels x stands)

pub returns-in-UnsignedDot-clause-serves : goal.returns-in-UnsignedDot-clause-serves
returns-in-UnsignedDot-clause-serves g c = λ levels x stands.
    subst (λ w. Ran {D = g.row.D.Denot} {T = g.row.T.Denot} {G = g.D.SectorDevice} g.T.Terminal (λ r. on_terminal w (core c.args.self.now) (with_run r x))
    c.unsigned_dot.result c.args.self.now c.unsigned_dot.new.self c.args.terminal.now c.unsigned_dot.new.terminal levels x) (sym c.in-UnsignedDot.is)
    (c.unsigned_dot.ensures.serves levels x stands)
