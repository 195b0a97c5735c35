use Rattle.std.proofs.Common.{suc}
use Rattle.interpreter.proofs.Wiring.{ran_round, quiet_round, consulted_round, entered_round}
use Rattle.interpreter.proofs.forth.Forth.do_service.Goals as goal

pub returns-in-OnTerminal-clause-round : goal.returns-in-OnTerminal-clause-round
returns-in-OnTerminal-clause-round g c = λ m levels x less stands.
    rw c.in-OnTerminal.is
    (ran_round g.D.SectorDevice g.T.Terminal (suc m) levels c.args.self.now _ c.args.terminal.now _ c.goes_on.ensures
    (c.on_terminal.ensures.serves levels x stands))

pub returns-in-OnPicture-clause-round : goal.returns-in-OnPicture-clause-round
returns-in-OnPicture-clause-round g c = λ m levels x less stands.
    rw c.in-OnPicture.is
    (quiet_round g.D.SectorDevice g.T.Terminal (suc m) levels g.met.D.SectorDevice.only_now c.args.self.now _ c.args.terminal.now c.goes_on_quietly.ensures stands c.on_picture.ensures.spares
    (c.on_picture.ensures.alters levels x stands))

pub returns-in-OnText-clause-round : goal.returns-in-OnText-clause-round
returns-in-OnText-clause-round g c = λ m levels x less stands.
    rw c.in-OnText.is
    (consulted_round g.D.SectorDevice g.T.Terminal (suc m) levels c.args.self.now _ c.args.terminal.now c.goes_on_quietly-in-OnText.ensures
    (c.on_text.ensures.consults levels x stands))

pub returns-in-OnName-clause-round : goal.returns-in-OnName-clause-round
returns-in-OnName-clause-round g c = λ m levels x less stands.
    rw c.in-OnName.is
    (consulted_round g.D.SectorDevice g.T.Terminal (suc m) levels c.args.self.now _ c.args.terminal.now c.goes_on_quietly-in-OnName.ensures
    (c.on_name.ensures.consults levels x stands))

pub returns-in-OnLexicon-clause-round : goal.returns-in-OnLexicon-clause-round
returns-in-OnLexicon-clause-round g c = λ m levels x less stands.
    rw c.in-OnLexicon.is
    (quiet_round g.D.SectorDevice g.T.Terminal (suc m) levels g.met.D.SectorDevice.only_now c.args.self.now _ c.args.terminal.now c.goes_on_quietly-in-OnLexicon.ensures stands c.on_lexicon.ensures.spares
    (c.on_lexicon.ensures.alters levels x stands))

pub returns-in-OnDefinition-clause-round : goal.returns-in-OnDefinition-clause-round
returns-in-OnDefinition-clause-round g c = λ m levels x less stands.
    rw c.in-OnDefinition.is
    (quiet_round g.D.SectorDevice g.T.Terminal (suc m) levels g.met.D.SectorDevice.only_now c.args.self.now _ c.args.terminal.now c.goes_on_quietly-in-OnDefinition.ensures stands c.on_definition.ensures.spares
    (c.on_definition.ensures.alters levels x stands))

pub returns-in-OnBlocks-clause-round : goal.returns-in-OnBlocks-clause-round
returns-in-OnBlocks-clause-round g c = λ m levels x less stands.
    rw c.in-OnBlocks.is
    (consulted_round g.D.SectorDevice g.T.Terminal (suc m) levels c.args.self.now _ c.args.terminal.now c.goes_on_quietly-in-OnBlocks.ensures
    (c.on_blocks.ensures.consults levels x stands))

pub returns-in-Execute-clause-round : goal.returns-in-Execute-clause-round
returns-in-Execute-clause-round g c = λ m levels x less stands.
    rw c.in-Execute.is
    (entered_round g.D.SectorDevice g.T.Terminal (suc m) levels g.met.D.SectorDevice.only_now c.args.self.now _ c.args.terminal.now c.goes_on_quietly-in-Execute.ensures stands c.execute.ensures.spares
    (c.execute.ensures.entered m levels x less stands))

pub returns-in-Load-clause-round : goal.returns-in-Load-clause-round
returns-in-Load-clause-round g c = λ m levels x less stands.
    rw c.in-Load.is
    (entered_round g.D.SectorDevice g.T.Terminal (suc m) levels g.met.D.SectorDevice.only_now c.args.self.now _ c.args.terminal.now c.goes_on_quietly-in-Load.ensures stands c.load.ensures.spares
    (c.load.ensures.entered m levels x less stands))
