use Rattle.interpreter.specs.Terminals.{print}
use Rattle.interpreter.proofs.Consulting.{handed_ran, handed_failed, consulted_ran}
use Rattle.interpreter.proofs.forth.Forth.print_text.Goals as goal

pub returns-in-Ok-clause-serves : goal.returns-in-Ok-clause-serves
returns-in-Ok-clause-serves g c = λ levels x stands.
    let h = c.in-Ok.ensures.hands levels x stands in
    handed_ran g.D.SectorDevice g.T.Terminal g.met.D.SectorDevice.counts_now g.met.D.SectorDevice.widens g.met.D.SectorDevice.only_now (λ s c x. print s c x) c.args.self.now c.take_text.new.self _
    c.in-Ok.ensures.continues.lasts c.print.ensures.continues.lasts h (c.print.ensures.serves levels h.world h.stands)

pub returns-in-Err-clause-serves : goal.returns-in-Err-clause-serves
returns-in-Err-clause-serves g c = λ levels x stands.
    consulted_ran g.T.Terminal c.args.terminal.now (handed_failed (λ s c x. print s c x) (c.in-Err.ensures.hands levels x stands))
