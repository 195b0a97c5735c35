use Rattle.std.proofs.Common.{refl, arith}
use Rattle.interpreter.specs.Representation.{core}
use Rattle.interpreter.proofs.Deeds.{printing, trying}
use Rattle.interpreter.proofs.Calls.{print-well, print-fails, heard_print, heard_unprinted}
use Rattle.interpreter.proofs.Running.{maps_same}
use Rattle.interpreter.proofs.forth.Forth.print.Goals as goal

pub returns-in-Ok-clause-serves : goal.returns-in-Ok-clause-serves
returns-in-Ok-clause-serves g c = λ levels x stands.
    record {
      deed = printing c.args.bytes.now 1;
      world = x;
      stands = stands;
      steps = omega arith;
      comes = λ model r fits. print-well c.args.bytes.now (core c.args.self.now) x r;
      heard = heard_print g.T.Terminal c.args.bytes.now c.in-Ok.ensures.input c.in-Ok.ensures.ok c.in-Ok.ensures.counted;
      cause = refl;
      keeps = λ model. maps_same g.D.SectorDevice g.met.D.SectorDevice.only_now _ x.maps (stands.rests.maps model);
    }

pub returns-in-Err-clause-serves : goal.returns-in-Err-clause-serves
returns-in-Err-clause-serves g c = λ levels x stands.
    record {
      deed = trying c.args.bytes.now;
      world = x;
      stands = stands.rests;
      steps = omega arith;
      comes = λ model. print-fails c.args.bytes.now (core c.args.self.now) x;
      heard = heard_unprinted g.T.Terminal c.args.bytes.now c.in-Err.ensures.input c.in-Err.ensures.err c.in-Err.ensures.counted;
      cause = refl;
      keeps = λ model. maps_same g.D.SectorDevice g.met.D.SectorDevice.only_now _ x.maps (stands.rests.maps model);
    }
