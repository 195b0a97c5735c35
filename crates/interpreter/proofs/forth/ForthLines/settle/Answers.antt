use Rattle.interpreter.specs.LineContract.{line_end}
use Rattle.interpreter.proofs.Undoing.{system_settled}
use Rattle.interpreter.proofs.forth.ForthLines.settle.Goals as goal

pub returns-clause-stands : goal.returns-clause-stands
returns-clause-stands g c = λ state is. system_settled (line_end c.args.end.now) c.args.self.now c.take_back.new.self c.take_back.ensures.rest c.take_back.ensures.device c.take_back.ensures.settles state is

pub returns-clause-sound : goal.returns-clause-sound
returns-clause-sound g c = (_, c.take_back.ensures.settles c.requires.sound.0 c.requires.sound.1)
