use Rattle.std.proofs.Common.{◌∙◌}
use Rattle.interpreter.specs.LineContract.{line_end}
use Rattle.interpreter.proofs.LineContract.{said_well, said_broke}
use Rattle.interpreter.proofs.Telling.{cut_counts}
use Rattle.interpreter.proofs.forth.Forth.say.Goals as goal

pub returns-in-Ok-clause-lined : goal.returns-in-Ok-clause-lined
returns-in-Ok-clause-lined g c = λ d x same_core rests.
    said_well g.D.SectorDevice g.T.Terminal g.met.D.SectorDevice.only_now c.args.end c.args.place c.args.bytes.now c.args.self.now c.args.terminal.now _ d x c.requires same_core rests c.in-Ok.ensures.input c.in-Ok.ensures.ok c.in-Ok.ensures.counted

pub returns-in-Err-clause-lined : goal.returns-in-Err-clause-lined
returns-in-Err-clause-lined g c = λ d x same_core rests.
    said_broke g.D.SectorDevice g.T.Terminal g.met.D.SectorDevice.only_now (line_end c.args.end) c.args.place c.args.bytes.now c.args.self.now _ c.args.terminal.now _ d x rests c.break_off.ensures.spares.device
    (λ said same. c.break_off.ensures.same_core said (record { space = same ∙ same_core.space })) (c.break_off.ensures.closes x rests) c.in-Err.ensures.input c.in-Err.ensures.err c.in-Err.ensures.counted

pub returns-in-Err-clause-counts : goal.returns-in-Err-clause-counts
returns-in-Err-clause-counts g c = λ before after h. cut_counts c.args.end before after h

pub returns-in-Err-clause-clears : goal.returns-in-Err-clause-clears
returns-in-Err-clause-clears g c = λ before x rests. c.break_off.ensures.clears x rests

pub returns-in-Ok-clause-placed : goal.returns-in-Ok-clause-placed
returns-in-Ok-clause-placed g c = λ h. h

pub returns-in-Err-clause-placed : goal.returns-in-Err-clause-placed
returns-in-Err-clause-placed g c = λ h. c.break_off.ensures.placed
