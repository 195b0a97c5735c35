use Rattle.command_line.proofs.reading.alone.Goals as goal

pub returns : goal.returns
returns c = λ app is local. c.with_command.ensures.app _ _ c.program.ensures.app is local
