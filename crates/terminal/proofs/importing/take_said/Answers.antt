use Rattle.std.proofs.Common.{rules}
use Rattle.terminal.proofs.Telling.{room_in}
use Rattle.terminal.proofs.importing.take_said.Goals as goal

pub returns-clause-sound : goal.returns-clause-sound
returns-clause-sound g c = search rules

pub returns-clause-said : goal.returns-clause-said
returns-clause-said g c = search rules

pub returns-clause-there : goal.returns-clause-there
returns-clause-there g c = room_in c.args.form c.args.room _ (c.args.file.now, returns-clause-sound g c, returns-clause-said g c)
