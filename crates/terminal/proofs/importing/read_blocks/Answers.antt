use Rattle.std.proofs.Common.{rules}
use Rattle.terminal.proofs.Telling.{room_for}
use Rattle.terminal.proofs.importing.read_blocks.Goals as goal

pub returns-in-Ok-clause-said : goal.returns-in-Ok-clause-said
returns-in-Ok-clause-said g c = search rules

pub returns-in-Ok-clause-below : goal.returns-in-Ok-clause-below
returns-in-Ok-clause-below g c = search rules

pub returns-in-Ok-clause-there : goal.returns-in-Ok-clause-there
returns-in-Ok-clause-there g c = room_for c.args.form c.args.blocks c.args.first _ _ (returns-in-Ok-clause-below g c) (returns-in-Ok-clause-said g c)
