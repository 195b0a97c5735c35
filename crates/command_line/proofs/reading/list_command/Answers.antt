use Rattle.command_line.proofs.reading.list_command.Goals as goal

pub returns-clause-app : goal.returns-clause-app
returns-clause-app c =
    let one = c.command_with-command.ensures.app _ c.image_argument.ensures.rule c.image_argument.ensures.local in
    c.with_argument.ensures.app _ _ one c.block_argument.ensures.rule c.block_argument.ensures.local

pub returns-clause-local : goal.returns-clause-local
returns-clause-local c =
    let one = c.command_with-command.ensures.local c.image_argument.ensures.local in
    c.with_argument.ensures.local one c.block_argument.ensures.local
