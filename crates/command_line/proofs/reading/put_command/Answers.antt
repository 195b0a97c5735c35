use Rattle.command_line.proofs.reading.put_command.Goals as goal

pub returns-clause-app : goal.returns-clause-app
returns-clause-app c =
    let one = c.command_with-command.ensures.app _ c.image_argument.ensures.rule c.image_argument.ensures.local in
    let two = c.with_argument-command.ensures.app _ _ one c.block_argument.ensures.rule c.block_argument.ensures.local in
    c.with_argument.ensures.app _ _ two c.file_argument.ensures.rule c.file_argument.ensures.local

pub returns-clause-local : goal.returns-clause-local
returns-clause-local c =
    let one = c.command_with-command.ensures.local c.image_argument.ensures.local in
    let two = c.with_argument-command.ensures.local one c.block_argument.ensures.local in
    c.with_argument.ensures.local two c.file_argument.ensures.local
