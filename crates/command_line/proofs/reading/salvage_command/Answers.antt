use Rattle.command_line.proofs.reading.salvage_command.Goals as goal

pub returns-clause-app : goal.returns-clause-app
returns-clause-app c =
    let one = c.command_with-command.ensures.app _ c.source_image_argument.ensures.rule c.source_image_argument.ensures.local in
    let two = c.with_argument-command.ensures.app _ _ one c.new_argument.ensures.rule c.new_argument.ensures.local in
    c.with_argument.ensures.app _ _ two c.asked_blocks_option.ensures.rule c.asked_blocks_option.ensures.local

pub returns-clause-local : goal.returns-clause-local
returns-clause-local c =
    let one = c.command_with-command.ensures.local c.source_image_argument.ensures.local in
    let two = c.with_argument-command.ensures.local one c.new_argument.ensures.local in
    c.with_argument.ensures.local two c.asked_blocks_option.ensures.local
