use Rattle.command_line.proofs.reading.import_command.Goals as goal

pub returns-clause-app : goal.returns-clause-app
returns-clause-app c =
    let one = c.command_with-command.ensures.app _ c.image_argument.ensures.rule c.image_argument.ensures.local in
    let two = c.with_argument-command.ensures.app _ _ one c.first_argument.ensures.rule c.first_argument.ensures.local in
    let three = c.with_argument-command-2.ensures.app _ _ two c.source_argument.ensures.rule c.source_argument.ensures.local in
    let four = c.with_argument-command-3.ensures.app _ _ three c.raw_option.ensures.rule c.raw_option.ensures.local in
    c.with_argument.ensures.app _ _ four c.check_option.ensures.rule c.check_option.ensures.local

pub returns-clause-local : goal.returns-clause-local
returns-clause-local c =
    let one = c.command_with-command.ensures.local c.image_argument.ensures.local in
    let two = c.with_argument-command.ensures.local one c.first_argument.ensures.local in
    let three = c.with_argument-command-2.ensures.local two c.source_argument.ensures.local in
    let four = c.with_argument-command-3.ensures.local three c.raw_option.ensures.local in
    c.with_argument.ensures.local four c.check_option.ensures.local
