use Rattle.command_line.proofs.reading.run_command.Goals as goal

pub returns-clause-app : goal.returns-clause-app
returns-clause-app c =
    let one = c.command_with-command.ensures.app _ c.image_argument.ensures.rule c.image_argument.ensures.local in
    let two = c.with_argument-command.ensures.app _ _ one c.script_argument.ensures.rule c.script_argument.ensures.local in
    let three = c.with_argument-command-2.ensures.app _ _ two c.load_option.ensures.rule c.load_option.ensures.local in
    let four = c.with_argument-command-3.ensures.app _ _ three c.steps_option.ensures.rule c.steps_option.ensures.local in
    let five = c.with_argument-command-4.ensures.app _ _ four c.strict_option.ensures.rule c.strict_option.ensures.local in
    let six = c.with_argument-command-5.ensures.app _ _ five c.trace_option.ensures.rule c.trace_option.ensures.local in
    c.with_argument.ensures.app _ _ six c.undo_option.ensures.rule c.undo_option.ensures.local

pub returns-clause-local : goal.returns-clause-local
returns-clause-local c =
    let one = c.command_with-command.ensures.local c.image_argument.ensures.local in
    let two = c.with_argument-command.ensures.local one c.script_argument.ensures.local in
    let three = c.with_argument-command-2.ensures.local two c.load_option.ensures.local in
    let four = c.with_argument-command-3.ensures.local three c.steps_option.ensures.local in
    let five = c.with_argument-command-4.ensures.local four c.strict_option.ensures.local in
    let six = c.with_argument-command-5.ensures.local five c.trace_option.ensures.local in
    c.with_argument.ensures.local six c.undo_option.ensures.local
