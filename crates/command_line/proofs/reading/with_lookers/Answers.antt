use Rattle.command_line.proofs.reading.with_lookers.Goals as goal

pub returns-clause-app : goal.returns-clause-app
returns-clause-app c = λ before is.
    let one = c.with_command-command.ensures.app _ _ is c.check_command.ensures.app c.check_command.ensures.local in
    c.with_command.ensures.app _ _ one c.diff_command.ensures.app c.diff_command.ensures.local

pub returns-clause-local : goal.returns-clause-local
returns-clause-local c = λ none.
    let one = c.with_command-command.ensures.local none c.check_command.ensures.local in
    c.with_command.ensures.local one c.diff_command.ensures.local
