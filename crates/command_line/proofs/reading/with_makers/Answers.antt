use Rattle.command_line.proofs.reading.with_makers.Goals as goal

pub returns-clause-app : goal.returns-clause-app
returns-clause-app c = λ before is.
    let one = c.with_command-command.ensures.app _ _ is c.upgrade_command.ensures.app c.upgrade_command.ensures.local in
    let two = c.with_command-command-2.ensures.app _ _ one c.copy_command.ensures.app c.copy_command.ensures.local in
    c.with_command.ensures.app _ _ two c.salvage_command.ensures.app c.salvage_command.ensures.local

pub returns-clause-local : goal.returns-clause-local
returns-clause-local c = λ none.
    let one = c.with_command-command.ensures.local none c.upgrade_command.ensures.local in
    let two = c.with_command-command-2.ensures.local one c.copy_command.ensures.local in
    c.with_command.ensures.local two c.salvage_command.ensures.local
