use Rattle.command_line.proofs.reading.with_blocks.Goals as goal

pub returns-clause-app : goal.returns-clause-app
returns-clause-app c = λ before is.
    let one = c.with_command-command.ensures.app _ _ is c.list_command.ensures.app c.list_command.ensures.local in
    let two = c.with_command-command-2.ensures.app _ _ one c.put_command.ensures.app c.put_command.ensures.local in
    let three = c.with_command-command-3.ensures.app _ _ two c.export_command.ensures.app c.export_command.ensures.local in
    c.with_command.ensures.app _ _ three c.import_command.ensures.app c.import_command.ensures.local

pub returns-clause-local : goal.returns-clause-local
returns-clause-local c = λ none.
    let one = c.with_command-command.ensures.local none c.list_command.ensures.local in
    let two = c.with_command-command-2.ensures.local one c.put_command.ensures.local in
    let three = c.with_command-command-3.ensures.local two c.export_command.ensures.local in
    c.with_command.ensures.local three c.import_command.ensures.local
