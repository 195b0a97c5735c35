use Rattle.command_line.proofs.reading.forth83.Goals as goal

pub returns-clause-app : goal.returns-clause-app
returns-clause-app c =
    let one = c.with_command-command.ensures.app _ _ c.program.ensures.app c.new_command.ensures.app c.new_command.ensures.local in
    let two = c.with_command-command-2.ensures.app _ _ one c.run_command.ensures.app c.run_command.ensures.local in
    c.with_makers.ensures.app _ (c.with_lookers-command.ensures.app _ (c.with_blocks.ensures.app _ two))

pub returns-clause-local : goal.returns-clause-local
returns-clause-local c =
    let one = c.with_command-command.ensures.local c.program.ensures.local c.new_command.ensures.local in
    let two = c.with_command-command-2.ensures.local one c.run_command.ensures.local in
    c.with_makers.ensures.local (c.with_lookers-command.ensures.local (c.with_blocks.ensures.local two))
