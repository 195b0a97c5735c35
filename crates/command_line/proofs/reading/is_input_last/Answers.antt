use Rattle.command_line.proofs.Input.{ends, ends_not, none_ends}
use Rattle.command_line.proofs.reading.is_input_last.Goals as goal

pub returns-in-Some-clause-yes : goal.returns-in-Some-clause-yes
returns-in-Some-clause-yes c = ends _ _ _ c.is_input.result c.in-Some.ensures.cases.0 c.is_input.ensures.yes

pub returns-in-Some-clause-no : goal.returns-in-Some-clause-no
returns-in-Some-clause-no c = ends_not _ _ _ c.is_input.result c.in-Some.ensures.cases.0 c.is_input.ensures.no

pub returns-in-None-clause-no : goal.returns-in-None-clause-no
returns-in-None-clause-no c = none_ends _ c.in-None.ensures.cases
