use Rattle.interpreter.proofs.forth.Forth.on_definition.Goals as goal

pub returns-in-Literal-clause-alters : goal.returns-in-Literal-clause-alters
returns-in-Literal-clause-alters g c = rw c.in-Literal.is c.literal.ensures.alters

pub returns-in-Build-clause-alters : goal.returns-in-Build-clause-alters
returns-in-Build-clause-alters g c = rw c.in-Build.is c.structure.ensures.alters
