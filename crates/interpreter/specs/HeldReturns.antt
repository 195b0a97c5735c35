-- What a return stack that is held ends as, once a loan of it has ended.
use Rattle.std.specs.Prelude.{List}
use Rattle.std.specs.Borrow.{Lends, MutBor, Fml}
use Rattle.stacks.specs.declared.return_stack.Entry.{Entry}
use Rattle.stacks.specs.contracts.return_stack.ReturnStack as stack
use Rattle.interpreter.specs.contracts.held_returns.HeldReturns as held

abbrev pub LendsStack : MutBor (List Entry) → MutBor (List Entry) → Fml
LendsStack returns lent = Lends held.the_row stack.the_row returns lent (λ left. left)
