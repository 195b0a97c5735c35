-- What the data stack ends as, once a loan of its places has ended.
use Rattle.std.specs.Prelude.{ℕ, List}
use Rattle.std.specs.List.{refill}
use Rattle.std.specs.Borrow.{Lends, MutBor, Fml, Array, u16}
use Rattle.stacks.specs.Places.{stack_in}
use Rattle.stacks.specs.contracts.data_stack.DataStack.{the_row}

-- all 256 cells that the loan left in its places: as it keeps their number, `refill` changes nothing
abbrev pub LendsPlaces : MutBor (List ℕ) → MutBor (List ℕ) → Fml
LendsPlaces stack places = Lends the_row (Array u16 0) stack places (λ left. stack_in (refill 257 places.now left) 256)
