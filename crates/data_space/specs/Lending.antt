-- What data space ends as, once a loan of its bytes has ended. As a loan keeps its length, `refill` changes nothing.
use Rattle.std.specs.Prelude.{ℕ, List, length}
use Rattle.std.specs.List.{refill}
use Rattle.std.specs.Borrow.{Lends, MutBor, Fml, Array, u8}
use Rattle.data_space.specs.Space.{with_bytes, buffer_at}
use Rattle.data_space.specs.contracts.space.DataSpace.{the_row}

-- the bytes that the loan left
abbrev pub LendsBytes : MutBor (List ℕ) → MutBor (List ℕ) → Fml
LendsBytes space r = Lends the_row (Array u8 0) space r (λ left. refill 65536 space.now left)

-- with the bytes that the loan left in a block buffer
abbrev pub LendsBuffer : MutBor (List ℕ) → ℕ → MutBor (List ℕ) → Fml
LendsBuffer space slot r =
    Lends the_row (Array u8 0) space r (λ bytes. refill (length space.now) space.now (with_bytes space.now (buffer_at slot) bytes))
