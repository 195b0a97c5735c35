-- An argument of a command line, as it is built.
use Rattle.std.proofs.Common.{◌≡◌, Option, Some, None, ap}
use Rattle.std.specs.Prelude.{IsSomeAnd}

-- what an option holds
pub some_is : {T : Type 0} (o : Option T) (x : T) → IsSomeAnd o (λ y. y ≡ x) → o ≡ Some x
some_is None x is = absurd is
some_is (Some y) x is = ap (λ z. Some z) is
