-- A choice by a test.
use Rattle.std.proofs.Common.{◌≡◌, Bool, true, false}
use Rattle.std.specs.Prelude.{MatchBool}

pub at_true : (b : Bool) (P Q : Type 0) → b ≡ true → P → MatchBool b P Q
at_true true P Q is p = p
at_true false P Q is p = absurd (cc)

pub at_false : (b : Bool) (P Q : Type 0) → b ≡ false → Q → MatchBool b P Q
at_false true P Q isnt q = absurd (cc)
at_false false P Q isnt q = q

pub from_true : (b : Bool) (P Q : Type 0) → b ≡ true → MatchBool b P Q → P
from_true true P Q is p = p
from_true false P Q is q = absurd (cc)

pub from_false : (b : Bool) (P Q : Type 0) → b ≡ false → MatchBool b P Q → Q
from_false true P Q isnt p = absurd (cc)
from_false false P Q isnt q = q
