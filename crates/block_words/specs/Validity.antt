-- That the list of buffers is valid has one proof at most, so a struct may hold it.
use Rattle.std.specs.Prelude.{◌≡◌, ◌≢◌, ℕ, List, [], ◌∷◌}
use Rattle.std.specs.Coded.{×_prop, →_prop, Unit-prop, le_prop}
use Rattle.block_buffers.specs.declared.buffers.Assigned.{Assigned}
use Rattle.block_buffers.specs.Buffers.{IsApart, AreApart, SlotsBelow}

differ-prop : (a b : ℕ) → IsProp (a ≢ b)
differ-prop a b = →_prop {A = a ≡ b} (λ x. absurd x)

IsApart-prop : (x : Assigned) (xs : List Assigned) → IsProp (IsApart x xs)
IsApart-prop x [] a b = Unit-prop a b
IsApart-prop x (y ∷ ys) a b = λ i. (differ-prop x.block y.block a.0 b.0 i, differ-prop x.slot y.slot a.1 b.1 i, IsApart-prop x ys a.2 b.2 i)

pub AreApart-prop : (xs : List Assigned) → IsProp (AreApart xs)
AreApart-prop [] = Unit-prop
AreApart-prop (x ∷ xs) = ×_prop (IsApart-prop x xs) (AreApart-prop xs)

pub SlotsBelow-prop : (n : ℕ) (xs : List Assigned) → IsProp (SlotsBelow n xs)
SlotsBelow-prop n [] = Unit-prop
SlotsBelow-prop n (x ∷ xs) = ×_prop le_prop (SlotsBelow-prop n xs)
