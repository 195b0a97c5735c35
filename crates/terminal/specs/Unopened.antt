-- What is told where a system doesn't open a file, or doesn't make one.
use Rattle.std.specs.Prelude.{◌≡◌, ◌⊎◌}
use Rattle.terminal.specs.declared.failure.Failure.{Failure}
use Rattle.terminal.specs.declared.failure.Failure.TheVariants.{CannotOpen, Exists, InUse}

-- the system didn't open the file
abbrev pub IsUnopened : Failure → Type 0
IsUnopened failure = (failure ≡ CannotOpen) ⊎ (failure ≡ InUse)

-- the system didn't make the file
abbrev pub IsUnmade : Failure → Type 0
IsUnmade failure = (failure ≡ Exists) ⊎ IsUnopened failure
