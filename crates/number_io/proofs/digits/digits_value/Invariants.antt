use Rattle.std.proofs.Common.{◌≡◌, ◌<◌, ◌^◌, IsTrue, length}
use Rattle.std.specs.List.{list_all}
use Rattle.number_io.specs.Digits.{is_digit}
use Rattle.number_io.proofs.Horner.{digits_value_from}
use Rattle.number_io.proofs.digits.digits_value.Given as goal

abbrev pub invariant-loop-rest : goal.invariant-loop-rest
invariant-loop-rest l = record {
  small : l.value < 2 ^ 32;
  so_far : digits_value_from l.base l.value l.rest ≡ digits_value_from l.base 0 l.digits;
  are_digits : IsTrue (list_all (is_digit l.base) l.rest);
}

abbrev pub decreases-loop-rest : goal.decreases-loop-rest
decreases-loop-rest l = length l.rest
