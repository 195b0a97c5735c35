use Rattle.std.proofs.Common.{◌≡◌, ◌≤◌, ◌+◌, ◌-◌, ◌<◌, ◌^◌, length, drop}
use Rattle.number_io.specs.Digits.{front_digits, converted}
use Rattle.number_io.proofs.digits.convert.Given as goal

abbrev pub invariant-loop-count : goal.invariant-loop-count
invariant-loop-count l = record {
  within : l.count ≤ length l.text;
  small : l.value < 2 ^ 32;
  value : converted l.base l.value (front_digits l.base (drop l.count l.text)) ≡ converted l.base l.d (front_digits l.base l.text);
  count : l.count + length (front_digits l.base (drop l.count l.text)) ≡ length (front_digits l.base l.text);
}

abbrev pub decreases-loop-count : goal.decreases-loop-count
decreases-loop-count l = length l.text - l.count
