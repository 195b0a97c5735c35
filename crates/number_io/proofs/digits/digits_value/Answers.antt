use Rattle.std.proofs.Common.{◌≡◌, ◌∙◌, sym, arith}
use Rattle.number_io.specs.Digits.{digits_value}
use Rattle.number_io.proofs.Horner.{digits_value_from-empty, digits_value_from-zero, le-digits_value_from-first}
use Rattle.number_io.proofs.digits.digits_value.Goals as goal

pub returns : goal.returns
returns c =
    let e = digits_value_from-empty c.args.base c.loop-rest.value c.loop-rest.rest.now c.in_default.len_below in
    let total : c.loop-rest.value ≡ digits_value c.args.base c.args.digits.now =
    sym e ∙ c.loop-rest.invariant.so_far ∙ digits_value_from-zero c.args.base c.args.digits.now in
    (omega arith, total)

pub returns-in_default-shifted_in : goal.returns-in_default-shifted_in
returns-in_default-shifted_in c = λ small.
    let least = le-digits_value_from-first c.args.base c.loop-rest.value c.loop-rest.rest.now (omega arith) c.in-len1-up.len_at_least in
    let total = c.loop-rest.invariant.so_far ∙ digits_value_from-zero c.args.base c.args.digits.now in
    let d = c.digit.ensures in
    c.in_default-shifted_in.ensures (omega arith)
