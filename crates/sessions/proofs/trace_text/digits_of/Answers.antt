use Rattle.std.proofs.Common.{ap, arith}
use Rattle.std.specs.Prelude.{length}
use Rattle.sessions.proofs.TraceLemmas.{short_number, whole_number}
use Rattle.sessions.proofs.trace_text.digits_of.Goals as goal

pub returns-clause-value : goal.returns-clause-value
returns-clause-value c = whole_number c.args.number c.new-text.result c.digits.new.self c.new-text.ensures c.digits.ensures.after c.ranges.number.fits

pub returns-clause-short : goal.returns-clause-short
returns-clause-short c =
    let value = returns-clause-value c in
    let short = short_number c.args.number c.ranges.number.fits in
    omega (arith, ap length value, short)
