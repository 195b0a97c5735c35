use Rattle.std.proofs.Common.{Some, None, subst}
use Rattle.image_care.proofs.whole_copies.read_once.Goals as goal

pub returns-in-Ok-clause-given : goal.returns-in-Ok-clause-given
returns-in-Ok-clause-given g c = λ is.
    subst (λ room. g.R.Readings.gives c.args.readings.now room 0 (Some c.read.new.bytes)) c.requires.long c.in-Ok.ensures.given

pub returns-in-Ok-clause-torn : goal.returns-in-Ok-clause-torn
returns-in-Ok-clause-torn g c = λ is. (
  Some c.read.new.bytes,
  subst (λ room. g.R.Readings.gives c.args.readings.now room 0 (Some c.read.new.bytes)) c.requires.long c.in-Ok.ensures.given,
  c.seen_in.ensures.torn is,
)

pub returns-in-Err-clause-torn : goal.returns-in-Err-clause-torn
returns-in-Err-clause-torn g c = λ is. (
  None,
  subst (λ room. g.R.Readings.gives c.args.readings.now room 0 None) c.requires.long c.in-Err.ensures.failed,
  tt,
)
