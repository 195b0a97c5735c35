use Rattle.std.proofs.Common.{◌≡◌, ◌<◌, ◌*◌, arith}
use Rattle.std.proofs.lemmas.Grind.{common_steps}
use Rattle.image_care.proofs.Retries.{none_then, one_then}
use Rattle.image_care.proofs.whole_copies.+read_until_whole.Goals as goal

pub returns-then-tries-eq0-clause-torn : goal.returns-then-tries-eq0-clause-torn
returns-then-tries-eq0-clause-torn g t c = λ is k below.
    let none : c.args.tries ≡ 0 = grind (arith, common_steps) in
    absurd (omega (arith, below, none))

pub returns-in-Whole-clause-whole : goal.returns-in-Whole-clause-whole
returns-in-Whole-clause-whole g t c = λ is. c.read_once.ensures.whole c.in-Whole.is

pub returns-in-Whole-clause-given : goal.returns-in-Whole-clause-given
returns-in-Whole-clause-given g t c = λ is.
    let some : 0 < c.args.tries = grind (arith, common_steps) in
    (0, some, c.read_once.ensures.given c.in-Whole.is)

pub returns-in-Torn-clause-given : goal.returns-in-Torn-clause-given
returns-in-Torn-clause-given g t c = λ is.
    let room = 512 * c.args.sectors in
    one_then (g.R.Readings.gives c.args.readings.now room) (g.R.Readings.gives c.read_once.new.readings room) (c.read_once.ensures.later room)
    c.args.tries c.read_until_whole.new.bytes (c.read_until_whole.ensures.given is)

pub returns-in-Torn-clause-torn : goal.returns-in-Torn-clause-torn
returns-in-Torn-clause-torn g t c = λ is.
    let room = 512 * c.args.sectors in
    none_then (g.R.Readings.gives c.args.readings.now room) (g.R.Readings.gives c.read_once.new.readings room) (c.read_once.ensures.later room)
    c.args.sectors c.args.tries (c.read_once.ensures.torn c.in-Torn.is) (c.read_until_whole.ensures.torn is)
