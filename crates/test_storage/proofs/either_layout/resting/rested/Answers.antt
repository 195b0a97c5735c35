use Rattle.std.proofs.Common.{sym}
use Rattle.test_storage.proofs.either_layout.resting.rested.Goals as goal

pub resume-requires-clause-rested : goal.resume-requires-clause-rested
resume-requires-clause-rested c = λ keeps. (
  c.args.store,
  record { on = sym c.into_device-device.ensures.device; names = c.named-is_open.ensures; open_still = c.requires.live; none = c.requires.none },
)
