use Rattle.test_language.proofs.Sound.{sound_opened}
use Rattle.test_language.proofs.machine.leave.begin.Goals as goal

pub returns : goal.returns
returns c = sound_opened c.args.compiler.now c.begin.new.self _ c.args.code.now c.begin.result c.requires c.begin.ensures.opened c.begin.ensures.refused
