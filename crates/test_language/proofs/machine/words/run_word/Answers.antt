use Rattle.test_language.proofs.Enters.{ready_once}
use Rattle.test_language.proofs.machine.words.run_word.Goals as goal

pub resume-requires : goal.resume-requires
resume-requires c = record { ready = ready_once c.args.code.now c.args.word _ _ _ _ _ _ _ _ c.new-machine.ensures c.new-returns.ensures (c.in-Ok.ensures.entered c.args.code.now) }
