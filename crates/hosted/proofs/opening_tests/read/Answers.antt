use Rattle.hosted.proofs.Staying.{may_stay}
use Rattle.hosted.proofs.opening_tests.read.Goals as goal

pub read_open_over-answer-requires : goal.read_open_over-answer-requires
read_open_over-answer-requires g c = record { stays = λ keeps. may_stay g.D.SectorDevice c.args.device c.args.store.now c.requires }
