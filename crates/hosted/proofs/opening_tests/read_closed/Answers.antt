use Rattle.hosted.proofs.Staying.{shut_may_stay}
use Rattle.hosted.proofs.opening_tests.read_closed.Goals as goal

pub read_open_over-requires : goal.read_open_over-requires
read_open_over-requires g c = record { stays = λ keeps. shut_may_stay g.D.SectorDevice c.args.device c.args.store.now c.requires }
