use Rattle.hosted.proofs.Staying.{may_stay}
use Rattle.hosted.proofs.opening_tests.saved.Goals as goal

pub save_open_over-requires : goal.save_open_over-requires
save_open_over-requires g c = record { stays = λ keeps. may_stay g.D.SectorDevice c.args.device c.args.store.now c.requires }
