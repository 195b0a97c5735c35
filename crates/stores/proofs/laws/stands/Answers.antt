use Rattle.stores.proofs.OwnMaps.{own_maps, stands_for_own}
use Rattle.stores.proofs.laws.stands.Goals as goal

pub returns : goal.returns
returns g c =
    let D = g.met.D.SectorDevice in
    λ keeps. (own_maps c.args.store.now, stands_for_own D.present D.keeps_both c.args.store.now keeps)
