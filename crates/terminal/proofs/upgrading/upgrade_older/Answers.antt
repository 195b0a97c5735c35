use Rattle.terminal.proofs.Becoming.{blocks_are, upgrades}
use Rattle.terminal.proofs.Copies.{tells}
use Rattle.terminal.proofs.UpgradeLemmas.{in_part}
use Rattle.terminal.proofs.upgrading.upgrade_older.Goals as goal

pub returns-in-Ok-clause-made : goal.returns-in-Ok-clause-made
returns-in-Ok-clause-made g c = λ n size same.
    let did = c.in-Ok.ensures in
    upgrades g.D.SectorDevice c.args.old.now c.upgrade.new.old c.args.new.now c.upgrade.new.new n (blocks_are _ n size) size same
    did.old_passes did.new_passes did.old_stops did.new_stops did.after

pub returns-in-Err-clause-failed : goal.returns-in-Err-clause-failed
returns-in-Err-clause-failed g c = λ n size same.
    let did = c.in-Err.ensures in
    in_part g.D.SectorDevice c.from.result c.args.old.now c.upgrade.new.old c.args.new.now c.upgrade.new.new n (blocks_are _ n size) size same
    did.old_passes did.new_passes did.old_stops did.new_stops
    (tells g.D.SectorDevice g.D.SectorDevice _ _ c.from.result c.in-Err.fault c.args.old.now c.upgrade.new.old c.args.new.now c.upgrade.new.new
    c.from.ensures did.old_device did.new_device did.old_well did.new_well did.new_same did.exact)
