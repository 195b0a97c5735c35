use Rattle.terminal.proofs.Found.{any_moment_import_then_run, any_moment_put_then_run, any_moment_then_run, broken_then_run, chain, ended, fault_then_run, import_then_run, new_then_import, put_then_run, run_then_export, run_then_run, stopped, stopped_import_then_run, stopped_put_then_run, stopped_recovery, stopped_run_then_run}
use Rattle.terminal.proofs.laws.again.Goals as goal

pub returns-clause-stopped : goal.returns-clause-stopped
returns-clause-stopped g c =
    let D = g.met.D.SectorDevice in stopped g.D.SectorDevice D.present D.keeps_both D.only_now

pub returns-clause-ended : goal.returns-clause-ended
returns-clause-ended g c =
    let D = g.met.D.SectorDevice in ended g.D.SectorDevice D.present D.keeps_both D.only_now

pub returns-clause-stopped_recovery : goal.returns-clause-stopped_recovery
returns-clause-stopped_recovery g c =
    let D = g.met.D.SectorDevice in stopped_recovery g.D.SectorDevice D.present D.keeps_both D.only_now

pub returns-clause-new_then_import : goal.returns-clause-new_then_import
returns-clause-new_then_import g c = λ world.
    let D = g.met.D.SectorDevice in
    new_then_import g.D.SectorDevice D.present D.keeps_both D.only_now (g.X.World.gives world).is_text

pub returns-clause-import_then_run : goal.returns-clause-import_then_run
returns-clause-import_then_run g c = λ world.
    let D = g.met.D.SectorDevice in
    import_then_run g.D.SectorDevice D.present D.keeps_both D.only_now (g.X.World.gives world).is_text

pub returns-clause-stopped_import_then_run : goal.returns-clause-stopped_import_then_run
returns-clause-stopped_import_then_run g c = λ world.
    let D = g.met.D.SectorDevice in
    stopped_import_then_run g.D.SectorDevice D.present D.keeps_both D.only_now (g.X.World.gives world).is_text

pub returns-clause-any_moment_import_then_run : goal.returns-clause-any_moment_import_then_run
returns-clause-any_moment_import_then_run g c = λ world.
    let D = g.met.D.SectorDevice in
    any_moment_import_then_run g.D.SectorDevice D.present D.keeps_both D.only_now (g.X.World.gives world).is_text

pub returns-clause-put_then_run : goal.returns-clause-put_then_run
returns-clause-put_then_run g c = λ world.
    let D = g.met.D.SectorDevice in
    put_then_run g.D.SectorDevice D.present D.keeps_both D.only_now (g.X.World.gives world).is_text

pub returns-clause-stopped_put_then_run : goal.returns-clause-stopped_put_then_run
returns-clause-stopped_put_then_run g c = λ world.
    let D = g.met.D.SectorDevice in
    stopped_put_then_run g.D.SectorDevice D.present D.keeps_both D.only_now (g.X.World.gives world).is_text

pub returns-clause-any_moment_put_then_run : goal.returns-clause-any_moment_put_then_run
returns-clause-any_moment_put_then_run g c = λ world.
    let D = g.met.D.SectorDevice in
    any_moment_put_then_run g.D.SectorDevice D.present D.keeps_both D.only_now (g.X.World.gives world).is_text

pub returns-clause-run_then_run : goal.returns-clause-run_then_run
returns-clause-run_then_run g c =
    let D = g.met.D.SectorDevice in run_then_run g.D.SectorDevice D.present D.keeps_both D.only_now

pub returns-clause-stopped_run_then_run : goal.returns-clause-stopped_run_then_run
returns-clause-stopped_run_then_run g c =
    let D = g.met.D.SectorDevice in stopped_run_then_run g.D.SectorDevice D.present D.keeps_both D.only_now

pub returns-clause-any_moment_then_run : goal.returns-clause-any_moment_then_run
returns-clause-any_moment_then_run g c =
    let D = g.met.D.SectorDevice in any_moment_then_run g.D.SectorDevice D.present D.keeps_both D.only_now

pub returns-clause-broken_then_run : goal.returns-clause-broken_then_run
returns-clause-broken_then_run g c =
    let D = g.met.D.SectorDevice in broken_then_run g.D.SectorDevice D.present D.keeps_both D.only_now

pub returns-clause-fault_then_run : goal.returns-clause-fault_then_run
returns-clause-fault_then_run g c = λ world.
    let D = g.met.D.SectorDevice in
    fault_then_run g.D.SectorDevice D.present D.keeps_both D.only_now (g.X.World.gives world).is_text

pub returns-clause-run_then_export : goal.returns-clause-run_then_export
returns-clause-run_then_export g c =
    let D = g.met.D.SectorDevice in run_then_export g.D.SectorDevice D.present D.keeps_both D.only_now

pub returns-clause-chain : goal.returns-clause-chain
returns-clause-chain g c = λ world.
    let D = g.met.D.SectorDevice in
    chain g.D.SectorDevice D.present D.keeps_both D.only_now (g.X.World.gives world).is_text
