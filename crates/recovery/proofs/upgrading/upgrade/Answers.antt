use Rattle.std.proofs.Common.{◌≡◌, ◌+◌, ◌*◌, sym, subst, arith, IsTrue, ◌∙◌, ap, inl, inr, ⊎_elim, None}
use Rattle.std.proofs.lemmas.Result.{on_ok_weaker}
use Rattle.sector_disk.specs.Disk.{MayLeave}
use Rattle.sector_disk.proofs.Moments.{leaves_then}
use Rattle.journal.specs.Calls.{ReadsAtMost, BeginsAtMost}
use Rattle.journal.specs.Images.{meaning, Means}
use Rattle.journal.proofs.Calls.{proceeds_then}
use Rattle.recovery.specs.declared.fault.UpgradeFault.TheVariants.{Old}
use Rattle.recovery.specs.Label.{blocks_in}
use Rattle.recovery.specs.Opened.{writes_for, syncs_for}
use Rattle.recovery.specs.Formatted as formatted
use Rattle.recovery.specs.Upgraded.{OldLeaves, reads_for_1, of_old, size_refusal}
use Rattle.recovery.proofs.Formats.{half_now, making}
use Rattle.recovery.proofs.Recoveries.{reads_1}
use Rattle.recovery.proofs.Upgrades.{old_now, old_by, old_recovered, recovered_homes, recovered_blocks, after_means, upgrade_refused, matched}
use Rattle.recovery.proofs.upgrading.upgrade.Goals as goal

pub returns-in_err-blocks-clause-old_stops : goal.returns-in_err-blocks-clause-old_stops
returns-in_err-blocks-clause-old_stops g c = λ keeps n size x since.
    old_now n (g.A.SectorDevice.disk c.args.old.now) x (g.met.A.SectorDevice.only_now c.args.old.now x since)

pub returns-in_err-blocks-clause-new_stops : goal.returns-in_err-blocks-clause-new_stops
returns-in_err-blocks-clause-new_stops g c = λ source keeps n size x since.
    let d = g.B.SectorDevice.disk c.args.new.now in
    making n d (meaning n (g.A.SectorDevice.disk c.args.old.now).content) x (half_now n d x (g.met.B.SectorDevice.only_now c.args.new.now x since))

pub returns-in-Err-clause-new_stops : goal.returns-in-Err-clause-new_stops
returns-in-Err-clause-new_stops g c = λ source keeps n size x since.
    let d = g.B.SectorDevice.disk c.args.new.now in
    making n d (meaning n (g.A.SectorDevice.disk c.args.old.now).content) x (half_now n d x (g.met.B.SectorDevice.only_now c.args.new.now x since))

pub returns-in-Ok-clause-old_stops : goal.returns-in-Ok-clause-old_stops
returns-in-Ok-clause-old_stops g c = λ keeps n size.
    let A = g.A.SectorDevice in
    let m = c.in_ok-blocks.blocks.number in
    let d = A.disk c.args.old.now in
    let mid = c.recover.new.device in
    let one : m ≡ n = omega (arith, size, c.in_ok-blocks.ensures.old, c.sectors.ensures) in
    let honest : IsTrue (A.keeps_model mid) = subst IsTrue (sym c.recover.ensures.passes.model) (g.met.A.SectorDevice.keeps_both _ keeps) in
    subst (λ k. (x : _) → A.left_since c.carry.new.source (A.time c.args.old.now) x → OldLeaves k d x) one
    (leaves_then A.time A.left_since c.args.old.now mid c.carry.new.source
    (OldLeaves m d) (MayLeave (A.disk mid)) (OldLeaves m d)
    c.recover.ensures.passes.time c.carry.ensures.carries.source.passes.time
    (λ x since. old_by m d (g.met.A.SectorDevice.present c.args.old.now (g.met.A.SectorDevice.keeps_both _ keeps)) c.in_ok-blocks.blocks.many c.in_ok-blocks.ensures.few x (c.recover.ensures.stops keeps x since))
    (c.carry.ensures.carries.source.stops honest)
    (λ x is. is)
    (old_recovered m d (g.met.A.SectorDevice.present c.args.old.now (g.met.A.SectorDevice.keeps_both _ keeps))
    (record { many = c.in_ok-blocks.blocks.many; few = c.in_ok-blocks.ensures.few; label = c.in-Ok.ensures.label keeps })
    (A.disk mid) (c.in-Ok.ensures.ok keeps).recovered (g.met.A.SectorDevice.present mid honest)))

pub returns-in-Ok-clause-new_stops : goal.returns-in-Ok-clause-new_stops
returns-in-Ok-clause-new_stops g c = λ source keeps n size x since.
    let A = g.A.SectorDevice in
    let B = g.B.SectorDevice in
    let m = c.in_ok-blocks.blocks.number in
    let d = A.disk c.args.old.now in
    let one : m ≡ n = omega (arith, size, c.in_ok-blocks.ensures.new, c.sectors-2.ensures) in
    let honest : IsTrue (A.keeps_model c.recover.new.device) = subst IsTrue (sym c.recover.ensures.passes.model) (g.met.A.SectorDevice.keeps_both _ source) in
    let recovered = (c.in-Ok.ensures.ok source).recovered in
    subst (λ k. formatted.MakingLeaves k (meaning k d.content) (B.disk c.args.new.now) x) one
    (subst (λ l. formatted.MakingLeaves m l (B.disk c.args.new.now) x) (recovered_blocks m d (A.disk c.recover.new.device) recovered)
    (c.carry.ensures.stops honest keeps x since))

pub returns-in-Ok-clause-after : goal.returns-in-Ok-clause-after
returns-in-Ok-clause-after g c = λ source keeps.
    let A = g.A.SectorDevice in
    let B = g.B.SectorDevice in
    let m = c.in_ok-blocks.blocks.number in
    let d = A.disk c.args.old.now in
    let now = c.carry.new.target in
    let honest : IsTrue (A.keeps_model c.recover.new.device) = subst IsTrue (sym c.recover.ensures.passes.model) (g.met.A.SectorDevice.keeps_both _ source) in
    let still : IsTrue (B.keeps_sectors now) = subst IsTrue (sym c.carry.ensures.carries.passes.units) keeps in
    let recovered = (c.in-Ok.ensures.ok source).recovered in
    on_ok_weaker c.carry.result
    (λ made n size x may.
    let one : m ≡ n = omega (arith, size, c.in_ok-blocks.ensures.new, c.sectors-2.ensures) in
    subst (λ k. Means (meaning k d.content) x) one
    (after_means m c.in_ok-blocks.blocks.many c.in_ok-blocks.blocks.few (A.disk c.recover.new.device).content (meaning m d.content)
    (recovered_homes m d (A.disk c.recover.new.device) recovered) (B.disk now) (g.met.B.SectorDevice.present now (g.met.B.SectorDevice.keeps_both _ still)) made x may))
    (c.carry.ensures.ok honest keeps)

pub returns-in-Ok-clause-old_passes : goal.returns-in-Ok-clause-old_passes
returns-in-Ok-clause-old_passes g c =
    proceeds_then g.A.SectorDevice c.args.old.now c.recover.new.device c.carry.new.source g.met.A.SectorDevice.widens
    c.recover.ensures.passes c.carry.ensures.carries.source.passes

pub returns-in-Ok-clause-old_reads : goal.returns-in-Ok-clause-old_reads
returns-in-Ok-clause-old_reads g c = λ keeps n size.
    let A = g.A.SectorDevice in
    let old = c.args.old.now in
    let one : c.in_ok-blocks.blocks.number ≡ n = omega (arith, size, c.in_ok-blocks.ensures.old, c.sectors.ensures) in
    subst (λ k. ReadsAtMost A old c.carry.new.source (reads_for_1 k (A.disk old).content + 2 * k)) one
    (omega (arith, reads_1 c.in_ok-blocks.blocks.number (A.disk old).content, c.recover.ensures.reads keeps, c.carry.ensures.reads (subst IsTrue (sym c.recover.ensures.passes.model) (g.met.A.SectorDevice.keeps_both _ keeps))))

pub returns-in-Err-clause-old_reads : goal.returns-in-Err-clause-old_reads
returns-in-Err-clause-old_reads g c = λ keeps n size.
    let A = g.A.SectorDevice in
    let old = c.args.old.now in
    let one : c.in_ok-blocks.blocks.number ≡ n = omega (arith, size, c.in_ok-blocks.ensures.old, c.sectors.ensures) in
    subst (λ k. ReadsAtMost A old c.recover.new.device (reads_for_1 k (A.disk old).content + 2 * k)) one
    (omega (arith, reads_1 c.in_ok-blocks.blocks.number (A.disk old).content, c.recover.ensures.reads keeps))

pub returns-in-Err-clause-old_stops : goal.returns-in-Err-clause-old_stops
returns-in-Err-clause-old_stops g c = λ keeps n size x since.
    let A = g.A.SectorDevice in
    let m = c.in_ok-blocks.blocks.number in
    let d = A.disk c.args.old.now in
    let one : m ≡ n = omega (arith, size, c.in_ok-blocks.ensures.old, c.sectors.ensures) in
    subst (λ k. OldLeaves k d x) one
    (old_by m d (g.met.A.SectorDevice.present c.args.old.now (g.met.A.SectorDevice.keeps_both _ keeps)) c.in_ok-blocks.blocks.many c.in_ok-blocks.ensures.few x (c.recover.ensures.stops keeps x since))

pub returns-in-Err-clause-exact : goal.returns-in-Err-clause-exact
returns-in-Err-clause-exact g c = λ keeps.
    let sectors = g.A.SectorDevice.sector_count c.args.old.now in
    let others = g.B.SectorDevice.sector_count c.args.new.now in
    let n = c.in_ok-blocks.blocks.number in
    let none : size_refusal sectors others ≡ None = (λ t. size_refusal (sym c.sectors.ensures t) (sym c.sectors-2.ensures t)) ∙ c.in_ok-blocks.ensures.exact in
    let count : blocks_in sectors ≡ n = omega (arith, c.in_ok-blocks.ensures.old, c.sectors.ensures) in
    ⊎_elim (λ device. inl (ap Old device))
    (λ refused. inr (inr (upgrade_refused sectors others n ((g.A.SectorDevice.disk c.args.old.now).content 0) none count ∙ ap of_old refused)))
    (c.in-Err.ensures.exact keeps)

pub returns-in-Ok-clause-exact : goal.returns-in-Ok-clause-exact
returns-in-Ok-clause-exact g c = λ keeps.
    let sectors = g.A.SectorDevice.sector_count c.args.old.now in
    let others = g.B.SectorDevice.sector_count c.args.new.now in
    let n = c.in_ok-blocks.blocks.number in
    let none : size_refusal sectors others ≡ None = (λ t. size_refusal (sym c.sectors.ensures t) (sym c.sectors-2.ensures t)) ∙ c.in_ok-blocks.ensures.exact in
    let count : blocks_in sectors ≡ n = omega (arith, c.in_ok-blocks.ensures.old, c.sectors.ensures) in
    matched c.carry.result _ _ _
    (upgrade_refused sectors others n ((g.A.SectorDevice.disk c.args.old.now).content 0) none count ∙ ap of_old (c.in-Ok.ensures.exact keeps))
    (λ e told. ⊎_elim (λ old. inl old.0) (λ new. inr (inl new.0)) told)
    c.carry.ensures.carries.faults

pub returns-in-Ok-clause-old_begins : goal.returns-in-Ok-clause-old_begins
returns-in-Ok-clause-old_begins g c = λ keeps n size.
    let A = g.A.SectorDevice in
    let image = (A.disk c.args.old.now).content in
    let one : c.in_ok-blocks.blocks.number ≡ n = omega (arith, size, c.in_ok-blocks.ensures.old, c.sectors.ensures) in
    let first = c.recover.ensures.begins keeps in
    let then = c.carry.ensures.carries.source.begins in
    subst (λ k. BeginsAtMost A c.args.old.now c.carry.new.source (writes_for k image) (syncs_for image)) one
    (record { few_writes = omega (arith, first.few_writes, then.few_writes); few_syncs = omega (arith, first.few_syncs, then.few_syncs) })
