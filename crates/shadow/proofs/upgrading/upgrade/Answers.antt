use Rattle.std.proofs.Common.{◌≡◌, ◌∙◌, ◌+◌, ◌*◌, inl, inr, ⊎_elim, None, sym, ap, subst, arith, rules, IsTrue}
use Rattle.std.proofs.lemmas.Result.{on_ok_weaker}
use Rattle.sector_disk.specs.Disk.{MayLeave}
use Rattle.sector_disk.proofs.Moments.{leaves_then}
use Rattle.journal.specs.Calls.{ReadsAtMost}
use Rattle.journal.specs.Images as older
use Rattle.journal.proofs.Calls as journal
use Rattle.recovery.specs.Upgraded.{of_old}
use Rattle.recovery.specs.declared.fault.UpgradeFault.TheVariants.{Old}
use Rattle.shadow.specs.Formatted.{MakingLeaves, IsFilled}
use Rattle.journal.specs.PageImages.{Means}
use Rattle.journal.specs.PageLayout.{label_of}
use Rattle.shadow.specs.Upgraded.{known_blocks, older_refusal, upgrade_refusal, found_of, found_blocks, reads_to_list}
use Rattle.shadow.proofs.Formats.{half_now, making}
use Rattle.shadow.proofs.Upgrades.{are_found, made_stays, taken_blocks, taken_bytes, settled_left, upgrade_refused, anyway}
use Rattle.shadow.proofs.upgrading.upgrade.Goals as goal

pub returns-in_err-blocks-clause-new_stops : goal.returns-in_err-blocks-clause-new_stops
returns-in_err-blocks-clause-new_stops g c = λ source keeps n size x since.
    let d = g.B.SectorDevice.disk c.args.new.now in
    making n d (older.meaning n (g.A.SectorDevice.disk c.args.old.now).content) x (half_now n d x (g.met.B.SectorDevice.only_now c.args.new.now x since))

pub returns-in-Err-clause-new_stops : goal.returns-in-Err-clause-new_stops
returns-in-Err-clause-new_stops g c = λ source keeps n size x since.
    let d = g.B.SectorDevice.disk c.args.new.now in
    making n d (older.meaning n (g.A.SectorDevice.disk c.args.old.now).content) x (half_now n d x (g.met.B.SectorDevice.only_now c.args.new.now x since))

pub returns-in-Ok-clause-new_stops : goal.returns-in-Ok-clause-new_stops
returns-in-Ok-clause-new_stops g c = λ source keeps n size x since.
    let A = g.A.SectorDevice in
    let m = c.in_ok-blocks.blocks.number in
    let d = A.disk c.args.old.now in
    let e = g.B.SectorDevice.disk c.args.new.now in
    let mid = c.find.new.device in
    let one : m ≡ n = omega (arith, size, c.in_ok-blocks.ensures.new, c.sectors-2.ensures) in
    let honest : IsTrue (A.keeps_model mid) = subst IsTrue (sym c.find.ensures.passes.model) source in
    subst (λ k. MakingLeaves k (older.meaning k d.content) e x) one
    (subst (λ l. MakingLeaves m l e x) (taken_blocks m c.find.new.listing d (A.disk mid) (c.in-Ok.ensures.ok source) (c.in-Ok.ensures.listing source))
    (c.carry.ensures.stops honest keeps x since))

pub returns-in-Ok-clause-after : goal.returns-in-Ok-clause-after
returns-in-Ok-clause-after g c = λ source keeps.
    let A = g.A.SectorDevice in
    let B = g.B.SectorDevice in
    let m = c.in_ok-blocks.blocks.number in
    let d = A.disk c.args.old.now in
    let mid = c.find.new.device in
    let now = c.carry.new.target in
    let listing = c.find.new.listing in
    let from = (A.disk mid).content in
    let honest : IsTrue (A.keeps_model mid) = subst IsTrue (sym c.find.ensures.passes.model) source in
    let still : IsTrue (B.keeps_model now) = subst IsTrue (sym c.carry.ensures.carries.passes.model) keeps in
    on_ok_weaker c.carry.result
    (λ made n size x may.
    let one : m ≡ n = omega (arith, size, c.in_ok-blocks.ensures.new, c.sectors-2.ensures) in
    subst (λ k. Means (older.meaning k d.content) x) one
    (subst (λ l. Means l x) (taken_blocks m listing d (A.disk mid) (c.in-Ok.ensures.ok source) (c.in-Ok.ensures.listing source))
    (made_stays m (found_blocks m listing from) c.in_ok-blocks.blocks.many c.in_ok-blocks.blocks.few (found_of m listing from) (are_found m listing from)
    (B.disk now) (g.met.B.SectorDevice.present now still) made x may)))
    (c.carry.ensures.ok honest keeps)

pub returns-in-Ok-clause-opens : goal.returns-in-Ok-clause-opens
returns-in-Ok-clause-opens g c = λ source keeps.
    let B = g.B.SectorDevice in
    let now = c.carry.new.target in
    let still : IsTrue (B.keeps_model now) = subst IsTrue (sym c.carry.ensures.carries.passes.model) keeps in
    on_ok_weaker c.carry.result
    (λ left n size. left n size (B.disk now).content (g.met.B.SectorDevice.present now still))
    (returns-in-Ok-clause-after g c source keeps)

pub returns-in-Ok-clause-filled : goal.returns-in-Ok-clause-filled
returns-in-Ok-clause-filled g c = λ source keeps.
    let A = g.A.SectorDevice in
    let m = c.in_ok-blocks.blocks.number in
    let d = A.disk c.args.old.now in
    let mid = c.find.new.device in
    let image = (g.B.SectorDevice.disk c.carry.new.target).content in
    let honest : IsTrue (A.keeps_model mid) = subst IsTrue (sym c.find.ensures.passes.model) source in
    on_ok_weaker c.carry.result
    (λ made n size.
    let one : m ≡ n = omega (arith, size, c.in_ok-blocks.ensures.new, c.sectors-2.ensures) in
    subst (λ k. IsFilled k (older.block_of k d.content) image) one
    (subst (λ f. IsFilled m f image) (taken_bytes m c.find.new.listing d (A.disk mid) (c.in-Ok.ensures.ok source) (c.in-Ok.ensures.listing source)) made.filled))
    (c.carry.ensures.ok honest keeps)

pub returns-in-Ok-clause-label : goal.returns-in-Ok-clause-label
returns-in-Ok-clause-label g c = λ source keeps.
    let A = g.A.SectorDevice in
    let m = c.in_ok-blocks.blocks.number in
    let honest : IsTrue (A.keeps_model c.find.new.device) = subst IsTrue (sym c.find.ensures.passes.model) source in
    on_ok_weaker c.carry.result
    (λ made n size.
    let one : m ≡ n = omega (arith, size, c.in_ok-blocks.ensures.new, c.sectors-2.ensures) in
    made.label ∙ ap label_of one)
    (c.carry.ensures.ok honest keeps)

pub returns-in-Ok-clause-synced : goal.returns-in-Ok-clause-synced
returns-in-Ok-clause-synced g c = λ source keeps.
    let honest : IsTrue (g.A.SectorDevice.keeps_model c.find.new.device) = subst IsTrue (sym c.find.ensures.passes.model) source in
    on_ok_weaker c.carry.result (λ made. made.synced) (c.carry.ensures.ok honest keeps)

pub returns-in-Ok-clause-old_disk : goal.returns-in-Ok-clause-old_disk
returns-in-Ok-clause-old_disk g c = λ source.
    let honest : IsTrue (g.A.SectorDevice.keeps_model c.find.new.device) = subst IsTrue (sym c.find.ensures.passes.model) source in
    anyway c.carry.result _ (c.carry.ensures.carries.source.disk honest ∙ c.in-Ok.ensures.ok source)

pub returns-in_err-blocks-clause-old_stops : goal.returns-in_err-blocks-clause-old_stops
returns-in_err-blocks-clause-old_stops g c = λ keeps x since. g.met.A.SectorDevice.only_now c.args.old.now x since

pub returns-in-Ok-clause-old_stops : goal.returns-in-Ok-clause-old_stops
returns-in-Ok-clause-old_stops g c = λ keeps.
    let A = g.A.SectorDevice in
    let old = c.args.old.now in
    let mid = c.find.new.device in
    let d = A.disk old in
    let honest : IsTrue (A.keeps_model mid) = subst IsTrue (sym c.find.ensures.passes.model) keeps in
    leaves_then A.time A.left_since old mid c.carry.new.source
    (MayLeave d) (MayLeave (A.disk mid)) (MayLeave d)
    c.find.ensures.passes.time c.carry.ensures.carries.source.passes.time (c.find.ensures.stops keeps) (c.carry.ensures.carries.source.stops honest)
    (λ x may. may)
    (settled_left d (A.disk mid) (g.met.A.SectorDevice.present old keeps) (c.in-Ok.ensures.ok keeps))

pub returns-in-Ok-clause-old_passes : goal.returns-in-Ok-clause-old_passes
returns-in-Ok-clause-old_passes g c =
    journal.proceeds_then g.A.SectorDevice c.args.old.now c.find.new.device c.carry.new.source g.met.A.SectorDevice.widens
    c.find.ensures.passes c.carry.ensures.carries.source.passes

pub returns-in-Ok-clause-exact : goal.returns-in-Ok-clause-exact
returns-in-Ok-clause-exact g c = λ source.
    let image = (g.A.SectorDevice.disk c.args.old.now).content in
    let none : upgrade_refusal c.sectors.result c.sectors-2.result image ≡ None =
    upgrade_refused c.sectors.result c.sectors-2.result c.in_ok-blocks.blocks.number image c.in_ok-blocks.ensures.old c.in_ok-blocks.ensures.exact
    ∙ (λ t. of_old (older_refusal c.in_ok-blocks.blocks.number (c.sectors.ensures t) image)) ∙ ap of_old (c.in-Ok.ensures.exact source) in
    search rules

pub returns-in-Err-clause-exact : goal.returns-in-Err-clause-exact
returns-in-Err-clause-exact g c = λ source.
    let image = (g.A.SectorDevice.disk c.args.old.now).content in
    ⊎_elim
    (λ device. inl (ap Old device))
    (λ found. inr (inr (
    (λ t. upgrade_refusal (sym c.sectors.ensures t) (sym c.sectors-2.ensures t) image)
    ∙ upgrade_refused c.sectors.result c.sectors-2.result c.in_ok-blocks.blocks.number image c.in_ok-blocks.ensures.old c.in_ok-blocks.ensures.exact
    ∙ (λ t. of_old (older_refusal c.in_ok-blocks.blocks.number (c.sectors.ensures t) image)) ∙ ap of_old found)))
    (c.in-Err.ensures.exact source)

pub returns-in-Ok-clause-old_reads : goal.returns-in-Ok-clause-old_reads
returns-in-Ok-clause-old_reads g c = λ keeps.
    let A = g.A.SectorDevice in
    let old = c.args.old.now in
    let one : c.in_ok-blocks.blocks.number ≡ known_blocks (A.sector_count old) = sym c.in_ok-blocks.ensures.old ∙ ap known_blocks c.sectors.ensures in
    subst (λ k. ReadsAtMost A old c.carry.new.source (reads_to_list k (A.disk old).content + 2 * k + 1)) one
    (omega (arith, c.find.ensures.reads keeps, c.carry.ensures.reads (subst IsTrue (sym c.find.ensures.passes.model) keeps)))

pub returns-in-Err-clause-old_reads : goal.returns-in-Err-clause-old_reads
returns-in-Err-clause-old_reads g c = λ keeps.
    let A = g.A.SectorDevice in
    let old = c.args.old.now in
    let one : c.in_ok-blocks.blocks.number ≡ known_blocks (A.sector_count old) = sym c.in_ok-blocks.ensures.old ∙ ap known_blocks c.sectors.ensures in
    subst (λ k. ReadsAtMost A old c.find.new.device (reads_to_list k (A.disk old).content + 2 * k + 1)) one
    (omega (arith, c.find.ensures.reads keeps))

pub returns-in-Ok-clause-new_passes : goal.returns-in-Ok-clause-new_passes
returns-in-Ok-clause-new_passes g c = c.carry.ensures.carries.passes
