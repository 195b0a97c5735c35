use Rattle.std.proofs.Common.{◌≡◌, ◌∙◌, ◌≤◌, ◌+◌, Bool, refl, sym, ap, subst, IsTrue}
use Rattle.std.specs.Prelude.{if◌then◌else◌}
use Rattle.sector_disk.specs.Disk.{Disk}
use Rattle.journal.specs.BySize.{Means}
use Rattle.journal.specs.Images.{blocks_below}
use Rattle.recovery.specs.Label.{is_size}
use Rattle.recovery.specs.Making.{reads_below}
use Rattle.recovery.proofs.Upgrades.{only_read_then}
use Rattle.shadow.specs.Upgraded.{known_blocks}
use Rattle.journal.specs.Layouts as layouts
use Rattle.image_care.specs.Examined.{reads_to_list}
use Rattle.image_care.specs.Made.{IsMade, MakingLeaves}
use Rattle.image_care.specs.Salvaged.{salvaged_blocks}
use Rattle.image_care.specs.Taken.{IsBest, Notes, reads_by, stands_by, taken_by}
use Rattle.image_care.specs.View.{is_journal}
use Rattle.journal.proofs.Suited.{suits_keeps}
use Rattle.image_care.proofs.Makings.{nothing_made}
use Rattle.image_care.proofs.Salvages.{best_blocks, best_reads, lost_told, others_told, undamaged_meaning, unread}
use Rattle.image_care.proofs.salvaging.salvage.Goals as goal

pub lay-requires-clause-unnoted : goal.lay-requires-clause-unnoted
lay-requires-clause-unnoted g c = (refl, c.nothing_noted.ensures (stands_by c.in_ok-view.view (g.A.SectorDevice.disk c.find_best.new.device).content))

pub returns-in_err-size-clause-new_stops : goal.returns-in_err-size-clause-new_stops
returns-in_err-size-clause-new_stops g c = λ source keeps x since.
    let B = g.B.SectorDevice in
    let new = c.args.new.now in
    nothing_made (B.sector_count new) (salvaged_blocks (B.sector_count new) (g.A.SectorDevice.disk c.args.old.now).content) (B.disk new) x
    (g.met.B.SectorDevice.only_now new x since)

pub returns-in_err-view-clause-new_stops : goal.returns-in_err-view-clause-new_stops
returns-in_err-view-clause-new_stops g c = λ source keeps x since.
    let B = g.B.SectorDevice in
    let new = c.args.new.now in
    nothing_made (B.sector_count new) (salvaged_blocks (B.sector_count new) (g.A.SectorDevice.disk c.args.old.now).content) (B.disk new) x
    (g.met.B.SectorDevice.only_now new x since)

pub returns-in-Ok-clause-others : goal.returns-in-Ok-clause-others
returns-in-Ok-clause-others g c =
    let A = g.A.SectorDevice in
    let B = g.B.SectorDevice in
    let old = c.args.old.now in
    let new = c.args.new.now in
    let from = A.sector_count old in
    let to = B.sector_count new in
    let image = (A.disk old).content in
    let n = c.in_ok-size.size.blocks.number in
    let view = c.in_ok-view.view in
    let sizes = c.in_ok-size.ensures in
    let found = c.in_ok-view.ensures in
    let equal : to ≡ from = sym c.sectors-2.ensures ∙ sizes.same ∙ c.sectors.ensures in
    let layout : is_journal view.listing ≡ is_size from = found.layout ∙ sizes.layout ∙ ap is_size c.sectors.ensures in
    let count : view.blocks.number ≡ known_blocks from = found.count ∙ sizes.count ∙ ap known_blocks c.sectors.ensures in
    λ source.
    let honest : IsTrue (A.keeps_model c.find_best.new.device) = subst IsTrue (sym c.find_best.ensures.only_read.passes.model) source in
    let same = c.find_best.ensures.only_read.disk source in
    let under : IsBest view.listing view.blocks.number image = subst (λ k. IsBest view.listing k image) (sym found.count) (found.best source) in
    let taken = c.lay.new.source.taken in
    λ b below. others_told from image view layout count under view.blocks.few taken.others taken.lost
    (subst (λ (d : Disk). Notes view.blocks.number (stands_by view d.content) taken.others taken.lost) same
    (subst (λ k. Notes k (stands_by view (A.disk c.find_best.new.device).content) taken.others taken.lost) (sym found.count) (c.in-Ok.ensures.noted honest).1)) b below

pub returns-in-Ok-clause-lost : goal.returns-in-Ok-clause-lost
returns-in-Ok-clause-lost g c =
    let A = g.A.SectorDevice in
    let B = g.B.SectorDevice in
    let old = c.args.old.now in
    let new = c.args.new.now in
    let from = A.sector_count old in
    let to = B.sector_count new in
    let image = (A.disk old).content in
    let n = c.in_ok-size.size.blocks.number in
    let view = c.in_ok-view.view in
    let sizes = c.in_ok-size.ensures in
    let found = c.in_ok-view.ensures in
    let equal : to ≡ from = sym c.sectors-2.ensures ∙ sizes.same ∙ c.sectors.ensures in
    let layout : is_journal view.listing ≡ is_size from = found.layout ∙ sizes.layout ∙ ap is_size c.sectors.ensures in
    let count : view.blocks.number ≡ known_blocks from = found.count ∙ sizes.count ∙ ap known_blocks c.sectors.ensures in
    λ source.
    let honest : IsTrue (A.keeps_model c.find_best.new.device) = subst IsTrue (sym c.find_best.ensures.only_read.passes.model) source in
    let same = c.find_best.ensures.only_read.disk source in
    let under : IsBest view.listing view.blocks.number image = subst (λ k. IsBest view.listing k image) (sym found.count) (found.best source) in
    let taken = c.lay.new.source.taken in
    λ b below. lost_told from image view layout count under view.blocks.few taken.others taken.lost
    (subst (λ (d : Disk). Notes view.blocks.number (stands_by view d.content) taken.others taken.lost) same
    (subst (λ k. Notes k (stands_by view (A.disk c.find_best.new.device).content) taken.others taken.lost) (sym found.count) (c.in-Ok.ensures.noted honest).1)) b below

pub returns-in-Ok-clause-new_stops : goal.returns-in-Ok-clause-new_stops
returns-in-Ok-clause-new_stops g c =
    let A = g.A.SectorDevice in
    let B = g.B.SectorDevice in
    let old = c.args.old.now in
    let new = c.args.new.now in
    let from = A.sector_count old in
    let to = B.sector_count new in
    let image = (A.disk old).content in
    let n = c.in_ok-size.size.blocks.number in
    let view = c.in_ok-view.view in
    let sizes = c.in_ok-size.ensures in
    let found = c.in_ok-view.ensures in
    let equal : to ≡ from = sym c.sectors-2.ensures ∙ sizes.same ∙ c.sectors.ensures in
    let layout : is_journal view.listing ≡ is_size from = found.layout ∙ sizes.layout ∙ ap is_size c.sectors.ensures in
    let count : view.blocks.number ≡ known_blocks from = found.count ∙ sizes.count ∙ ap known_blocks c.sectors.ensures in
    λ source keeps x since.
    let honest : IsTrue (A.keeps_model c.find_best.new.device) = subst IsTrue (sym c.find_best.ensures.only_read.passes.model) source in
    let same = c.find_best.ensures.only_read.disk source in
    let under : IsBest view.listing view.blocks.number image = subst (λ k. IsBest view.listing k image) (sym found.count) (found.best source) in
    let blocks : blocks_below (taken_by view (A.disk c.find_best.new.device).content) n ≡ salvaged_blocks to image =
    (λ t. blocks_below (taken_by view (same t).content) (sym found.count t))
    ∙ best_blocks from image view layout count under ∙ ap (λ s. salvaged_blocks s image) (sym equal) in
    subst (λ l. MakingLeaves to l (B.disk new) x) blocks (c.lay.ensures.stops honest keeps x since)

pub returns-in-Err-clause-new_stops : goal.returns-in-Err-clause-new_stops
returns-in-Err-clause-new_stops g c =
    let A = g.A.SectorDevice in
    let B = g.B.SectorDevice in
    let old = c.args.old.now in
    let new = c.args.new.now in
    let from = A.sector_count old in
    let to = B.sector_count new in
    let image = (A.disk old).content in
    let n = c.in_ok-size.size.blocks.number in
    let view = c.in_ok-view.view in
    let sizes = c.in_ok-size.ensures in
    let found = c.in_ok-view.ensures in
    let equal : to ≡ from = sym c.sectors-2.ensures ∙ sizes.same ∙ c.sectors.ensures in
    let layout : is_journal view.listing ≡ is_size from = found.layout ∙ sizes.layout ∙ ap is_size c.sectors.ensures in
    let count : view.blocks.number ≡ known_blocks from = found.count ∙ sizes.count ∙ ap known_blocks c.sectors.ensures in
    λ source keeps x since.
    let honest : IsTrue (A.keeps_model c.find_best.new.device) = subst IsTrue (sym c.find_best.ensures.only_read.passes.model) source in
    let same = c.find_best.ensures.only_read.disk source in
    let under : IsBest view.listing view.blocks.number image = subst (λ k. IsBest view.listing k image) (sym found.count) (found.best source) in
    let blocks : blocks_below (taken_by view (A.disk c.find_best.new.device).content) n ≡ salvaged_blocks to image =
    (λ t. blocks_below (taken_by view (same t).content) (sym found.count t))
    ∙ best_blocks from image view layout count under ∙ ap (λ s. salvaged_blocks s image) (sym equal) in
    subst (λ l. MakingLeaves to l (B.disk new) x) blocks (c.lay.ensures.stops honest keeps x since)

pub returns-in-Ok-clause-after : goal.returns-in-Ok-clause-after
returns-in-Ok-clause-after g c =
    let A = g.A.SectorDevice in
    let B = g.B.SectorDevice in
    let old = c.args.old.now in
    let new = c.args.new.now in
    let from = A.sector_count old in
    let to = B.sector_count new in
    let image = (A.disk old).content in
    let n = c.in_ok-size.size.blocks.number in
    let view = c.in_ok-view.view in
    let sizes = c.in_ok-size.ensures in
    let found = c.in_ok-view.ensures in
    let equal : to ≡ from = sym c.sectors-2.ensures ∙ sizes.same ∙ c.sectors.ensures in
    let layout : is_journal view.listing ≡ is_size from = found.layout ∙ sizes.layout ∙ ap is_size c.sectors.ensures in
    let count : view.blocks.number ≡ known_blocks from = found.count ∙ sizes.count ∙ ap known_blocks c.sectors.ensures in
    λ source keeps.
    let honest : IsTrue (A.keeps_model c.find_best.new.device) = subst IsTrue (sym c.find_best.ensures.only_read.passes.model) source in
    let same = c.find_best.ensures.only_read.disk source in
    let under : IsBest view.listing view.blocks.number image = subst (λ k. IsBest view.listing k image) (sym found.count) (found.best source) in
    let blocks : blocks_below (taken_by view (A.disk c.find_best.new.device).content) n ≡ salvaged_blocks to image =
    (λ t. blocks_below (taken_by view (same t).content) (sym found.count t))
    ∙ best_blocks from image view layout count under ∙ ap (λ s. salvaged_blocks s image) (sym equal) in
    λ x may. subst (λ l. Means to l x) blocks (c.in-Ok.ensures.after honest keeps x may)

pub returns-in-Ok-clause-undamaged : goal.returns-in-Ok-clause-undamaged
returns-in-Ok-clause-undamaged g c = λ source keeps whole x may.
    let from = g.A.SectorDevice.sector_count c.args.old.now in
    let to = g.B.SectorDevice.sector_count c.args.new.now in
    let image = (g.A.SectorDevice.disk c.args.old.now).content in
    let equal : to ≡ from = sym c.sectors-2.ensures ∙ c.in_ok-size.ensures.same ∙ c.sectors.ensures in
    subst (λ l. Means to l x) (ap (λ s. salvaged_blocks s image) equal ∙ undamaged_meaning from image whole) (returns-in-Ok-clause-after g c source keeps x may)

pub returns-in-Ok-clause-made : goal.returns-in-Ok-clause-made
returns-in-Ok-clause-made g c =
    let A = g.A.SectorDevice in
    let B = g.B.SectorDevice in
    let old = c.args.old.now in
    let new = c.args.new.now in
    let from = A.sector_count old in
    let to = B.sector_count new in
    let image = (A.disk old).content in
    let n = c.in_ok-size.size.blocks.number in
    let view = c.in_ok-view.view in
    let sizes = c.in_ok-size.ensures in
    let found = c.in_ok-view.ensures in
    let equal : to ≡ from = sym c.sectors-2.ensures ∙ sizes.same ∙ c.sectors.ensures in
    let layout : is_journal view.listing ≡ is_size from = found.layout ∙ sizes.layout ∙ ap is_size c.sectors.ensures in
    let count : view.blocks.number ≡ known_blocks from = found.count ∙ sizes.count ∙ ap known_blocks c.sectors.ensures in
    λ source keeps.
    let honest : IsTrue (A.keeps_model c.find_best.new.device) = subst IsTrue (sym c.find_best.ensures.only_read.passes.model) source in
    let same = c.find_best.ensures.only_read.disk source in
    let under : IsBest view.listing view.blocks.number image = subst (λ k. IsBest view.listing k image) (sym found.count) (found.best source) in
    let blocks : blocks_below (taken_by view (A.disk c.find_best.new.device).content) n ≡ salvaged_blocks to image =
    (λ t. blocks_below (taken_by view (same t).content) (sym found.count t))
    ∙ best_blocks from image view layout count under ∙ ap (λ s. salvaged_blocks s image) (sym equal) in
    subst (λ l. IsMade to l (B.disk c.lay.new.new)) blocks (c.in-Ok.ensures.made honest keeps)

pub returns-in-Ok-clause-new_units : goal.returns-in-Ok-clause-new_units
returns-in-Ok-clause-new_units g c =
    λ keeps. c.lay.ensures.carries.passes.unit (suits_keeps g.B.SectorDevice g.met.B.SectorDevice.keeps_both c.args.new.now keeps)

pub returns-in-Ok-clause-old_stops : goal.returns-in-Ok-clause-old_stops
returns-in-Ok-clause-old_stops g c =
    only_read_then g.A.SectorDevice c.args.old.now c.find_best.new.device c.lay.new.old g.met.A.SectorDevice.widens
    c.find_best.ensures.only_read c.lay.ensures.carries.source

pub returns-in-Ok-clause-old_reads : goal.returns-in-Ok-clause-old_reads
returns-in-Ok-clause-old_reads g c =
    let A = g.A.SectorDevice in
    let B = g.B.SectorDevice in
    let old = c.args.old.now in
    let new = c.args.new.now in
    let from = A.sector_count old in
    let to = B.sector_count new in
    let image = (A.disk old).content in
    let n = c.in_ok-size.size.blocks.number in
    let view = c.in_ok-view.view in
    let sizes = c.in_ok-size.ensures in
    let found = c.in_ok-view.ensures in
    let equal : to ≡ from = sym c.sectors-2.ensures ∙ sizes.same ∙ c.sectors.ensures in
    let layout : is_journal view.listing ≡ is_size from = found.layout ∙ sizes.layout ∙ ap is_size c.sectors.ensures in
    let count : view.blocks.number ≡ known_blocks from = found.count ∙ sizes.count ∙ ap known_blocks c.sectors.ensures in
    λ source.
    let honest : IsTrue (A.keeps_model c.find_best.new.device) = subst IsTrue (sym c.find_best.ensures.only_read.passes.model) source in
    let same = c.find_best.ensures.only_read.disk source in
    let under : IsBest view.listing view.blocks.number image = subst (λ k. IsBest view.listing k image) (sym found.count) (found.best source) in
    let x = (A.counts old).reads in
    let y = (A.counts c.find_best.new.device).reads in
    let z = (A.counts c.lay.new.old).reads in
    let first : y ≤ x + (if is_size from then reads_to_list view.blocks.number image else 2) =
    subst (λ (l : Bool). y ≤ x + (if l then reads_to_list view.blocks.number image else 2)) (sizes.layout ∙ ap is_size c.sectors.ensures)
    (subst (λ k. y ≤ x + (if layouts.is_journal c.in_ok-size.size.layout then reads_to_list k image else 2)) (sym found.count) (c.find_best.ensures.reads source)) in
    let later : z ≤ y + reads_below (reads_by view image) view.blocks.number =
    subst (λ (d : Disk). z ≤ y + reads_below (reads_by view d.content) view.blocks.number) same
    (subst (λ k. z ≤ y + reads_below (reads_by view (A.disk c.find_best.new.device).content) k) (sym found.count) (c.lay.ensures.reads honest)) in
    best_reads from image view layout count under x y z first later

pub returns-in-Err-clause-new_units : goal.returns-in-Err-clause-new_units
returns-in-Err-clause-new_units g c =
    λ keeps. c.lay.ensures.carries.passes.unit (suits_keeps g.B.SectorDevice g.met.B.SectorDevice.keeps_both c.args.new.now keeps)

pub returns-in-Err-clause-old_stops : goal.returns-in-Err-clause-old_stops
returns-in-Err-clause-old_stops g c =
    only_read_then g.A.SectorDevice c.args.old.now c.find_best.new.device c.lay.new.old g.met.A.SectorDevice.widens
    c.find_best.ensures.only_read c.lay.ensures.carries.source

pub returns-in-Err-clause-old_reads : goal.returns-in-Err-clause-old_reads
returns-in-Err-clause-old_reads g c =
    let A = g.A.SectorDevice in
    let B = g.B.SectorDevice in
    let old = c.args.old.now in
    let new = c.args.new.now in
    let from = A.sector_count old in
    let to = B.sector_count new in
    let image = (A.disk old).content in
    let n = c.in_ok-size.size.blocks.number in
    let view = c.in_ok-view.view in
    let sizes = c.in_ok-size.ensures in
    let found = c.in_ok-view.ensures in
    let equal : to ≡ from = sym c.sectors-2.ensures ∙ sizes.same ∙ c.sectors.ensures in
    let layout : is_journal view.listing ≡ is_size from = found.layout ∙ sizes.layout ∙ ap is_size c.sectors.ensures in
    let count : view.blocks.number ≡ known_blocks from = found.count ∙ sizes.count ∙ ap known_blocks c.sectors.ensures in
    λ source.
    let honest : IsTrue (A.keeps_model c.find_best.new.device) = subst IsTrue (sym c.find_best.ensures.only_read.passes.model) source in
    let same = c.find_best.ensures.only_read.disk source in
    let under : IsBest view.listing view.blocks.number image = subst (λ k. IsBest view.listing k image) (sym found.count) (found.best source) in
    let x = (A.counts old).reads in
    let y = (A.counts c.find_best.new.device).reads in
    let z = (A.counts c.lay.new.old).reads in
    let first : y ≤ x + (if is_size from then reads_to_list view.blocks.number image else 2) =
    subst (λ (l : Bool). y ≤ x + (if l then reads_to_list view.blocks.number image else 2)) (sizes.layout ∙ ap is_size c.sectors.ensures)
    (subst (λ k. y ≤ x + (if layouts.is_journal c.in_ok-size.size.layout then reads_to_list k image else 2)) (sym found.count) (c.find_best.ensures.reads source)) in
    let later : z ≤ y + reads_below (reads_by view image) view.blocks.number =
    subst (λ (d : Disk). z ≤ y + reads_below (reads_by view d.content) view.blocks.number) same
    (subst (λ k. z ≤ y + reads_below (reads_by view (A.disk c.find_best.new.device).content) k) (sym found.count) (c.lay.ensures.reads honest)) in
    best_reads from image view layout count under x y z first later

pub returns-in_err-view-clause-old_reads : goal.returns-in_err-view-clause-old_reads
returns-in_err-view-clause-old_reads g c =
    let A = g.A.SectorDevice in
    let old = c.args.old.now in
    let from = A.sector_count old in
    let n = c.in_ok-size.size.blocks.number in
    let sizes = c.in_ok-size.ensures in
    λ source. unread from (A.disk old).content n (sizes.count ∙ ap known_blocks c.sectors.ensures) _ _
    (subst (λ (l : Bool). (A.counts c.find_best.new.device).reads ≤ (A.counts old).reads + (if l then reads_to_list n (A.disk old).content else 2))
    (sizes.layout ∙ ap is_size c.sectors.ensures) (c.find_best.ensures.reads source))
