use Rattle.std.proofs.Common.{◌≡◌, ◌∙◌, ◌≤◌, inl, inr, ⊎_elim, None, sym, ap, subst, arith, rules, IsTrue}
use Rattle.std.proofs.lemmas.Result.{on_ok_weaker}
use Rattle.journal.specs.BySize.{Means}
use Rattle.journal.specs.Suits.{suits}
use Rattle.journal.proofs.Suited.{stays, suits_keeps}
use Rattle.recovery.specs.Upgraded.{of_old}
use Rattle.recovery.specs.declared.fault.UpgradeFault.TheVariants.{Old}
use Rattle.recovery.proofs.HomesMade.{given_reads}
use Rattle.recovery.proofs.Upgrades.{only_read_then}
use Rattle.shadow.specs.Upgraded.{known_blocks}
use Rattle.image_care.specs.Copied.{copied_blocks, copy_refusal, copy_size_refusal}
use Rattle.image_care.specs.Made.{IsMade, MakingLeaves}
use Rattle.image_care.proofs.Copies.{copy_blocks, copy_refused}
use Rattle.image_care.proofs.Makings.{nothing_made}
use Rattle.image_care.proofs.copying.copy.Goals as goal

pub returns-in_err-size-clause-new_stops : goal.returns-in_err-size-clause-new_stops
returns-in_err-size-clause-new_stops g c = λ source keeps x since.
    let A = g.A.SectorDevice in
    let B = g.B.SectorDevice in
    let old = c.args.old.now in
    let new = c.args.new.now in
    nothing_made (B.sector_count new) (copied_blocks (A.sector_count old) (B.sector_count new) (A.disk old).content) (B.disk new) x
    (g.met.B.SectorDevice.only_now new x since)

pub returns-in-Err-clause-new_stops : goal.returns-in-Err-clause-new_stops
returns-in-Err-clause-new_stops g c = λ source keeps x since.
    let A = g.A.SectorDevice in
    let B = g.B.SectorDevice in
    let old = c.args.old.now in
    let new = c.args.new.now in
    nothing_made (B.sector_count new) (copied_blocks (A.sector_count old) (B.sector_count new) (A.disk old).content) (B.disk new) x
    (g.met.B.SectorDevice.only_now new x since)

pub returns-in-Ok-clause-new_stops : goal.returns-in-Ok-clause-new_stops
returns-in-Ok-clause-new_stops g c =
    let A = g.A.SectorDevice in
    let B = g.B.SectorDevice in
    let old = c.args.old.now in
    let new = c.args.new.now in
    let from = A.sector_count old in
    let to = B.sector_count new in
    let sizes = c.in_ok-size.ensures in
    λ source keeps x since.
    let honest : IsTrue (A.keeps_model c.look.new.device) = subst IsTrue (sym c.look.ensures.passes.model) source in
    let blocks = copy_blocks c.in-Ok.view from to c.in_ok-size.size.blocks.number (A.disk old) (A.disk c.look.new.device) c.in-Ok.ensures.count
    (sizes.count ∙ ap known_blocks c.sectors-2.ensures) (omega (arith, sizes.grows, ap known_blocks c.sectors.ensures, ap known_blocks c.sectors-2.ensures))
    (c.look.ensures.disk source) (c.in-Ok.ensures.blocks source) in
    subst (λ l. MakingLeaves to l (B.disk new) x) blocks (c.lay.ensures.stops honest keeps x since)

pub returns-in-Ok-clause-after : goal.returns-in-Ok-clause-after
returns-in-Ok-clause-after g c =
    let A = g.A.SectorDevice in
    let B = g.B.SectorDevice in
    let old = c.args.old.now in
    let new = c.args.new.now in
    let from = A.sector_count old in
    let to = B.sector_count new in
    let sizes = c.in_ok-size.ensures in
    λ source keeps.
    let honest : IsTrue (A.keeps_model c.look.new.device) = subst IsTrue (sym c.look.ensures.passes.model) source in
    let blocks = copy_blocks c.in-Ok.view from to c.in_ok-size.size.blocks.number (A.disk old) (A.disk c.look.new.device) c.in-Ok.ensures.count
    (sizes.count ∙ ap known_blocks c.sectors-2.ensures) (omega (arith, sizes.grows, ap known_blocks c.sectors.ensures, ap known_blocks c.sectors-2.ensures))
    (c.look.ensures.disk source) (c.in-Ok.ensures.blocks source) in
    on_ok_weaker c.lay.result (λ left x may. subst (λ l. Means to l x) blocks (left x may)) (c.lay.ensures.after honest keeps)

pub returns-in-Ok-clause-opens : goal.returns-in-Ok-clause-opens
returns-in-Ok-clause-opens g c = λ source keeps.
    let B = g.B.SectorDevice in
    let now = c.lay.new.new in
    let run = c.lay.ensures.carries.passes in
    let still : IsTrue (suits B now) = subst IsTrue (sym (stays B c.args.new.now now run.sectors run.model run.units)) keeps in
    on_ok_weaker c.lay.result
    (λ left. left (B.disk now).content (g.met.B.SectorDevice.present now (suits_keeps B g.met.B.SectorDevice.keeps_both now still)))
    (returns-in-Ok-clause-after g c source keeps)

pub returns-in-Ok-clause-made : goal.returns-in-Ok-clause-made
returns-in-Ok-clause-made g c =
    let A = g.A.SectorDevice in
    let B = g.B.SectorDevice in
    let old = c.args.old.now in
    let new = c.args.new.now in
    let from = A.sector_count old in
    let to = B.sector_count new in
    let sizes = c.in_ok-size.ensures in
    λ source keeps.
    let honest : IsTrue (A.keeps_model c.look.new.device) = subst IsTrue (sym c.look.ensures.passes.model) source in
    let blocks = copy_blocks c.in-Ok.view from to c.in_ok-size.size.blocks.number (A.disk old) (A.disk c.look.new.device) c.in-Ok.ensures.count
    (sizes.count ∙ ap known_blocks c.sectors-2.ensures) (omega (arith, sizes.grows, ap known_blocks c.sectors.ensures, ap known_blocks c.sectors-2.ensures))
    (c.look.ensures.disk source) (c.in-Ok.ensures.blocks source) in
    on_ok_weaker c.lay.result (λ made. subst (λ l. IsMade to l (B.disk c.lay.new.new)) blocks made) (c.lay.ensures.made honest keeps)

pub returns-in-Ok-clause-new_units : goal.returns-in-Ok-clause-new_units
returns-in-Ok-clause-new_units g c =
    λ keeps. c.lay.ensures.carries.passes.unit (suits_keeps g.B.SectorDevice g.met.B.SectorDevice.keeps_both c.args.new.now keeps)

pub returns-in-Ok-clause-exact : goal.returns-in-Ok-clause-exact
returns-in-Ok-clause-exact g c = λ source.
    let from = g.A.SectorDevice.sector_count c.args.old.now in
    let to = g.B.SectorDevice.sector_count c.args.new.now in
    let image = (g.A.SectorDevice.disk c.args.old.now).content in
    let none : copy_refusal from to image ≡ None =
    copy_refused from to image ((λ t. copy_size_refusal (sym c.sectors.ensures t) (sym c.sectors-2.ensures t)) ∙ c.in_ok-size.ensures.exact) ∙ ap of_old (c.in-Ok.ensures.exact source) in
    search rules

pub returns-in-Err-clause-exact : goal.returns-in-Err-clause-exact
returns-in-Err-clause-exact g c = λ source.
    let from = g.A.SectorDevice.sector_count c.args.old.now in
    let to = g.B.SectorDevice.sector_count c.args.new.now in
    let image = (g.A.SectorDevice.disk c.args.old.now).content in
    ⊎_elim
    (λ device. inl (ap Old device))
    (λ found. inr (inr (
    copy_refused from to image ((λ t. copy_size_refusal (sym c.sectors.ensures t) (sym c.sectors-2.ensures t)) ∙ c.in_ok-size.ensures.exact) ∙ ap of_old found)))
    (c.in-Err.ensures.exact source)

pub returns-in-Ok-clause-old_stops : goal.returns-in-Ok-clause-old_stops
returns-in-Ok-clause-old_stops g c =
    let look = c.look.ensures in
    only_read_then g.A.SectorDevice c.args.old.now c.look.new.device c.lay.new.old g.met.A.SectorDevice.widens
    (record { disk = look.disk; stops = look.stops; passes = look.passes; begins = look.begins }) c.lay.ensures.carries.source

pub returns-in-Err-clause-old_stops : goal.returns-in-Err-clause-old_stops
returns-in-Err-clause-old_stops g c =
    let look = c.look.ensures in record { disk = look.disk; stops = look.stops; passes = look.passes; begins = look.begins }

pub returns-in-Ok-clause-old_reads : goal.returns-in-Ok-clause-old_reads
returns-in-Ok-clause-old_reads g c =
    let A = g.A.SectorDevice in
    let B = g.B.SectorDevice in
    let old = c.args.old.now in
    let new = c.args.new.now in
    let from = A.sector_count old in
    let to = B.sector_count new in
    let sizes = c.in_ok-size.ensures in
    λ source.
    let honest : IsTrue (A.keeps_model c.look.new.device) = subst IsTrue (sym c.look.ensures.passes.model) source in
    let within : c.in-Ok.view.blocks.number ≤ c.in_ok-size.size.blocks.number =
    omega (arith, sizes.grows, sizes.count, ap known_blocks c.sectors.ensures, c.in-Ok.ensures.count) in
    omega (
      arith,
      c.look.ensures.reads source,
      c.lay.ensures.reads honest,
      c.in-Ok.ensures.count,
      given_reads c.in-Ok.view.blocks.number c.in_ok-size.size.blocks.number within,
    )
