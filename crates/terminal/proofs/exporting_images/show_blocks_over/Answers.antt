use Rattle.std.proofs.Common.{◌∙◌, IsTrue, ap, arith, inl, inr, subst, sym}
use Rattle.std.proofs.lemmas.Result.{IfErr-weaker, on_ok_weaker}
use Rattle.sector_disk.specs.Counting.{count_up}
use Rattle.recovery.proofs.Upgrades.{only_read_then}
use Rattle.terminal.specs.Done.{maps_on}
use Rattle.terminal.specs.Failures.{of_image}
use Rattle.terminal.specs.Shown.{blocks_refusal}
use Rattle.terminal.proofs.BlocksShown.{found_of, refused_first, shows_or_not, told_or_not}
use Rattle.terminal.proofs.Refused.{device_of}
use Rattle.terminal.proofs.Standings.{found_fails, not_shown, ok_both}
use Rattle.terminal.proofs.exporting_images.show_blocks_over.Goals as goal

pub returns-in-Ok-clause-shows : goal.returns-in-Ok-clause-shows
returns-in-Ok-clause-shows g c =
    let D = g.D.SectorDevice in
    let old = c.args.device.now in
    let looked = c.look.new.device in
    let one = c.look.ensures in
    let view = c.in-Ok.view in
    let shown = c.show_found.ensures in
    let honest : IsTrue (D.keeps_model old) → IsTrue (D.keeps_model looked) = λ keeps. subst IsTrue (sym one.passes.model) keeps in
    on_ok_weaker c.show_found.result (λ done. inl done)
    (shows_or_not D c.show_found.result old c.show_found.new.device c.args.form c.args.first c.args.last view.blocks.number _ _
    (only_read_then D old looked c.show_found.new.device g.met.D.SectorDevice.widens
    (record { disk = one.disk; stops = one.stops; passes = one.passes; begins = one.begins }) shown.only_read)
    (on_ok_weaker c.show_found.result (λ same. same ∙ c.in-Ok.ensures.well) shown.well)
    c.in-Ok.ensures.count shown.ordered shown.there
    (λ keeps. shown.ok (honest keeps) (maps_on D old) (found_of D view old looked (one.disk keeps) (c.in-Ok.ensures.blocks keeps)))
    c.in-Ok.ensures.meaning
    (λ keeps. let first = one.reads keeps in omega (arith, first, shown.reads))
    (λ isnt. let first = one.few isnt in omega (arith, first, shown.reads)))

pub returns-in-Ok-clause-failed : goal.returns-in-Ok-clause-failed
returns-in-Ok-clause-failed g c =
    let D = g.D.SectorDevice in
    let old = c.args.device.now in
    let one = c.look.ensures in
    let shown = c.show_found.ensures in
    found_fails D (blocks_refusal c.args.first c.args.last) c.args.first c.args.last _ c.show_found.result old c.show_found.new.device
    (only_read_then D old c.look.new.device c.show_found.new.device g.met.D.SectorDevice.widens
    (record { disk = one.disk; stops = one.stops; passes = one.passes; begins = one.begins }) shown.only_read)
    (IfErr-weaker c.show_found.result _ _ (λ e failed is. failed is ∙ ap count_up c.in-Ok.ensures.well) shown.device)
    (IfErr-weaker c.show_found.result _ _ (λ e same other. same other ∙ c.in-Ok.ensures.well) shown.refused)
    (λ keeps. told_or_not c.show_found.result c.args.first c.args.last c.in-Ok.view.blocks.number (D.sector_count old) (D.disk old).content
    (c.in-Ok.ensures.exact keeps) c.in-Ok.ensures.count shown.ordered shown.there shown.only shown.no_block)
    c.in-Ok.ensures.exact

pub returns-in-Err-clause-shows : goal.returns-in-Err-clause-shows
returns-in-Err-clause-shows g c =
    let one = c.look.ensures in
    ok_both c.export_anyway.result
    (λ is shown. inr (
      c.look.new.device,
      record {
        reads = record { disk = one.disk; stops = one.stops; passes = one.passes; begins = one.begins };
        failed = c.in-Err.ensures.device (device_of c.in-Err.fault (sym c.from.ensures ∙ is));
      },
      shown,
    ))
    c.export_anyway.ensures.of_device c.export_anyway.ensures.printed

pub returns-in-Err-clause-failed : goal.returns-in-Err-clause-failed
returns-in-Err-clause-failed g c =
    let D = g.D.SectorDevice in
    let old = c.args.device.now in
    let one = c.look.ensures in
    IfErr-weaker c.export_anyway.result _ _
    (λ e told. not_shown D (blocks_refusal c.args.first c.args.last) c.args.first c.args.last c.from.result e old c.look.new.device c.export_anyway.new.device
    (record { disk = one.disk; stops = one.stops; passes = one.passes; begins = one.begins })
    (λ is. c.in-Err.ensures.device (device_of c.in-Err.fault (sym c.from.ensures ∙ is)))
    (λ other. c.in-Err.ensures.refused (λ is. other (c.from.ensures ∙ ap of_image is)))
    (λ keeps. refused_first c.from.result c.in-Err.fault c.args.first c.args.last (D.sector_count old) (D.disk old).content c.from.ensures (c.in-Err.ensures.exact keeps))
    told)
    c.export_anyway.ensures.failed
