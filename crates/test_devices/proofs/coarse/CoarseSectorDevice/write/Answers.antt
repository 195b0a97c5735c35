use Rattle.std.proofs.Common.{◌≡◌, refl, ◌∙◌, arith}
use Rattle.test_devices.specs.Coarse.{in_eights}
use Rattle.sector_disk.specs.Disk.{written}
use Rattle.sector_disk.specs.MemoryDisk.{held, size}
use Rattle.test_devices.proofs.Units.{went_well, on_well, spread}
use Rattle.test_devices.proofs.coarse.CoarseSectorDevice.write.Goals as goal

pub returns-clause-disk : goal.returns-clause-disk
returns-clause-disk c =
    let old = c.args.self.now.device in
    let e = held c.touch.new.self in
    let touched = c.touch.ensures in
    let end = c.end_of_unit-end.ensures in
    let is : held c.write.new.self ≡ written e c.args.k c.args.bytes.now =
    on_well c.write.result (went_well c.write.result c.write.ensures.failures) (c.write.ensures.ok refl) in
    (λ t. in_eights ((c.write.ensures.sectors ∙ touched.sectors) t) (is t))
    ∙ spread (size old) c.args.k c.start_of_unit-first.result c.end_of_unit-end.result (held old) e c.requires (λ j. refl)
    c.start_of_unit-first.ensures end.unit (omega (arith, end.within, c.sectors.ensures))
    (λ j below near. end.all j (omega (arith, below, c.sectors.ensures)) near)
    touched.content touched.synced touched.touched touched.others c.args.bytes.now
