use Rattle.std.proofs.Common.{◌∙◌, ap, refl, subst, sym}
use Rattle.sector_disk.specs.Disk.{MayLeave}
use Rattle.sector_disk.specs.FileBytes.{FileBytes, disk_of_file}
use Rattle.sector_disk.specs.Opening.{sectors_in}
use Rattle.test_devices.specs.contracts.memory_file.MemoryFileHostFile.TheImpl as memory
use Rattle.test_program.proofs.premises.files_in_memory.Goals as goal

pub returns : goal.returns
returns c = λ same size since next opened.
    let file = memory.ghosts in
    record {
      sectors = opened.sectors refl ∙ ap sectors_in (opened.file.extent ∙ ap file.extent same) ∙ sym size;
      model = refl;
      units = refl;
      stopped = λ image may. subst (λ (bytes : FileBytes). MayLeave (disk_of_file bytes) image) (opened.file.bytes ∙ ap file.bytes same) may;
    }
