-- What a device holds that keeps nothing.
use Rattle.std.specs.Prelude.{false, [], refl}
use Rattle.sector_disk.specs.Disk.{Disk, MayLeave}
use Rattle.sector_disk.specs.Pages.{IsPaged, paged_by_sectors}

abbrev pub nothing : Disk
nothing = record { content = λ _. []; synced = λ _. []; unsynced = λ _. false; unit = λ k. k }

pub nothing_left : MayLeave nothing nothing.content
nothing_left k clear = refl

pub nothing_paged : IsPaged nothing
nothing_paged = paged_by_sectors nothing (λ k. refl)
