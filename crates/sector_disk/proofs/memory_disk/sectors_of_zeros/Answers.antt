use Rattle.std.proofs.Common.{◌∙◌, ◌∷◌, ◌++◌, [], ap}
use Rattle.std.proofs.lemmas.List.{replicate-append-replicate}
use Rattle.sector_disk.specs.Memory.{zeros}
use Rattle.sector_disk.proofs.memory_disk.sectors_of_zeros.Goals as goal

pub loop-preserved : goal.loop-preserved
loop-preserved c = c.in_ok-push.ensures.items ∙ ap (λ made. made ++ zeros ∷ []) c.loop.invariant ∙ replicate-append-replicate c.loop.counter 1 zeros
