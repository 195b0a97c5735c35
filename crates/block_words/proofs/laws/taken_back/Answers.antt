use Rattle.std.proofs.Common.{ap}
use Rattle.std.specs.Prelude.{unwrap_or}
use Rattle.journal.specs.Maps.{block_in}
use Rattle.journal.proofs.Blocks.{at_none}
use Rattle.block_words.proofs.laws.taken_back.Goals as goal

pub returns : goal.returns
returns c = λ s b. ap (λ o. unwrap_or o (block_in s.maps.saved b)) (at_none s.maps.pending b)
