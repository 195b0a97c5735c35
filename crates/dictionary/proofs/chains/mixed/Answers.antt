use Rattle.std.proofs.Common.{◌∙◌}
use Rattle.dictionary.proofs.Mixed.{mixed_from-few, mixed_from-four}
use Rattle.dictionary.proofs.chains.mixed.Goals as goal

pub loop-rest-preserved : goal.loop-rest-preserved
loop-rest-preserved c = rw (c.joined-mix.ensures, c.from_le_bytes.ensures) (mixed_from-four c.loop-rest.mix c.loop-rest.rest.now c.in-len4-up.len_at_least ∙ c.loop-rest.invariant)

pub returns : goal.returns
returns c = rw (c.joined.ensures, c.last_piece.ensures) (mixed_from-few c.loop-rest.mix c.loop-rest.rest.now c.in_default.len_below ∙ c.loop-rest.invariant)
