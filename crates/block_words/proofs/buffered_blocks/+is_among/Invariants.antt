use Rattle.std.proofs.Common.{length}
use Rattle.block_words.proofs.buffered_blocks.+is_among.Given as goal

abbrev pub decreases-is_among : goal.decreases-is_among
decreases-is_among l = length l.buffers.now
