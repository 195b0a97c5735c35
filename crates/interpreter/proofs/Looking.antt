-- What is looked at in the stream.
use Rattle.std.proofs.Common.{◌≡◌, ℕ, zero, suc, ◌<◌, List, refl, sym, ap, ◌∙◌, arith}
use Rattle.data_space.specs.Space.{cell_at}
use Rattle.block_words.specs.Words.{source}
use Rattle.cell_machine.specs.Frames.{Core}
use Rattle.cell_machine.specs.Value.{Outcome}
use Rattle.interpreter.specs.State.{World, to_in_cell, blk_cell, block_state, blocks_done}
use Rattle.interpreter.specs.Streams.{stream_of}
use Rattle.interpreter.specs.Taken.{line_of}
use Rattle.interpreter.specs.declared.services.lookahead.Cut.{Cut}
use Rattle.interpreter.specs.Looking.{Seen, seen_from, look}

module _ (cut : Cut) (d : ℕ) (go : Seen → Core → World → Outcome World) where
  -- what is done with the whole text
  abbrev pub looks : List ℕ → Core → World → Outcome World
  looks text c x = go (seen_from cut d (cell_at c.space to_in_cell) text) c x

  at_block : (n : ℕ) (c : Core) (x : World) → 0 < n → stream_of n c x looks ≡ blocks_done (source n (block_state c x)) c x looks
  at_block zero c x some = absurd (omega (arith, some))
  at_block (suc n) c x some = refl

  pub from_block : (n : ℕ) (c : Core) (x : World) → n ≡ cell_at c.space blk_cell → 0 < n → look cut d c x go ≡ blocks_done (source n (block_state c x)) c x looks
  from_block n c x is some = ap (λ n. stream_of n c x looks) (sym is) ∙ at_block n c x some

  pub from_line : (c : Core) (x : World) → 0 ≡ cell_at c.space blk_cell → look cut d c x go ≡ looks (line_of c.space) c x
  from_line c x is = ap (λ n. stream_of n c x looks) (sym is)
