-- What a fault leaves in the system cells.
use Rattle.std.proofs.Common.{◌≡◌, ℕ, ◌+◌, ◌≤◌, ◌<◌, List, ◌∷◌, take, drop, length, ap, ◌∙◌, arith}
use Rattle.std.proofs.lemmas.List.{length-take, length-drop, length-append, get_or_append_left, get_or-append-add, get_or-take}
use Rattle.data_space.specs.Space.{byte_at, cell_at, with_cell}
use Rattle.cell_machine.specs.Frames.{Core}
use Rattle.interpreter.specs.Lines.{at_rest}
use Rattle.interpreter.specs.State.{system_cell, state_cell, blk_cell}

module _ (s : List ℕ) (a : ℕ) (low : a ≤ 100) (whole : length (with_cell s a 0) ≡ 65536) where
  -- what stands behind the cell
  abbrev behind : List ℕ
  behind = drop 2 (drop a s)

  parts : length (take a s) + (2 + length behind) ≡ 65536
  parts = let both = length-append (take a s) (0 ∷ 0 ∷ behind) in omega (arith, both, whole)

  before : length (take a s) ≡ a
  before = omega (arith, parts, length-take a s, length-drop 2 (drop a s), length-drop a s)

  as_long : length s ≡ 65536
  as_long = omega (arith, parts, before, length-take a s, length-drop 2 (drop a s), length-drop a s)

  pub cell_of_zero : cell_at (with_cell s a 0) a ≡ 0
  cell_of_zero =
      let first_at : a ≡ length (take a s) + 0 = omega (arith, before) in
      let second_at : a + 1 ≡ length (take a s) + 1 = omega (arith, before) in
      let first : byte_at (with_cell s a 0) a ≡ 0 = ap (byte_at (with_cell s a 0)) first_at ∙ get_or-append-add (take a s) (0 ∷ 0 ∷ behind) 0 0 in
      let second : byte_at (with_cell s a 0) (a + 1) ≡ 0 = ap (byte_at (with_cell s a 0)) second_at ∙ get_or-append-add (take a s) (0 ∷ 0 ∷ behind) 1 0 in
      omega (arith, first, second)

  byte_kept : (b : ℕ) → b < a → byte_at (with_cell s a 0) b ≡ byte_at s b
  byte_kept b below = get_or_append_left (take a s) (0 ∷ 0 ∷ behind) 0 b (omega (arith, before, below)) ∙ get_or-take a s b 0 below

  pub cell_kept : (b : ℕ) → b + 1 < a → cell_at (with_cell s a 0) b ≡ cell_at s b
  cell_kept b below = omega (arith, byte_kept b (omega (arith, below)), byte_kept (b + 1) below)

module _ (c : Core) (whole : length (at_rest c).space ≡ 65536) where
  first_whole : length (with_cell c.space state_cell 0) ≡ 65536
  first_whole = as_long (with_cell c.space state_cell 0) blk_cell (omega arith) whole

  pub state_is_zero : system_cell state_cell (at_rest c) ≡ 0
  state_is_zero =
      cell_kept (with_cell c.space state_cell 0) blk_cell (omega arith) whole state_cell (omega arith)
      ∙ cell_of_zero c.space state_cell (omega arith) first_whole

  pub blk_is_zero : system_cell blk_cell (at_rest c) ≡ 0
  blk_is_zero = cell_of_zero (with_cell c.space state_cell 0) blk_cell (omega arith) whole
