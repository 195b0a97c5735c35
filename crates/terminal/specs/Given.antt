-- What a system gives a command under the names of its words: devices of images, and texts.
use Rattle.std.specs.Prelude.{ℕ, List}

-- D are the devices that are opened for writing too or made, E those that are opened for reading alone.
pub record Given (D E : Type 0) : Type 1 where
  -- which device may be opened under a name
  pub opened : List ℕ → D → Type 0
  -- which may be made there, with so many sectors
  pub made : List ℕ → ℕ → D → Type 0
  -- which one has been given a name, as it was then
  pub named : List ℕ → D → Type 0
  -- which may be made there and not finished
  pub begun : List ℕ → D → Type 0
  -- which may be opened for reading alone, whoever has it
  pub looked : List ℕ → E → Type 0
  -- which may be opened so where no other program has it
  pub held : List ℕ → E → Type 0
  -- which text a name may give
  pub is_text : (path text : List ℕ) → Type 0
  -- of which names a text may not be had
  pub is_unread : (path : List ℕ) → Type 0
