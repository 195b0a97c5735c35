-- Images that a stop may leave at one moment of a span of time, and how the span grows from call to call.
use Rattle.std.specs.Prelude.{◌⊎◌, ℕ, ◌≤◌}
use Rattle.sector_disk.specs.Disk.{Image}

-- Time goes on from an old state to a new one. Below, t and s are times that were past or present in the old state.
pub record Elapses {D : Type 0} (time : D → ℕ) (left_since : D → ℕ → Image → Type 0) (old new : D) : Type 0 where
  pub later : time old ≤ time new
  -- What a stop since t might have left, it might have left before, or since the old state.
  pub only : (t : ℕ) (c : Image) → t ≤ time old → left_since new t c → left_since old t c ⊎ left_since new (time old) c
  -- A device forgets a past image for every time or not at all: one that still counts since some t counts since each s
  -- since which it counted before. A device that knows its whole history forgets none, one that knows only the present all.
  -- So two calls in a row are one passage of time.
  pub still : (t s : ℕ) (c : Image) → t ≤ time old → s ≤ time old → left_since new t c → left_since old s c → left_since new s c

-- Each image that a stop at some moment since the old state might have left has P.
abbrev pub LeavesOnly : {D : Type 0} → (D → ℕ) → (D → ℕ → Image → Type 0) → D → D → (Image → Type 0) → Type 0
LeavesOnly time left_since old new P = (c : Image) → left_since new (time old) c → P c
