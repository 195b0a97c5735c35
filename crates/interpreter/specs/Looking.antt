-- The next word or text of the stream, looked at: >IN stays where it is.
use Rattle.std.specs.Prelude.{ℕ, ◌-◌, List, length, take, drop, Result, Ok, Err}
use Rattle.cell_machine.specs.Frames.{Core}
use Rattle.cell_machine.specs.Value.{Outcome}
use Rattle.interpreter.specs.State.{World, system_cell, to_in_cell, blk_cell}
use Rattle.interpreter.specs.Streams.{stream_of}
use Rattle.interpreter.specs.declared.fault.Fault.{Fault}
use Rattle.interpreter.specs.declared.services.lookahead.Cut.{Cut}
use Rattle.interpreter.specs.declared.services.lookahead.Look.{Look}
use Rattle.interpreter.specs.Taken.{cut_of, after_cut}

-- a word or a text, and where >IN stands behind it
pub record Seen : Type 0 where
  pub bytes : List ℕ
  pub behind : ℕ

-- what stands next in a text from there on
abbrev pub seen_from : Cut → ℕ → ℕ → List ℕ → Seen
seen_from cut d to_in text =
    record { bytes = cut_of cut d (drop to_in text); behind = length text - length (after_cut cut d (drop to_in text)) }

abbrev pub look : Cut → ℕ → Core → World → (Seen → Core → World → Outcome World) → Outcome World
look cut d c x go =
    stream_of (system_cell blk_cell c) c x (λ text c x. go (seen_from cut d (system_cell to_in_cell c) text) c x)

-- what was looked at: its bytes are kept
abbrev pub seen_in : Look → List ℕ → Seen
seen_in l kept = record { bytes = take l.count kept; behind = l.behind }

abbrev pub looked : Result Look Fault → List ℕ → Result Seen Fault
looked (Ok l) kept = Ok (seen_in l kept)
looked (Err f) kept = Err f
