-- What is taken from the stream: a word, or a text.
use Rattle.std.specs.Prelude.{ℕ, nat_lt, List, length, take, min, Result, Ok, Err}
use Rattle.data_space.specs.Space.{cell_at, bytes_at}
use Rattle.number_io.specs.Taking.{word_of, after_word, text_of, after_text}
use Rattle.cell_machine.specs.Fault.{Name}
use Rattle.cell_machine.specs.Frames.{Core}
use Rattle.cell_machine.specs.Value.{Outcome}
use Rattle.interpreter.specs.State.{World, needing, tib_cell, tib, tib_bytes}
use Rattle.interpreter.specs.Streams.{from_stream, take_word}
use Rattle.interpreter.specs.declared.fault.Fault.{Fault}
use Rattle.interpreter.specs.declared.services.lookahead.Cut.{Cut}
use Rattle.interpreter.specs.declared.services.lookahead.Cut.TheVariants.{Word, Text}

-- what is cut from a text, and what is left after the delimiter behind it
abbrev pub cut_of : Cut → ℕ → List ℕ → List ℕ
cut_of Word d text = word_of d text
cut_of Text d text = text_of d text

abbrev pub after_cut : Cut → ℕ → List ℕ → List ℕ
after_cut Word d text = after_word d text
after_cut Text d text = after_text d text

abbrev pub take_cut : Cut → ℕ → Core → World → (List ℕ → Core → World → Outcome World) → Outcome World
take_cut cut d c x go = from_stream (λ text moved c x. go (cut_of cut d text) (moved (after_cut cut d text) c) x) c x

-- a name
abbrev pub take_name : Core → World → (List ℕ → Core → World → Outcome World) → Outcome World
take_name c x go = take_word 32 c x (λ name c x. needing (nat_lt 0 (length name)) Name c x (λ c. go name c x))

-- the first bytes of what is kept, so many
abbrev pub taken : Result ℕ Fault → List ℕ → Result (List ℕ) Fault
taken (Ok count) kept = Ok (take count kept)
taken (Err fault) kept = Err fault

-- the line's text
abbrev pub line_of : List ℕ → List ℕ
line_of space = bytes_at space tib (min (cell_at space tib_cell) tib_bytes)
