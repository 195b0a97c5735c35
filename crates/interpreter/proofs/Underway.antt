-- The loads under way, and their starts.
use Rattle.std.proofs.Common.{◌≡◌, ℕ, suc, List, [], ◌∷◌, sym, ap, ◌∙◌}
use Rattle.std.specs.Prelude.{drop, length}
use Rattle.interpreter.specs.declared.place.Place.{Place}
use Rattle.interpreter.specs.Lines.{Line, Turn, line_on}
use Rattle.interpreter.specs.State.{Forth}
use Rattle.interpreter.specs.Told.{AreStarts, IsStart, first_byte, loads_told}

pub as_many : (places starts : List Place) → AreStarts places starts → length places ≡ length starts
as_many [] starts h = sym (ap (λ l. length l) h)
as_many (place ∷ places) [] h = absurd h
as_many (place ∷ places) (start ∷ starts) h = ap suc (as_many places starts h.1)

pub one_fewer : (places starts : List Place) → AreStarts places starts → AreStarts (drop 1 places) (drop 1 starts)
one_fewer [] starts h = ap (λ l. drop 1 l) h
one_fewer (place ∷ places) [] h = absurd h
one_fewer (place ∷ places) (start ∷ starts) h = h.1

pub starts_at : (place here start : Place) (text : List ℕ) → here ≡ place → start.block ≡ here.block → start.to_in ≡ first_byte here.to_in text → IsStart place start
starts_at place here start text is block byte =
    let b : start.block ≡ place.block = block ∙ ap (λ p. p.block) is in
    let t : start.to_in ≡ first_byte place.to_in text = byte ∙ ap (λ p. first_byte p.to_in text) is in
    (text, λ i. record { block = b i; to_in = t i })

-- a turn's loads are those of the system that it leaves
pub led_by : (opening : Forth) (bytes : List ℕ) (turn : Turn) (closing : Forth) → Line opening bytes turn closing → turn.loads ≡ loads_told turn.place closing.world.loads
led_by opening bytes turn closing l =
    sym l.led ∙ ap (λ place. loads_told place (line_on opening bytes turn.given l.answers).world.loads) l.placed ∙ ap (λ (s : Forth). loads_told turn.place s.world.loads) l.leaves
