-- A session computed on small inputs. A line is tried on more and more of the input that follows it, until it doesn't
-- meet its end: so it is run on just the bytes that it takes.
use Rattle.std.specs.Prelude.{◌≡◌, ℕ, zero, suc, Bool, true, false, ◌&&◌, List, [], ◌∷◌, length, take, drop}
use Rattle.number_io.specs.Taking.{up_to, from}
use Rattle.block_words.specs.Words.{Answer}
use Rattle.interpreter.specs.State.{Forth}
use Rattle.interpreter.specs.Lines.{Ended, line_on, after_line, between_lines, undone_by, Turn}
use Rattle.interpreter.specs.Told.{loads_told}
use Rattle.sessions.specs.Cut.{line_text}
use Rattle.sessions.specs.Sessions.{Session}

-- the turns, the system after them, the input that is left, and whether each line took all that it was given
pub record Played : Type 0 where
  pub turns : List Turn
  pub forth : Forth
  pub left : List ℕ
  pub whole : Bool

abbrev pub is_empty : List ℕ → Bool
is_empty [] = true
is_empty (b ∷ bytes) = false

-- how many bytes of the rest a line takes, if no fewer than n, where the rest has n + k
abbrev pub tried : (k n : ℕ) → Forth → (bytes rest : List ℕ) → List Answer → ℕ
tried zero n s bytes rest answers = n
tried (suc k) n s bytes rest answers =
    elim (line_on s bytes (take n rest) answers).world.run.at_end [ true ↦ tried k (suc n) s bytes rest answers | false ↦ n ]

abbrev pub takes : Forth → (bytes rest : List ℕ) → List Answer → ℕ
takes s bytes rest answers = tried (length rest) 0 s bytes rest answers

abbrev pub turn_of : Forth → List ℕ → Ended → Turn
turn_of s given e =
    record {
      given = given;
      at_end = e.world.run.at_end;
      reply = e.world.run.output;
      ending = e.ending;
      place = e.place;
      loads = loads_told e.place e.world.loads;
      undone = undone_by e.ending e.place (after_line s e);
      saves = e.world.run.saves;
      failures = e.world.run.failures;
      wear = e.world.run.wear;
    }

abbrev pub with_turn : Forth → List ℕ → Ended → Played → Played
with_turn s given e p =
    record { turns = turn_of s given e ∷ p.turns; forth = p.forth; left = p.left; whole = is_empty e.world.run.input && p.whole }

-- at most n lines, until the input is used up; what the device will answer is used up too
abbrev pub play : ℕ → Forth → (input : List ℕ) → List Answer → Played
play zero s input answers = record { turns = []; forth = s; left = input; whole = true }
play (suc n) s [] answers = record { turns = []; forth = s; left = []; whole = true }
play (suc n) s (b ∷ input) answers =
    let bytes = line_text (up_to 10 (b ∷ input)) in
    let rest = drop 1 (from 10 (b ∷ input)) in
    let k = takes s bytes rest answers in
    let e = line_on s bytes (take k rest) answers in
    with_turn s (take k rest) e (play n (between_lines s e) (drop k rest) e.world.run.answers)

abbrev pub session : Forth → (input : List ℕ) → List Answer → Played
session s input answers = play (length input) s input answers

-- A session that is computed, and in which each line took all that it was given, is a session.
abbrev pub PlayedIsSession : Type 0
PlayedIsSession =
    (s : Forth) (input : List ℕ) (answers : List Answer)
    → (session s input answers).whole ≡ true
    → Session s input (session s input answers).turns (session s input answers).forth
