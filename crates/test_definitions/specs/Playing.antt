-- How the worked sessions are written: each line beside its reply.
use Rattle.std.specs.Prelude.{◌≡◌, ℕ, ◌-◌, List, [], ◌∷◌, ◌++◌, length, replicate, if◌then◌else◌, Option, Some, None}
use Rattle.journal.specs.Maps.{fresh}
use Rattle.block_words.specs.Words.{Answer, Wear}
use Rattle.interpreter.specs.State.{Forth}
use Rattle.interpreter.specs.Lines.{new_forth}
use Rattle.sessions.specs.Sessions.{output_of, wear_of}
use Rattle.sessions.specs.Playing.{Played, session}

-- a line and its reply, both without the byte 10 at their end
pub record Exchange : Type 0 where
  pub line : List ℕ
  pub reply : List ℕ

infix 90 ◌⇒◌
abbrev pub ◌⇒◌ : List ℕ → List ℕ → Exchange
line ⇒ reply = record { line = line; reply = reply }

abbrev pub asked_lines : List Exchange → List ℕ
asked_lines [] = []
asked_lines (x ∷ xs) = x.line ++ (10 ∷ asked_lines xs)

abbrev pub reply_lines : List Exchange → List ℕ
reply_lines [] = []
reply_lines (x ∷ xs) = x.reply ++ (10 ∷ reply_lines xs)

-- a block with this text, followed by blanks
abbrev pub screen : List ℕ → List ℕ
screen text = text ++ replicate (1024 - length text) 32

-- these blocks, and blank ones after them, 32 in all
abbrev pub image : List (List ℕ) → List (List ℕ)
image blocks = blocks ++ replicate (32 - length blocks) (replicate 1024 32)

-- the steps of a line where nothing else is said
abbrev pub default_steps : ℕ
default_steps = 1000000

-- a new system over these saved blocks
abbrev pub over : List (List ℕ) → Forth
over blocks = new_forth default_steps (fresh blocks)

-- the output of a session in which each line took all that it was given
abbrev pub replies_of : Played → Option (List ℕ)
replies_of p = if p.whole then Some (output_of p.turns) else None

-- over 32 blank blocks, where all goes well, this input has this output
abbrev pub Gives : (input output : List ℕ) → Type 0
Gives input output = replies_of (session (over (image [])) input []) ≡ Some output

-- in this system, where the device answers so, these lines have these replies
abbrev pub Plays : Forth → List Answer → List Exchange → Type 0
Plays forth answers xs = replies_of (session forth (asked_lines xs) answers) ≡ Some (reply_lines xs)

-- the same over 32 blank blocks, where all goes well
abbrev pub Replies : List Exchange → Type 0
Replies xs = Plays (over (image [])) [] xs

-- the same with this budget of steps
abbrev pub RepliesIn : ℕ → List Exchange → Type 0
RepliesIn steps xs = Plays (new_forth steps (fresh (image []))) [] xs

-- the saved blocks after a session of these lines: what an image that is opened again has
abbrev pub saved_after : Forth → List Answer → List Exchange → List (List ℕ)
saved_after forth answers xs = (session forth (asked_lines xs) answers).forth.world.maps.saved

-- how much the device may have begun in them
abbrev pub wear_after : Forth → List Answer → List Exchange → Wear
wear_after forth answers xs = wear_of (session forth (asked_lines xs) answers).turns
