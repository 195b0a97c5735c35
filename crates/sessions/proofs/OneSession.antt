-- An input has one session without DEVICE and MEMORY.
use Rattle.std.proofs.Common.{◌≡◌, ◌≢◌, ℕ, ◌<◌, false, List, [], ◌∷◌, ◌++◌, length, drop, refl, sym, ap, subst, ◌∙◌, ⊎_elim, arith}
use Rattle.std.specs.Prelude.{◌==◌, if◌then◌else◌}
use Rattle.std.specs.List.{AllByRecursion}
use Rattle.std.proofs.lemmas.List.{append-nil}
use Rattle.number_io.specs.Taking.{up_to, from}
use Rattle.interpreter.specs.State.{Forth}
use Rattle.interpreter.specs.Lines.{Turn, Line}
use Rattle.interpreter.specs.Law.{IsCalm}
use Rattle.interpreter.proofs.OneTurn.{one_turn}
use Rattle.sessions.specs.Cut.{IsFirstLine, line_text}
use Rattle.sessions.specs.Sessions.{FirstTurn, Session, AreCalm}

-- ---- the first line is one

record IsCut (input bytes rest : List ℕ) : Type 0 where
  before : bytes ≡ up_to 10 input
  after : rest ≡ drop 1 (from 10 input)

no_ten : (b : ℕ) → b ≢ 10 → (b == 10) ≡ false
no_ten b h = grind (arith, h)

up_to_is : (bytes tail : List ℕ) → AllByRecursion (λ b. b ≢ 10) bytes → up_to 10 (bytes ++ tail) ≡ bytes ++ up_to 10 tail
up_to_is [] tail all = refl
up_to_is (b ∷ bytes) tail all =
    ap (λ v. if v then [] else b ∷ up_to 10 (bytes ++ tail)) (no_ten b all.0) ∙ ap (λ l. b ∷ l) (up_to_is bytes tail all.1)

from_is : (bytes tail : List ℕ) → AllByRecursion (λ b. b ≢ 10) bytes → from 10 (bytes ++ tail) ≡ from 10 tail
from_is [] tail all = refl
from_is (b ∷ bytes) tail all =
    ap (λ v. if v then b ∷ (bytes ++ tail) else from 10 (bytes ++ tail)) (no_ten b all.0) ∙ from_is bytes tail all.1

cut_is : (input bytes rest : List ℕ) → IsFirstLine input bytes rest → IsCut input bytes rest
cut_is input bytes rest line = ⊎_elim (λ e. with_feed e) (λ e. without_feed e.0 e.1) line.cut
  where
    with_feed : input ≡ bytes ++ 10 ∷ rest → IsCut input bytes rest
    with_feed e = record {
      before = sym (ap (λ l. up_to 10 l) e ∙ up_to_is bytes (10 ∷ rest) line.no_feed ∙ append-nil bytes);
      after = sym (ap (λ l. drop 1 (from 10 l)) e ∙ ap (λ l. drop 1 l) (from_is bytes (10 ∷ rest) line.no_feed));
    }

    without_feed : input ≡ bytes → rest ≡ [] → IsCut input bytes rest
    without_feed e none = record {
      before = sym (ap (λ l. up_to 10 l) (e ∙ sym (append-nil bytes)) ∙ up_to_is bytes [] line.no_feed ∙ append-nil bytes);
      after = none ∙ sym (ap (λ l. drop 1 (from 10 l)) (e ∙ sym (append-nil bytes)) ∙ ap (λ l. drop 1 l) (from_is bytes [] line.no_feed));
    }

-- no input, no line
none_first : (bytes rest : List ℕ) → IsFirstLine [] bytes rest → ⊥
none_first bytes rest line = ⊎_elim (λ e. with_feed bytes e) (λ e. without_feed bytes e.0 e.2) line.cut
  where
    with_feed : (bytes : List ℕ) → [] ≡ bytes ++ 10 ∷ rest → ⊥
    with_feed [] e = cc
    with_feed (b ∷ bytes) e = cc

    without_feed : (bytes : List ℕ) → [] ≡ bytes → 0 < length bytes → ⊥
    without_feed [] e h = omega (arith, h)
    without_feed (b ∷ bytes) e h = cc

-- ---- the first turn is one

record SameTurn (one two : Turn) (left left' : List ℕ) (between between' : Forth) : Type 0 where
  turn : one ≡ two
  leaves : left ≡ left'
  closes : between ≡ between'

first_turn : (opening : Forth) (input : List ℕ) (one two : Turn) (left left' : List ℕ) (between between' : Forth)
    → FirstTurn opening input one left between → FirstTurn opening input two left' between' → IsCalm one.ending → IsCalm two.ending
    → SameTurn one two left left' between between'
first_turn opening input one two left left' between between' f g calm calm' =
    let c = cut_is input f.bytes f.rest f.first in
    let d = cut_is input g.bytes g.rest g.first in
    let bytes : g.bytes ≡ f.bytes = d.before ∙ sym c.before in
    let rest : g.rest ≡ f.rest = d.after ∙ sym c.after in
    let line : Line opening (line_text f.bytes) two between' = subst (λ b. Line opening (line_text b) two between') bytes g.line in
    let same = one_turn opening (line_text f.bytes) f.rest one two left left' between between' f.line (record { taken = f.taken; at_end = f.at_end }) line (record { taken = sym rest ∙ g.taken; at_end = g.at_end }) calm calm' in
    record { turn = same.0; leaves = same.1; closes = same.2 }

pub one_session : (turns turns' : List Turn) (opening : Forth) (input : List ℕ) (closing closing' : Forth)
    → Session opening input turns closing → Session opening input turns' closing' → AreCalm turns → AreCalm turns'
    → (turns ≡ turns') × (closing ≡ closing')
one_session [] [] opening input closing closing' s s' calm calm' = (refl, s.1 ∙ sym s'.1)
one_session [] (two ∷ turns') opening input closing closing' s s' calm calm' =
    absurd (none_first s'.2.bytes s'.2.rest (subst (λ l. IsFirstLine l s'.2.bytes s'.2.rest) s.0 s'.2.first))
one_session (one ∷ turns) [] opening input closing closing' s s' calm calm' =
    absurd (none_first s.2.bytes s.2.rest (subst (λ l. IsFirstLine l s.2.bytes s.2.rest) s'.0 s.2.first))
one_session (one ∷ turns) (two ∷ turns') opening input closing closing' s s' calm calm' =
    let first = first_turn opening input one two s.0 s'.0 s.1 s'.1 s.2 s'.2 calm.0 calm'.0 in
    let later : Session s.1 s.0 turns' closing' =
    subst (λ l. Session s.1 l turns' closing') (sym first.leaves) (subst (λ f. Session f s'.0 turns' closing') (sym first.closes) s'.3) in
    let same = one_session turns turns' s.1 s.0 closing closing' s.3 later calm.1 calm'.1 in
    (ap (λ t. t ∷ turns) first.turn ∙ ap (λ l. two ∷ l) same.0, same.1)
