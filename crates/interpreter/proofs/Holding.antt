-- Digits that are held one after another.
use Rattle.std.proofs.Common.{◌≡◌, refl, sym, ap, ◌∙◌, ◌≤◌, ◌<◌, ◌-◌, ◌/◌, ◌%◌, ℕ, zero, suc, Bool, true, false, List, [], ◌∷◌, ◌++◌, Result, Ok, Err, arith}
use Rattle.std.specs.Prelude.{nat_lt, cond, reverse}
use Rattle.std.proofs.Math.Nat.{div-lt_self}
use Rattle.std.proofs.lemmas.Bool.{lt-ltb, le-ltb, ltb-true, ltb-false}
use Rattle.std.proofs.lemmas.List.{reverse-append}
use Rattle.sector_disk.specs.declared.device.SectorDevice.{Ghosts}
use Rattle.data_space.specs.Space.{with_byte}
use Rattle.number_io.specs.Digits.{digit_char}
use Rattle.number_io.specs.Writing.{divided, digits_of}
use Rattle.cell_machine.specs.Fault.{Hold}
use Rattle.cell_machine.specs.Frames.{Core, Level}
use Rattle.cell_machine.specs.Value.{Outcome, Did, and_then}
use Rattle.interpreter.specs.State.{World, Run, with_run, needing}
use Rattle.interpreter.specs.Pictures.{hold, hold_all}
use Rattle.interpreter.specs.Representation.{core, Represents}
use Rattle.interpreter.specs.ServiceContract.{Altered}
use Rattle.interpreter.specs.declared.fault.Fault.{Fault}
use Rattle.interpreter.specs.declared.forth.Forth.{Forth}
use Rattle.interpreter.proofs.Altering.{gives_as}

-- ---- the digits of a number, the last one first

one : (k base n : ℕ) → n < base → divided (suc k) base n ≡ n % base ∷ []
unfolding divided
one k base n h = ap (λ v. cond v [] (divided k base (n / base)) ++ n % base ∷ []) (lt-ltb n base h)

more : (k base n : ℕ) → base ≤ n → divided (suc k) base n ≡ divided k base (n / base) ++ n % base ∷ []
unfolding divided
more k base n h = ap (λ v. cond v [] (divided k base (n / base)) ++ n % base ∷ []) (le-ltb n base h)

pub shorter : (base n : ℕ) → 2 ≤ base → base ≤ n → n / base < n
shorter base n b h = div-lt_self (omega arith) (omega arith)

-- as many divisions as are needed give all digits
same : (j k base n : ℕ) → 2 ≤ base → n < j → n < k → divided j base n ≡ divided k base n
same zero k base n b p q = absurd (omega arith)
same (suc j) zero base n b p q = absurd (omega arith)
same (suc j) (suc k) base n b p q = go (nat_lt n base) refl (λ s. same j k base (n / base) b (omega arith) (omega arith))
  where
    go : (v : Bool) → nat_lt n base ≡ v → (n / base < n → divided j base (n / base) ≡ divided k base (n / base)) → divided (suc j) base n ≡ divided (suc k) base n
    go true e ih = let h = ltb-true n base e in one j base n h ∙ sym (one k base n h)
    go false e ih =
        let h : base ≤ n = ltb-false n base e in
        more j base n h ∙ ap (λ l. l ++ n % base ∷ []) (ih (shorter base n b h)) ∙ sym (more k base n h)

last_only : (base n : ℕ) → n < base → reverse (digits_of base n) ≡ n % base ∷ []
unfolding digits_of
last_only base n h = ap reverse (one n base n h)

last_first : (base n : ℕ) → 2 ≤ base → base ≤ n → reverse (digits_of base n) ≡ n % base ∷ reverse (digits_of base (n / base))
unfolding digits_of
last_first base n b h =
    ap reverse (more n base n h ∙ ap (λ l. l ++ n % base ∷ []) (same n (suc (n / base)) base (n / base) b (shorter base n b h) (omega arith)))
    ∙ reverse-append (divided (suc (n / base)) base (n / base)) (n % base ∷ [])

-- ---- holding, and what follows it

needing_both : (t : Bool) (c : Core) (d : Core → Core) (x y : World) (k go : Core → World → Outcome World)
    → needing t Hold c x (λ c. and_then (k (d c) y) go) ≡ and_then (needing t Hold c x (λ c. k (d c) y)) go
needing_both true c d x y k go = refl
needing_both false c d x y k go = refl

hold_both : (b : ℕ) (c : Core) (x : World) (k go : Core → World → Outcome World) → hold b c x (λ c x. and_then (k c x) go) ≡ and_then (hold b c x k) go
hold_both b c x k go = needing_both (nat_lt x.held 66) c (λ c. record c { space = with_byte c.space (x.held_end - suc x.held) b }) x (record x { held = suc x.held }) k go

pub hold_then : (b : ℕ) (c : Core) (x : World) (go : Core → World → Outcome World) → hold b c x go ≡ and_then (hold b c x (λ c x. Did c x)) go
hold_then b c x go = hold_both b c x (λ c x. Did c x) go

pub hold_all_then : (digits : List ℕ) (c : Core) (x : World) (go : Core → World → Outcome World) → hold_all digits c x go ≡ and_then (hold_all digits c x (λ c x. Did c x)) go
hold_all_then [] c x go = refl
hold_all_then (d ∷ digits) c x go =
    (λ t. hold (digit_char d) c x (λ c x. hold_all_then digits c x go t))
    ∙ hold_both (digit_char d) c x (λ c x. hold_all digits c x (λ c x. Did c x)) go

-- ---- some of the digits are held

abbrev pub all_of : (base n : ℕ) → Core → World → Outcome World
all_of base n c x = hold_all (reverse (digits_of base n)) c x (λ c x. Did c x)

abbrev pub one_of : (b : ℕ) → Core → World → Outcome World
one_of b c x = hold b c x (λ c x. Did c x)

one_more : (base n b : ℕ) → 2 ≤ base → base ≤ n → b ≡ digit_char (n % base) → (c : Core) (x : World) → all_of base n c x ≡ and_then (one_of b c x) (λ c x. all_of base (n / base) c x)
one_more base n b low least is c x =
    ap (λ digits. hold_all digits c x (λ c x. Did c x)) (last_first base n low least)
    ∙ ap (λ b. hold b c x (λ c x. all_of base (n / base) c x)) (sym is)
    ∙ hold_then b c x (λ c x. all_of base (n / base) c x)

last_one : (base n b : ℕ) → n < base → b ≡ digit_char (n % base) → (c : Core) (x : World) → all_of base n c x ≡ one_of b c x
last_one base n b below is c x =
    ap (λ digits. hold_all digits c x (λ c x. Did c x)) (last_only base n below) ∙ ap (λ b. one_of b c x) (sym is)

module _ {D : Type 0} {G : Ghosts D} where
  -- from here on only the rest is to be held
  pub record Holding (base number rest : ℕ) (old new : Forth D G) (levels : List Level) (x : World) : Type 0 where
    pub world : World
    pub stands : Represents new levels world
    pub goes : (r : Run) → all_of base number (core old) (with_run r x) ≡ all_of base rest (core new) (with_run r world)
    pub maps : world.maps ≡ x.maps
    pub steps : new.steps ≤ old.steps

  module _ {base number rest b : ℕ} {old mid new : Forth D G} {levels : List Level} {x : World} (h : Holding base number rest old mid levels x) where
    pub held_one : 2 ≤ base → base ≤ rest → b ≡ digit_char (rest % base) → Altered (λ r. one_of b (core mid) (with_run r h.world)) (Ok tt) mid new levels h.world
        → Holding base number (rest / base) old new levels x
    held_one low least is a = record {
      world = a.world;
      stands = a.stands;
      goes = λ r. h.goes r ∙ one_more base rest b low least is (core mid) (with_run r h.world) ∙ ap (λ o. and_then o (λ c x. all_of base (rest / base) c x)) (a.gives r);
      maps = a.maps ∙ h.maps;
      steps = omega (arith, a.steps, h.steps);
    }

    pub held_no_more : {f : Fault} → 2 ≤ base → base ≤ rest → b ≡ digit_char (rest % base) → Altered (λ r. one_of b (core mid) (with_run r h.world)) (Err f) mid new levels h.world
        → Altered (λ r. all_of base number (core old) (with_run r x)) (Err f) old new levels x
    held_no_more {f} low least is a = record {
      world = a.world;
      stands = a.stands;
      gives = (a.gives.0, a.gives.1, λ r. h.goes r ∙ one_more base rest b low least is (core mid) (with_run r h.world) ∙ ap (λ o. and_then o (λ c x. all_of base (rest / base) c x)) (a.gives.2 r));
      maps = a.maps ∙ h.maps;
      steps = omega (arith, a.steps, h.steps);
    }

    pub held_last : (result : Result (Unit {0}) Fault) → rest < base → b ≡ digit_char (rest % base) → Altered (λ r. one_of b (core mid) (with_run r h.world)) result mid new levels h.world
        → Altered (λ r. all_of base number (core old) (with_run r x)) result old new levels x
    held_last result below is a = record {
      world = a.world;
      stands = a.stands;
      gives = gives_as (λ r. one_of b (core mid) (with_run r h.world)) (λ r. all_of base number (core old) (with_run r x)) result (core new) a.world
          (λ r. h.goes r ∙ last_one base rest b below is (core mid) (with_run r h.world)) a.gives;
      maps = a.maps ∙ h.maps;
      steps = omega (arith, a.steps, h.steps);
    }
