-- A word of the text: what the definitions come to, where their tests are known.
use Rattle.std.proofs.Common.{◌≡◌, ℕ, ◌<◌, ◌≤◌, ◌-◌, Bool, true, false, List, [], ◌∷◌, length, Result, Ok, Err, refl, ap, ◌∙◌, arith}
use Rattle.std.specs.Prelude.{nat_le, ◌&&◌}
use Rattle.std.proofs.lemmas.Bool.{le-leb, lt-leb}
use Rattle.cell_machine.specs.Fault.{Faults, Steps, Base}
use Rattle.cell_machine.specs.Frames.{Core, Level, branch, paid}
use Rattle.cell_machine.specs.Value.{Outcome, Ends, and_then}
use Rattle.number_io.specs.Number.{number}
use Rattle.number_io.specs.declared.number.Number.{Number as Read}
use Rattle.number_io.specs.declared.number.NumberFault.{NumberFault}
use Rattle.sector_disk.specs.declared.device.SectorDevice.{Ghosts}
use Rattle.interpreter.specs.declared.fault.Fault.{Fault}
use Rattle.interpreter.specs.declared.forth.Forth.{Forth}
use Rattle.interpreter.specs.State.{World, Run, with_run, without_load, system_cell, base_cell}
use Rattle.interpreter.specs.Text.{number_value}
use Rattle.interpreter.specs.Pictures.{with_base}
use Rattle.interpreter.specs.Law.{left}
use Rattle.interpreter.specs.Representation.{core}
use Rattle.interpreter.specs.ServiceContract.{Altered}
use Rattle.interpreter.specs.RoundContract.{Entered}
use Rattle.interpreter.specs.TextRounds.{after_text, treated, word_round}
use Rattle.interpreter.proofs.Short.{needing-no, needing-yes}

-- ---- tests that are known

pub branch-yes : (b : Bool) (c : Core) (go stop : Core → Outcome World) → b ≡ true → branch b c go stop ≡ go c
branch-yes b c go stop is = ap (λ b. branch b c go stop) is

pub branch-no : (b : Bool) (c : Core) (go stop : Core → Outcome World) → b ≡ false → branch b c go stop ≡ stop c
branch-no b c go stop is = ap (λ b. branch b c go stop) is

and-false : (a : Bool) → (a && false) ≡ false
and-false true = refl
and-false false = refl

pub base-low : (b : ℕ) → b < 2 → (nat_le 2 b && nat_le b 72) ≡ false
base-low b less = ap (λ t. t && nat_le b 72) (lt-leb 2 b less)

pub base-high : (b : ℕ) → 72 < b → (nat_le 2 b && nat_le b 72) ≡ false
base-high b more = ap (λ t. nat_le 2 b && t) (lt-leb b 72 more) ∙ and-false (nat_le 2 b)

pub base-fits : (b : ℕ) → 2 ≤ b → b ≤ 72 → (nat_le 2 b && nat_le b 72) ≡ true
base-fits b low high = ap (λ t. t && nat_le b 72) (le-leb 2 b low) ∙ le-leb b 72 high

-- a number, in a base that there is
pub number_is : (c : Core) (x : World) (text : List ℕ) (v : Result Read NumberFault) → 2 ≤ system_cell base_cell c → system_cell base_cell c ≤ 72 → number (system_cell base_cell c) text ≡ v
    → with_base c x (λ c. number_value (number (system_cell base_cell c) text) c x) ≡ number_value v c x
number_is c x text v low high is =
    needing-yes (nat_le 2 (system_cell base_cell c) && nat_le (system_cell base_cell c) 72) Base c x (λ c. number_value (number (system_cell base_cell c) text) c x) (base-fits (system_cell base_cell c) low high)
    ∙ ap (λ v. number_value v c x) is

pub no_base : (c : Core) (x : World) (go : Core → Outcome World) → (nat_le 2 (system_cell base_cell c) && nat_le (system_cell base_cell c) 72) ≡ false → with_base c x go ≡ Ends (Faults Base) c x
no_base c x go is = needing-no (nat_le 2 (system_cell base_cell c) && nat_le (system_cell base_cell c) 72) Base c x go is

module _ {D : Type 0} {G : Ghosts D} where
  -- ---- one part after another

  -- a part that is refused ends the whole
  pub altered_refused : {start : Run → Outcome World} {f : Fault} {old new : Forth D G} {levels : List Level} {x : World} (go : Core → World → Outcome World)
      → Altered start (Err f) old new levels x → Altered (λ r. and_then (start r) go) (Err f) old new levels x
  altered_refused go h = record { world = h.world; stands = h.stands; gives = (h.gives.0, h.gives.1, λ r. ap (λ o. and_then o go) (h.gives.2 r)); maps = h.maps; steps = h.steps }

  pub altered_then : {start : Run → Outcome World} (result : Result (Unit {0}) Fault) {old mid new : Forth D G} {levels : List Level} {x : World} (go : Core → World → Outcome World)
      → (h : Altered start (Ok tt) old mid levels x) → Altered (λ r. go (core mid) (with_run r h.world)) result mid new levels h.world
      → Altered (λ r. and_then (start r) go) result old new levels x
  altered_then (Ok v) go h k = record {
    world = k.world;
    stands = k.stands;
    gives = λ r. ap (λ o. and_then o go) (h.gives r) ∙ k.gives r;
    maps = k.maps ∙ h.maps;
    steps = omega (arith, h.steps, k.steps);
  }
  altered_then (Err f) go h k = record {
    world = k.world;
    stands = k.stands;
    gives = (k.gives.0, k.gives.1, λ r. ap (λ o. and_then o go) (h.gives r) ∙ k.gives.2 r);
    maps = k.maps ∙ h.maps;
    steps = omega (arith, h.steps, k.steps);
  }

  -- a part that enters nothing: what was left goes on
  pub altered_entered : (n : ℕ) {start : Run → Outcome World} (result : Result (Unit {0}) Fault) {old new : Forth D G} {levels : List Level} {x : World}
      → Altered start result old new levels x → Entered n (λ r. and_then (start r) (λ c x. left n levels c x)) result old new x
  altered_entered n (Ok v) {old} {new} {levels} h =
      record { levels = levels; world = h.world; stands = h.stands; goes = λ r. ap (λ o. and_then o (λ c x. left n levels c x)) (h.gives r); maps = h.maps; steps = h.steps }
  altered_entered n (Err f) {old} {new} {levels} h = record {
    levels = levels;
    world = h.world;
    stands = h.stands;
    goes = (h.gives.0, h.gives.1, λ r. ap (λ o. and_then o (λ c x. left n levels c x)) (h.gives.2 r));
    maps = h.maps;
    steps = h.steps;
  }

  -- what comes of the line before it may be said otherwise
  pub entered_as : (n : ℕ) {start : Run → Outcome World} (start' : Run → Outcome World) (result : Result (Unit {0}) Fault) (old : Forth D G) {mid new : Forth D G} {x : World}
      → ((r : Run) → start' r ≡ start r) → mid.steps ≤ old.steps → Entered n start result mid new x → Entered n start' result old new x
  entered_as n start' (Ok v) old same less h =
      record { levels = h.levels; world = h.world; stands = h.stands; goes = λ r. same r ∙ h.goes r; maps = h.maps; steps = omega (arith, h.steps, less) }
  entered_as n start' (Err f) old same less h =
      record { levels = h.levels; world = h.world; stands = h.stands; goes = (h.goes.0, h.goes.1, λ r. same r ∙ h.goes.2 r); maps = h.maps; steps = omega (arith, h.steps, less) }

-- ---- a word, and none

pub no-word : (n : ℕ) (levels : List Level) (word : List ℕ) (moved : Core → Core) (c : Core) (x : World) → length word ≡ 0 → word_round n levels word moved c x ≡ after_text n levels (moved c) (without_load x)
no-word n levels [] moved c x is = refl
no-word n levels (b ∷ word) moved c x is = absurd (omega (arith, is))

pub word-unpaid : (n : ℕ) (levels : List Level) (word : List ℕ) (moved : Core → Core) (c : Core) (x : World) → 0 < length word → c.steps ≡ 0 → word_round n levels word moved c x ≡ Ends (Faults Steps) c x
word-unpaid n levels [] moved c x some none = absurd (omega (arith, some))
word-unpaid n levels (b ∷ word) moved c x some none =
    ap (λ t. paid t 1 c (λ e c. Ends e c x) (λ c. treated n levels (b ∷ word) (moved c) x)) (lt-leb 1 c.steps (omega (arith, none)))

pub word-paid : (n : ℕ) (levels : List Level) (word : List ℕ) (moved : Core → Core) (c : Core) (x : World) → 0 < length word → 0 < c.steps
    → word_round n levels word moved c x ≡ treated n levels word (moved (record c { steps = c.steps - 1 })) x
word-paid n levels [] moved c x some enough = absurd (omega (arith, some))
word-paid n levels (b ∷ word) moved c x some enough =
    ap (λ t. paid t 1 c (λ e c. Ends e c x) (λ c. treated n levels (b ∷ word) (moved c) x)) (le-leb 1 c.steps (omega (arith, enough)))
