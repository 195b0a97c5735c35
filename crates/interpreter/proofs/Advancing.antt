-- Rounds at the text, one kind as another.
use Rattle.std.proofs.Common.{◌≡◌, ℕ, zero, suc, ◌+◌, ◌*◌, ◌<◌, ◌≤◌, true, false, List, [], ◌∷◌, Option, None, Result, Ok, Err, refl, sym, ap, subst, ◌∙◌, arith}
use Rattle.std.specs.Prelude.{drop, min}
use Rattle.std.proofs.Math.Nat.{min-eq_left}
use Rattle.std.proofs.KnownBytes.{Consumes-nil, Appends-nil}
use Rattle.sector_disk.specs.declared.device.SectorDevice.{Ghosts}
use Rattle.block_words.specs.Words.{Wear, Answer, Save}
use Rattle.block_words.specs.Parts.{store_of}
use Rattle.block_words.specs.declared.buffered_blocks.Blocks.{Blocks}
use Rattle.journal.specs.Store.{device_of}
use Rattle.stacks.specs.declared.return_stack.Entry.{Entry}
use Rattle.stacks.specs.declared.return_stack.Entry.TheVariants.{Load as LoadOf}
use Rattle.stacks.specs.Stacks.{units}
use Rattle.cell_machine.specs.Events.{Doing}
use Rattle.cell_machine.specs.Frames.{Core, Level, Frame, Once, Load}
use Rattle.cell_machine.specs.Levels.{Left, LevelsAt}
use Rattle.cell_machine.specs.Value.{Outcome}
use Rattle.lexicon.specs.declared.language.Lexicon.{Lexicon}
use Rattle.lexicon.specs.Language.{Language}
use Rattle.lexicon.specs.Laws.{LoadsLeave}
use Rattle.lexicon.specs.Stands.{IsLeft, owner_in}
use Rattle.interpreter.specs.declared.terminal.Terminal.{Ghosts as TerminalGhosts}
use Rattle.interpreter.specs.declared.fault.Fault.{Fault}
use Rattle.interpreter.specs.declared.fault.Stop.{Stop}
use Rattle.interpreter.specs.declared.interpreting.Round.{Round}
use Rattle.interpreter.specs.declared.interpreting.Round.TheVariants.{GoesOn, Over}
use Rattle.interpreter.specs.declared.forth.Forth.{Forth}
use Rattle.interpreter.specs.declared.forth.Picture.{Picture}
use Rattle.interpreter.specs.declared.place.Place.{Place}
use Rattle.interpreter.specs.Told.{AreStarts}
use Rattle.interpreter.specs.Deeds.{Deed, before, after, asking}
use Rattle.interpreter.specs.Law.{left}
use Rattle.interpreter.specs.State.{World, Run, with_run, without_load}
use Rattle.interpreter.specs.Representation.{core, device, Represents, RepresentsWorldIn}
use Rattle.interpreter.specs.ServiceContract.{LastsAlone, Hands, Handed, KeepsAndWears, Printed, stopped, failed_calls}
use Rattle.interpreter.specs.Promise.{HasRisenBy}
use Rattle.data_space.specs.Space.{with_cell}
use Rattle.interpreter.specs.Lexicon.{language_of}
use Rattle.interpreter.specs.declared.services.lookahead.Cut.TheVariants.{Word}
use Rattle.interpreter.specs.Looking.{Seen, look}
use Rattle.interpreter.specs.RoundContract.{Entered, IsAtText, RoundComes, RanRound, seen, Decreases, LastsRound}
use Rattle.interpreter.specs.TextRounds.{PassesTo, Passed, Advanced, after_text, seen_round}
use Rattle.interpreter.proofs.Reading.{reads_on}
use Rattle.interpreter.proofs.Running.{no_calls}
use Rattle.interpreter.proofs.Underway.{one_fewer}

-- ---- what comes of the text

-- the next word is looked at
pub looks_on : (n : ℕ) (levels : List Level) (c : Core) (x : World) → c.steps < n → IsAtText levels → left n levels c x ≡ look Word 32 c x (λ s c x. seen_round n levels s c x)
looks_on zero levels c x less h = absurd (omega (arith, less))
looks_on (suc m) levels c x less h = reads_on m levels c x h (omega (arith, less))

-- ---- the end of a text

-- a load on top is that of the text
pub record LeavesLoad (l : Lexicon) (x : Language) (doing : Doing) (below : List Entry) (levels : List Level) (block to_in : ℕ) : Type 0 where
  pub outer : List Level
  pub is : levels ≡ Load block to_in ∷ outer
  pub left : IsLeft l x doing below outer

lies_none : (l : Lexicon) (x : Language) (doing : Doing) (entries : List Entry) (levels : List Level) → doing.pending ≡ None → IsLeft l x doing entries levels → LevelsAt l.code (owner_in x.words) doing.place entries levels
lies_none l x doing entries levels none h = subst (λ (p : Option ℕ). Left l.code (owner_in x.words) p doing.place entries levels) none h.lies

pub load_left : LoadsLeave → (l : Lexicon) (x : Language) (doing : Doing) (entries below : List Entry) (levels : List Level) (block to_in : ℕ) → doing.pending ≡ None → entries ≡ LoadOf block to_in ∷ below
    → IsAtText levels → IsLeft l x doing entries levels → LeavesLoad l x doing below levels block to_in
load_left law l x doing entries below [] block to_in none is at h =
    let empty : entries ≡ [] = lies_none l x doing entries [] none h in
    let no : LoadOf block to_in ∷ below ≡ [] = sym is ∙ empty in
    absurd (cc)
load_left law l x doing entries below (Load b t ∷ levels) block to_in none is at h =
    let o = law l x doing entries levels b t none h in
    let same : LoadOf b t ∷ o.0 ≡ LoadOf block to_in ∷ below = sym o.1.0 ∙ is in
    let blocks : b ≡ block = cc in
    let places : t ≡ to_in = cc in
    let lower : o.0 ≡ below = cc in
    record { outer = levels; is = λ i. Load (blocks i) (places i) ∷ levels; left = subst (λ e. IsLeft l x doing e levels) lower o.1.1 }
load_left law l x doing entries below (Frame owner trees loops later own ∷ levels) block to_in none is at h = absurd at
load_left law l x doing entries below (Once w ∷ levels) block to_in none is at h = absurd at

-- no load is on top: so it is the line's text
pub no_load : (l : Lexicon) (x : Language) (doing : Doing) (entries : List Entry) (levels : List Level) → doing.pending ≡ None → ((block to_in : ℕ) (below : List Entry) → entries ≡ LoadOf block to_in ∷ below → ⊥)
    → IsAtText levels → IsLeft l x doing entries levels → levels ≡ []
no_load l x doing entries [] none never at h = refl
no_load l x doing entries (Load b t ∷ levels) none never at h =
    let o = lies_none l x doing entries (Load b t ∷ levels) none h in
    absurd (never b t o.0 o.1.0)
no_load l x doing entries (Frame owner trees loops later own ∷ levels) none never at h = absurd at
no_load l x doing entries (Once w ∷ levels) none never at h = absurd at

-- and no other entry is
pub no_other : (l : Lexicon) (x : Language) (doing : Doing) (entries below : List Entry) (entry : Entry) (levels : List Level) → doing.pending ≡ None → entries ≡ entry ∷ below → ((block to_in : ℕ) → entry ≡ LoadOf block to_in → ⊥)
    → IsAtText levels → IsLeft l x doing entries levels → ⊥
no_other l x doing entries below entry [] none is never at h =
    let empty : entries ≡ [] = lies_none l x doing entries [] none h in
    let no : entry ∷ below ≡ [] = sym is ∙ empty in
    cc
no_other l x doing entries below entry (Load b t ∷ levels) none is never at h =
    let o = lies_none l x doing entries (Load b t ∷ levels) none h in
    let both : entry ∷ below ≡ LoadOf b t ∷ o.0 = sym is ∙ o.1.0 in
    let same : entry ≡ LoadOf b t = cc in
    never b t same
no_other l x doing entries below entry (Frame owner trees loops later own ∷ levels) none is never at h = absurd at
no_other l x doing entries below entry (Once w ∷ levels) none is never at h = absurd at

-- ---- what falls

pub paid_down : (s s' u u' : ℕ) → s' < s → s' * 257 + min u' 256 < s * 257 + min u 256
paid_down s s' u u' less = omega (arith, less)

pub load_down : (s : ℕ) (block to_in : ℕ) (entries below : List Entry) → entries ≡ LoadOf block to_in ∷ below → units entries ≤ 256 → s * 257 + min (units below) 256 < s * 257 + min (units entries) 256
load_down s block to_in entries below is bound =
    let more : units entries ≡ 2 + units below = ap units is in
    let low : min (units below) 256 ≡ units below = min-eq_left (omega (arith, more, bound)) in
    let high : min (units entries) 256 ≡ units entries = min-eq_left bound in
    omega (arith, more, low, high)

-- ---- one kind of round as another

-- a round that took a word
abbrev pub round_of : Result (Unit {0}) Fault → Result Round Fault
round_of (Ok _) = Ok GoesOn
round_of (Err f) = Err f

passes_comes : (n : ℕ) (start : Run → (Seen → Core → World → Outcome World) → Outcome World) (go : Seen → Core → World → Outcome World) (v : Seen) (answers : List Answer) (f : ℕ) (wear : Wear) (saves : List Save) (mid : Core) (w : World) (result : Result Round Fault) (levels : List Level) (c : Core) (y : World)
    → Hands start (asking answers f wear saves) (Ok v) mid w → PassesTo n (λ r. go v mid (with_run r w)) result levels c y
    → RoundComes n (λ r. start r go) (asking answers f wear saves) (stopped result) levels c y
passes_comes n start go v answers f wear saves mid w (Ok GoesOn) levels c y hands goes = λ r fits. hands r go ∙ goes (after (asking answers f wear saves) r)
passes_comes n start go v answers f wear saves mid w (Ok Over) levels c y hands goes = λ r fits. hands r go ∙ goes (after (asking answers f wear saves) r)
passes_comes n start go v answers f wear saves mid w (Err e) levels c y hands goes =
    record { core = goes.0; like = goes.1; ends = λ r fits. hands r go ∙ goes.2 (after (asking answers f wear saves) r) }

advanced_comes_as : (n : ℕ) (start start' : Run → Outcome World) (deed : Deed) (result : Result Round Fault) (levels : List Level) (c : Core) (x : World) → ((r : Run) → start' r ≡ start r)
    → RoundComes n start deed (stopped result) levels c x → RoundComes n start' deed (stopped result) levels c x
advanced_comes_as n start start' deed (Ok GoesOn) levels c x same h = λ r fits. same (before deed r) ∙ h r fits
advanced_comes_as n start start' deed (Ok Over) levels c x same h = λ r fits. same (before deed r) ∙ h r fits
advanced_comes_as n start start' deed (Err f) levels c x same h = record { core = h.core; like = h.like; ends = λ r fits. same (before deed r) ∙ h.ends r fits }

module _ {D : Type 0} {G : Ghosts D} where
  pub entered_passed : (n : ℕ) {start : Run → Outcome World} (result : Result (Unit {0}) Fault) {old new : Forth D G} {x : World} → Entered n start result old new x → Passed n start (round_of result) old new x
  entered_passed n (Ok v) h = record { levels = h.levels; world = h.world; stands = h.stands; goes = h.goes; maps = h.maps; steps = h.steps }
  entered_passed n (Err f) h = record { levels = h.levels; world = h.world; stands = h.stands; goes = h.goes; maps = h.maps; steps = h.steps }

  -- the innermost load is no longer under way
  one_load_fewer : {lexicon : Lexicon} {picture : Picture} {blocks : Blocks D G} {kept : List Place} (starts : List Place) (x : World) → starts ≡ drop 1 kept
      → RepresentsWorldIn lexicon picture blocks kept x → RepresentsWorldIn lexicon picture blocks starts (without_load x)
  one_load_fewer {lexicon} {picture} {blocks} {kept} starts x fewer s = record {
    meant = s.meant;
    held_end = s.held_end;
    held = s.held;
    buffers = s.buffers;
    loads = subst (λ l. AreStarts (drop 1 x.loads) l) (sym fewer) (one_fewer x.loads kept s.loads);
    maps = s.maps;
  }

  -- the line's text is over
  pub text_over : (n : ℕ) (old : Forth D G) (returns' : List Entry) (starts : List Place) (levels : List Level) (x : World) → returns' ≡ old.returns → starts ≡ drop 1 old.loads → levels ≡ [] → Represents old levels x
      → Passed n (λ r. after_text n levels (core old) (with_run r (without_load x))) (Ok Over) old (record old { returns = returns'; loads = starts }) x
  text_over n old returns' starts [] x same fewer is stands = record {
    levels = [];
    world = without_load x;
    stands = record { rests = one_load_fewer starts x fewer stands.rests; left = subst (λ e. IsLeft old.lexicon (language_of x) old.machine e []) (sym same) stands.left };
    goes = λ r. refl;
    maps = refl;
    steps = omega arith;
  }
  text_over n old returns' starts (l ∷ levels) x same fewer is stands = absurd (let no : l ∷ levels ≡ [] = is in cc)

  -- the text of a load is over
  pub load_over : (n : ℕ) (old : Forth D G) (below : List Entry) (starts : List Place) (space' : List ℕ) (levels : List Level) (x : World) (block to_in : ℕ)
      → LeavesLoad old.lexicon (language_of x) old.machine below levels block to_in → starts ≡ drop 1 old.loads → space' ≡ with_cell (with_cell old.space 22 block) 20 to_in → Represents old levels x
      → Passed n (λ r. after_text n levels (core old) (with_run r (without_load x))) (Ok GoesOn) old (record old { returns = below; loads = starts; space = space' }) x
  load_over n old below starts space' levels x block to_in h fewer wrote stands = record {
    levels = h.outer;
    world = without_load x;
    stands = record { rests = one_load_fewer starts x fewer stands.rests; left = h.left };
    goes = λ r.
        ap (λ l. after_text n l (core old) (with_run r (without_load x))) h.is
        ∙ ap (λ s. left n h.outer (record (core old) { space = s }) (with_run r (without_load x))) (sym wrote);
    maps = refl;
    steps = omega arith;
  }

  pub passed_as : (n : ℕ) {start : Run → Outcome World} (start' : Run → Outcome World) (result : Result Round Fault) (old : Forth D G) {mid new : Forth D G} {x : World}
      → ((r : Run) → start' r ≡ start r) → mid.steps ≤ old.steps → Passed n start result mid new x → Passed n start' result old new x
  passed_as n start' (Ok GoesOn) old same less h = record { levels = h.levels; world = h.world; stands = h.stands; goes = λ r. same r ∙ h.goes r; maps = h.maps; steps = omega (arith, h.steps, less) }
  passed_as n start' (Ok Over) old same less h = record { levels = h.levels; world = h.world; stands = h.stands; goes = λ r. same r ∙ h.goes r; maps = h.maps; steps = omega (arith, h.steps, less) }
  passed_as n start' (Err f) old same less h =
      record { levels = h.levels; world = h.world; stands = h.stands; goes = (h.goes.0, h.goes.1, λ r. same r ∙ h.goes.2 r); maps = h.maps; steps = omega (arith, h.steps, less) }

  -- a word that was looked at, and then a round that reaches neither
  pub handed_passed : (n : ℕ) {start : Run → (Seen → Core → World → Outcome World) → Outcome World} (go : Seen → Core → World → Outcome World) {v : Seen} (result : Result Round Fault) (old mid new : Forth D G) {levels : List Level} {x : World}
      → (h : Handed start (Ok v) old mid levels x) → new.blocks ≡ mid.blocks
      → Passed n (λ r. go v (core mid) (with_run r h.world)) result mid new h.world → Advanced n (λ r. start r go) result old new x
  handed_passed n {start} go {v} result old mid new {levels} {x} h blocks p = record {
    answers = h.answers;
    failures = h.failures;
    wear = h.wear;
    saves = h.saves;
    levels = p.levels;
    world = p.world;
    stands = p.stands;
    steps = omega (arith, h.steps, p.steps);
    comes = λ model. passes_comes n start go v h.answers h.failures h.wear h.saves (core mid) h.world result p.levels (core new) p.world (h.hands model) p.goes;
    cause = subst (λ (b : Blocks D G). HasRisenBy h.failures (G.failures (device old)) (G.failures (device_of (store_of b)))) (sym blocks) h.cause;
    keeps = λ model.
        subst (λ (b : Blocks D G). KeepsAndWears G x.maps p.world.maps (device old) (device_of (store_of b)) h.saves h.wear) (sym blocks)
        (subst (λ m. KeepsAndWears G x.maps m (device old) (device mid) h.saves h.wear) (sym p.maps) (h.keeps model));
  }

  -- none can be looked at
  pub handed_stopped : (n : ℕ) {start : Run → (Seen → Core → World → Outcome World) → Outcome World} (go : Seen → Core → World → Outcome World) {f : Fault} {old new : Forth D G} {levels : List Level} {x : World}
      → Handed start (Err f) old new levels x → Advanced n (λ r. start r go) (Err f) old new x
  handed_stopped n {start} go {f} {old} {new} {levels} {x} h = record {
    answers = h.answers;
    failures = h.failures;
    wear = h.wear;
    saves = h.saves;
    levels = levels;
    world = h.world;
    stands = h.stands;
    steps = h.steps;
    comes = λ model. let k = h.hands model in record { core = k.0; like = k.1; ends = λ r fits. k.2 r go };
    cause = h.cause;
    keeps = h.keeps;
  }

  pub advanced_as : (n : ℕ) {start : Run → Outcome World} (start' : Run → Outcome World) (result : Result Round Fault) {old new : Forth D G} {x : World} → ((r : Run) → start' r ≡ start r) → Advanced n start result old new x → Advanced n start' result old new x
  advanced_as n {start} start' result {old} {new} {x} same h = record {
    answers = h.answers;
    failures = h.failures;
    wear = h.wear;
    saves = h.saves;
    levels = h.levels;
    world = h.world;
    stands = h.stands;
    steps = h.steps;
    comes = λ model. advanced_comes_as n start start' (asking h.answers h.failures h.wear h.saves) result h.levels (core new) h.world same (h.comes model);
    cause = h.cause;
    keeps = h.keeps;
  }

-- beside a terminal that it doesn't reach
advanced_printed : (result : Result Round Fault) (o : Option (List ℕ)) → Printed (seen (stopped result)) o o [] []
advanced_printed (Ok v) o = Appends-nil o
advanced_printed (Err f) o = Appends-nil o

advanced_well : (result : Result Round Fault) → failed_calls (seen (stopped result)) ≡ 0
advanced_well (Ok v) = refl
advanced_well (Err f) = refl

module _ {D T : Type 0} {G : Ghosts D} (H : TerminalGhosts T) where
  advanced_round : (n : ℕ) {start : Run → Outcome World} (result : Result Round Fault) {old new : Forth D G} {x : World} (t : T) → Advanced n start result old new x → RanRound H n start (stopped result) old new t t x
  advanced_round n {start} result {old} {new} {x} t h = record {
    deed = asking h.answers h.failures h.wear h.saves;
    levels = h.levels;
    world = h.world;
    stands = h.stands;
    steps = h.steps;
    comes = h.comes;
    heard = record { given = Consumes-nil (H.input t); at_end = λ no. absurd (let e : false ≡ true = no in cc); printed = advanced_printed result (H.output t); calls = no_calls H (seen (stopped result)) t (advanced_well result) };
    cause = h.cause;
    keeps = h.keeps;
  }

  pub round_at_text : (n : ℕ) {start : Run → Outcome World} {result : Result Round Fault} {round : Result Round Stop} {old new : Forth D G} {x : World} → round ≡ stopped result → (t : T)
      → Advanced n start result old new x → RanRound H n start round old new t t x
  round_at_text n {start} {result} {round} {old} {new} {x} is t h = subst (λ round. RanRound H n start round old new t t x) (sym is) (advanced_round n result t h)

pub lasts_round : {D T : Type 0} (G : Ghosts D) (H : TerminalGhosts T) (result : Result Round Fault) (old new : D) (t : T) → LastsAlone G old new → LastsRound G H (stopped result) old new t t
lasts_round G H (Ok v) old new t h = record { time = h.time; model = h.model; device_failures = h.failures; terminal_failures = refl; no_more = omega arith; same = refl }
lasts_round G H (Err f) old new t h = record { time = h.time; model = h.model; device_failures = h.failures; terminal_failures = refl; no_more = omega arith; same = refl }

pub down_from : (result : Result Round Fault) (a b c : ℕ) → b ≡ a → Decreases (stopped result) b c → Decreases (stopped result) a c
down_from (Ok GoesOn) a b c same h = omega (arith, same, h)
down_from (Ok Over) a b c same h = tt
down_from (Err f) a b c same h = tt
