-- What a service has come to, as the round of the loop that did it.
use Rattle.std.proofs.Common.{◌≡◌, ℕ, zero, suc, ◌<◌, ◌≤◌, true, false, List, [], Option, Some, None, Result, Ok, Err, refl, sym, ap, subst, length, arith}
use Rattle.std.specs.Prelude.{slice_get}
use Rattle.std.proofs.lemmas.Option.{slice_get_within}
use Rattle.sector_disk.specs.declared.device.SectorDevice.{Ghosts}
use Rattle.dictionary.specs.Words.{Kind, Primitive, Colon, Created, Constant, Vocabulary, entry}
use Rattle.compiler.specs.Definition.{Body}
use Rattle.cell_machine.specs.Calling.{Outside}
use Rattle.cell_machine.specs.Fault.{Aborts, Faults, Token}
use Rattle.cell_machine.specs.Frames.{Core, Around, Level}
use Rattle.cell_machine.specs.Value.{Outcome, Did, Ends, Serve, and_then}
use Rattle.lexicon.specs.Language.{Part, ForthWord, Language}
use Rattle.lexicon.specs.Kinds.{makes_vocabulary, is_vocabulary}
use Rattle.lexicon.specs.Running.{meaning_of, word_meaning}
use Rattle.lexicon.specs.Stands.{IsWord}
use Rattle.interpreter.specs.declared.terminal.Terminal.{Ghosts as TerminalGhosts}
use Rattle.interpreter.specs.declared.fault.Fault.{Fault}
use Rattle.interpreter.specs.declared.fault.Stop.{Stop}
use Rattle.interpreter.specs.declared.fault.Stop.TheVariants as stop
use Rattle.interpreter.specs.declared.interpreting.Round.{Round}
use Rattle.interpreter.specs.declared.forth.Forth.{Forth}
use Rattle.interpreter.specs.Deeds.{Deed, before, after, mended}
use Rattle.interpreter.specs.Law.{left, run_after, Grows}
use Rattle.interpreter.specs.State.{World, Run}
use Rattle.interpreter.specs.Text.{user_kind, user_word}
use Rattle.interpreter.specs.Representation.{core, Represents}
use Rattle.interpreter.specs.ServiceContract.{Broke, BreaksOff, Comes, Altered, Consulted, Ran, Spares, stopped}
use Rattle.interpreter.specs.RoundContract.{round_of, RanRound, Entered}
use Rattle.interpreter.proofs.Running.{OnlyNow, quiet}
use Rattle.interpreter.proofs.Consulting.{consulted_ran}
use Rattle.interpreter.proofs.Entering.{round_entered}
use Rattle.interpreter.proofs.Serviced.{served_round}

pub pred_of : (s n : ℕ) → s < n → (m : ℕ) × ((n ≡ suc m) × (s ≤ m))
pred_of s zero less = absurd (omega (arith, less))
pred_of s (suc m) less = (m, (refl, omega (arith, less)))

module _ {D T : Type 0} (G : Ghosts D) (H : TerminalGhosts T) (n : ℕ) (levels : List Level) where
  pub ran_round : {start : Run → Outcome World} {result : Result (Unit {0}) Stop} {round : Result Round Stop} (old new : Forth D G) (t u : T) {x : World}
      → round ≡ round_of result → Ran H start result old new t u levels x → RanRound H n (λ r. and_then (start r) (λ c x. left n levels c x)) round old new t u x
  ran_round {start} {result} {round} old new t u {x} is h =
      subst (λ round. RanRound H n (λ r. and_then (start r) (λ c x. left n levels c x)) round old new t u x) (sym is) (served_round H n levels result h)

  pub quiet_round : OnlyNow G → {start : Run → Outcome World} {result : Result (Unit {0}) Fault} {round : Result Round Stop} (old new : Forth D G) (t : T) {x : World}
      → round ≡ round_of (stopped result) → Represents old levels x → Spares result old new → Altered start result old new levels x → RanRound H n (λ r. and_then (start r) (λ c x. left n levels c x)) round old new t t x
  quiet_round only_now old new t is stands spares h = ran_round old new t t is (quiet G H only_now old new t stands spares.device h)

  pub consulted_round : {start : Run → Outcome World} {result : Result (Unit {0}) Fault} {round : Result Round Stop} (old new : Forth D G) (t : T) {x : World}
      → round ≡ round_of (stopped result) → Consulted start result old new levels x → RanRound H n (λ r. and_then (start r) (λ c x. left n levels c x)) round old new t t x
  consulted_round old new t is h = ran_round old new t t is (consulted_ran H t h)

  pub entered_round : OnlyNow G → {start : Run → Outcome World} {result : Result (Unit {0}) Fault} {round : Result Round Stop} (old new : Forth D G) (t : T) {x : World}
      → round ≡ round_of (stopped result) → Represents old levels x → Spares result old new → Entered n start result old new x → RanRound H n start round old new t t x
  entered_round only_now {start} {result} {round} old new t {x} is stands spares h =
      subst (λ round. RanRound H n start round old new t t x) (sym is) (round_entered G H only_now n old new levels t stands spares.device h)

-- ---- a word that is no service

no_kind : (f : ℕ) (inner : Serve World) (w : ℕ) (a : Around) (c : Core) (x : World) (k : Kind Body Part) → makes_vocabulary k ≡ false → meaning_of k ≡ Outside → user_kind f inner w k a c x ≡ Ends (Faults Token) c x
no_kind f inner w a c x Primitive v m = refl
no_kind f inner w a c x (Colon body) v m = absurd cc
no_kind f inner w a c x (Created d None) v m = absurd cc
no_kind f inner w a c x (Created d (Some part)) v m = absurd cc
no_kind f inner w a c x (Constant n) v m = absurd cc
no_kind f inner w a c x Vocabulary v m = absurd cc

pub no_word : (f : ℕ) (inner : Serve World) (w : ℕ) (a : Around) (c : Core) (x : World) (o : Option ForthWord) → is_vocabulary o ≡ false → word_meaning o ≡ Outside → user_word f inner w o a c x ≡ Ends (Faults Token) c x
no_word f inner w a c x None v m = refl
no_word f inner w a c x (Some word) v m = no_kind f inner w a c x word.kind v m

becomes_first : (f : ℕ) (inner : Serve World) (w : ℕ) (a : Around) (c : Core) (x : World) (k : Kind Body Part) → makes_vocabulary k ≡ true → user_kind f inner w k a c x ≡ Did c (record x { first = w })
becomes_first f inner w a c x Primitive v = absurd cc
becomes_first f inner w a c x (Colon body) v = absurd cc
becomes_first f inner w a c x (Created d None) v = absurd cc
becomes_first f inner w a c x (Created d (Some part)) v = absurd cc
becomes_first f inner w a c x (Constant n) v = absurd cc
becomes_first f inner w a c x Vocabulary v = refl

pub to_vocabulary : (f : ℕ) (inner : Serve World) (w : ℕ) (a : Around) (c : Core) (x : World) (o : Option ForthWord) → is_vocabulary o ≡ true → user_word f inner w o a c x ≡ Did c (record x { first = w })
to_vocabulary f inner w a c x None v = absurd cc
to_vocabulary f inner w a c x (Some word) v = becomes_first f inner w a c x word.kind v

is_within : (words : List ForthWord) (k : ℕ) (o : Option ForthWord) → slice_get words k ≡ o → is_vocabulary o ≡ true → k < length words
is_within words k None is v = absurd cc
is_within words k (Some word) is v = slice_get_within words k word is

pub vocabulary_is_word : (x : Language) (w : ℕ) → is_vocabulary (entry x.words w) ≡ true → IsWord x w
vocabulary_is_word x zero v = absurd cc
vocabulary_is_word x (suc k) v = let n = is_within x.words k (slice_get x.words k) refl v in record { above = omega arith; most = omega (arith, n) }

-- ---- a text to abort with

abbrev aborts : Outcome World → Outcome World
aborts o = and_then o (λ c x. Ends Aborts c x)

same_run : (o : Outcome World) → run_after (aborts o) ≡ run_after o
same_run (Did c x) = refl
same_run (Ends e c x) = refl

broke_aborts : {start : Run → Outcome World} {deed : Deed} {c : Core} {x : World} → Broke start deed c x → Broke (λ r. aborts (start r)) deed c x
broke_aborts {start} {deed} {c} {x} h = record {
  core = h.core;
  like = h.like;
  breaks = λ r fits none. let b : BreaksOff start deed h.core x r = h.breaks r fits none in record { run = b.run; ends = ap aborts b.ends; input = b.input; output = b.output; saves = b.saves };
  grows = λ r fits. subst (λ q. Grows (after (mended deed) r) q) (sym (same_run (start (before (mended deed) r)))) (h.grows r fits);
  input = λ r fits never none. subst (λ (q : Run). q.input ≡ []) (sym (same_run (start (before deed r)))) (h.input r fits never none);
  answers = λ r fits never none. subst (λ (q : Run). q.answers ≡ []) (sym (same_run (start (before deed r)))) (h.answers r fits never none);
  failures = λ r fits never none. subst (λ (q : Run). q.failures ≡ (after deed r).failures) (sym (same_run (start (before deed r)))) (h.failures r fits never none);
}

stops_aborts : (start : Run → Outcome World) (deed : Deed) (s : Stop) (c : Core) (x : World) → Comes start deed (Err s) c x → Comes (λ r. aborts (start r)) deed (Err s) c x
stops_aborts start deed stop.Io c x h = broke_aborts h
stops_aborts start deed stop.Quit c x h = record { core = h.core; like = h.like; ends = λ r fits. ap aborts (h.ends r fits) }
stops_aborts start deed stop.Abort c x h = record { core = h.core; like = h.like; ends = λ r fits. ap aborts (h.ends r fits) }
stops_aborts start deed (stop.Fault f) c x h = record { core = h.core; like = h.like; ends = λ r fits. ap aborts (h.ends r fits) }

module _ {D T : Type 0} {G : Ghosts D} (H : TerminalGhosts T) where
  pub ran_aborts : {start : Run → Outcome World} {old new : Forth D G} {t u : T} {levels : List Level} {x : World} (v : Unit {0}) → Ran H start (Ok v) old new t u levels x → Ran H (λ r. aborts (start r)) (Err stop.Abort) old new t u levels x
  ran_aborts {start} {old} {new} v h = record {
    deed = h.deed;
    world = h.world;
    stands = h.stands.rests;
    steps = h.steps;
    comes = λ model. record { core = core new; like = refl; ends = λ r fits. ap aborts (h.comes model r fits) };
    heard = record { given = h.heard.given; at_end = h.heard.at_end; printed = h.heard.printed; calls = h.heard.calls };
    cause = h.cause;
    keeps = h.keeps;
  }

  pub stopped_aborts : {start : Run → Outcome World} (s : Stop) {old new : Forth D G} {t u : T} {levels : List Level} {x : World} → Ran H start (Err s) old new t u levels x → Ran H (λ r. aborts (start r)) (Err s) old new t u levels x
  stopped_aborts {start} s {old} {new} h = record {
    deed = h.deed;
    world = h.world;
    stands = h.stands;
    steps = h.steps;
    comes = λ model. stops_aborts start h.deed s (core new) h.world (h.comes model);
    heard = h.heard;
    cause = h.cause;
    keeps = h.keeps;
  }
