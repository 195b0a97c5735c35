-- Parts of a line that reach neither terminal nor device.
use Rattle.std.proofs.Common.{◌≡◌, ◌≤◌, List, Result, Ok, Err, refl, ap, ◌∙◌, arith}
use Rattle.sector_disk.specs.declared.device.SectorDevice.{Ghosts}
use Rattle.cell_machine.specs.Frames.{Core, Level}
use Rattle.cell_machine.specs.Value.{Outcome, Did, Ends, and_then}
use Rattle.cell_machine.specs.Fault.{Faults}
use Rattle.cell_machine.specs.Events.{Doing}
use Rattle.stacks.specs.declared.return_stack.Entry.{Entry}
use Rattle.block_words.specs.declared.buffered_blocks.Blocks.{Blocks}
use Rattle.lexicon.specs.declared.language.Lexicon.{Lexicon}
use Rattle.interpreter.specs.declared.forth.Picture.{Picture}
use Rattle.interpreter.specs.declared.place.Place.{Place}
use Rattle.lexicon.specs.Language.{Language}
use Rattle.lexicon.specs.Promise.{Becomes}
use Rattle.interpreter.specs.Lexicon.{language_of, with_language}
use Rattle.interpreter.specs.Stops.{fault_of}
use Rattle.interpreter.specs.Representation.{core, Represents, RepresentsIn}
use Rattle.interpreter.specs.declared.fault.Fault.{Fault}
use Rattle.interpreter.specs.declared.forth.Forth.{Forth}
use Rattle.interpreter.specs.State.{World, Run, with_run}
use Rattle.interpreter.specs.ServiceContract.{Gives, Altered}

-- what comes of the line before it may be said otherwise
pub gives_as : (start start' : Run → Outcome World) (result : Result (Unit {0}) Fault) (c : Core) (x : World) → ((r : Run) → start' r ≡ start r) → Gives start result c x → Gives start' result c x
gives_as start start' (Ok v) c x same g = λ r. same r ∙ g r
gives_as start start' (Err f) c x same g = (g.0, g.1, λ r. same r ∙ g.2 r)

module _ {D : Type 0} {G : Ghosts D} where
  pub altered_as : {start : Run → Outcome World} (start' : Run → Outcome World) {result : Result (Unit {0}) Fault} {mid new : Forth D G} (old : Forth D G) {levels : List Level} {x : World}
      → ((r : Run) → start' r ≡ start r) → mid.steps ≤ old.steps → Altered start result mid new levels x → Altered start' result old new levels x
  altered_as {start} start' {result} {mid} {new} old {levels} {x} same less h = record {
    world = h.world;
    stands = h.stands;
    gives = gives_as start start' result _ h.world same h.gives;
    maps = h.maps;
    steps = omega (arith, h.steps, less);
  }

  -- it is refused
  pub refused : {start : Run → Outcome World} {f : Fault} {old : Forth D G} (new : Forth D G) {levels : List Level} {x : World}
      → Represents new levels x → (said : Core) → said.space ≡ new.space → ((r : Run) → start r ≡ Ends (Faults (fault_of f)) said (with_run r x)) → new.steps ≤ old.steps
      → Altered start (Err f) old new levels x
  refused {start} {f} {old} new {levels} {x} stands said same ends less =
      record { world = x; stands = stands.rests; gives = (said, same, ends); maps = refl; steps = less }

  -- it goes on
  pub went : {start : Run → Outcome World} {old : Forth D G} (new : Forth D G) {levels : List Level} {x : World} (y : World)
      → Represents new levels y → ((r : Run) → start r ≡ Did (core new) (with_run r y)) → y.maps ≡ x.maps → new.steps ≤ old.steps
      → Altered start (Ok tt) old new levels x
  went {start} {old} new {levels} {x} y stands did same less = record { world = y; stands = stands; gives = did; maps = same; steps = less }

  -- the lexicon means something else
  pub becoming : {lexicon lexicon' : Lexicon} {machine : Doing} {returns : List Entry} {picture : Picture} {blocks : Blocks D G} {starts : List Place} {levels : List Level} {x : World} (m : Language)
      → RepresentsIn lexicon machine returns picture blocks starts levels x → Becomes lexicon lexicon' (language_of x) m
      → RepresentsIn lexicon' machine returns picture blocks starts levels (with_language m x)
  becoming {lexicon} {lexicon'} {machine} {returns} {picture} {blocks} {starts} {levels} {x} m s b = record {
    rests = record { meant = b.stands; held_end = s.rests.held_end; held = s.rests.held; buffers = s.rests.buffers; loads = s.rests.loads; maps = s.rests.maps };
    left = b.left machine returns levels s.left;
  }

  -- its first part went on, and so does the rest
  pub went_then : {start : Run → Outcome World} {old mid : Forth D G} (new : Forth D G) {levels : List Level} {x : World} (start' : Run → Outcome World) (go : Core → World → Outcome World) (h : Altered start (Ok tt) old mid levels x)
      → ((r : Run) → start' r ≡ and_then (start r) go) → Represents new levels h.world → ((r : Run) → go (core mid) (with_run r h.world) ≡ Did (core new) (with_run r h.world)) → new.steps ≤ mid.steps
      → Altered start' (Ok tt) old new levels x
  went_then {start} {old} {mid} new {levels} {x} start' go h same stands goes less = record {
    world = h.world;
    stands = stands;
    gives = λ r. same r ∙ ap (λ o. and_then o go) (h.gives r) ∙ goes r;
    maps = h.maps;
    steps = omega (arith, h.steps, less);
  }

  -- its first part was refused
  pub refused_then : {start : Run → Outcome World} {f : Fault} {old new : Forth D G} {levels : List Level} {x : World} (start' : Run → Outcome World) (go : Core → World → Outcome World)
      → ((r : Run) → start' r ≡ and_then (start r) go) → Altered start (Err f) old new levels x → Altered start' (Err f) old new levels x
  refused_then {start} {f} {old} {new} {levels} {x} start' go same h = record {
    world = h.world;
    stands = h.stands;
    gives = (h.gives.0, h.gives.1, λ r. same r ∙ ap (λ o. and_then o go) (h.gives.2 r));
    maps = h.maps;
    steps = h.steps;
  }
