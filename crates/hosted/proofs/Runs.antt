-- A session over a store that was opened on a device.
use Rattle.std.proofs.Common.{◌≡◌, ◌≢◌, ◌∙◌, ◌≤◌, ◌++◌, ℕ, List, Option, IsTrue, Result, Ok, Err, refl, ap, sym, subst}
use Rattle.std.specs.Prelude.{IfErr, OnOk}
use Rattle.sector_disk.specs.declared.device.SectorDevice.{Ghosts}
use Rattle.sector_disk.specs.Moments.{Elapses}
use Rattle.journal.specs.declared.store.Store.{Store}
use Rattle.journal.specs.Maps.{fresh}
use Rattle.journal.specs.Store.{StandsFor, device_of}
use Rattle.journal.specs.Suits.{suits}
use Rattle.block_words.specs.Words.{Save}
use Rattle.interpreter.specs.State.{Forth}
use Rattle.interpreter.specs.Promise.{Keeps}
use Rattle.sessions.specs.declared.run_fault.RunFault.{RunFault}
use Rattle.sessions.specs.declared.run_fault.RunFault.TheVariants as run
use Rattle.sessions.specs.Devices.{Becomes}
use Rattle.sessions.specs.Sessions.{Completes, BreaksOff, Runs}
use Rattle.sessions.proofs.Ended.{ended_beside}
use Rattle.sessions.proofs.Rising.{told_in_all}
use Rattle.hosted.specs.Calls.{OpensOn, meant_by}
use Rattle.hosted.specs.Costs.{OpeningBegins}
use Rattle.hosted.specs.Refusals.{IsOfImage, IsOfSession, of_run}
use Rattle.hosted.proofs.Counts.{session_begins}
use Rattle.hosted.specs.Sessions.{BegunOn, EndsOn, BreaksSession, RunsSession, system_on}
use Rattle.hosted.proofs.Devices.{Widens, becomes_then}
use Rattle.hosted.specs.declared.refusal.Refusal.{Refusal}
use Rattle.hosted.specs.declared.refusal.Refusal.TheVariants.{Input, NoSteps, Output}

-- which fault of a run it was, by what is told
pub was_read : (fault : RunFault) (e : Refusal) → e ≡ of_run fault → e ≡ Input → fault ≡ run.Read
was_read run.Read e of is = refl
was_read run.Write e of is = absurd (let no : Output ≡ Input = cc in cc)

pub was_write : (fault : RunFault) (e : Refusal) → e ≡ of_run fault → e ≡ Output → fault ≡ run.Write
was_write run.Write e of is = refl
was_write run.Read e of is = absurd (let no : Input ≡ Output = cc in cc)

-- it isn't one of the image, of the memory or of the steps
pub not_image : (fault : RunFault) → IsOfImage (of_run fault) → ⊥
not_image run.Read is = is
not_image run.Write is = is

pub of_session : (fault : RunFault) → IsOfSession (of_run fault)
of_session run.Read = tt
of_session run.Write = tt

-- it is one of the input or the output
pub not_either : (fault : RunFault) → of_run fault ≢ Input → of_run fault ≢ Output → ⊥
not_either run.Read input output = input refl
not_either run.Write input output = output refl

pub not_steps : (fault : RunFault) → of_run fault ≡ NoSteps → ⊥
not_steps run.Read is = let no : Input ≡ NoSteps = is in cc
not_steps run.Write is = let no : Output ≡ NoSteps = is in cc

on_ok : {A E : Type 0} (r : Result A E) (a : A) (P : Type 0) → r ≡ Ok a → OnOk r P → P
on_ok r a P is p = subst (λ r. OnOk r P) is p

if_err : {A E : Type 0} (r : Result A E) (e : E) (P : E → Type 0) → r ≡ Err e → IfErr r P → P e
if_err r e P is p = subst (λ r. IfErr r P) is p

module _ {D A : Type 0} (G : Ghosts D) (device : D) (steps : ℕ) (left left' written written' : Option (List ℕ)) where
  -- what a run over a store says of it
  abbrev pub Ends : (store end : Store D G) → Result A RunFault → Type 0
  Ends store end outcome =
      (closing : Forth) × (made : List Save) × StandsFor end closing.world.maps
      × Keeps G (system_on G steps device) closing (device_of store) (device_of end) made
      × OnOk outcome (Completes G (system_on G steps device) closing left left' written written' (device_of store) (device_of end) made)
      × IfErr outcome (λ fault. BreaksOff G fault (system_on G steps device) closing left left' written written' (device_of store) (device_of end) made)

  pub has_run : (after : D) (store end : Store D G) (outcome : Result A RunFault) (done : A) → outcome ≡ Ok done → after ≡ device_of end
      → OpensOn G device store → (IsTrue (suits G device) → OpeningBegins G device (device_of store)) → Becomes G (device_of store) (device_of end) → (IsTrue (suits G device) → Ends store end outcome)
      → RunsSession G steps left left' written written' device after
  has_run after store end outcome done well is opens opening goes ends =
      let completed = λ (keeps : IsTrue (suits G device)). on_ok outcome done _ well (ends keeps).4 in
      subst (RunsSession G steps left left' written written' device) (sym is) (record {
        begun = device_of store;
        well = opens.well;
        goes = opens.goes;
        runs_on = goes;
        stops = opens.stops;
        runs = λ keeps. let ended = ends keeps in record {
          closing = ended.0;
          made = ended.1;
          completes = completed keeps;
          keeps = ended.3;
          saved = λ closed. ended.2.left (sym ended.2.closed ∙ closed);
        };
        begins = λ keeps.
            session_begins G device (device_of store) (device_of end) _ opens.sectors (opening keeps)
            (told_in_all G (device_of store) (device_of end) (completed keeps).turns (completed keeps).told).1;
      })

  pub has_broken : (after : D) (store end : Store D G) (outcome : Result A RunFault) (fault told : RunFault) → outcome ≡ Err fault → fault ≡ told
      → after ≡ device_of end → OpensOn G device store → (IsTrue (suits G device) → OpeningBegins G device (device_of store))
      → Becomes G (device_of store) (device_of end) → IsTrue (suits G device) → Ends store end outcome
      → BreaksSession G told steps left left' written written' device after
  has_broken after store end outcome fault told broken is at opens opening goes keeps ended =
      let cut = if_err outcome fault _ broken ended.5 in
      subst (λ d. BreaksSession G told steps left left' written written' device d) (sym at) (subst (λ it. BreaksSession G it steps left left' written written' device (device_of end)) is (record {
        begun = device_of store;
        well = opens.well;
        goes = opens.goes;
        runs_on = goes;
        closing = ended.0;
        made = ended.1;
        stops = opens.stops keeps;
        breaks = cut;
        keeps = ended.3;
        begins =
            session_begins G device (device_of store) (device_of end) _ opens.sectors (opening keeps)
            (told_in_all G (device_of store) (device_of end) (cut.turns ++ cut.last) cut.told).1;
      }))

-- a run of a system that was begun on a device, and ended
module _ {D F A : Type 0} (G : Ghosts D) (stands : F → Forth → Type 0) (sound : F → Type 0) (at_device : F → D) (device : D) (steps : ℕ)
    (left left' written written' : Option (List ℕ)) (room : List F) (begun : BegunOn G stands sound at_device steps device room)
    (before after : F) (at : before ≡ begun.over.system) (end : D) (ends : EndsOn G stands at_device after end) (outcome : Result A RunFault)
    (ok : OnOk outcome (Runs G stands at_device before after (λ opening closing made. Completes G opening closing left left' written written' (at_device before) (at_device after) made)))
    (err : IfErr outcome (λ fault. Runs G stands at_device before after (λ opening closing made. BreaksOff G fault opening closing left left' written written' (at_device before) (at_device after) made)))
    (time : Elapses G.time G.left_since (at_device before) (at_device after)) (model : suits G (at_device after) ≡ suits G (at_device before))
    (failures : G.failures (at_device before) ≤ G.failures (at_device after))
  where
    first : at_device before ≡ device_of begun.store
    first = ap at_device at ∙ begun.over.device

    last : at_device after ≡ device_of ends.store
    last = sym ends.same

    stood : IsTrue (suits G device) → stands before (system_on G steps device)
    stood keeps = subst (λ f. stands f (system_on G steps device)) (sym at) (begun.over.begins (fresh (meant_by G device)) (begun.opens.stands keeps))

    run_ends : IsTrue (suits G device) → Ends G device steps left left' written written' begun.store ends.store outcome
    run_ends keeps =
        let well = rw (first, last) at ok in
        let broken = rw (first, last) at err in
        ended_beside outcome _ _ _ _ _ _ _ _ (λ opening closing made it. it) (λ fault opening closing made it. it) ends.means (system_on G steps device) (stood keeps) well broken

    goes : Becomes G (device_of begun.store) (device_of ends.store)
    goes = record {
      model = rw (first, last) at model;
      sectors = λ keeps. (run_ends (subst IsTrue begun.opens.goes.model keeps)).3.kept.sectors;
      time = rw (first, last) at time;
      failures = rw (first, last) at failures;
    }

    pub ran : (done : A) → outcome ≡ Ok done → RunsSession G steps left left' written written' device end
    ran done well = has_run G device steps left left' written written' end begun.store ends.store outcome done well ends.left begun.opens begun.opening goes run_ends

    pub broke : (fault told : RunFault) → outcome ≡ Err fault → fault ≡ told → IsTrue (suits G device)
        → BreaksSession G told steps left left' written written' device end
    broke fault told broken is keeps =
        has_broken G device steps left left' written written' end begun.store ends.store outcome fault told broken is ends.left begun.opens begun.opening goes keeps (run_ends keeps)

    pub came : Widens G → Becomes G device end
    came widens = subst (λ d. Becomes G device d) (sym ends.left) (becomes_then G device (device_of begun.store) (device_of ends.store) widens begun.opens.goes goes)
