-- The session of a script, from the store that is opened to how it ended.
use Rattle.std.proofs.Common.{◌≡◌, ◌≢◌, ◌∙◌, ℕ, Bool, List, Option, Result, Ok, Err, IsTrue, ap, inl, inr, refl, subst, sym}
use Rattle.std.specs.Prelude.{IfErr, IfOk, MatchResult}
use Rattle.sector_disk.specs.declared.device.SectorDevice.{Ghosts}
use Rattle.journal.specs.Maps.{Maps}
use Rattle.journal.specs.Store.{StandsFor, device_of}
use Rattle.journal.specs.Suits.{suits}
use Rattle.journal.specs.declared.store.Store.{Store}
use Rattle.interpreter.specs.State.{Forth}
use Rattle.interpreter.specs.Lines.{LineEnd}
use Rattle.interpreter.specs.declared.place.LeftAt.{LeftAt}
use Rattle.interpreter.specs.declared.place.Place.{Place}
use Rattle.sessions.specs.Devices.{Becomes}
use Rattle.sessions.specs.Heard.{BreaksOffBy, CompletesBy, EndsBy, StopsBy}
use Rattle.sessions.specs.OverStore.{RunsOverBy}
use Rattle.sessions.specs.Strict.{NoneFailed, strict_ones}
use Rattle.sessions.specs.declared.strictness.Strictness.{Strictness}
use Rattle.sessions.specs.declared.strictness.Strictness.TheVariants.{Never}
use Rattle.sessions.specs.declared.run_end.RunEnd.{RunEnd}
use Rattle.sessions.specs.declared.run_end.RunEnd.TheVariants.{Input, Failure as LineFailed}
use Rattle.sessions.specs.declared.run_fault.RunFault.{RunFault}
use Rattle.command_line.specs.declared.orders.Script.{Script}
use Rattle.terminal.specs.declared.ending.Ended.{Ended}
use Rattle.terminal.specs.declared.failure.Failure.{Failure}
use Rattle.terminal.specs.declared.failure.Failure.TheVariants.{NoMemory}
use Rattle.terminal.specs.declared.failure.Outcome.{Outcome}
use Rattle.terminal.specs.declared.left.Left.{Left}
use Rattle.terminal.specs.declared.left.Left.TheVariants.{Opened}
use Rattle.terminal.specs.Done.{BreaksFrom, DoneOn, LeavesBlocks, RunsFrom, maps_on, meant_by, Allowed, new_system}
use Rattle.terminal.specs.Failed.{FailsAfter, FailsOn, NotBegun, RunFails, ScriptFailed, ScriptUnbegun}
use Rattle.terminal.specs.Failures.{of_end, of_run}
use Rattle.terminal.specs.Files.{OpensAs}
use Rattle.terminal.specs.Scripts.{EndsFrom, EndsScript, EndsSession, IsLed, RunsScript, ScriptEnded, StopsFrom, StopsScript, load_line, allowed_by, strictness_of}

module _ {D T : Type 0} (G : Ghosts D) (hears : (old new : T) → LineEnd → Option LeftAt → Option Place → List ℕ → List Place → List ℕ → Type 0) where
  -- The session of a store, and what is said of it by how it ended.
  module _ (strictness : Strictness) (end : Result RunEnd RunFault) (is_unsaved : Bool) (opening : Forth) (left left' written written' : Option (List ℕ)) (tracer tracer' : T) where
    ends_from : (old new : Store D G) → RunsOverBy hears G strictness opening old new end is_unsaved left left' written written' tracer tracer'
        → EndsFrom G hears strictness end is_unsaved opening left left' written written' (device_of old) (device_of new) tracer tracer'
    ends_from old new run = record {
      closing = run.0;
      made = run.1;
      ends = run.5;
      keeps = run.4;
      saved = λ live image left_by. run.2.left (sym run.2.closed ∙ live) image left_by;
      unsaved = run.3;
    }

    module _ (old new : D) (ended : EndsFrom G hears strictness end is_unsaved opening left left' written written' old new tracer tracer') where
      ran_from : end ≡ Ok Input → (ran : RunsFrom G opening left left' written written' old new) × NoneFailed (strict_ones strictness ran.completes.turns)
      ran_from is =
          let by : CompletesBy hears G strictness opening ended.closing left left' written written' old new ended.made tracer tracer' =
          subst (λ e. EndsBy hears G strictness e opening ended.closing left left' written written' old new ended.made tracer tracer') is ended.ends in (
            record { closing = ended.closing; made = ended.made; completes = by.whole.run; keeps = ended.keeps; saved = ended.saved },
            by.unfailed,
          )

      stopped_from : end ≡ Ok LineFailed → StopsFrom G strictness opening left left' written written' old new
      stopped_from is =
          let by : StopsBy hears G strictness opening ended.closing left left' written written' old new ended.made tracer tracer' =
          subst (λ e. EndsBy hears G strictness e opening ended.closing left left' written written' old new ended.made tracer tracer') is ended.ends in
          record { closing = ended.closing; made = ended.made; stops = by.stops.run; strict = by.strict; keeps = ended.keeps; saved = ended.saved }

      broken_from : (fault : RunFault) → end ≡ Err fault
          → (broke : BreaksFrom G fault opening left left' written written' old new) × NoneFailed (strict_ones strictness broke.breaks.turns)
      broken_from fault is =
          let by : BreaksOffBy hears G strictness fault opening ended.closing left left' written written' old new ended.made tracer tracer' =
          subst (λ e. EndsBy hears G strictness e opening ended.closing left left' written written' old new ended.made tracer tracer') is ended.ends in (
            record { closing = ended.closing; made = ended.made; breaks = by.cut.run; keeps = ended.keeps; saved = ended.saved },
            by.unfailed,
          )

  -- The session of a store that was opened on a device.
  module _ (allowed : Allowed) (strictness : Strictness) (left left' written written' : Option (List ℕ)) (tracer tracer' : T) where
    pub ends_session : (device : D) (old new : Store D G) (r : Result Ended Failure) → OpensAs G device old
        → (IsTrue (suits G device) → LeavesBlocks G (device_of old) (meant_by G device))
        → ((m : Maps) → StandsFor old m → IfOk r (λ ended. RunsOverBy hears G strictness (new_system allowed m) old new ended.end ended.is_unsaved
        left left' written written' tracer tracer'))
        → IfOk r (λ ended. IfOk ended.end (λ end. end ≡ LineFailed → strictness ≢ Never)) → Becomes G (device_of old) (device_of new)
        → IfOk r (λ ended. EndsSession G hears allowed strictness ended.end ended.is_unsaved left left' written written' tracer tracer' device (device_of new))
    ends_session device old new (Ok ended) opens meant runs strict goes = record {
      begun = device_of old;
      recovers = opens.recovers;
      well = opens.well;
      meant = opens.meant;
      same = meant;
      goes = goes;
      strict = strict;
      ends = λ keeps.
          ends_from strictness ended.end ended.is_unsaved (new_system allowed (maps_on G device)) left left' written written' tracer tracer' old new
          (runs (maps_on G device) (opens.stands keeps));
    }
    ends_session device old new (Err e) opens meant runs strict goes = tt

    -- No session began: there was no memory for one.
    pub unbegun : (device : D) (old new : Store D G) (r : Result Ended Failure) → OpensAs G device old
        → (IsTrue (suits G device) → LeavesBlocks G (device_of old) (meant_by G device)) → Becomes G (device_of old) (device_of new)
        → IfErr r (λ e. e ≡ NoMemory) → IfErr r (λ e. left' ≡ left) → IfErr r (λ e. written' ≡ written) → IfErr r (λ e. new ≡ old)
        → IfErr r (λ failure. FailsAfter G (NotBegun G left left' written written') failure device (device_of new))
    unbegun device old new (Ok ended) opens meant goes memory unread unwritten same = tt
    unbegun device old new (Err e) opens meant goes memory unread unwritten same = inr (record {
      begun = device_of old;
      recovers = opens.recovers;
      well = opens.well;
      same = meant;
      goes = goes;
      done = record { memory = memory; same = ap device_of same; unread = unread; unwritten = unwritten };
    })

  -- The session of a script.
  module _ (is_text : (path text : List ℕ) → Type 0) (steps : ℕ) (script : Script) (left left' written written' : Option (List ℕ)) (tracer tracer' : T) where
    module _ (end : Result RunEnd RunFault) (is_unsaved : Bool) (device after : D)
        (ended : EndsScript G hears is_text steps script end is_unsaved left left' written written' tracer tracer' device after) where
      runs_script : end ≡ Ok Input → RunsScript G is_text steps script left left' written written' device after
      runs_script is =
          let session = ended.session in
          let ran = λ (keeps : IsTrue (suits G device)).
          ran_from (strictness_of script) end is_unsaved (new_system (allowed_by steps script) (maps_on G device)) ended.led left' written written' tracer tracer' session.begun after (session.ends keeps) is in
          record {
            led = ended.led;
            leads = ended.leads;
            session = record { begun = session.begun; recovers = session.recovers; well = session.well; meant = session.meant; goes = session.goes; runs = λ keeps. (ran keeps).0 };
            unfailed = λ keeps. (ran keeps).1;
          }

      stopped : end ≡ Ok LineFailed → IsTrue (suits G device)
          → StopsFrom G (strictness_of script) (new_system (allowed_by steps script) (maps_on G device)) ended.led left' written written' ended.session.begun after
      stopped is keeps = stopped_from (strictness_of script) end is_unsaved (new_system (allowed_by steps script) (maps_on G device)) ended.led left' written written' tracer tracer'
          ended.session.begun after (ended.session.ends keeps) is

      strict_of : end ≡ Ok LineFailed → strictness_of script ≢ Never
      strict_of is = subst (λ (e : Result RunEnd RunFault). IfOk e (λ end. end ≡ LineFailed → strictness_of script ≢ Never)) is ended.session.strict refl

      stops_script : end ≡ Ok LineFailed → StopsScript G is_text steps script left left' written written' device after
      stops_script is = record {
        strict = strict_of is;
        led = ended.led;
        leads = ended.leads;
        begun = ended.session.begun;
        recovers = ended.session.recovers;
        well = ended.session.well;
        meant = ended.session.meant;
        goes = ended.session.goes;
        stops = stopped is;
      }

      -- A session that didn't come to the end of its input failed.
      after_opening : (failure : Failure)
          → RunFails G (allowed_by steps script) (strictness_of script) ended.led left' written written' failure device ended.session.begun after
          → FailsAfter G (RunFails G (allowed_by steps script) (strictness_of script) ended.led left' written written') failure device after
      after_opening failure fails = inr (record {
        begun = ended.session.begun;
        recovers = ended.session.recovers;
        well = ended.session.well;
        same = ended.session.same;
        goes = ended.session.goes;
        done = fails;
      })

      breaks : (fault : RunFault) → end ≡ Err fault
          → RunFails G (allowed_by steps script) (strictness_of script) ended.led left' written written' (of_run fault) device ended.session.begun after
      breaks fault is =
          let broke = λ (keeps : IsTrue (suits G device)).
          broken_from (strictness_of script) end is_unsaved (new_system (allowed_by steps script) (maps_on G device)) ended.led left' written written' tracer tracer'
          ended.session.begun after (ended.session.ends keeps) fault is in
          inr (record { fault = fault; told = refl; breaks = λ keeps. (broke keeps).0; unfailed = λ keeps. (broke keeps).1 })

    unbegun_after : (led : Option (List ℕ)) (failure : Failure) (device after : D) → FailsAfter G (NotBegun G led left' written written') failure device after
        → FailsAfter G (RunFails G (allowed_by steps script) (strictness_of script) led left' written written') failure device after
    unbegun_after led failure device after (inl refuses) = inl refuses
    unbegun_after led failure device after (inr opens) =
        inr (record { begun = opens.begun; recovers = opens.recovers; well = opens.well; same = opens.same; goes = opens.goes; done = inl opens.done })

    module _ {E : Type 0} (opened : D → Type 0) where
      -- It went so over an image that was opened on such a device, of which this is left.
      abbrev EndsOn : Left D E → Ended → Type 0
      EndsOn ends ended = DoneOn G (λ d. Opened d) opened (EndsScript G hears is_text steps script ended.end ended.is_unsaved left left' written written' tracer tracer') ends

      pub ends_on : (strictness : Strictness) (led : Option (List ℕ)) (ends : Left D E) (r : Result Ended Failure) → strictness ≡ strictness_of script
          → IsLed is_text (load_line script.load) script.files.items script.goes_on left led
          → IfOk r (λ ended. DoneOn G (λ d. Opened d) opened
          (EndsSession G hears (allowed_by steps script) strictness ended.end ended.is_unsaved led left' written written' tracer tracer') ends)
          → IfOk r (EndsOn ends)
      ends_on strictness led ends (Ok ended) is leads session =
          let by : EndsSession G hears (allowed_by steps script) (strictness_of script) ended.end ended.is_unsaved led left' written written' tracer tracer' session.2.0 session.0 =
          subst (λ (s : Strictness). EndsSession G hears (allowed_by steps script) s ended.end ended.is_unsaved led left' written written' tracer tracer' session.2.0 session.0)
          is session.2.2 in
          (session.0, session.1, (session.2.0, session.2.1, record { led = led; leads = leads; session = by }))
      ends_on strictness led ends (Err e) is leads session = tt

      -- No session began.
      pub unbegun_on : (is_unread : (path : List ℕ) → Type 0) (led : Option (List ℕ)) (ends : Left D E) (r : Result Ended Failure) → IsLed is_text (load_line script.load) script.files.items script.goes_on left led
          → IfErr r (λ failure. FailsOn G (λ d. Opened d) opened (FailsAfter G (NotBegun G led left' written written')) failure ends)
          → IfErr r (λ failure. ScriptUnbegun G opened is_text is_unread script left left' written written' failure ends)
      unbegun_on is_unread led ends (Ok ended) leads fails = tt
      unbegun_on is_unread led ends (Err e) leads fails = inr (led, leads, fails)

      unbegun_fails : (is_unread : (path : List ℕ) → Type 0) (failure : Failure) (ends : Left D E) → ScriptUnbegun G opened is_text is_unread script left left' written written' failure ends
          → ScriptFailed G opened is_text is_unread steps script left left' written written' failure ends
      unbegun_fails is_unread failure ends (inl unled) = inl unled
      unbegun_fails is_unread failure ends (inr led) = inr (led.0, led.1, go led.2)
        where
          go : FailsOn G (λ d. Opened d) opened (FailsAfter G (NotBegun G led.0 left' written written')) failure ends
              → FailsOn G (λ d. Opened d) opened (FailsAfter G (RunFails G (allowed_by steps script) (strictness_of script) led.0 left' written written')) failure ends
          go (inl none) = inl none
          go (inr fails) = inr (fails.0, fails.1, (fails.2.0, fails.2.1, unbegun_after led.0 failure fails.2.0 fails.0 fails.2.2))

      -- What it was told as.
      module _ (ends : Left D E) where
        -- How the script ended.
        abbrev Ended' : Outcome → Type 0
        Ended' outcome = DoneOn G (λ d. Opened d) opened (ScriptEnded G is_text outcome steps script left left' written written') ends

        abbrev Failed : (is_unread : (path : List ℕ) → Type 0) → Failure → Type 0
        Failed is_unread failure = ScriptFailed G opened is_text is_unread steps script left left' written written' failure ends

        ended_by : (ended : Ended) → EndsOn ends ended → (e : Result RunEnd RunFault) → ended.end ≡ e → IfOk (of_end e) Ended'
        ended_by ended ran (Ok Input) is = (ran.0, ran.1, (ran.2.0, ran.2.1, runs_script ended.end ended.is_unsaved ran.2.0 ran.0 ran.2.2 is))
        ended_by ended ran (Ok LineFailed) is = (ran.0, ran.1, (ran.2.0, ran.2.1, stops_script ended.end ended.is_unsaved ran.2.0 ran.0 ran.2.2 is))
        ended_by ended ran (Err fault) is = tt

        failed_by : (is_unread : (path : List ℕ) → Type 0) (ended : Ended) → EndsOn ends ended → (e : Result RunEnd RunFault) → ended.end ≡ e
            → IfErr (of_end e) (Failed is_unread)
        failed_by is_unread ended ran (Ok Input) is = tt
        failed_by is_unread ended ran (Ok LineFailed) is = tt
        failed_by is_unread ended ran (Err fault) is =
            let by = ran.2.2 in
            inr (
              by.led,
              by.leads,
              inr (
                ran.0,
                ran.1,
                (
                  ran.2.0,
                  ran.2.1,
                  after_opening ended.end ended.is_unsaved ran.2.0 ran.0 by (of_run fault)
                      (breaks ended.end ended.is_unsaved ran.2.0 ran.0 by fault is),
                ),
              ),
            )

        pub told_ended : (r : Result Ended Failure) (told : Result Outcome Failure) → MatchResult r (λ ended. told ≡ of_end ended.end) (λ failure. told ≡ Err failure)
            → IfOk r (EndsOn ends) → IfOk told Ended'
        told_ended (Ok ended) told is ran = subst (λ (o : Result Outcome Failure). IfOk o Ended') (sym is) (ended_by ended ran ended.end refl)
        told_ended (Err e) told is ran = subst (λ (o : Result Outcome Failure). IfOk o Ended') (sym is) tt

        pub told_failed : (is_unread : (path : List ℕ) → Type 0) (r : Result Ended Failure) (told : Result Outcome Failure) → MatchResult r (λ ended. told ≡ of_end ended.end) (λ failure. told ≡ Err failure)
            → IfOk r (EndsOn ends) → IfErr r (λ failure. ScriptUnbegun G opened is_text is_unread script left left' written written' failure ends)
            → IfErr told (Failed is_unread)
        told_failed is_unread (Ok ended) told is ran unbegun =
            subst (λ (o : Result Outcome Failure). IfErr o (Failed is_unread)) (sym is) (failed_by is_unread ended ran ended.end refl)
        told_failed is_unread (Err e) told is ran unbegun =
            subst (λ (o : Result Outcome Failure). IfErr o (Failed is_unread)) (sym is) (unbegun_fails is_unread e ends unbegun)
