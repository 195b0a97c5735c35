use Rattle.std.proofs.Common.{◌≡◌, true, false, inl, sym, ◌∙◌, ap, subst, refl, arith, rules, Err}
use Rattle.journal.specs.Maps.{latest, any_pending}
use Rattle.block_buffers.specs.Buffers.{updated_ones}
use Rattle.block_words.specs.Words.{all_spilled, next_map, save_and}
use Rattle.block_words.specs.Calls.{CallRuns, save_begun}
use Rattle.block_words.specs.Kept.{last_map}
use Rattle.block_words.specs.declared.buffered_blocks.BlockFault.TheVariants.{Closed}
use Rattle.block_words.proofs.Runs.{still_runs}
use Rattle.block_words.proofs.Saves.{save_ok, save_uncommitted, save_unspilled, keeps_save, runs_open, saves_then, save_begins, save_reads, unspilled_wears, committed_wears, saved_wears, continues_then, some_pending, none_left, device_fault}
use Rattle.journal.specs.Store.{device_of}
use Rattle.block_words.proofs.saving.save.Goals as goal

pub returns-in-Err-clause-runs : goal.returns-in-Err-clause-runs
returns-in-Err-clause-runs g c = λ m change stands.
    let b = c.args.buffers.now in
    let open_now : m.closed ≡ false = stands.closed ∙ sym c.is_closed.ensures ∙ c.if-is_closed.false in
    let f = c.in-Err.ensures.fault m stands in
    record {
      maps = _;
      wear = _;
      runs = runs_open m.closed open_now _ _ _ (save_unspilled change m b c.args.space.now open_now f.before f.this f.after f.split);
      stands = f.shut_so;
      kept = keeps_save g.D.SectorDevice m.closed (device_of c.args.store.now) (device_of c.spill_updated.new.store) m.saved (next_map b c.args.space.now m) false open_now
          c.spill_updated.ensures.continues.sectors (λ x since. inl (c.in-Err.ensures.stops m stands open_now x since)) (λ no. absurd (cc));
      wears = unspilled_wears g.D.SectorDevice (device_of c.args.store.now) (device_of c.spill_updated.new.store) f.before c.spill_updated.ensures.continues.sectors f.begins.0 f.begins.1;
      shuts = λ _. refl;
      last = λ no. absurd (cc);
    }

pub returns-in-Ok-commit-clause-runs : goal.returns-in-Ok-commit-clause-runs
returns-in-Ok-commit-clause-runs g c = λ m change stands.
    let G = g.D.SectorDevice in
    let b = c.args.buffers.now in
    let old = c.args.store.now in
    let mid = c.spill_updated.new.store in
    let new = c.commit.new.self in
    let sp = c.args.space.now in
    let all = all_spilled (updated_ones b) sp m in
    let open_now : m.closed ≡ false = stands.closed ∙ sym c.is_closed.ensures ∙ c.if-is_closed.false in
    let mid_stands = c.in-Ok.ensures.ok m stands in
    record {
      maps = _;
      wear = _;
      runs = runs_open m.closed open_now _ _ _ (save_ok change m b sp open_now);
      stands = c.in-Ok-commit.ensures.ok all mid_stands;
      kept = keeps_save G m.closed (device_of old) (device_of new) m.saved (next_map b sp m) true open_now (c.commit.ensures.continues.sectors ∙ c.in-Ok.ensures.continues.sectors)
          (saves_then G old mid new b sp c.in-Ok.ensures.continues c.commit.ensures.continues c.in-Ok.ensures.ok c.in-Ok.ensures.stops c.commit.ensures.stops m stands open_now)
          (λ _. (
            G.time (device_of new),
            omega (arith, c.in-Ok.ensures.continues.time.later, c.in-Ok-commit.ensures.continues.time.later),
            omega arith,
            λ x since. c.in-Ok-commit.ensures.after all mid_stands x (g.met.D.SectorDevice.only_now (device_of new) x since),
          ));
      wears = saved_wears G (device_of old) mid new b all mid_stands c.in-Ok.ensures.opened c.in-Ok.ensures.continues.sectors c.commit.ensures.continues.sectors c.in-Ok.ensures.begins c.in-Ok.ensures.reads c.commit.ensures.begins c.commit.ensures.reads
          (λ none. c.commit.ensures.unasked c.in-Ok.ensures.opened none);
      shuts = λ h. absurd (let no : true ≡ false = sym h ∙ open_now in cc);
      last = λ h. subst (λ t. (latest all) ≡ last_map m.saved (save_begun t (next_map b sp m) true)) (sym open_now) refl;
    }

pub returns-in-Err-commit-clause-runs : goal.returns-in-Err-commit-clause-runs
returns-in-Err-commit-clause-runs g c = λ m change stands.
    let b = c.args.buffers.now in
    let old = c.args.store.now in
    let mid = c.spill_updated.new.store in
    let new = c.commit.new.self in
    let sp = c.args.space.now in
    let all = all_spilled (updated_ones b) sp m in
    let open_now : m.closed ≡ false = stands.closed ∙ sym c.is_closed.ensures ∙ c.if-is_closed.false in
    let mid_stands = c.in-Ok.ensures.ok m stands in
    let some : any_pending all.pending ≡ true = some_pending mid all mid_stands c.in-Ok.ensures.opened (λ none. absurd (let failed : false ≡ true = c.in-Err-commit.ensures.nothing c.in-Ok.ensures.opened none in cc)) in
    record {
      maps = _;
      wear = _;
      runs = runs_open m.closed open_now _ _ _ (save_uncommitted change m b sp open_now some);
      stands = c.in-Err-commit.ensures.fault all mid_stands (ap Err (device_fault c.in-Err-commit.field-0 (λ is. absurd (let no : false ≡ true = sym c.in-Ok.ensures.opened ∙ c.in-Err-commit.ensures.closed.0 (ap Err is) in cc))));
      kept = keeps_save g.D.SectorDevice m.closed (device_of old) (device_of new) m.saved (next_map b sp m) false open_now (c.commit.ensures.continues.sectors ∙ c.in-Ok.ensures.continues.sectors)
          (saves_then g.D.SectorDevice old mid new b sp c.in-Ok.ensures.continues c.commit.ensures.continues c.in-Ok.ensures.ok c.in-Ok.ensures.stops c.commit.ensures.stops m stands open_now)
          (λ no. absurd (cc));
      wears = committed_wears g.D.SectorDevice (device_of old) mid new b all mid_stands c.in-Ok.ensures.opened c.in-Ok.ensures.continues.sectors c.commit.ensures.continues.sectors c.in-Ok.ensures.begins c.in-Ok.ensures.reads c.commit.ensures.begins c.commit.ensures.reads;
      shuts = λ _. refl;
      last = λ no. absurd (cc);
    }

pub returns-in-Ok-commit-clause-saves : goal.returns-in-Ok-commit-clause-saves
returns-in-Ok-commit-clause-saves g c =
    let old = c.args.store.now in
    let mid = c.spill_updated.new.store in
    let new = c.commit.new.self in
    record {
      faults = tt;
      closed = search rules;
      closed_same = search rules;
      failures = c.in-Ok-commit.ensures.well ∙ c.in-Ok.ensures.well;
      shuts = search rules;
      stops =
          saves_then g.D.SectorDevice old mid new c.args.buffers.now c.args.space.now
          c.in-Ok.ensures.continues c.commit.ensures.continues c.in-Ok.ensures.ok c.in-Ok.ensures.stops c.commit.ensures.stops;
      after = λ m stands. c.in-Ok-commit.ensures.after _ (c.in-Ok.ensures.ok m stands);
      continues = continues_then old mid new (g.met.D.SectorDevice.widens (device_of new)) c.in-Ok.ensures.continues c.commit.ensures.continues;
      pending = c.in-Ok-commit.ensures.pending;
      begins = save_begins g.D.SectorDevice old mid new c.args.buffers.now c.in-Ok.ensures.continues c.in-Ok.ensures.pending c.in-Ok.ensures.begins c.commit.ensures.begins;
      reads = save_reads g.D.SectorDevice old mid new c.args.buffers.now c.in-Ok.ensures.continues c.in-Ok.ensures.pending c.in-Ok.ensures.reads c.commit.ensures.reads;
      nothing = λ none none_pending.
          c.commit.ensures.unasked c.in-Ok.ensures.opened (none_left old mid c.args.buffers.now none c.in-Ok.ensures.continues c.in-Ok.ensures.pending none_pending)
          ∙ c.spill_updated.ensures.unasked none;
    }

pub returns-in-Err-commit-clause-saves : goal.returns-in-Err-commit-clause-saves
returns-in-Err-commit-clause-saves g c =
    let old = c.args.store.now in
    let mid = c.spill_updated.new.store in
    let new = c.commit.new.self in
    record {
      faults = inl refl;
      closed = search rules;
      closed_same = search rules;
      failures = search rules;
      shuts = search rules;
      stops =
          saves_then g.D.SectorDevice old mid new c.args.buffers.now c.args.space.now
          c.in-Ok.ensures.continues c.commit.ensures.continues c.in-Ok.ensures.ok c.in-Ok.ensures.stops c.commit.ensures.stops;
      after = tt;
      continues = continues_then old mid new (g.met.D.SectorDevice.widens (device_of new)) c.in-Ok.ensures.continues c.commit.ensures.continues;
      pending = tt;
      begins = save_begins g.D.SectorDevice old mid new c.args.buffers.now c.in-Ok.ensures.continues c.in-Ok.ensures.pending c.in-Ok.ensures.begins c.commit.ensures.begins;
      reads = save_reads g.D.SectorDevice old mid new c.args.buffers.now c.in-Ok.ensures.continues c.in-Ok.ensures.pending c.in-Ok.ensures.reads c.commit.ensures.reads;
      nothing = λ none none_pending.
          c.commit.ensures.unasked c.in-Ok.ensures.opened (none_left old mid c.args.buffers.now none c.in-Ok.ensures.continues c.in-Ok.ensures.pending none_pending)
          ∙ c.spill_updated.ensures.unasked none;
    }

pub returns-then-is_closed-clause-runs : goal.returns-then-is_closed-clause-runs
returns-then-is_closed-clause-runs g c = λ m change stands.
    let old = c.args.store.now in
    let b = c.args.buffers.now in
    let sp = c.args.space.now in
    let closed_now : m.closed ≡ true = stands.closed ∙ sym c.is_closed.ensures ∙ c.if-is_closed.true in
    subst (λ t. CallRuns g.D.SectorDevice (save_and change) (Err Closed) (save_begun t (next_map b sp m) false) m old old b b sp sp) (sym closed_now)
    (still_runs g.D.SectorDevice (save_and change) (Err Closed) m old b b sp sp g.met.D.SectorDevice.only_now stands (λ rest f was sv. rw closed_now refl))
