use Rattle.std.proofs.Common.{◌≡◌, ◌+◌, ℕ, Bool, true, false, length, Result, Ok, Err, refl, sym, ap, ◌∙◌, subst, arith}
use Rattle.std.specs.Prelude.{if◌then◌else◌}
use Rattle.data_space.specs.Space.{with_cell}
use Rattle.sector_disk.specs.declared.device.SectorDevice.{Ghosts}
use Rattle.interpreter.specs.Representation.{core, device}
use Rattle.interpreter.specs.ServiceContract.{Lasts, count_after}
use Rattle.interpreter.specs.Stops.{stop_count}
use Rattle.interpreter.specs.declared.fault.Fault.TheVariants.{EndOfInput}
use Rattle.interpreter.specs.declared.fault.Stop.{Stop}
use Rattle.interpreter.specs.declared.terminal.Terminal.{Ghosts as TerminalGhosts}
use Rattle.interpreter.specs.declared.fault.Stop.TheVariants as stop
use Rattle.interpreter.specs.declared.forth.Forth.{Forth}
use Rattle.interpreter.proofs.RoundContract.{lasts_nothing, lasts_then}
use Rattle.interpreter.proofs.Expecting.{begun_none, begun_then, begun_empty, begun_full, rest_then, met_then, broke_then, ran_reading, ran_over, met_well, full_well, reads_broke}
use Rattle.interpreter.proofs.forth.Forth.fill.Goals as goal

-- The end of a reading reaches neither device nor budget.
ended : {D : Type 0} {G : Ghosts D} (some : Bool) (mid new : Forth D G) (count : ℕ)
    → new ≡ (if some then record mid { space = with_cell mid.space 26 count } else mid) → (device new ≡ device mid) × (new.budget ≡ mid.budget)
ended {D} {G} true mid new count is = (ap device is, ap (λ (f : Forth D G). f.budget) is)
ended {D} {G} false mid new count is = (ap device is, ap (λ (f : Forth D G). f.budget) is)

-- The answer of such an end is no failure of the terminal.
lasts_on : {D T : Type 0} (G : Ghosts D) (H : TerminalGhosts T) (some : Bool) (result : Result (Unit {0}) Stop) (old new : D) (terminal terminal' : T)
    → result ≡ (if some then Ok tt else Err (stop.Fault EndOfInput)) → Lasts G H (Ok tt) old new terminal terminal' → Lasts G H result old new terminal terminal'
lasts_on G H true result old new terminal terminal' is lasts = subst (λ r. Lasts G H r old new terminal terminal') (sym is) lasts
lasts_on G H false result old new terminal terminal' is lasts = subst (λ r. Lasts G H r old new terminal terminal') (sym is) (record {
  time = lasts.time;
  model = lasts.model;
  device_failures = lasts.device_failures;
  terminal_failures = lasts.terminal_failures;
  no_more = lasts.no_more;
  same = lasts.same;
})

pub bytes-init : goal.bytes-init
bytes-init g c = record {
  begun = begun_none g.T.Terminal c.args.a c.args.u c.args.self.now c.args.terminal.now;
  room = omega arith;
  lasts = lasts_nothing g.D.SectorDevice g.T.Terminal _ _;
  told = refl;
}

pub bytes-preserved : goal.bytes-preserved
bytes-preserved g c =
    let e = c.in-Ok-Some in
    let step = rw e.field-0-is at e.ensures.step in
    let b = c.bytes.invariant in
    record {
      begun = begun_then g.T.Terminal (c.args.a + c.bytes.room.count) refl b.begun step;
      room = omega (arith, step.filling.room, b.room);
      lasts = lasts_then g.D.SectorDevice g.T.Terminal g.met.D.SectorDevice.widens b.lasts e.ensures.lasts;
      told = e.ensures.tells ∙ b.told;
    }

pub returns-in-Ok-None-clause-serves : goal.returns-in-Ok-None-clause-serves
returns-in-Ok-None-clause-serves g c = λ levels x stands.
    let more = rw c.in-Ok-None.field-0-is at c.in-Ok-None.ensures.step in
    let b = c.bytes.invariant.begun in
    let old = c.args.self.now in
    let mid = c.read_byte.new.self in
    let same : mid.space ≡ c.bytes.self.space = ap (λ (f : Forth g.row.D.Denot g.D.SectorDevice). f.space) more.rest in
    ran_over g.D.SectorDevice g.T.Terminal g.met.D.SectorDevice.only_now c.bytes.some c.end_reading.result b.filling.given true (length b.filling.given + 1) c.args.a c.bytes.room.count b.filling.bytes
    old mid c.end_reading.new.self stands (rest_then g.T.Terminal old c.bytes.self mid b.filling.rest more.rest) (met_then g.T.Terminal b.filling.given b.filling.heard more.heard)
    (same ∙ b.filling.space) b.filling.counted (begun_empty g.T.Terminal b) c.end_reading.ensures.result c.end_reading.ensures.after
    (λ r fits. met_well c.args.a c.args.u b.filling.given b.filling.bytes c.bytes.room.left c.bytes.some (core old) x r b.filling.reading c.bytes-test.true (omega (arith, b.filling.room)) b.some (fits refl))

pub returns-in-Ok-None-clause-continues : goal.returns-in-Ok-None-clause-continues
returns-in-Ok-None-clause-continues g c =
    let e = c.in-Ok-None in
    let b = c.bytes.invariant in
    let old = c.args.self.now in
    let mid = c.read_byte.new.self in
    let new = c.end_reading.new.self in
    let end = ended c.bytes.some mid new _ c.end_reading.ensures.after in
    let lasts = lasts_then g.D.SectorDevice g.T.Terminal g.met.D.SectorDevice.widens b.lasts e.ensures.lasts in
    record {
      lasts = subst (λ d. Lasts g.D.SectorDevice g.T.Terminal c.end_reading.result (device old) d c.args.terminal.now c.read_byte.new.terminal)
          (sym end.0)
          (lasts_on g.D.SectorDevice g.T.Terminal c.bytes.some c.end_reading.result (device old) (device mid) c.args.terminal.now c.read_byte.new.terminal c.end_reading.ensures.result lasts);
      tells = c.end_reading.ensures.tells ∙ ap (count_after stop_count c.end_reading.result) (e.ensures.tells ∙ b.told);
      budget = end.1 ∙ e.ensures.budget ∙ ap (λ (f : Forth g.row.D.Denot g.D.SectorDevice). f.budget) b.begun.filling.rest;
    }

pub returns-in-Err-clause-serves : goal.returns-in-Err-clause-serves
returns-in-Err-clause-serves g c = λ levels x stands.
    let more = c.in-Err.ensures.step in
    let b = c.bytes.invariant.begun in
    let old = c.args.self.now in
    let mid = c.read_byte.new.self in
    let same : mid.space ≡ c.bytes.self.space = ap (λ (f : Forth g.row.D.Denot g.D.SectorDevice). f.space) more.rest in
    ran_reading g.D.SectorDevice g.T.Terminal g.met.D.SectorDevice.only_now (Err stop.Io) b.filling.given false (length b.filling.given) old mid stands
    (rest_then g.T.Terminal old c.bytes.self mid b.filling.rest more.rest) (broke_then g.T.Terminal b.filling.given b.filling.heard more.heard)
    (reads_broke c.args.a c.args.u b.filling.given b.filling.bytes c.bytes.room.left (core old) (record (core old) { space = mid.space }) x b.filling.reading c.bytes-test.true (same ∙ b.filling.space))

pub returns-clause-serves : goal.returns-clause-serves
returns-clause-serves g c = λ levels x stands.
    let b = c.bytes.invariant.begun in
    let old = c.args.self.now in
    let none : c.bytes.room.left ≡ 0 = omega (arith, c.bytes-test.false) in
    ran_over g.D.SectorDevice g.T.Terminal g.met.D.SectorDevice.only_now true c.end_reading-2.result b.filling.given false (length b.filling.given) c.args.a c.bytes.room.count b.filling.bytes
    old c.bytes.self c.end_reading-2.new.self stands b.filling.rest b.filling.heard b.filling.space b.filling.counted (λ no. absurd (let e : true ≡ false = no in cc)) c.end_reading-2.ensures.result c.end_reading-2.ensures.after
    (λ r fits. full_well c.args.a c.args.u b.filling.given b.filling.bytes c.bytes.room.left (core old) x r b.filling.reading none (begun_full g.T.Terminal b none))
