use Rattle.std.proofs.Common.{◌≡◌, ◌∙◌, inl, true, false, refl, ap, suc, [], length, arith}
use Rattle.std.specs.Prelude.{nat_le}
use Rattle.std.proofs.lemmas.Bool.{lt-leb, le-leb}
use Rattle.interpreter.specs.declared.fault.Stop.TheVariants as stop
use Rattle.interpreter.specs.declared.lines.LineEnd.TheVariants as end
use Rattle.interpreter.specs.Representation.{core}
use Rattle.interpreter.specs.State.{without_loads}
use Rattle.interpreter.specs.Stops.{fault_count}
use Rattle.interpreter.proofs.Telling.{counts_as, lasts_from, lasts_to, same_count}
use Rattle.interpreter.proofs.RoundContract.{lasts_then}
use Rattle.interpreter.proofs.LineContract.{lasts_calm, lined_as, line_too_long, line_opens, over_lined, ends_lined, fault_lined, broke_lined}
use Rattle.interpreter.proofs.forth.Forth.run_line.Goals as goal

pub returns-then-text-gt-LINE_LIMIT-clause-lined : goal.returns-then-text-gt-LINE_LIMIT-clause-lined
returns-then-text-gt-LINE_LIMIT-clause-lined g c = λ opening represents.
    let long : nat_le (length c.args.text.now) 1024 ≡ false = lt-leb _ _ (omega (arith, c.if-text-gt-LINE_LIMIT.true)) in
    lined_as g.T.Terminal _ c.fail.result c.args.self.now opening.world (line_too_long opening c.args.text.now long) refl refl
    (c.fail.ensures.lined opening.core opening.world (record { space = represents.same_core.space }) represents.rests)

pub interpret-requires : goal.interpret-requires
interpret-requires g c = record { sound = ([], without_loads c.requires.sound.0, c.take_line.ensures.stands c.requires.sound.0 c.requires.sound.1) }

pub returns-in-Ok-clause-lined : goal.returns-in-Ok-clause-lined
returns-in-Ok-clause-lined g c = λ opening represents.
    let D = g.met.D.SectorDevice in
    let short : nat_le (length c.args.text.now) 1024 ≡ true = le-leb _ _ (omega (arith, c.if-text-gt-LINE_LIMIT.false)) in
    let opens = line_opens opening c.args.text.now c.args.self.now.budget.steps (core c.take_line.new.self) represents.budget short (c.take_line.ensures.taken opening.core (record { stack = represents.same_core.stack; space = represents.same_core.space })) in
    let h = c.in-Ok.ensures.ran (suc c.args.self.now.budget.steps) [] (without_loads opening.world) (omega (arith, c.take_line.ensures.steps)) (c.take_line.ensures.stands opening.world represents.rests) in
    lined_as g.T.Terminal _ c.finish.result c.args.self.now opening.world (λ r. refl) c.take_line.ensures.device refl
    (over_lined g.D.SectorDevice g.T.Terminal D.counts_now D.widens D.only_now _ h opens c.in-Ok.ensures.continues.lasts c.finish.ensures.lasts
    (c.finish.ensures.lined (core c.interpret.new.self) h.world (record { stack = refl; space = refl }) h.stands.rests))

pub returns-in-Err-Io-clause-lined : goal.returns-in-Err-Io-clause-lined
returns-in-Err-Io-clause-lined g c = λ opening represents.
    let D = g.met.D.SectorDevice in
    let short : nat_le (length c.args.text.now) 1024 ≡ true = le-leb _ _ (omega (arith, c.if-text-gt-LINE_LIMIT.false)) in
    let opens = line_opens opening c.args.text.now c.args.self.now.budget.steps (core c.take_line.new.self) represents.budget short (c.take_line.ensures.taken opening.core (record { stack = represents.same_core.stack; space = represents.same_core.space })) in
    let ran = rw c.in-Err-Io.field-0-is at c.in-Err-Io.ensures.ran in
    let h = ran (suc c.args.self.now.budget.steps) [] (without_loads opening.world) (omega (arith, c.take_line.ensures.steps)) (c.take_line.ensures.stands opening.world represents.rests) in
    lined_as g.T.Terminal _ end.Io c.args.self.now opening.world (λ r. refl) c.take_line.ensures.device refl
    (broke_lined g.D.SectorDevice g.T.Terminal D.counts_now D.widens D.only_now _ c.break_off.new.self h opens c.break_off.ensures.spares.device
    (λ d space. c.break_off.ensures.same_core d space) (c.break_off.ensures.closes h.world h.stands))

pub returns-in-Err-Fault-clause-lined : goal.returns-in-Err-Fault-clause-lined
returns-in-Err-Fault-clause-lined g c = λ opening represents.
    let D = g.met.D.SectorDevice in
    let short : nat_le (length c.args.text.now) 1024 ≡ true = le-leb _ _ (omega (arith, c.if-text-gt-LINE_LIMIT.false)) in
    let opens = line_opens opening c.args.text.now c.args.self.now.budget.steps (core c.take_line.new.self) represents.budget short (c.take_line.ensures.taken opening.core (record { stack = represents.same_core.stack; space = represents.same_core.space })) in
    let ran = rw c.in-Err-Fault.field-0-is at c.in-Err-Fault.ensures.ran in
    let h = ran (suc c.args.self.now.budget.steps) [] (without_loads opening.world) (omega (arith, c.take_line.ensures.steps)) (c.take_line.ensures.stands opening.world represents.rests) in
    let lasts = rw c.in-Err-Fault.field-0-is at c.in-Err-Fault.ensures.continues.lasts in
    lined_as g.T.Terminal _ c.fail-in-Err-Fault.result c.args.self.now opening.world (λ r. refl) c.take_line.ensures.device refl
    (fault_lined g.D.SectorDevice g.T.Terminal D.counts_now D.widens D.only_now _ c.in-Err-Fault.fault c.here_in_stream-place.result h opens lasts c.fail-in-Err-Fault.ensures.lasts
    c.here_in_stream-place.ensures refl
    (λ d like. c.fail-in-Err-Fault.ensures.lined d h.world (record { space = like }) h.stands))

pub returns-in-Err-Quit-clause-lined : goal.returns-in-Err-Quit-clause-lined
returns-in-Err-Quit-clause-lined g c = λ opening represents.
    let D = g.met.D.SectorDevice in
    let short : nat_le (length c.args.text.now) 1024 ≡ true = le-leb _ _ (omega (arith, c.if-text-gt-LINE_LIMIT.false)) in
    let opens = line_opens opening c.args.text.now c.args.self.now.budget.steps (core c.take_line.new.self) represents.budget short (c.take_line.ensures.taken opening.core (record { stack = represents.same_core.stack; space = represents.same_core.space })) in
    let ran = rw c.in-Err-Quit.field-0-is at c.in-Err-Quit.ensures.ran in
    let h = ran (suc c.args.self.now.budget.steps) [] (without_loads opening.world) (omega (arith, c.take_line.ensures.steps)) (c.take_line.ensures.stands opening.world represents.rests) in
    let lasts = rw c.in-Err-Quit.field-0-is at c.in-Err-Quit.ensures.continues.lasts in
    lined_as g.T.Terminal _ c.quit.result c.args.self.now opening.world (λ r. refl) c.take_line.ensures.device refl
    (ends_lined g.D.SectorDevice g.T.Terminal D.counts_now D.widens D.only_now _ stop.Quit refl h opens lasts c.quit.ensures.lasts
    (λ d like. c.quit.ensures.lined d h.world (record { stack = ap (λ e. e.stack) like; space = ap (λ e. e.space) like }) h.stands))

pub returns-in-Err-Abort-clause-lined : goal.returns-in-Err-Abort-clause-lined
returns-in-Err-Abort-clause-lined g c = λ opening represents.
    let D = g.met.D.SectorDevice in
    let short : nat_le (length c.args.text.now) 1024 ≡ true = le-leb _ _ (omega (arith, c.if-text-gt-LINE_LIMIT.false)) in
    let opens = line_opens opening c.args.text.now c.args.self.now.budget.steps (core c.take_line.new.self) represents.budget short (c.take_line.ensures.taken opening.core (record { stack = represents.same_core.stack; space = represents.same_core.space })) in
    let ran = rw c.in-Err-Abort.field-0-is at c.in-Err-Abort.ensures.ran in
    let h = ran (suc c.args.self.now.budget.steps) [] (without_loads opening.world) (omega (arith, c.take_line.ensures.steps)) (c.take_line.ensures.stands opening.world represents.rests) in
    let lasts = rw c.in-Err-Abort.field-0-is at c.in-Err-Abort.ensures.continues.lasts in
    lined_as g.T.Terminal _ c.abort.result c.args.self.now opening.world (λ r. refl) c.take_line.ensures.device refl
    (ends_lined g.D.SectorDevice g.T.Terminal D.counts_now D.widens D.only_now _ stop.Abort refl h opens lasts c.abort.ensures.lasts
    (λ d like. c.abort.ensures.lined d h.world (record { space = like }) h.stands))

pub returns-then-text-gt-LINE_LIMIT-clause-tells : goal.returns-then-text-gt-LINE_LIMIT-clause-tells
returns-then-text-gt-LINE_LIMIT-clause-tells g c = counts_as c.fail.result _ _ _ c.fail.ensures.tells (c.fail.ensures.counts _)

pub returns-in-Ok-clause-tells : goal.returns-in-Ok-clause-tells
returns-in-Ok-clause-tells g c =
    counts_as c.finish.result _ _ _ (c.finish.ensures.tells ∙ c.in-Ok.ensures.continues.tells ∙ same_count g.D.SectorDevice c.take_line.ensures.device) (c.finish.ensures.counts _)

pub returns-in-Err-Fault-clause-tells : goal.returns-in-Err-Fault-clause-tells
returns-in-Err-Fault-clause-tells g c =
    let told = rw c.in-Err-Fault.field-0-is at c.in-Err-Fault.ensures.continues.tells in
    counts_as c.fail-in-Err-Fault.result _ _ _
    (c.fail-in-Err-Fault.ensures.tells ∙ told ∙ ap (λ n. fault_count c.in-Err-Fault.fault n) (same_count g.D.SectorDevice c.take_line.ensures.device))
    (c.fail-in-Err-Fault.ensures.counts _)

pub returns-in-Err-Quit-clause-tells : goal.returns-in-Err-Quit-clause-tells
returns-in-Err-Quit-clause-tells g c =
    let told = rw c.in-Err-Quit.field-0-is at c.in-Err-Quit.ensures.continues.tells in
    counts_as c.quit.result _ _ _ (c.quit.ensures.tells ∙ told ∙ same_count g.D.SectorDevice c.take_line.ensures.device) (c.quit.ensures.counts _)

pub returns-in-Err-Abort-clause-tells : goal.returns-in-Err-Abort-clause-tells
returns-in-Err-Abort-clause-tells g c =
    let told = rw c.in-Err-Abort.field-0-is at c.in-Err-Abort.ensures.continues.tells in
    counts_as c.abort.result _ _ _ (c.abort.ensures.tells ∙ told ∙ same_count g.D.SectorDevice c.take_line.ensures.device) (c.abort.ensures.counts _)

pub returns-in-Err-Io-clause-tells : goal.returns-in-Err-Io-clause-tells
returns-in-Err-Io-clause-tells g c =
    let told = rw c.in-Err-Io.field-0-is at c.in-Err-Io.ensures.continues.tells in
    inl (same_count g.D.SectorDevice c.break_off.ensures.spares.device ∙ told ∙ same_count g.D.SectorDevice c.take_line.ensures.device)

pub returns-then-text-gt-LINE_LIMIT-clause-clears : goal.returns-then-text-gt-LINE_LIMIT-clause-clears
returns-then-text-gt-LINE_LIMIT-clause-clears g c = c.fail.ensures.clears c.requires.sound.0 c.requires.sound.1

pub returns-in-Ok-clause-clears : goal.returns-in-Ok-clause-clears
returns-in-Ok-clause-clears g c =
    let h = c.in-Ok.ensures.ran (suc c.args.self.now.budget.steps) [] (without_loads c.requires.sound.0) (omega (arith, c.take_line.ensures.steps)) (c.take_line.ensures.stands c.requires.sound.0 c.requires.sound.1) in
    c.finish.ensures.clears h.world h.stands.rests

pub returns-in-Ok-clause-spends : goal.returns-in-Ok-clause-spends
returns-in-Ok-clause-spends g c =
    let h = c.in-Ok.ensures.ran (suc c.args.self.now.budget.steps) [] (without_loads c.requires.sound.0) (omega (arith, c.take_line.ensures.steps)) (c.take_line.ensures.stands c.requires.sound.0 c.requires.sound.1) in
    omega (arith, h.steps, c.take_line.ensures.steps, c.finish.ensures.steps, ap (λ b. b.steps) c.take_line.ensures.budget, ap (λ b. b.steps) c.in-Ok.ensures.continues.budget, ap (λ b. b.steps) c.finish.ensures.budget)

pub returns-in-Err-Fault-clause-clears : goal.returns-in-Err-Fault-clause-clears
returns-in-Err-Fault-clause-clears g c =
    let ran = rw c.in-Err-Fault.field-0-is at c.in-Err-Fault.ensures.ran in
    let h = ran (suc c.args.self.now.budget.steps) [] (without_loads c.requires.sound.0) (omega (arith, c.take_line.ensures.steps)) (c.take_line.ensures.stands c.requires.sound.0 c.requires.sound.1) in
    c.fail-in-Err-Fault.ensures.clears h.world h.stands

pub returns-in-Err-Fault-clause-spends : goal.returns-in-Err-Fault-clause-spends
returns-in-Err-Fault-clause-spends g c =
    let ran = rw c.in-Err-Fault.field-0-is at c.in-Err-Fault.ensures.ran in
    let h = ran (suc c.args.self.now.budget.steps) [] (without_loads c.requires.sound.0) (omega (arith, c.take_line.ensures.steps)) (c.take_line.ensures.stands c.requires.sound.0 c.requires.sound.1) in
    omega (arith, h.steps, c.take_line.ensures.steps, c.fail-in-Err-Fault.ensures.steps, ap (λ b. b.steps) c.take_line.ensures.budget, ap (λ b. b.steps) c.in-Err-Fault.ensures.continues.budget, ap (λ b. b.steps) c.fail-in-Err-Fault.ensures.budget)

pub returns-in-Err-Quit-clause-clears : goal.returns-in-Err-Quit-clause-clears
returns-in-Err-Quit-clause-clears g c =
    let ran = rw c.in-Err-Quit.field-0-is at c.in-Err-Quit.ensures.ran in
    let h = ran (suc c.args.self.now.budget.steps) [] (without_loads c.requires.sound.0) (omega (arith, c.take_line.ensures.steps)) (c.take_line.ensures.stands c.requires.sound.0 c.requires.sound.1) in
    c.quit.ensures.clears h.world h.stands

pub returns-in-Err-Quit-clause-spends : goal.returns-in-Err-Quit-clause-spends
returns-in-Err-Quit-clause-spends g c =
    let ran = rw c.in-Err-Quit.field-0-is at c.in-Err-Quit.ensures.ran in
    let h = ran (suc c.args.self.now.budget.steps) [] (without_loads c.requires.sound.0) (omega (arith, c.take_line.ensures.steps)) (c.take_line.ensures.stands c.requires.sound.0 c.requires.sound.1) in
    omega (arith, h.steps, c.take_line.ensures.steps, c.quit.ensures.steps, ap (λ b. b.steps) c.take_line.ensures.budget, ap (λ b. b.steps) c.in-Err-Quit.ensures.continues.budget, ap (λ b. b.steps) c.quit.ensures.budget)

pub returns-in-Err-Abort-clause-clears : goal.returns-in-Err-Abort-clause-clears
returns-in-Err-Abort-clause-clears g c =
    let ran = rw c.in-Err-Abort.field-0-is at c.in-Err-Abort.ensures.ran in
    let h = ran (suc c.args.self.now.budget.steps) [] (without_loads c.requires.sound.0) (omega (arith, c.take_line.ensures.steps)) (c.take_line.ensures.stands c.requires.sound.0 c.requires.sound.1) in
    c.abort.ensures.clears h.world h.stands

pub returns-in-Err-Abort-clause-spends : goal.returns-in-Err-Abort-clause-spends
returns-in-Err-Abort-clause-spends g c =
    let ran = rw c.in-Err-Abort.field-0-is at c.in-Err-Abort.ensures.ran in
    let h = ran (suc c.args.self.now.budget.steps) [] (without_loads c.requires.sound.0) (omega (arith, c.take_line.ensures.steps)) (c.take_line.ensures.stands c.requires.sound.0 c.requires.sound.1) in
    omega (arith, h.steps, c.take_line.ensures.steps, c.abort.ensures.steps, ap (λ b. b.steps) c.take_line.ensures.budget, ap (λ b. b.steps) c.in-Err-Abort.ensures.continues.budget, ap (λ b. b.steps) c.abort.ensures.budget)

pub returns-in-Err-Io-clause-clears : goal.returns-in-Err-Io-clause-clears
returns-in-Err-Io-clause-clears g c =
    let ran = rw c.in-Err-Io.field-0-is at c.in-Err-Io.ensures.ran in
    let h = ran (suc c.args.self.now.budget.steps) [] (without_loads c.requires.sound.0) (omega (arith, c.take_line.ensures.steps)) (c.take_line.ensures.stands c.requires.sound.0 c.requires.sound.1) in
    c.break_off.ensures.clears h.world h.stands

pub returns-in-Err-Io-clause-spends : goal.returns-in-Err-Io-clause-spends
returns-in-Err-Io-clause-spends g c =
    let ran = rw c.in-Err-Io.field-0-is at c.in-Err-Io.ensures.ran in
    let h = ran (suc c.args.self.now.budget.steps) [] (without_loads c.requires.sound.0) (omega (arith, c.take_line.ensures.steps)) (c.take_line.ensures.stands c.requires.sound.0 c.requires.sound.1) in
    omega (arith, h.steps, c.take_line.ensures.steps, c.break_off.ensures.steps, ap (λ b. b.steps) c.take_line.ensures.budget, ap (λ b. b.steps) c.in-Err-Io.ensures.continues.budget, ap (λ b. b.steps) c.break_off.ensures.spares.budget)

pub returns-then-text-gt-LINE_LIMIT-clause-lasts : goal.returns-then-text-gt-LINE_LIMIT-clause-lasts
returns-then-text-gt-LINE_LIMIT-clause-lasts g c = c.fail.ensures.lasts

pub returns-then-text-gt-LINE_LIMIT-clause-placed : goal.returns-then-text-gt-LINE_LIMIT-clause-placed
returns-then-text-gt-LINE_LIMIT-clause-placed g c = c.fail.ensures.placed

pub returns-then-text-gt-LINE_LIMIT-clause-budget : goal.returns-then-text-gt-LINE_LIMIT-clause-budget
returns-then-text-gt-LINE_LIMIT-clause-budget g c = c.fail.ensures.budget

pub returns-in-Ok-clause-lasts : goal.returns-in-Ok-clause-lasts
returns-in-Ok-clause-lasts g c =
    lasts_from g.D.SectorDevice g.T.Terminal c.take_line.ensures.device (lasts_then g.D.SectorDevice g.T.Terminal g.met.D.SectorDevice.widens c.in-Ok.ensures.continues.lasts c.finish.ensures.lasts)

pub returns-in-Ok-clause-placed : goal.returns-in-Ok-clause-placed
returns-in-Ok-clause-placed g c = c.finish.ensures.placed

pub returns-in-Ok-clause-budget : goal.returns-in-Ok-clause-budget
returns-in-Ok-clause-budget g c = c.finish.ensures.budget ∙ c.in-Ok.ensures.continues.budget ∙ c.take_line.ensures.budget

pub returns-in-Err-Fault-clause-lasts : goal.returns-in-Err-Fault-clause-lasts
returns-in-Err-Fault-clause-lasts g c =
    let lasts = rw c.in-Err-Fault.field-0-is at c.in-Err-Fault.ensures.continues.lasts in
    lasts_from g.D.SectorDevice g.T.Terminal c.take_line.ensures.device (lasts_then g.D.SectorDevice g.T.Terminal g.met.D.SectorDevice.widens (lasts_calm g.D.SectorDevice g.T.Terminal (stop.Fault c.in-Err-Fault.fault) refl lasts) c.fail-in-Err-Fault.ensures.lasts)

pub returns-in-Err-Fault-clause-placed : goal.returns-in-Err-Fault-clause-placed
returns-in-Err-Fault-clause-placed g c = c.fail-in-Err-Fault.ensures.placed

pub returns-in-Err-Fault-clause-budget : goal.returns-in-Err-Fault-clause-budget
returns-in-Err-Fault-clause-budget g c = c.fail-in-Err-Fault.ensures.budget ∙ c.in-Err-Fault.ensures.continues.budget ∙ c.take_line.ensures.budget

pub returns-in-Err-Quit-clause-lasts : goal.returns-in-Err-Quit-clause-lasts
returns-in-Err-Quit-clause-lasts g c =
    let lasts = rw c.in-Err-Quit.field-0-is at c.in-Err-Quit.ensures.continues.lasts in
    lasts_from g.D.SectorDevice g.T.Terminal c.take_line.ensures.device (lasts_then g.D.SectorDevice g.T.Terminal g.met.D.SectorDevice.widens (lasts_calm g.D.SectorDevice g.T.Terminal stop.Quit refl lasts) c.quit.ensures.lasts)

pub returns-in-Err-Quit-clause-placed : goal.returns-in-Err-Quit-clause-placed
returns-in-Err-Quit-clause-placed g c = c.quit.ensures.placed

pub returns-in-Err-Quit-clause-budget : goal.returns-in-Err-Quit-clause-budget
returns-in-Err-Quit-clause-budget g c = c.quit.ensures.budget ∙ c.in-Err-Quit.ensures.continues.budget ∙ c.take_line.ensures.budget

pub returns-in-Err-Abort-clause-lasts : goal.returns-in-Err-Abort-clause-lasts
returns-in-Err-Abort-clause-lasts g c =
    let lasts = rw c.in-Err-Abort.field-0-is at c.in-Err-Abort.ensures.continues.lasts in
    lasts_from g.D.SectorDevice g.T.Terminal c.take_line.ensures.device (lasts_then g.D.SectorDevice g.T.Terminal g.met.D.SectorDevice.widens (lasts_calm g.D.SectorDevice g.T.Terminal stop.Abort refl lasts) c.abort.ensures.lasts)

pub returns-in-Err-Abort-clause-placed : goal.returns-in-Err-Abort-clause-placed
returns-in-Err-Abort-clause-placed g c = c.abort.ensures.placed

pub returns-in-Err-Abort-clause-budget : goal.returns-in-Err-Abort-clause-budget
returns-in-Err-Abort-clause-budget g c = c.abort.ensures.budget ∙ c.in-Err-Abort.ensures.continues.budget ∙ c.take_line.ensures.budget

pub returns-in-Err-Io-clause-lasts : goal.returns-in-Err-Io-clause-lasts
returns-in-Err-Io-clause-lasts g c =
    let lasts = rw c.in-Err-Io.field-0-is at c.in-Err-Io.ensures.continues.lasts in
    lasts_from g.D.SectorDevice g.T.Terminal c.take_line.ensures.device (lasts_to g.D.SectorDevice g.T.Terminal c.break_off.ensures.spares.device lasts)

pub returns-in-Err-Io-clause-placed : goal.returns-in-Err-Io-clause-placed
returns-in-Err-Io-clause-placed g c = c.break_off.ensures.placed

pub returns-in-Err-Io-clause-budget : goal.returns-in-Err-Io-clause-budget
returns-in-Err-Io-clause-budget g c = c.break_off.ensures.budget ∙ c.in-Err-Io.ensures.continues.budget ∙ c.take_line.ensures.budget

pub returns-then-text-gt-LINE_LIMIT-clause-spends : goal.returns-then-text-gt-LINE_LIMIT-clause-spends
returns-then-text-gt-LINE_LIMIT-clause-spends g c = omega (arith, c.fail.ensures.steps, ap (λ b. b.steps) c.fail.ensures.budget)
