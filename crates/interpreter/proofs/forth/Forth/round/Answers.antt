use Rattle.std.proofs.Common.{◌+◌, ◌∙◌, refl, ap, sym, arith}
use Rattle.std.proofs.KnownBytes.{Appends-nil}
use Rattle.cell_machine.specs.Fault.{Quits, Aborts, Faults}
use Rattle.cell_machine.specs.Value.{Ends}
use Rattle.interpreter.specs.declared.fault.Stop.TheVariants as stop
use Rattle.interpreter.specs.State.{with_run}
use Rattle.interpreter.specs.Law.{next}
use Rattle.interpreter.specs.Lexicon.{language_of}
use Rattle.interpreter.specs.Representation.{core}
use Rattle.interpreter.proofs.Events.{due_of, left_calls, paid_least, service_falls, down_if, finished_at_text}
use Rattle.interpreter.proofs.Advancing.{round_at_text}
use Rattle.interpreter.proofs.RoundContract.{round_as, round_left, left_so}
use Rattle.interpreter.proofs.forth.Forth.round.Goals as goal

pub serve-requires : goal.serve-requires
serve-requires g c =
    let s = c.requires.sound in
    let ran = rw c.lend.ensures.value at c.in-Service.ensures.runs in
    let runs = ran (language_of s.1) s.0 s.2.rests.meant s.2.left in
    let due = due_of _ _ _ _ _ _ runs.1.1.1 in
    record { asked = (runs.1.0, s.1, due.0, (record { rests = s.2.rests; left = runs.1.1.0 }, due.1.0)); idle = c.resume-event.ensures.nothing_pending }

pub returns-in-Service-clause-round : goal.returns-in-Service-clause-round
returns-in-Service-clause-round g c = λ n levels x less stands.
    let ran = rw c.lend.ensures.value at c.in-Service.ensures.runs in
    let runs = ran (language_of x) levels stands.rests.meant stands.left in
    let due = due_of _ _ _ _ _ _ runs.1.1.1 in
    let paid = paid_least c.in-Service.op _ _ c.in-Service.ensures.paid in
    round_as g.T.Terminal n _ c.args.self.now
    (λ r. left_calls c.system_words.ensures n c.args.self.now.lexicon (with_run r x) runs.0 levels (core c.args.self.now) stands.rests.meant less ∙ ap (λ e. next n e (with_run r x)) due.1.1)
    paid refl
    (c.serve.ensures.round n runs.1.0 x due.0 (omega (arith, paid, less)) (record { rests = stands.rests; left = runs.1.1.0 }) due.1.0)

pub returns-in-Service-clause-down : goal.returns-in-Service-clause-down
returns-in-Service-clause-down g c =
    let s = c.requires.sound in
    let ran = rw c.lend.ensures.value at c.in-Service.ensures.runs in
    let runs = ran (language_of s.1) s.0 s.2.rests.meant s.2.left in
    let due = due_of _ _ _ _ _ _ runs.1.1.1 in
    let paid = paid_least c.in-Service.op _ _ c.in-Service.ensures.paid in
    let h = c.serve.ensures.round (c.args.self.now.steps + 1) runs.1.0 s.1 due.0 (omega (arith, paid)) (record { rests = s.2.rests; left = runs.1.1.0 }) due.1.0 in
    let falls = rw c.lend.ensures.value at c.in-Service.ensures.falls in
    down_if c.serve.result _ _
    (service_falls c.in-Service.op c.args.self.now.steps c.resume-event.new.budget c.serve.new.self.steps c.args.self.now.returns c.resume-event.new.returns c.serve.new.self.returns
    falls c.in-Service.ensures.paid c.serve.ensures.given h.steps)

pub returns-in-Fault-clause-round : goal.returns-in-Fault-clause-round
returns-in-Fault-clause-round g c = λ n levels x less stands.
    let ran = rw c.lend.ensures.value at c.in-Fault.ensures.runs in
    let runs = ran (language_of x) levels stands.rests.meant stands.left in
    round_left g.D.SectorDevice g.T.Terminal g.met.D.SectorDevice.only_now n (stop.Fault c.machine_fault.result) c.args.self.now _ c.args.terminal.now stands.rests refl c.in-Fault.ensures.paid
    (left_so _ _ runs.1.0 _ x runs.1.1.1.0
    (λ r. left_calls c.system_words.ensures n c.args.self.now.lexicon (with_run r x) runs.0 levels (core c.args.self.now) stands.rests.meant less ∙ ap (λ e. next n e (with_run r x)) runs.1.1.0 ∙ ap (λ f. Ends (Faults f) runs.1.0 (with_run r x)) (sym c.machine_fault.ensures.fault)))
    refl (Appends-nil _)

pub returns-in-Quit-clause-round : goal.returns-in-Quit-clause-round
returns-in-Quit-clause-round g c = λ n levels x less stands.
    let ran = rw c.lend.ensures.value at c.in-Quit.ensures.runs in
    let runs = ran (language_of x) levels stands.rests.meant stands.left in
    round_left g.D.SectorDevice g.T.Terminal g.met.D.SectorDevice.only_now n stop.Quit c.args.self.now _ c.args.terminal.now stands.rests refl c.in-Quit.ensures.paid
    (left_so _ Quits _ _ x refl
    (λ r. left_calls c.system_words.ensures n c.args.self.now.lexicon (with_run r x) runs.0 levels (core c.args.self.now) stands.rests.meant less ∙ ap (λ e. next n e (with_run r x)) runs.1))
    refl (Appends-nil _)

pub returns-in-Abort-clause-round : goal.returns-in-Abort-clause-round
returns-in-Abort-clause-round g c = λ n levels x less stands.
    let ran = rw c.lend.ensures.value at c.in-Abort.ensures.runs in
    let runs = ran (language_of x) levels stands.rests.meant stands.left in
    round_left g.D.SectorDevice g.T.Terminal g.met.D.SectorDevice.only_now n stop.Abort c.args.self.now _ c.args.terminal.now stands.rests refl c.in-Abort.ensures.paid
    (left_so _ Aborts _ _ x refl
    (λ r. left_calls c.system_words.ensures n c.args.self.now.lexicon (with_run r x) runs.0 levels (core c.args.self.now) stands.rests.meant less ∙ ap (λ e. next n e (with_run r x)) runs.1))
    refl (Appends-nil _)

pub advance-requires : goal.advance-requires
advance-requires g c =
    let s = c.requires.sound in
    let ran = rw c.lend.ensures.value at c.in-Done.ensures.runs in
    let runs = ran (language_of s.1) s.0 s.2.rests.meant s.2.left in
    record { sound = (runs.1.0, s.1, record { rests = s.2.rests; left = runs.1.1.0 }); idle = c.in-Done.ensures.nothing_pending }

pub returns-in-Done-clause-round : goal.returns-in-Done-clause-round
returns-in-Done-clause-round g c = λ n levels x less stands.
    let ran = rw c.lend.ensures.value at c.in-Done.ensures.runs in
    let runs = ran (language_of x) levels stands.rests.meant stands.left in
    round_as g.T.Terminal n _ c.args.self.now
    (λ r. left_calls c.system_words.ensures n c.args.self.now.lexicon (with_run r x) runs.0 levels (core c.args.self.now) stands.rests.meant less ∙ ap (λ e. next n e (with_run r x)) runs.1.1.1)
    c.in-Done.ensures.paid refl
    (round_at_text g.T.Terminal n c.round_of_text.ensures c.args.terminal.now
    (c.advance.ensures.advanced n runs.1.0 x (omega (arith, c.in-Done.ensures.paid, less)) (record { rests = stands.rests; left = runs.1.1.0 }) (finished_at_text _ runs.0 levels runs.1.0 _ _ runs.1.1.1)))
