use Rattle.terminal.specs.Scripts.{allowed_by}
use Rattle.terminal.proofs.laws.over_files.Goals as goal

pub returns-clause-put_then_run : goal.returns-clause-put_then_run
returns-clause-put_then_run g c = λ world later path b steps name script left left' written written' after last put given ran keeps.
    let runs = c.again.ensures.put_then_run world b name put.0 after ran.0 put.2 (given ran.0 ran.1) keeps in
    let session = runs.4 (allowed_by steps script) ran.2.led left' written written' last ran.2.session in
    (runs.0, runs.1, runs.2, runs.3, (ran.2.led, session.0, ran.2.leads, session.1))

pub returns-clause-run_then_run : goal.returns-clause-run_then_run
returns-clause-run_then_run g c = λ world later path first_steps steps first_script script unread unread' shown shown' left left' written written' after last first given ran keeps live.
    let runs = c.again.ensures.run_then_run (allowed_by first_steps first_script) first.2.led unread' shown shown' first.0 after ran.0 first.2.session (given ran.0 ran.1) keeps live in
    let session = runs (allowed_by steps script) ran.2.led left' written written' last ran.2.session in
    (ran.2.led, session.0, ran.2.leads, session.1)
