use Rattle.std.proofs.Common.{◌≡◌}
use Rattle.sessions.specs.declared.run_fault.RunFault.TheVariants.{Read as ReadFault, Write as WriteFault}
use Rattle.journal.specs.Calls.{StopsLeave}
use Rattle.hosted.specs.Calls.{MayRecover}
use Rattle.hosted.specs.Costs.{OpeningBegins}
use Rattle.hosted.specs.Refusals.{refusal_of}
use Rattle.hosted.specs.Sessions.{BreaksSession, RunsSession}
use Rattle.hosted.specs.declared.refusal.Refusal.TheVariants.{BadSize, Input, NoSteps, Output}
use Rattle.hosted.proofs.Numbers.{tells_session, when_done, when_nothing_ran, when_told}
use Rattle.hosted.proofs.promises.run_over.Goals as goal

pub returns-clause-done : goal.returns-clause-done
returns-clause-done g c =
    when_done c.run_image.result c.told.result.0 c.told.result.1 (λ d. RunsSession g.D.SectorDevice c.args.steps (g.R.Read.remaining c.args.input.now) (g.R.Read.remaining c.run_image.new.input)
    (g.W.Write.contents c.args.output.now) (g.W.Write.contents c.run_image.new.output) c.args.device d) c.told.ensures.number c.told.ensures.device c.run_image.ensures.ran

pub returns-clause-input : goal.returns-clause-input
returns-clause-input g c = λ keeps.
    when_told c.run_image.result c.told.result.0 c.told.result.1 (λ d. BreaksSession g.D.SectorDevice ReadFault c.args.steps (g.R.Read.remaining c.args.input.now)
    (g.R.Read.remaining c.run_image.new.input) (g.W.Write.contents c.args.output.now) (g.W.Write.contents c.run_image.new.output) c.args.device d)
    c.told.ensures.number c.told.ensures.device Input (c.run_image.ensures.input keeps)

pub returns-clause-output : goal.returns-clause-output
returns-clause-output g c = λ keeps.
    when_told c.run_image.result c.told.result.0 c.told.result.1 (λ d. BreaksSession g.D.SectorDevice WriteFault c.args.steps (g.R.Read.remaining c.args.input.now)
    (g.R.Read.remaining c.run_image.new.input) (g.W.Write.contents c.args.output.now) (g.W.Write.contents c.run_image.new.output) c.args.device d)
    c.told.ensures.number c.told.ensures.device Output (c.run_image.ensures.output keeps)

pub returns-clause-exact : goal.returns-clause-exact
returns-clause-exact g c = λ keeps more.
    tells_session c.run_image.result c.told.result.0 c.args.steps (refusal_of (g.D.SectorDevice.sector_count c.args.device) (g.D.SectorDevice.disk c.args.device).content) c.told.ensures.number
    (c.run_image.ensures.opens keeps) (c.run_image.ensures.image keeps) (c.run_image.ensures.memory keeps) c.run_image.ensures.kind c.run_image.ensures.steps more

pub returns-clause-unasked : goal.returns-clause-unasked
returns-clause-unasked g c =
    when_told c.run_image.result c.told.result.0 c.told.result.1 (λ d. d ≡ c.args.device) c.told.ensures.number c.told.ensures.device NoSteps c.run_image.ensures.unasked

pub returns-clause-uncalled : goal.returns-clause-uncalled
returns-clause-uncalled g c =
    when_told c.run_image.result c.told.result.0 c.told.result.1 (λ d. d ≡ c.args.device) c.told.ensures.number c.told.ensures.device BadSize c.run_image.ensures.uncalled

pub returns-clause-unread : goal.returns-clause-unread
returns-clause-unread g c =
    when_nothing_ran c.run_image.result c.told.result.0 c.told.result.1 (λ d. c.run_image.new.input ≡ c.args.input.now) c.told.ensures.number c.told.ensures.device c.run_image.ensures.unread

pub returns-clause-unwritten : goal.returns-clause-unwritten
returns-clause-unwritten g c =
    when_nothing_ran c.run_image.result c.told.result.0 c.told.result.1 (λ d. c.run_image.new.output ≡ c.args.output.now) c.told.ensures.number c.told.ensures.device c.run_image.ensures.unwritten

pub returns-clause-recovers : goal.returns-clause-recovers
returns-clause-recovers g c = λ keeps.
    when_nothing_ran c.run_image.result c.told.result.0 c.told.result.1 (λ d. StopsLeave g.D.SectorDevice c.args.device d (MayRecover g.D.SectorDevice c.args.device))
    c.told.ensures.number c.told.ensures.device (c.run_image.ensures.recovers keeps)

pub returns-clause-begins : goal.returns-clause-begins
returns-clause-begins g c = λ keeps.
    when_nothing_ran c.run_image.result c.told.result.0 c.told.result.1 (OpeningBegins g.D.SectorDevice c.args.device) c.told.ensures.number c.told.ensures.device
    (c.run_image.ensures.begins keeps)
