use Rattle.cell_machine.proofs.Staying.{left_stays, body_stays, steps-before, calls-before}
use Rattle.cell_machine.proofs.laws.frames_stay.Goals as goal

pub returns-clause-frames : goal.returns-clause-frames
returns-clause-frames c past code owner_at code' owner_at' s pending place entries levels all h =
    left_stays past code owner_at code' owner_at' s pending place entries levels all h

pub returns-clause-bodies : goal.returns-clause-bodies
returns-clause-bodies c past code owner_at code' owner_at' s owner place parts k b =
    body_stays past code owner_at code' owner_at' s owner place parts k b

pub returns-clause-steps : goal.returns-clause-steps
returns-clause-steps c past k levels core all = steps-before past k levels core all

pub returns-clause-calls : goal.returns-clause-calls
returns-clause-calls c past words known k levels core all = calls-before past words known k levels core all
