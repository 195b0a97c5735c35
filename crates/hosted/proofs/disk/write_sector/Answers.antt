use Rattle.sector_disk.proofs.Moments.{elapses_then}
use Rattle.hosted.proofs.Hosts.{asked_then}
use Rattle.hosted.proofs.disk.write_sector.Goals as goal

pub returns-then-ask-clause-time : goal.returns-then-ask-clause-time
returns-then-ask-clause-time g c =
    elapses_then g.H.Host.time g.H.Host.left_since c.args.host.now c.ask.new.self c.give.new.self (g.met.H.Host.widens c.give.new.self)
    c.ask.ensures.time c.give.ensures.time

pub returns-then-ask-clause-stops : goal.returns-then-ask-clause-stops
returns-then-ask-clause-stops g c =
    asked_then g.H.Host c.args.host.now c.ask.new.self c.give.new.self c.ask.ensures.time c.give.ensures.time
    (c.ask.ensures.writing c.args.k c.bytes.ensures) c.ask.ensures.stops c.give.ensures.stops
