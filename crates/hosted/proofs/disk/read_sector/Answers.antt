use Rattle.std.proofs.Common.{◌∙◌, ◌≡◌, IsTrue, subst, sym}
use Rattle.std.specs.Bool.{OnTrue}
use Rattle.sector_disk.proofs.Moments.{elapses_then}
use Rattle.hosted.proofs.Hosts.{asked_then}
use Rattle.hosted.proofs.disk.read_sector.Goals as goal

pub returns-then-ask-clause-bytes : goal.returns-then-ask-clause-bytes
returns-then-ask-clause-bytes g c = λ keeps.
    let H = g.H.Host in
    let honest : IsTrue (H.keeps_model c.ask.new.self) = subst IsTrue (sym c.ask.ensures.model) keeps in
    subst (λ disk. OnTrue c.take.result (c.take.new.out ≡ disk.content c.args.k)) (c.ask.ensures.reading c.args.k c.bytes.ensures)
    (c.take.ensures.bytes honest c.args.k c.ranges.k.fits (c.if-ask.ensures.asked keeps ∙ c.bytes.ensures))

pub returns-then-ask-clause-disk : goal.returns-then-ask-clause-disk
returns-then-ask-clause-disk g c = c.take.ensures.disk ∙ c.ask.ensures.reading c.args.k c.bytes.ensures

pub returns-then-ask-clause-time : goal.returns-then-ask-clause-time
returns-then-ask-clause-time g c =
    elapses_then g.H.Host.time g.H.Host.left_since c.args.host.now c.ask.new.self c.take.new.self (g.met.H.Host.widens c.take.new.self)
    c.ask.ensures.time c.take.ensures.time

pub returns-then-ask-clause-stops : goal.returns-then-ask-clause-stops
returns-then-ask-clause-stops g c =
    asked_then g.H.Host c.args.host.now c.ask.new.self c.take.new.self c.ask.ensures.time c.take.ensures.time
    (c.ask.ensures.reading c.args.k c.bytes.ensures) c.ask.ensures.stops c.take.ensures.stops

pub returns-else-ask-clause-disk : goal.returns-else-ask-clause-disk
returns-else-ask-clause-disk g c = c.ask.ensures.reading c.args.k c.bytes.ensures
