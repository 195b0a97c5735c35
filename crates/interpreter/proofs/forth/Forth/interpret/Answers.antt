use Rattle.std.proofs.Common.{◌+◌, ◌∙◌, ap, refl, arith}
use Rattle.interpreter.specs.Stops.{stop_count}
use Rattle.interpreter.proofs.RoundContract.{lasts_nothing, lasts_then, round_of_nothing, round_then, over_ran, stopped_ran}
use Rattle.interpreter.proofs.forth.Forth.interpret.Goals as goal

pub rounds-init : goal.rounds-init
rounds-init g c = record {
  round = λ n levels x less stands.
      round_of_nothing g.D.SectorDevice g.T.Terminal g.met.D.SectorDevice.counts_now g.met.D.SectorDevice.widens g.met.D.SectorDevice.only_now n c.args.self.now levels x c.args.terminal.now stands;
  lasts = lasts_nothing g.D.SectorDevice g.T.Terminal _ _;
  told = refl;
  budget = refl;
}

pub round-requires : goal.round-requires
round-requires g c =
    let s = c.requires.sound in
    let h = c.rounds.invariant.round (c.args.self.now.steps + 1) s.0 s.1 (omega arith) s.2 in
    record { sound = (h.levels, h.world, h.stands) }

pub rounds-preserved : goal.rounds-preserved
rounds-preserved g c =
    let round = rw c.in-Ok-GoesOn.field-0-is at c.in-Ok-GoesOn.ensures.round in
    let lasts = c.in-Ok-GoesOn.ensures.continues.lasts in
    record {
      round = λ n levels x less stands.
          let h = c.rounds.invariant.round n levels x less stands in
          round_then g.D.SectorDevice g.T.Terminal g.met.D.SectorDevice.counts_now g.met.D.SectorDevice.widens g.met.D.SectorDevice.only_now n c.rounds.invariant.lasts lasts h
          (round n h.levels h.world (omega (arith, h.steps, less)) h.stands);
      lasts = lasts_then g.D.SectorDevice g.T.Terminal g.met.D.SectorDevice.widens c.rounds.invariant.lasts lasts;
      told = c.in-Ok-GoesOn.ensures.continues.tells ∙ c.rounds.invariant.told;
      budget = c.in-Ok-GoesOn.ensures.continues.budget ∙ c.rounds.invariant.budget;
    }

pub returns-in-Ok-Over-clause-ran : goal.returns-in-Ok-Over-clause-ran
returns-in-Ok-Over-clause-ran g c = λ n levels x less stands.
    let round = rw c.in-Ok-Over.field-0-is at c.in-Ok-Over.ensures.round in
    let lasts = c.in-Ok-Over.ensures.continues.lasts in
    let h = c.rounds.invariant.round n levels x less stands in
    over_ran g.T.Terminal n
    (round_then g.D.SectorDevice g.T.Terminal g.met.D.SectorDevice.counts_now g.met.D.SectorDevice.widens g.met.D.SectorDevice.only_now n c.rounds.invariant.lasts lasts h
    (round n h.levels h.world (omega (arith, h.steps, less)) h.stands))

pub returns-in-Err-clause-ran : goal.returns-in-Err-clause-ran
returns-in-Err-clause-ran g c = λ n levels x less stands.
    let h = c.rounds.invariant.round n levels x less stands in
    stopped_ran g.T.Terminal n
    (round_then g.D.SectorDevice g.T.Terminal g.met.D.SectorDevice.counts_now g.met.D.SectorDevice.widens g.met.D.SectorDevice.only_now n c.rounds.invariant.lasts c.in-Err.ensures.continues.lasts h
    (c.in-Err.ensures.round n h.levels h.world (omega (arith, h.steps, less)) h.stands))

pub returns-in-Ok-Over-clause-continues : goal.returns-in-Ok-Over-clause-continues
returns-in-Ok-Over-clause-continues g c = record {
  lasts = lasts_then g.D.SectorDevice g.T.Terminal g.met.D.SectorDevice.widens c.rounds.invariant.lasts c.in-Ok-Over.ensures.continues.lasts;
  tells = c.in-Ok-Over.ensures.continues.tells ∙ c.rounds.invariant.told;
  budget = c.in-Ok-Over.ensures.continues.budget ∙ c.rounds.invariant.budget;
}

pub returns-in-Err-clause-continues : goal.returns-in-Err-clause-continues
returns-in-Err-clause-continues g c = record {
  lasts = lasts_then g.D.SectorDevice g.T.Terminal g.met.D.SectorDevice.widens c.rounds.invariant.lasts c.in-Err.ensures.continues.lasts;
  tells = c.in-Err.ensures.continues.tells ∙ ap (λ n. stop_count c.in-Err.stop n) c.rounds.invariant.told;
  budget = c.in-Err.ensures.continues.budget ∙ c.rounds.invariant.budget;
}
