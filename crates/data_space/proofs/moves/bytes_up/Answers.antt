use Rattle.std.proofs.Common.{◌+◌, ◌-◌, sym, ◌∙◌, arith}
use Rattle.std.proofs.lemmas.List.{length-set}
use Rattle.data_space.proofs.Steps.{up}
use Rattle.data_space.proofs.moves.bytes_up.Goals as goal

pub loop-i-preserved : goal.loop-i-preserved
loop-i-preserved c = record {
  within = omega arith;
  length = length-set _ _ _ ∙ c.loop-i.invariant.length;
  rest =
      sym (up c.loop-i.bytes (c.args.from + c.loop-i.i) (c.args.to + c.loop-i.i) (c.args.n - c.loop-i.i) (c.args.from + (c.loop-i.i + 1)) (c.args.to + (c.loop-i.i + 1)) (c.args.n - (c.loop-i.i + 1)) (omega arith) (omega arith) (omega arith))
      ∙ c.loop-i.invariant.rest;
}
