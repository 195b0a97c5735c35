use Rattle.std.proofs.Common.{◌≡◌, ◌<◌, ◌∙◌, ◌+◌, ◌-◌, ◌++◌, suc, ap, sym, arith, length, option_map}
use Rattle.std.proofs.lemmas.Grind.{common_steps}
use Rattle.terminal.specs.Screen.{rows, texts_of}
use Rattle.terminal.proofs.ScreenLemmas.{screen_left}
use Rattle.terminal.proofs.screen.screen_of.Goals as goal

pub loop-preserved : goal.loop-preserved
loop-preserved c =
    let e : 16 - c.loop.counter ≡ suc (16 - (c.loop.counter + 1)) = omega arith in
    record {
      filled = omega (arith, c.in_ok-rest.ensures.filled, c.loop.invariant.filled);
      few = omega arith;
      so_far = c.in_ok-rest.ensures.some (16 - (c.loop.counter + 1))
          ∙ ap (λ m. option_map (λ b. c.loop.block.items ++ b) (rows m (texts_of c.loop.rest.now))) (sym e)
          ∙ c.loop.invariant.so_far;
    }

pub returns-else-is_empty : goal.returns-else-is_empty
returns-else-is_empty c =
    let z : 16 - c.loop.counter ≡ 0 = omega arith in
    let some : 0 < length c.loop.rest.now = grind (arith, common_steps) in
    sym (screen_left c.loop.block.items c.loop.rest.now some)
    ∙ ap (λ m. option_map (λ b. c.loop.block.items ++ b) (rows m (texts_of c.loop.rest.now))) (sym z)
    ∙ c.loop.invariant.so_far
