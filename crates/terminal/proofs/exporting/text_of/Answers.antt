use Rattle.std.proofs.Common.{◌≡◌, ◌∙◌, ◌+◌, ◌-◌, ◌++◌, ◌∷◌, [], suc, ap, sym, arith, append-nil, map}
use Rattle.terminal.specs.Screen.{shown}
use Rattle.terminal.specs.Transfer.{exported_text, unpadded}
use Rattle.terminal.proofs.Transferring.{exported_step}
use Rattle.terminal.proofs.exporting.text_of.Goals as goal

pub loop-preserved : goal.loop-preserved
loop-preserved c =
    let e : 16 - c.loop.counter ≡ suc (16 - (c.loop.counter + 1)) = omega arith in
    record {
      filled = omega (arith, c.add_line.ensures.len, c.without_blanks.ensures.short, c.split_at.ensures.front_len, c.loop.invariant.filled, c.loop.invariant.left);
      few = omega arith;
      left = omega (arith, c.split_at.ensures.back_len, c.loop.invariant.left);
      so_far = ap (λ rest. c.add_line.new.lines.items ++ exported_text (16 - (c.loop.counter + 1)) rest) c.split_at.ensures.back
          ∙ exported_step (16 - (c.loop.counter + 1)) (16 - c.loop.counter) c.loop.lines.items c.add_line.new.lines.items c.loop.rest.now e
          (c.add_line.ensures.items ∙ ap (λ row. c.loop.lines.items ++ map shown row ++ 10 ∷ [])
          (c.without_blanks.ensures.line ∙ ap unpadded c.split_at.ensures.front))
          ∙ c.loop.invariant.so_far;
    }

pub returns : goal.returns
returns c =
    let z : 16 - c.loop.counter ≡ 0 = omega arith in
    sym (append-nil c.loop.lines.items) ∙ ap (λ m. c.loop.lines.items ++ exported_text m c.loop.rest.now) (sym z) ∙ c.loop.invariant.so_far
