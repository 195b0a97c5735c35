use Rattle.std.proofs.Common.{◌≡◌, ◌∙◌, ◌+◌, ◌-◌, ◌/◌, ◌++◌, suc, ap₂, arith, length}
use Rattle.terminal.specs.Compared.{change, changes}
use Rattle.terminal.proofs.AddedLines.{change_step}
use Rattle.terminal.proofs.comparing.add_changes.Goals as goal

pub loop-row-preserved : goal.loop-row-preserved
loop-row-preserved c =
    let k = c.loop-row.row in
    let n = length c.args.old.now / 64 in
    let lines = c.loop-row.text.items in
    let text = c.add_change.new.text.items in
    let e : n - k ≡ suc (n - (k + 1)) = omega (arith, c.loop-row-test.true, c.loop-row.auto.row-end) in
    let next : k + 1 ≡ suc k = omega arith in
    record {
      old_left = omega (arith, c.split_at.ensures.back_len, c.loop-row.invariant.old_left);
      new_left = omega (arith, c.split_at-in-loop-row.ensures.back_len, c.loop-row.invariant.new_left);
      so_far = ap₂ (λ old new. text ++ changes (k + 1) (n - (k + 1)) old new) c.split_at.ensures.back c.split_at-in-loop-row.ensures.back
          ∙ change_step k (k + 1) (n - (k + 1)) (n - k) lines text c.loop-row.old_rest.now c.loop-row.new_rest.now next e
          (c.in_ok-add_change.ensures ∙ ap₂ (λ old new. lines ++ change k old new) c.split_at.ensures.front c.split_at-in-loop-row.ensures.front)
          ∙ c.loop-row.invariant.so_far;
    }
