use Rattle.std.proofs.Common.{◌≡◌, ◌∙◌, ◌+◌, ◌-◌, ◌/◌, ◌++◌, suc, ap, arith, length, string_bytes}
use Rattle.terminal.specs.Compared.{digest_line, digest_lines}
use Rattle.terminal.proofs.AddedLines.{digest_step}
use Rattle.terminal.proofs.digests.digest_lines.Goals as goal

pub loop-block-preserved : goal.loop-block-preserved
loop-block-preserved c =
    let b = c.loop-block.block in
    let n = length c.args.bytes.now / 1024 in
    let lines = string_bytes c.loop-block.text in
    let text = string_bytes c.add_digest_line.new.text in
    let e : n - b ≡ suc (n - (b + 1)) = omega (arith, c.loop-block-test.true, c.loop-block.auto.block-end) in
    let next : b + 1 ≡ suc b = omega arith in
    record {
      left = omega (arith, c.split_at.ensures.back_len, c.loop-block.invariant.left);
      so_far = ap (λ rest. text ++ digest_lines (b + 1) (n - (b + 1)) rest) c.split_at.ensures.back
          ∙ digest_step b (b + 1) (n - (b + 1)) (n - b) lines text c.loop-block.rest.now next e
          (c.in_ok-add_digest_line.ensures ∙ ap (λ this. lines ++ digest_line b this) c.split_at.ensures.front)
          ∙ c.loop-block.invariant.so_far;
    }
