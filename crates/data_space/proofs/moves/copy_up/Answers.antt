use Rattle.std.proofs.Common.{◌≡◌, ◌≤◌, ◌+◌, ◌-◌, ℕ, List, length, sym, ap, ◌∙◌, arith}
use Rattle.data_space.specs.Space.{bytes_at, with_bytes, moved_up}
use Rattle.data_space.proofs.Parts.{up-two, up-apart, apart}
use Rattle.data_space.proofs.moves.copy_up.Goals as goal

-- a part as a whole, and the rest
one_more : (bytes new : List ℕ) (from to n part from_2 to_2 rest : ℕ) → from + n ≤ length bytes → to + n ≤ length bytes → n ≡ part + rest
    → from_2 ≡ from + part → to_2 ≡ to + part → part ≤ (from - to) + (to - from) → new ≡ with_bytes bytes to (bytes_at bytes from part)
    → moved_up new from_2 to_2 rest ≡ moved_up bytes from to n
one_more bytes new from to n part from_2 to_2 rest f t e g h a w =
    ap (λ l. moved_up l from_2 to_2 rest) (w ∙ sym (up-apart part bytes from to (omega arith) (omega arith) (apart from to part a)))
    ∙ sym (up-two part bytes from to n rest from_2 to_2 e g h)

pub loop-done-preserved : goal.loop-done-preserved
loop-done-preserved c = record {
  within = omega (arith, c.min-part.ensures);
  rest =
      one_more c.loop-done.bytes c.copy_apart.new.bytes (c.args.from + c.loop-done.done) (c.args.to + c.loop-done.done) (c.args.n - c.loop-done.done) c.min-part.result
      (c.args.from + (c.loop-done.done + c.min-part.result)) (c.args.to + (c.loop-done.done + c.min-part.result)) (c.args.n - (c.loop-done.done + c.min-part.result))
      (omega (arith, c.requires.source, c.loop-done.auto.bytes, c.loop-done.invariant.within))
      (omega (arith, c.requires.target, c.loop-done.auto.bytes, c.loop-done.invariant.within))
      (omega (arith, c.min-part.ensures)) (omega arith) (omega arith) (omega (arith, c.min-part.ensures, c.abs_diff-distance.ensures)) c.copy_apart.ensures
      ∙ c.loop-done.invariant.rest;
}
