use Rattle.std.proofs.Common.{◌≡◌, ◌≤◌, ◌+◌, ◌-◌, ℕ, List, length, sym, ap, ◌∙◌, arith}
use Rattle.data_space.specs.Space.{bytes_at, with_bytes, moved_down}
use Rattle.data_space.proofs.Parts.{down-two, down-apart, apart}
use Rattle.data_space.proofs.moves.copy_down.Goals as goal

-- the last part as a whole, and the rest
one_less : (bytes new : List ℕ) (from to n part from_2 to_2 rest : ℕ) → from + n ≤ length bytes → to + n ≤ length bytes → n ≡ part + rest
    → from_2 ≡ from + rest → to_2 ≡ to + rest → part ≤ (from - to) + (to - from) → new ≡ with_bytes bytes to_2 (bytes_at bytes from_2 part)
    → moved_down new from to rest ≡ moved_down bytes from to n
one_less bytes new from to n part from_2 to_2 rest f t e g h a w =
    ap (λ l. moved_down l from to rest) (w ∙ sym (down-apart part bytes from_2 to_2 (omega arith) (omega arith) (apart from_2 to_2 part (omega arith))))
    ∙ sym (down-two part bytes from to n rest from_2 to_2 e g h)

pub loop-rest-preserved : goal.loop-rest-preserved
loop-rest-preserved c = record {
  within = omega (arith, c.min-part.ensures);
  rest =
      one_less c.loop-rest.bytes c.copy_apart.new.bytes c.args.from c.args.to c.loop-rest.rest c.min-part.result
      _ _ _
      (omega (arith, c.requires.source, c.loop-rest.auto.bytes, c.loop-rest.invariant.within))
      (omega (arith, c.requires.target, c.loop-rest.auto.bytes, c.loop-rest.invariant.within))
      (omega (arith, c.min-part.ensures)) (λ i. c.args.from + (c.loop-rest.rest - c.min-part.result)) (λ i. c.args.to + (c.loop-rest.rest - c.min-part.result)) (omega (arith, c.min-part.ensures, c.abs_diff-distance.ensures)) c.copy_apart.ensures
      ∙ c.loop-rest.invariant.rest;
}
