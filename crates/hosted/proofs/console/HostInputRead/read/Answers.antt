use Rattle.std.proofs.Common.{◌≡◌, ℕ, ◌∷◌, [], List, take, slice_set, slice_index, false, length, refl, sym, subst}
use Rattle.std.specs.Bool.{◌==◌}
use Rattle.std.specs.Io.KnownBytes.{Consumes}
use Rattle.hosted.proofs.console.HostInputRead.read.Goals as goal

-- the first byte of what has room for one
first_set : (xs : List ℕ) (x : ℕ) → false ≡ (length xs == 0) → take 1 (slice_set xs 0 x) ≡ x ∷ []
first_set [] x room = absurd (cc)
first_set (y ∷ xs) x room = refl

pub returns-clause-bytes : goal.returns-clause-bytes
returns-clause-bytes g c = (
  subst (Consumes (g.C.Console.left c.args.self.now.console) (g.C.Console.left c.key.new.self)) (sym (first_set c.args.bytes.now (slice_index c.key.new.pair 1) c.if-is_empty.ensures))
      (c.if-not-key.ensures.byte c.if-pair-ne-FOLLOWS.false),
  λ none. absurd (let zero : 1 ≡ 0 = none in cc),
)
