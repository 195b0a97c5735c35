use Rattle.std.proofs.Common.{◌∙◌, ◌∷◌, ◌+◌, length, refl, ap, arith}
use Rattle.compiler.proofs.OpenPlaces.{count, pushed}
use Rattle.compiler.proofs.opens.Opens.push.Goals as goal

pub returns : goal.returns
returns c =
    pushed c.self.inside.places.items c.self.inside.depth (c.self.inside.depth + 1) c.args.begun refl (omega (arith, c.self.invariant.0, count c.self.inside.places.items c.self.inside.depth, ap length c.self.view_is, c.requires))
    ∙ ap (λ l. c.args.begun ∷ l) c.self.view_is
