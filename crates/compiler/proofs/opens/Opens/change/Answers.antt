use Rattle.std.proofs.Common.{◌∙◌, ◌∷◌, length, drop, ap, arith}
use Rattle.compiler.proofs.OpenPlaces.{count, changed}
use Rattle.compiler.proofs.opens.Opens.change.Goals as goal

pub returns : goal.returns
returns c =
    changed c.self.inside.places.items c.self.inside.depth c.args.begun (omega (arith, count c.self.inside.places.items c.self.inside.depth, ap length c.self.view_is, c.requires)) (omega (arith, c.self.invariant.0, c.self.invariant.1))
    ∙ ap (λ l. c.args.begun ∷ drop 1 l) c.self.view_is
