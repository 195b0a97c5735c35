use Rattle.std.proofs.Common.{◌≡◌, ◌∙◌, ◌∷◌, ◌-◌, get_or, length, refl, sym, ap, arith}
use Rattle.std.proofs.lemmas.List.{get_or_read_under}
use Rattle.compiler.specs.OpenPlaces.{opens_in}
use Rattle.compiler.specs.declared.opens.Open.TheVariants.{Begin}
use Rattle.compiler.proofs.OpenPlaces.{popped}
use Rattle.compiler.proofs.opens.Opens.innermost.Goals as goal

pub returns-else-self-eq0 : goal.returns-else-self-eq0
returns-else-self-eq0 c =
    let e : c.index.result.now ≡ get_or c.self.inside.places.items (c.self.inside.depth - 1) (Begin 0) =
    get_or_read_under c.self.inside.places.items (c.self.inside.depth - 1) (length c.self.inside.places.items) c.index.result.now (Begin 0) c.index.ensures (omega (arith, c.self.invariant.0, c.self.invariant.1, c.if-self-eq0.false)) refl in (
      opens_in c.self.inside.places.items (c.self.inside.depth - 1),
      sym c.self.view_is
          ∙ popped c.self.inside.places.items c.self.inside.depth c.if-self-eq0.false
          ∙ ap (λ x. x ∷ opens_in c.self.inside.places.items (c.self.inside.depth - 1)) (sym e),
    )
