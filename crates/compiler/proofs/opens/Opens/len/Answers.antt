use Rattle.std.proofs.Common.{◌∙◌, length, sym, ap}
use Rattle.compiler.proofs.OpenPlaces.{count}
use Rattle.compiler.proofs.opens.Opens.len.Goals as goal

pub returns : goal.returns
returns c = sym (count c.self.inside.places.items c.self.inside.depth) ∙ ap length c.self.view_is
