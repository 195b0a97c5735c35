use Rattle.lexicon.specs.Structures.{adding}
use Rattle.lexicon.proofs.Lifting.{lifted_ok, structure-keeps}
use Rattle.lexicon.proofs.language.Lexicon.add_structure.Goals as goal

pub returns-clause-added : goal.returns-clause-added
returns-clause-added c =
    lifted_ok c.args.self.now c.add_to.new.compiler c.add_to.new.code (adding c.args.structure) (record { keeps = λ u d. structure-keeps u d c.args.structure }) c.add_to.ensures.bodies c.add_to.result c.add_to.ensures.added
