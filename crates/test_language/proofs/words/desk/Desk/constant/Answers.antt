use Rattle.lexicon.specs.Language.{adding_word}
use Rattle.lexicon.specs.Promise.{fault_of}
use Rattle.dictionary.specs.Words.{Constant}
use Rattle.test_language.proofs.Ready.{kept}
use Rattle.test_language.proofs.words.desk.Desk.constant.Goals as goal

pub returns-clause-ready : goal.returns-clause-ready
returns-clause-ready c =
    kept c.args.self.now.lexicon c.add_constant.new.self (λ x. adding_word c.args.name.now (Constant c.args.cell) x) (λ e. fault_of e) c.args.self.now.machine c.args.self.now.returns c.add_constant.result c.add_constant.ensures.created c.add_constant.ensures.refused c.requires
