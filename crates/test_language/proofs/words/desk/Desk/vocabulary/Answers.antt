use Rattle.lexicon.specs.Language.{adding_word}
use Rattle.lexicon.specs.Promise.{fault_of}
use Rattle.dictionary.specs.Words.{Vocabulary}
use Rattle.test_language.proofs.Ready.{kept}
use Rattle.test_language.proofs.words.desk.Desk.vocabulary.Goals as goal

pub returns-clause-ready : goal.returns-clause-ready
returns-clause-ready c =
    kept c.args.self.now.lexicon c.add_vocabulary.new.self (λ x. adding_word c.args.name.now Vocabulary x) (λ e. fault_of e) c.args.self.now.machine c.args.self.now.returns c.add_vocabulary.result c.add_vocabulary.ensures.created c.add_vocabulary.ensures.refused c.requires
