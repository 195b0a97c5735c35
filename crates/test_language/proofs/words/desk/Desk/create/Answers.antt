use Rattle.lexicon.specs.Language.{adding_word}
use Rattle.lexicon.specs.Promise.{fault_of}
use Rattle.std.proofs.Common.{None}
use Rattle.dictionary.specs.Words.{Created}
use Rattle.test_language.proofs.Ready.{kept}
use Rattle.test_language.proofs.words.desk.Desk.create.Goals as goal

pub returns-clause-ready : goal.returns-clause-ready
returns-clause-ready c =
    kept c.args.self.now.lexicon c.create.new.self (λ x. adding_word c.args.name.now (Created x.here None) x) (λ e. fault_of e) c.args.self.now.machine c.args.self.now.returns c.create.result c.create.ensures.created c.create.ensures.refused c.requires
