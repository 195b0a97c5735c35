use Rattle.std.proofs.Common.{subst}
use Rattle.test_language.specs.Going.{Finds}
use Rattle.test_language.proofs.Ready.{given}
use Rattle.test_language.proofs.words.desk.Desk.give.Goals as goal

pub returns-in-Service-Does-clause-ready : goal.returns-in-Service-Does-clause-ready
returns-in-Service-Does-clause-ready c =
    let r = c.in-Service-Does.ensures.ready in
    let f = subst (λ o. Finds c.resume.new.self.lexicon r.0 o) c.in-Service-Does.field-0-is r.2.2 in
    given c.resume.new.self.lexicon c.give_part.new.self _ _ _ _ c.give_part.result
    c.give_part.ensures.given c.give_part.ensures.refused r.0 r.1 r.2.0 r.2.1 f
