use Rattle.std.proofs.Common.{◌≡◌, ◌<◌, ◌≤◌, length, get_or, ap, subst}
use Rattle.dictionary.specs.Dictionary.{kind_of_word}
use Rattle.dictionary.proofs.Kept.{found_word, no_word}
use Rattle.dictionary.proofs.chains.Chains.kind.Goals as goal

pub returns-in-Some : goal.returns-in-Some
returns-in-Some c =
    let s = c.self.inside in
    let h = c.in-Some.header.now in
    let at = c.in-Some.ensures.lookup in
    let word = found_word s.headers.items c.args.self.now s.last.items s.newest.items c.args.token c.from.result h c.self.view_is c.self.invariant.0 c.ranges.token.fits c.from.ensures (subst (λ xs. c.from.result < length xs) c.deref.ensures.value at.3.0) (subst (λ xs. h ≡ get_or xs c.from.result h) c.deref.ensures.value at.1) in
    ap kind_of_word word.1

pub returns-in-None : goal.returns-in-None
returns-in-None c =
    let s = c.self.inside in
    let at = c.in-None.ensures.lookup in
    ap kind_of_word (no_word s.headers.items c.args.self.now s.last.items s.newest.items c.args.token c.from.result c.self.view_is c.self.invariant.0 c.ranges.token.fits c.from.ensures (subst (λ xs. length xs ≤ c.from.result) c.deref.ensures.value at.3))
