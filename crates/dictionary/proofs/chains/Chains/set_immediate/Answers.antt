use Rattle.std.proofs.Common.{◌-◌, refl, ◌∙◌, ap, arith}
use Rattle.dictionary.specs.Words.{with_immediate}
use Rattle.dictionary.proofs.Kept.{chained_last, last_place, last_read, immediate_last}
use Rattle.dictionary.proofs.Said.{told_alike}
use Rattle.dictionary.proofs.chains.Chains.set_immediate.Goals as goal

pub invariant_of-self : goal.invariant_of-self
invariant_of-self c =
    let s = c.self.inside in
    let at = last_read s.headers.items c.args.self.now c.len-last.result c.index_mut.result.now c.self.view_is c.requires (omega (arith, c.len-last.ensures)) c.index_mut.ensures.value in (
      chained_last s.headers.items c.args.self.now s.last.items s.newest.items c.len-last.result c.index_mut.result.now _ c.self.view_is c.requires (omega (arith, c.len-last.ensures)) c.index_mut.ensures.value c.self.invariant.0 (record { number = refl; previous = refl; older = refl; vocabulary = refl; len = refl; name = refl }),
      c.self.invariant.1,
      told_alike s.headers.items (c.len-last.result - 1) c.index_mut.result.now _ s.callees c.self.invariant.2 at refl,
    )

pub returns-clause-set : goal.returns-clause-set
returns-clause-set c =
    let hs = c.self.inside.headers.items in
    let at = last_read hs c.args.self.now c.len-last.result c.index_mut.result.now c.self.view_is c.requires (omega (arith, c.len-last.ensures)) c.index_mut.ensures.value in
    immediate_last hs (c.len-last.result - 1) c.index_mut.result.now _ at (last_place hs c.args.self.now c.len-last.result c.self.view_is c.requires (omega (arith, c.len-last.ensures))) refl ∙ ap with_immediate c.self.view_is
