use Rattle.std.proofs.Common.{◌≡◌, ℕ, ◌+◌, ◌-◌, ◌<◌, List, length, map, Option, Some, refl, sym, ◌∙◌, ap, subst, arith, get_or, set, false}
use Rattle.std.specs.Option.{is_some}
use Rattle.dictionary.specs.declared.words.Kind.TheVariants as Kind
use Rattle.dictionary.specs.declared.chains.Header.{Header}
use Rattle.dictionary.specs.Words.{Created, with_part}
use Rattle.dictionary.specs.Dictionary.{Named}
use Rattle.dictionary.specs.Chains.{header_word}
use Rattle.dictionary.proofs.Kept.{chained_last, last_place, last_read, part_last, not_created}
use Rattle.dictionary.proofs.Said.{told_edited}
use Rattle.dictionary.proofs.chains.Chains.set_part.Goals as goal

pub invariant_of-self : goal.invariant_of-self
invariant_of-self c =
    let s = c.self.inside in
    let at = last_read s.headers.items c.args.self.now c.len-last.result c.index_mut-header.result.now c.self.view_is c.requires (omega (arith, c.len-last.ensures)) c.index_mut-header.ensures.value in (
      chained_last s.headers.items c.args.self.now s.last.items s.newest.items c.len-last.result c.index_mut-header.result.now (record c.index_mut-header.result.now { kind = Kind.Created c.in-Created.data (Some c.args.part) }) c.self.view_is c.requires (omega (arith, c.len-last.ensures)) c.index_mut-header.ensures.value c.self.invariant.0 (record { number = refl; previous = refl; older = refl; vocabulary = refl; len = refl; name = refl }),
      c.self.invariant.1,
      told_edited s.headers.items (c.len-last.result - 1) c.index_mut-header.result.now (record c.index_mut-header.result.now { kind = Kind.Created c.in-Created.data (Some c.args.part) }) s.callees c.set.new.self (c.len-last.result - 1 + 1) c.self.invariant.2 at refl c.set.ensures.stored c.set.ensures.others,
    )

-- the last header is read twice, as f and as h
part_set : (hs : List Header) (ws : List Named) (n : ℕ) (h f : Header) (p a : ℕ) (old : Option ℕ) (g : Header) → map header_word hs ≡ ws → 0 < length ws → n ≡ length hs → h ≡ get_or hs (n - 1) h → f ≡ get_or hs (n - 1) f → f.kind ≡ Kind.Created a old → header_word g ≡ record (header_word h) { kind = Created a (Some p) } → with_part ws p ≡ Some (map header_word (set hs (n - 1) g))
part_set hs ws n h f p a old g view some len read again kind w =
    let at = last_read hs ws n h view some len read in
    let other = last_read hs ws n f view some len again in
    let same : f ≡ h = cc in
    rw (← view) (part_last hs (n - 1) h g p a old at (last_place hs ws n view some len) (sym (ap (λ x. x.kind) same) ∙ kind) w)

pub returns-in-Created-clause-created : goal.returns-in-Created-clause-created
returns-in-Created-clause-created c =
    sym (ap (λ o. is_some o) (part_set c.self.inside.headers.items c.args.self.now c.len-last.result c.index_mut-header.result.now c.index.result.now c.args.part c.in-Created.data c.in-Created.field-1 (record c.index_mut-header.result.now { kind = Kind.Created c.in-Created.data (Some c.args.part) }) c.self.view_is c.requires (omega (arith, c.len-last.ensures)) c.index_mut-header.ensures.value c.index.ensures c.in-Created.is refl))

pub returns-in-Created-clause-set : goal.returns-in-Created-clause-set
returns-in-Created-clause-set c =
    part_set c.self.inside.headers.items c.args.self.now c.len-last.result c.index_mut-header.result.now c.index.result.now c.args.part c.in-Created.data c.in-Created.field-1 (record c.index_mut-header.result.now { kind = Kind.Created c.in-Created.data (Some c.args.part) }) c.self.view_is c.requires (omega (arith, c.len-last.ensures)) c.index_mut-header.ensures.value c.index.ensures c.in-Created.is refl

pub returns-in_default-clause-created : goal.returns-in_default-clause-created
returns-in_default-clause-created c =
    let hs = c.self.inside.headers.items in
    let at = last_read hs c.args.self.now c.len-last.result c.index.result.now c.self.view_is c.requires (omega (arith, c.len-last.ensures)) c.index.ensures in
    let none = not_created hs (c.len-last.result - 1) c.index.result.now c.args.part at (last_place hs c.args.self.now c.len-last.result c.self.view_is c.requires (omega (arith, c.len-last.ensures))) c.in_default.not-Created in
    subst (λ ws. false ≡ is_some (with_part ws c.args.part)) c.self.view_is (sym (ap (λ o. is_some o) none))
