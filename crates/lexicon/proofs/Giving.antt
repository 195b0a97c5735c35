-- A part for the most recent word.
use Rattle.std.proofs.Common.{◌≡◌, ℕ, suc, false, List, length, refl, sym, ◌∙◌, ap, subst, arith, Option, Some, None}
use Rattle.std.specs.Prelude.{is_some}
use Rattle.cell_machine.specs.Fault.{Token}
use Rattle.dictionary.specs.declared.words.DictionaryFault.{DictionaryFault}
use Rattle.dictionary.specs.Words.{with_part}
use Rattle.dictionary.specs.Dictionary.{Dictionary, Named, does_refusal, not_created}
use Rattle.compiler.specs.Definition.{Refuses}
use Rattle.lexicon.specs.declared.language.Lexicon.{Lexicon}
use Rattle.lexicon.specs.Language.{Part, ForthWord, Language, giving, given_or}
use Rattle.lexicon.specs.Stands.{owner_in, Stands, IsBegun, IsPart, WordsStand}
use Rattle.lexicon.specs.Promise.{Gives}
use Rattle.lexicon.proofs.Owners.{alike-part, alike-length, alike-used, part-owner}
use Rattle.lexicon.proofs.Places.{body_owner}
use Rattle.lexicon.proofs.Words.{words-part, words-stay, PartStands}
use Rattle.lexicon.proofs.Becoming.{becomes, alike_words}
use Rattle.lexicon.proofs.Forgetting.{closed, none_is}

-- both lists have a part for their last word, or neither has
both : (code : List ℕ) (owner_at : ℕ → ℕ) (o : Option (List Named)) (q : Option (List ForthWord)) (given : List Named) → PartStands code owner_at 1 0 o q → o ≡ Some given → (more : List ForthWord) × ((q ≡ Some more) × WordsStand code owner_at 1 0 given more)
both code owner_at None q given h e = cc
both code owner_at (Some g) None given h e = absurd h
both code owner_at (Some g) (Some more) given h e =
    let s : g ≡ given = cc in (more, (refl, subst (λ l. WordsStand code owner_at 1 0 l more) s h))

neither : (code : List ℕ) (owner_at : ℕ → ℕ) (o : Option (List Named)) (q : Option (List ForthWord)) → PartStands code owner_at 1 0 o q → o ≡ None → q ≡ None
neither code owner_at None None h e = refl
neither code owner_at None (Some more) h e = absurd h
neither code owner_at (Some g) q h e = cc

module _ (old : Lexicon) (x : Language) (h : Stands old x) (place : ℕ) (part : Part) (is : IsPart old x place part.owner part.parts) where
  part_stands : PartStands old.code (owner_in x.words) 1 0 (with_part old.dictionary.words place) (with_part x.words part)
  part_stands =
      words-part old.code (owner_in x.words) place part is.lies 1 0 old.dictionary.words x.words h.words
      (λ more e.
      let o = body_owner old.code (owner_in x.words) part.owner place part.parts is.lies in
      let a = is.owned.above in
      let l = part-owner 1 0 x.words part more place e (omega arith) (omega (arith, o, a)) in
      (a, omega (arith, o, l)))

  pub gives : (dictionary : Dictionary) → is_some x.definition ≡ false → with_part old.dictionary.words place ≡ Some dictionary.words → dictionary ≡ record old.dictionary { words = dictionary.words } → Gives old (record { dictionary = dictionary; code = old.code; compiler = old.compiler; here = old.here; begun_at = old.begun_at }) x (giving part x)
  gives dictionary none given same =
      let b = both old.code (owner_in x.words) (with_part old.dictionary.words place) (with_part x.words part) dictionary.words part_stands given in
      let more = b.0 in
      let alike = alike-part x.words part more b.1.0 in
      let len = alike-length x.words more alike in
      let y : Language = record x { words = more } in
      let stays = alike_words (suc (length x.words)) x.words more old.code alike in
      let gone = none_is x.definition none in (
        y,
        (
          closed x none (given_or x (with_part x.words part)) ∙ ap (given_or x) b.1.0,
          becomes old (record { dictionary = dictionary; code = old.code; compiler = old.compiler; here = old.here; begun_at = old.begun_at }) x y stays (omega (arith, len)) (record {
            words = words-stay (suc (length x.words)) old.code (owner_in x.words) old.code (owner_in more) stays 1 0 dictionary.words more (omega arith) (omega (arith, len)) b.1.1;
            system = let s = h.system in omega (arith, s, len);
            room = let r = h.room in omega (arith, r, len);
            first = ap (λ (d : Dictionary). d.context) same ∙ h.first;
            current = ap (λ (d : Dictionary). d.current) same ∙ h.current;
            here = h.here;
            in_space = h.in_space;
            cells = h.cells ∙ alike-used x.words more alike;
            definition = h.definition;
            begun = subst (λ o. IsBegun old.begun_at more o) (sym gone) tt;
          }),
        ),
      )

  pub gives_none : (f : DictionaryFault) → is_some x.definition ≡ false → Some f ≡ does_refusal old.dictionary place → giving part x ≡ Refuses Token
  gives_none f none refused =
      closed x none (given_or x (with_part x.words part))
      ∙ ap (given_or x) (neither old.code (owner_in x.words) (with_part old.dictionary.words place) (with_part x.words part) part_stands (no_part (with_part old.dictionary.words place) refused))
    where
      no_part : (o : Option (List Named)) → Some f ≡ not_created o → o ≡ None
      no_part None e = refl
      no_part (Some g) e = cc
