-- The end of a definition: its word is added, and the cells are its body.
use Rattle.std.proofs.Common.{◌≡◌, ℕ, suc, ◌+◌, ◌<◌, ◌≤◌, true, false, List, [], ◌∷◌, ◌++◌, length, refl, sym, ◌∙◌, ap, subst, arith, Option, Some, None, Result, Ok, Err}
use Rattle.std.specs.Prelude.{OnOk, not, nat_le, ◌==◌, if◌then◌else◌, slice_index}
use Rattle.std.specs.Result.{result_err}
use Rattle.std.proofs.lemmas.Bool.Decides.{nat_tests}
use Rattle.cell_machine.specs.Events.{BodyAt}
use Rattle.dictionary.specs.declared.words.Kind.TheVariants as given
use Rattle.dictionary.specs.declared.words.DictionaryFault.{DictionaryFault}
use Rattle.dictionary.specs.declared.words.DictionaryFault.TheVariants.{NameLength, Full}
use Rattle.dictionary.specs.Words.{Colon, is_name, most_words, system_count}
use Rattle.dictionary.specs.Dictionary.{Dictionary, add_refusal, with_word}
use Rattle.compiler.specs.declared.definition.Compiler.{Compiler}
use Rattle.compiler.specs.Definition.{Definition, Adds, end_definition, body_of}
use Rattle.compiler.specs.Promise.{on_open, SameBelow, Finished}
use Rattle.compiler.specs.Represents.{Holds, used, name_of}
use Rattle.lexicon.specs.declared.language.Lexicon.{Lexicon}
use Rattle.lexicon.specs.Language.{ForthWord, Language, used_cells, ending, ended_or, with_ended}
use Rattle.lexicon.specs.Stands.{owner_in, IsBegun, IsHere, WordStands, WordsStand}
use Rattle.lexicon.specs.Promise.{Goes}
use Rattle.lexicon.proofs.Becoming.{becomes, more_words}
use Rattle.lexicon.proofs.Owners.{owner-last, used-append}
use Rattle.lexicon.proofs.Words.{words-length, words-stay, words-append}
use Rattle.lexicon.proofs.Lifting.{kept, end-keeps}

-- what is known of the definition that ends
pub record CanEnd (l : Lexicon) (words : List ForthWord) (d : Definition) : Type 0 where
  pub named : name_of l.compiler ≡ d.name
  pub here : l.begun_at ≡ d.here
  pub in_space : IsHere d.here
  pub is : is_name d.name ≡ true
  pub room : length words < most_words

pub can_end : (l : Lexicon) (words : List ForthWord) (u : ℕ) (o : Option Definition) (d : Definition) → Holds l.compiler l.code o → IsBegun l.begun_at words o → on_open o (end_definition u) ≡ Adds d → CanEnd l words d
can_end l words u None d h b e = cc
can_end l words u (Some c) d h b e =
    let k = kept c (end_definition u c) d (end-keeps u c) e in
    record {
      named = h.1.named ∙ sym k.name;
      here = b.0 ∙ sym k.here;
      in_space = subst IsHere (sym k.here) b.1;
      is = ap is_name k.name ∙ b.2;
      room = b.3;
    }

-- a word of such a name has room
not_full : (n : ℕ) → n < most_words → (n == most_words) ≡ false
not_full n h = grind (arith, nat_tests)

pub may_add : (d : Dictionary) (name : List ℕ) → is_name name ≡ true → length d.words < most_words → add_refusal d name ≡ None
may_add d name i r =
    ap (λ b. if not b then Some NameLength else (if length d.words == most_words then Some Full else None)) i
    ∙ ap (λ b. if b then Some Full else None) (not_full (length d.words) r)

pub is_added : {P : Type 0} (r : Result ℕ DictionaryFault) → result_err r ≡ None → OnOk r P → P
is_added (Ok v) e p = p
is_added (Err f) e p = cc

later_system : (n : ℕ) → system_count ≤ n → false ≡ nat_le (suc n) system_count
later_system n h = grind (arith, nat_tests)

pub no_system : (n k : ℕ) → system_count ≤ n → k ≡ 1 + n → false ≡ nat_le k system_count
no_system n k h e = grind (arith, nat_tests)

module _ (old : Lexicon) (compiler : Compiler) (code : List ℕ) (place : ℕ) (f : Finished old.compiler old.code compiler code place) (below : SameBelow (used old.compiler) old.code code) where
  abbrev after : Dictionary → Lexicon
  after dictionary = record { dictionary = dictionary; code = code; compiler = compiler; here = old.here; begun_at = old.begun_at }

  pub ended : (name : List ℕ) (dictionary : Dictionary) → name ≡ name_of compiler → name_of compiler ≡ name_of old.compiler → (add_refusal old.dictionary name ≡ None → dictionary ≡ with_word old.dictionary name (given.Colon place) old.begun_at) → Goes old (after dictionary) ending
  ended name dictionary n m added x h =
      let r = f.2 x.definition h.definition in
      let d = r.0 in
      let is : on_open x.definition (end_definition (used_cells x.words)) ≡ Adds d = ap (λ u. on_open x.definition (end_definition u)) (sym h.cells) ∙ r.1.0 in
      let can = can_end old x.words (used old.compiler) x.definition d h.definition h.begun r.1.0 in
      let named : name ≡ d.name = n ∙ m ∙ can.named in
      let len = words-length old.code (owner_in x.words) 1 0 old.dictionary.words x.words h.words in
      let added' = added (may_add old.dictionary name (ap is_name named ∙ can.is) (let room = can.room in omega (arith, len, room))) in
      let w : ForthWord = record { name = d.name; vocabulary = x.current; immediate = false; here = d.here; kind = Colon (body_of d) } in
      let y : Language = with_ended d x in
      let at : place ≡ used_cells x.words = f.0 ∙ h.cells in
      let end : used compiler ≡ used_cells x.words + (body_of d).cells = r.1.1 ∙ ap (λ p. p + (body_of d).cells) at in
      let same : (z : ℕ) → z < used_cells x.words → slice_index code z ≡ slice_index old.code z = λ z l. below.same z (subst (λ n. z < n) (sym h.cells) l) in
      let stays = more_words (suc (length x.words)) x.words (w ∷ []) old.code code same in
      let owner_at = owner_in y.words in
      let older = words-stay (suc (length x.words)) old.code (owner_in x.words) code owner_at stays 1 0 old.dictionary.words x.words (omega arith) (omega arith) h.words in
      let body : BodyAt code owner_at (1 + length x.words) place (body_of d).parts = (
        place,
        used compiler,
        (
          record {
            owned = λ z a b. owner-last 1 0 x.words w z (omega (arith, a, at)) (omega (arith, b, end));
            within = f.1.1;
          },
          r.1.2,
        ),
      ) in
      let word : WordStands code owner_at (1 + length x.words) (0 + used_cells x.words) (record { name = name; vocabulary = old.dictionary.current; immediate = false; here = old.begun_at; kind = Colon place }) w = record {
        name = named;
        vocabulary = h.current;
        immediate = refl;
        here = can.here;
        in_space = can.in_space;
        system = no_system (length x.words) (1 + length x.words) h.system refl;
        kind = (at ∙ omega arith, body);
      } in
      let all = words-append code owner_at 1 0 old.dictionary.words x.words _ w older word in (
        y,
        (
          ap (ended_or x) is,
          becomes old (after dictionary) x y stays (let l = length_more x.words w in omega (arith, l)) (record {
            words = subst (λ (e : Dictionary). WordsStand code owner_at 1 0 e.words y.words) (sym added') all;
            system = let l = length_more x.words w in let s = h.system in omega (arith, l, s);
            room = let l = length_more x.words w in let r = can.room in omega (arith, l, r);
            first = ap (λ (e : Dictionary). e.context) added' ∙ h.first;
            current = ap (λ (e : Dictionary). e.current) added' ∙ h.current;
            here = h.here;
            in_space = h.in_space;
            cells = end ∙ sym (used-append x.words (w ∷ []) ∙ omega arith);
            definition = f.1;
            begun = tt;
          }),
        ),
      )
    where
      length_more : (words : List ForthWord) (w : ForthWord) → length (words ++ w ∷ []) ≡ suc (length words)
      length_more [] w = refl
      length_more (v ∷ words) w = ap suc (length_more words w)
