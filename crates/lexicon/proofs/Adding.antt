-- A new word, a definition that begins, a mark: in the language.
use Rattle.std.proofs.Common.{◌≡◌, ℕ, suc, ◌+◌, ◌<◌, ◌≤◌, Bool, true, false, List, [], ◌∷◌, ◌++◌, length, map, refl, sym, ◌∙◌, ap, subst, arith, rules, Option, Some, None, Result, Ok, Err}
use Rattle.std.specs.Prelude.{OnOk, IfErr, IsTrue, not, is_some, nat_lt, nat_le, ◌==◌, ◌||◌, if◌then◌else◌}
use Rattle.std.proofs.lemmas.Bool.Decides.{nat_tests}
use Rattle.cell_machine.specs.Fault.{Fault, Name, DictionaryFull, Protected}
use Rattle.dictionary.specs.declared.words.Kind.{Kind as GivenKind}
use Rattle.dictionary.specs.declared.words.DictionaryFault.{DictionaryFault}
use Rattle.dictionary.specs.declared.words.DictionaryFault.TheVariants as found
use Rattle.dictionary.specs.Words.{Kind, is_name, most_words, system_count, forth_token, with_immediate}
use Rattle.system_words.specs.Rows.{Row, rows}
use Rattle.dictionary.specs.System.{system_word, first_words}
use Rattle.dictionary.specs.Dictionary.{Dictionary, kind_of, add_refusal, immediate_refusal, with_word as dictionary_with, may_be_vocabulary, is_token, first_dictionary}
use Rattle.compiler.specs.declared.definition.Compiler.{Compiler}
use Rattle.compiler.specs.declared.definition.CompileRefusal.{CompileRefusal}
use Rattle.compiler.specs.Definition.{Body, Adding, Adds, Refuses, opened}
use Rattle.compiler.specs.Promise.{on_closed, Opened, NotOpened}
use Rattle.compiler.specs.Represents.{Holds, used, IsClosed}
use Rattle.lexicon.specs.declared.language.Lexicon.{Lexicon}
use Rattle.lexicon.specs.Language.{Part, ForthWord, Language, used_cells, with_new_name, with_word, adding_word, beginning, marking, new_language}
use Rattle.lexicon.specs.Stands.{owner_in, Stands, IsBegun, IsHere, IsWord, WordStands, WordsStand}
use Rattle.lexicon.specs.Promise.{Gives}
use Rattle.lexicon.specs.Adding.{name_fault, MayBeAdded, MayNotBeAdded, IsData}
use Rattle.lexicon.proofs.Becoming.{becomes, more_words, same_owners, alike_words}
use Rattle.lexicon.proofs.Owners.{used-append, alike-immediate, alike-length, alike-used}
use Rattle.lexicon.proofs.Words.{words-length, words-stay, words-append, words-immediate}
use Rattle.lexicon.proofs.Forgetting.{closed, none_is, is_word}
use Rattle.lexicon.proofs.Ending.{no_system}

-- ---- whether a word of a name may be added

abbrev with_refusal : Option DictionaryFault → Adding Language → Adding Language
with_refusal None step = step
with_refusal (Some f) step = Refuses (name_fault f)

room_of : (n : ℕ) → n ≤ most_words → (n == most_words) ≡ false → nat_lt n most_words ≡ true
room_of n h e = grind (arith, nat_tests)

no_room : (n : ℕ) → (n == most_words) ≡ true → nat_lt n most_words ≡ false
no_room n e = grind (arith, nat_tests)

by_name : (i f r : Bool) (step : Adding Language) → (f ≡ false → r ≡ true) → (f ≡ true → r ≡ false) → (if not i then Refuses Name else (if r then step else Refuses DictionaryFull)) ≡ with_refusal (if not i then Some found.NameLength else (if f then Some found.Full else None)) step
by_name false f r step a b = refl
by_name true false r step a b = ap (λ (t : Bool). if t then step else Refuses DictionaryFull) (a refl)
by_name true true r step a b = ap (λ (t : Bool). if t then step else Refuses DictionaryFull) (b refl)

module _ (l : Lexicon) (x : Language) (h : Stands l x) where
  same_length : length l.dictionary.words ≡ length x.words
  same_length = words-length l.code (owner_in x.words) 1 0 l.dictionary.words x.words h.words

  pub named : (name : List ℕ) (step : Adding Language) → is_some x.definition ≡ false → with_new_name name x step ≡ with_refusal (add_refusal l.dictionary name) step
  named name step none =
      let e = same_length in
      closed x none _
      ∙ by_name (is_name name) (length l.dictionary.words == most_words) (nat_lt (length x.words) most_words) step
      (λ f. ap (λ n. nat_lt n most_words) (sym e) ∙ room_of (length l.dictionary.words) (let r = h.room in omega (arith, r, e)) f)
      (λ f. ap (λ n. nat_lt n most_words) (sym e) ∙ no_room (length l.dictionary.words) f)

pub may : (l : Lexicon) (name : List ℕ) → ((x : Language) → Stands l x → is_some x.definition ≡ false) → None ≡ add_refusal l.dictionary name → MayBeAdded l name
may l name none e = record {
  room = sym e;
  fits = λ x h step. named l x h name step (none x h) ∙ ap (λ o. with_refusal o step) (sym e);
  none = λ x h. none_is x.definition (none x h);
}

pub may_not : (l : Lexicon) (name : List ℕ) (f : DictionaryFault) (g : Fault) → ((x : Language) → Stands l x → is_some x.definition ≡ false) → Some f ≡ add_refusal l.dictionary name → g ≡ name_fault f → MayNotBeAdded l name g
may_not l name f g none e s = record {
  refused = λ x h step. named l x h name step (none x h) ∙ ap (λ o. with_refusal o step) (sym e) ∙ ap Refuses (sym s);
}

-- ---- what is known of a name that may be added

name_of_refusal : (i f : Bool) → (if not i then Some found.NameLength else (if f then Some found.Full else None)) ≡ None → (i ≡ true) × (f ≡ false)
name_of_refusal false f e = cc
name_of_refusal true false e = (refl, refl)
name_of_refusal true true e = cc

pub good_name : (d : Dictionary) (name : List ℕ) → add_refusal d name ≡ None → (is_name name ≡ true) × ((length d.words == most_words) ≡ false)
good_name d name e = name_of_refusal (is_name name) (length d.words == most_words) e

below_most : (n : ℕ) → n ≤ most_words → (n == most_words) ≡ false → n < most_words
below_most n h e = grind (arith, nat_tests)

length_more : (words : List ForthWord) (w : ForthWord) → length (words ++ w ∷ []) ≡ suc (length words)
length_more [] w = refl
length_more (v ∷ words) w = ap suc (length_more words w)

-- ---- a word without code

module _ (l : Lexicon) (x : Language) (h : Stands l x) (name : List ℕ) (m : MayBeAdded l name) where
  room : length x.words < most_words
  room =
      let g = good_name l.dictionary name m.room in
      let e = same_length l x h in
      let r = h.room in
      let b = below_most (length l.dictionary.words) (omega (arith, r, e)) g.1 in
      omega (arith, b, e)

  pub adds_data : (given : GivenKind) (kind : Kind Body Part) (d : IsData (kind_of given) kind) (dictionary : Dictionary) → dictionary ≡ dictionary_with l.dictionary name given l.here → Gives l (record { dictionary = dictionary; code = l.code; compiler = l.compiler; here = l.here; begun_at = l.begun_at }) x (adding_word name kind x)
  adds_data given kind d dictionary is =
      let w : ForthWord = record { name = name; vocabulary = x.current; immediate = false; here = x.here; kind = kind } in
      let y : Language = with_word name kind x in
      let stays = more_words (suc (length x.words)) x.words (w ∷ []) l.code l.code (λ z b. refl) in
      let owner_at = owner_in y.words in
      let older = words-stay (suc (length x.words)) l.code (owner_in x.words) l.code owner_at stays 1 0 l.dictionary.words x.words (omega arith) (omega arith) h.words in
      let word : WordStands l.code owner_at (1 + length x.words) (0 + used_cells x.words) (record { name = name; vocabulary = l.dictionary.current; immediate = false; here = l.here; kind = kind_of given }) w = record {
        name = refl;
        vocabulary = h.current;
        immediate = refl;
        here = h.here;
        in_space = h.in_space;
        system = d.system ∙ no_system (length x.words) (1 + length x.words) h.system refl;
        kind = d.stands l.code owner_at (1 + length x.words) (0 + used_cells x.words);
      } in
      let all = words-append l.code owner_at 1 0 l.dictionary.words x.words _ w older word in
      let more = length_more x.words w in (
        y,
        (
          m.fits x h (Adds y),
          becomes l (record { dictionary = dictionary; code = l.code; compiler = l.compiler; here = l.here; begun_at = l.begun_at }) x y stays (omega (arith, more)) (record {
            words = subst (λ (e : Dictionary). WordsStand l.code owner_at 1 0 e.words y.words) (sym is) all;
            system = let s = h.system in omega (arith, s, more);
            room = let r = room in omega (arith, r, more);
            first = ap (λ (e : Dictionary). e.context) is ∙ h.first;
            current = ap (λ (e : Dictionary). e.current) is ∙ h.current;
            here = h.here;
            in_space = h.in_space;
            cells = h.cells ∙ (let a = used-append x.words (w ∷ []) in let z = d.cells in omega (arith, a, z));
            definition = h.definition;
            begun = subst (λ o. IsBegun l.begun_at y.words o) (sym (m.none x h)) tt;
          }),
        ),
      )

  -- ---- a definition that begins

  opens : (compiler : Compiler) (r : Result (Unit {0}) CompileRefusal) → OnOk r (Opened l.compiler compiler name) → IfErr r (NotOpened l.compiler compiler) → Holds compiler l.code (Some (opened name x.here))
  opens compiler (Ok v) a b = (a l.code x.definition x.here h.definition).1
  opens compiler (Err e) a b =
      let f = b.0 l.code x.definition (opened name x.here) h.definition in
      let g = ap (λ o. on_closed o (opened name x.here)) (sym (m.none x h)) ∙ f in
      cc

  pub begins : (compiler : Compiler) (dictionary : Dictionary) (r : Result (Unit {0}) CompileRefusal) → OnOk r (Opened l.compiler compiler name) → IfErr r (NotOpened l.compiler compiler) → used compiler ≡ used l.compiler → dictionary ≡ record l.dictionary { context = l.dictionary.current } → Gives l (record { dictionary = dictionary; code = l.code; compiler = compiler; here = l.here; begun_at = l.here }) x (beginning name x)
  begins compiler dictionary r a b u is =
      let y : Language = record x { first = x.current; definition = Some (opened name x.here) } in
      let stays = same_owners (suc (length x.words)) x.words l.code l.code (λ z b. refl) in (
        y,
        (
          m.fits x h (Adds y),
          becomes l (record { dictionary = dictionary; code = l.code; compiler = compiler; here = l.here; begun_at = l.here }) x y stays (omega arith) (record {
            words = subst (λ (e : Dictionary). WordsStand l.code (owner_in x.words) 1 0 e.words x.words) (sym is) h.words;
            system = h.system;
            room = h.room;
            first = ap (λ (e : Dictionary). e.context) is ∙ h.current;
            current = ap (λ (e : Dictionary). e.current) is ∙ h.current;
            here = h.here;
            in_space = h.in_space;
            cells = u ∙ h.cells;
            definition = opens compiler r a b;
            begun = (h.here, h.in_space, (good_name l.dictionary name m.room).0, room);
          }),
        ),
      )

-- ---- IMMEDIATE

system_test : (n : ℕ) → (n == system_count) ≡ false → system_count ≤ n → nat_lt system_count n ≡ true
system_test n e h = grind (arith, nat_tests)

system_alone : (n : ℕ) → (n == system_count) ≡ true → nat_lt system_count n ≡ false
system_alone n e = grind (arith, nat_tests)

not_system : (b : Bool) → None ≡ (if b then Some found.Protected else None) → b ≡ false
not_system true e = cc
not_system false e = refl

is_system : (b : Bool) (f : DictionaryFault) → Some f ≡ (if b then Some found.Protected else None) → b ≡ true
is_system true f e = refl
is_system false f e = cc

module _ (l : Lexicon) (x : Language) (h : Stands l x) where
  pub marks : (dictionary : Dictionary) → is_some x.definition ≡ false → None ≡ immediate_refusal l.dictionary → dictionary ≡ record l.dictionary { words = with_immediate l.dictionary.words } → Gives l (record { dictionary = dictionary; code = l.code; compiler = l.compiler; here = l.here; begun_at = l.begun_at }) x (marking x)
  marks dictionary none e is =
      let more = with_immediate x.words in
      let y : Language = record x { words = more } in
      let alike = alike-immediate x.words in
      let len = alike-length x.words more alike in
      let same = same_length l x h in
      let stays = alike_words (suc (length x.words)) x.words more l.code alike in
      let b = not_system (length l.dictionary.words == system_count) e in
      let all = words-immediate l.code (owner_in x.words) 1 0 l.dictionary.words x.words h.words in
      let kept = words-stay (suc (length x.words)) l.code (owner_in x.words) l.code (owner_in more) stays 1 0 (with_immediate l.dictionary.words) more (omega arith) (omega (arith, len)) all in (
        y,
        (
          closed x none _ ∙ ap (λ (t : Bool). if t then Adds y else Refuses Protected) (ap (λ n. nat_lt system_count n) (sym same) ∙ system_test (length l.dictionary.words) b (let s = h.system in omega (arith, s, same))),
          becomes l (record { dictionary = dictionary; code = l.code; compiler = l.compiler; here = l.here; begun_at = l.begun_at }) x y stays (omega (arith, len)) (record {
            words = subst (λ (d : Dictionary). WordsStand l.code (owner_in more) 1 0 d.words more) (sym is) kept;
            system = let s = h.system in omega (arith, s, len);
            room = let r = h.room in omega (arith, r, len);
            first = ap (λ (d : Dictionary). d.context) is ∙ h.first;
            current = ap (λ (d : Dictionary). d.current) is ∙ h.current;
            here = h.here;
            in_space = h.in_space;
            cells = h.cells ∙ alike-used x.words more alike;
            definition = h.definition;
            begun = subst (λ o. IsBegun l.begun_at more o) (sym (none_is x.definition none)) tt;
          }),
        ),
      )

  pub protects : (f : DictionaryFault) → is_some x.definition ≡ false → Some f ≡ immediate_refusal l.dictionary → marking x ≡ Refuses Protected
  protects f none e =
      let b = is_system (length l.dictionary.words == system_count) f e in
      closed x none _ ∙ ap (λ (t : Bool). if t then Adds (record x { words = with_immediate x.words }) else Refuses Protected) (ap (λ n. nat_lt system_count n) (sym (same_length l x h)) ∙ system_alone (length l.dictionary.words) b)

-- ---- a vocabulary is a word

or_true : (a b : Bool) → IsTrue b → IsTrue (a || b)
or_true true b h = search rules
or_true false b h = h

pub vocabulary_word : (l : Lexicon) (x : Language) (token : ℕ) → Stands l x → IsWord x token → IsTrue (may_be_vocabulary l.dictionary token)
vocabulary_word l x token h w = or_true (token == forth_token) (is_token l.dictionary token) (is_word l x token h w)

-- ---- the system words

system_here : IsHere 1280
system_here = record { from = omega arith; most = omega arith }

system_first : (k : ℕ) → k ≤ system_count → true ≡ nat_le k system_count
system_first k h = grind (arith, nat_tests)

system_stand : (code : List ℕ) (owner_at : ℕ → ℕ) (k p : ℕ) (hs : List Row) → k + length hs ≤ suc system_count → WordsStand code owner_at k p (map system_word hs) (map system_word hs)
system_stand code owner_at k p [] h = tt
system_stand code owner_at k p (g ∷ hs) h = (
  record { name = refl; vocabulary = refl; immediate = refl; here = refl; in_space = system_here; system = system_first k (omega arith); kind = tt },
  system_stand code owner_at (suc k) (p + 0) hs (omega arith),
)

no_cells : (hs : List Row) → used_cells (map system_word hs) ≡ 0
no_cells [] = refl
no_cells (g ∷ hs) = let r = no_cells hs in omega (arith, r)

pub begins_new : (dictionary : Dictionary) (code : List ℕ) (compiler : Compiler) → dictionary ≡ first_dictionary → IsClosed compiler → used compiler ≡ 0 → Stands (record { dictionary = dictionary; code = code; compiler = compiler; here = 1280; begun_at = 1280 }) new_language
begins_new dictionary code compiler is c u = record {
  words = subst (λ (d : Dictionary). WordsStand code (owner_in first_words) 1 0 d.words first_words) (sym is) (system_stand code (owner_in first_words) 1 0 rows (search rules));
  system = search rules;
  room = search rules;
  first = ap (λ (d : Dictionary). d.context) is;
  current = ap (λ (d : Dictionary). d.current) is;
  here = refl;
  in_space = system_here;
  cells = u ∙ sym (no_cells rows);
  definition = c;
  begun = tt;
}
