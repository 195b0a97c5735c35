-- FORGET: where the bodies of the older words end, and what is left.
use Rattle.std.proofs.Common.{◌≡◌, ℕ, zero, suc, ◌+◌, ◌-◌, ◌<◌, ◌≤◌, Bool, true, false, List, [], ◌∷◌, length, take, inl, inr, refl, sym, ◌∙◌, ap, subst, arith, Option, Some, None}
use Rattle.std.specs.List.{slice_get}
use Rattle.std.specs.Option.{option_map}
use Rattle.std.proofs.lemmas.Bool.{cases_lt}
use Rattle.std.proofs.lemmas.Bool.Decides.{nat_tests}
use Rattle.std.specs.Prelude.{is_some, IsTrue, ◌&&◌, ◌||◌, nat_lt, nat_le, if◌then◌else◌}
use Rattle.stacks.specs.declared.return_stack.Entry.{Entry}
use Rattle.stacks.specs.Stacks.{calls_below}
use Rattle.cell_machine.specs.Fault.{Protected, DefinitionOpen}
use Rattle.cell_machine.specs.Events.{Doing}
use Rattle.cell_machine.specs.Frames.{Level, around_of}
use Rattle.cell_machine.specs.Levels.{Left}
use Rattle.cell_machine.specs.Staying.{RunsBefore}
use Rattle.cell_machine.proofs.Staying.{left_stays}
use Rattle.dictionary.specs.Words.{entry, system_count, kept}
use Rattle.dictionary.specs.declared.words.DictionaryFault.TheVariants as found
use Rattle.dictionary.specs.Dictionary.{Dictionary, Named, body_of_word, is_token, forget_refusal, forgotten as dictionary_after}
use Rattle.compiler.specs.declared.definition.Compiler.{Compiler}
use Rattle.compiler.specs.Definition.{Definition, Adding, Adds, Refuses}
use Rattle.compiler.specs.Represents.{used, IsClosed, Holds}
use Rattle.lexicon.specs.declared.language.Lexicon.{Lexicon}
use Rattle.lexicon.specs.Language.{ForthWord, Language, used_cells, all_below, none_open, forgetting, forgotten}
use Rattle.lexicon.specs.Stands.{owner_in, Stands, IsLeft, IsHere, IsBegun, IsWord, WordsStand}
use Rattle.lexicon.proofs.Places.{runs_below_is}
use Rattle.lexicon.proofs.Owners.{used-take}
use Rattle.lexicon.proofs.Words.{words-length, body-begins, no-body, EntryStands, words-at, words-take, words-stay}
use Rattle.lexicon.proofs.Becoming.{more_before, older_before, fewer_words}

take-all : (n : ℕ) (words : List ForthWord) → length words ≤ n → take n words ≡ words
take-all zero [] h = refl
take-all zero (w ∷ words) h = absurd (omega arith)
take-all (suc n) [] h = refl
take-all (suc n) (w ∷ words) h = ap (λ l. w ∷ l) (take-all n words (omega arith))

one_less : (n : ℕ) → suc n - 1 ≡ n
one_less n = omega arith

no_more : (n : ℕ) → 0 + n ≡ n
no_more n = omega arith

module _ (l : Lexicon) (x : Language) (h : Stands l x) where
  pub begins_at : (next q : ℕ) → 0 < next → body_of_word (entry l.dictionary.words next) ≡ Some q → q ≡ used_cells (take (next - 1) x.words)
  begins_at zero q a e = absurd (omega arith)
  begins_at (suc n) q a e =
      body-begins l.code (owner_in x.words) n 1 0 q l.dictionary.words x.words h.words e ∙ no_more (used_cells (take n x.words)) ∙ ap (λ m. used_cells (take m x.words)) (sym (one_less n))

  pub none_at : (next : ℕ) → 0 < next → body_of_word (entry l.dictionary.words next) ≡ None → used_cells (take (next + 1 - 1) x.words) ≡ used_cells (take (next - 1) x.words)
  none_at zero a e = absurd (omega arith)
  none_at (suc n) a e =
      let up : suc n + 1 - 1 ≡ suc n = omega arith in
      ap (λ m. used_cells (take m x.words)) up ∙ no-body l.code (owner_in x.words) n 1 0 l.dictionary.words x.words h.words e
      ∙ ap (λ m. used_cells (take m x.words)) (sym (one_less n))

  pub at_end : (next len : ℕ) → len ≡ length l.dictionary.words → len + 1 ≤ next → used l.compiler ≡ used_cells (take (next - 1) x.words)
  at_end next len e b =
      let n = words-length l.code (owner_in x.words) 1 0 l.dictionary.words x.words h.words in
      h.cells ∙ ap used_cells (sym (take-all (next - 1) x.words (omega (arith, n, e, b))))

-- ---- while bodies run

-- what runs lies below the end where the words that run are older
pub left_below : (code : List ℕ) (words : List ForthWord) (n : ℕ) (doing : Doing) (entries : List Entry) (levels : List Level) → Left code (owner_in words) doing.pending doing.place entries levels → RunsBefore (suc (length words)) levels → calls_below (used_cells (take n words)) doing.place entries ≡ all_below (suc n) (around_of levels).running
left_below code words n doing entries levels h all = go doing.pending h
  where
    go : (o : Option ℕ) → Left code (owner_in words) o doing.place entries levels → calls_below (used_cells (take n words)) doing.place entries ≡ all_below (suc n) (around_of levels).running
    go None h = runs_below_is code words n doing.place entries levels h all
    go (Some w) h =
        runs_below_is code words n doing.place entries h.0 h.1.1 (subst (λ l. RunsBefore (suc (length words)) l) h.1.0 all)
        ∙ sym (ap (λ l. all_below (suc n) (around_of l).running) h.1.0)

and_false : (a b c : Bool) → c ≡ false → (a && b && c) ≡ false
and_false true true c e = e
and_false true false c e = refl
and_false false b c e = refl

pub none_is : (o : Option Definition) → is_some o ≡ false → o ≡ None
none_is None e = refl
none_is (Some d) e = cc

pub closed : (x : Language) → is_some x.definition ≡ false → (step : Adding Language) → none_open x step ≡ step
closed x e step = ap (λ b. if b then Refuses DefinitionOpen else step) e

pub runs_on : (token : ℕ) (running : List ℕ) (x : Language) → is_some x.definition ≡ false → all_below token running ≡ false → forgetting token running x ≡ Refuses Protected
runs_on token running x e f =
    closed x e _
    ∙ ap (λ b. if b then Adds (forgotten token (entry x.words token) x) else Refuses Protected) (and_false (nat_lt system_count token) (nat_lt x.current token) (all_below token running) f)

-- ---- the words from one on are gone

word_here : (code : List ℕ) (owner_at : ℕ → ℕ) (k p : ℕ) (o : Option Named) (q : Option ForthWord) (here : ℕ) → EntryStands code owner_at k p o q → Some here ≡ option_map (λ w. w.here) o → (w : ForthWord) × ((q ≡ Some w) × (here ≡ w.here) × IsHere w.here)
word_here code owner_at k p None q here h e = cc
word_here code owner_at k p (Some g) None here h e = absurd h
word_here code owner_at k p (Some g) (Some w) here h e = let s : here ≡ g.here = cc in (w, (refl, s ∙ h.here, h.in_space))

and_true : (a b c : Bool) → a ≡ true → b ≡ true → c ≡ true → (a && b && c) ≡ true
and_true a b c e f g = rw (e, f, g) refl

not_protected : (d : Dictionary) (token : ℕ) → forget_refusal d token ≡ None → (nat_lt system_count token ≡ true) × (nat_lt d.current token ≡ true)
not_protected d token e =
    elim (cases_lt system_count token) as (λ s. (nat_lt system_count token ≡ true) × (nat_lt d.current token ≡ true)) [
      | inl a ↦ elim (cases_lt d.current token) as (λ s. (nat_lt system_count token ≡ true) × (nat_lt d.current token ≡ true)) [
        | inl b ↦ (below_true system_count token a, below_true d.current token b)
        | inr b ↦ let f = refused_at (nat_le token system_count) (nat_le token d.current) (most_true token d.current b) in cc
      ]
      | inr a ↦ let f = refused_first (nat_le token system_count) (nat_le token d.current) (most_true token system_count a) in cc
    ]
  where
    below_true : (a b : ℕ) → a < b → nat_lt a b ≡ true
    below_true a b h = grind (arith, nat_tests)

    most_true : (a b : ℕ) → a ≤ b → nat_le a b ≡ true
    most_true a b h = grind (arith, nat_tests)

    refused_at : (a b : Bool) → b ≡ true → (if a || b then Some found.Protected else None) ≡ Some found.Protected
    refused_at true b e = refl
    refused_at false b e = ap (λ (c : Bool). if c then Some found.Protected else None) e

    refused_first : (a b : Bool) → a ≡ true → (if a || b then Some found.Protected else None) ≡ Some found.Protected
    refused_first a b e = ap (λ (c : Bool). if c || b then Some found.Protected else None) e

length_of_take : (n : ℕ) (words : List ForthWord) → n ≤ length words → length (take n words) ≡ n
length_of_take zero words h = refl
length_of_take (suc n) [] h = absurd (omega arith)
length_of_take (suc n) (w ∷ words) h = ap suc (length_of_take n words (omega arith))

above_system : (n : ℕ) → nat_lt system_count (suc n) ≡ true → system_count ≤ n
above_system n h = grind (arith, nat_tests)

module _ (old : Lexicon) (dictionary : Dictionary) (compiler : Compiler) (here n : ℕ) where
  abbrev after : Lexicon
  after = record { dictionary = dictionary; code = old.code; compiler = compiler; here = here; begun_at = old.begun_at }

  pub forgets : (x : Language) (doing : Doing) (entries : List Entry) (levels : List Level) → Stands old x → IsLeft old x doing entries levels → is_some x.definition ≡ false → suc n ≤ length x.words → forget_refusal old.dictionary (suc n) ≡ None → dictionary ≡ dictionary_after old.dictionary (suc n) → Some here ≡ option_map (λ w. w.here) (entry old.dictionary.words (suc n)) → IsClosed compiler → used compiler ≡ used_cells (take n x.words) → calls_below (used_cells (take n x.words)) doing.place entries ≡ true → (y : Language) × ((forgetting (suc n) (around_of levels).running x ≡ Adds y) × Stands after y × IsLeft after y doing entries levels)
  forgets x doing entries levels h left none le allowed is at closed_now cut below =
      let owner_at = owner_in x.words in
      let w = word_here old.code owner_at (1 + n) (0 + used_cells (take n x.words)) (slice_get old.dictionary.words n) (slice_get x.words n) here (words-at old.code owner_at n 1 0 old.dictionary.words x.words h.words) at in
      let less = one_less n in
      let y : Language = record x { words = take (suc n - 1) x.words; here = w.0.here; first = kept (suc n) x.first } in
      let ok = not_protected old.dictionary (suc n) allowed in
      let all : all_below (suc n) (around_of levels).running ≡ true = sym (left_below old.code x.words n doing entries levels left.lies left.running) ∙ below in
      let stays = fewer_words n x.words old.code in
      let shorter = length_of_take n x.words (omega arith) in
      let kept_words : WordsStand old.code (owner_in (take n x.words)) 1 0 (take n old.dictionary.words) (take n x.words) = words-stay (suc n) old.code owner_at old.code (owner_in (take n x.words)) stays 1 0 (take n old.dictionary.words) (take n x.words) (omega arith) (omega (arith, shorter)) (words-take old.code owner_at n 1 0 old.dictionary.words x.words h.words) in
      let before = older_before (suc (length x.words)) (suc n) (around_of levels).running left.running all in
      let gone = none_is x.definition none in (
        y,
        (
          closed x none _
              ∙ ap (λ b. if b then Adds (forgotten (suc n) (slice_get x.words n) x) else Refuses Protected) (and_true (nat_lt system_count (suc n)) (nat_lt x.current (suc n)) (all_below (suc n) (around_of levels).running) ok.0 (ap (λ c. nat_lt c (suc n)) (sym h.current) ∙ ok.1) all)
              ∙ ap (λ o. Adds (forgotten (suc n) o x)) w.1.0,
          record {
            words = subst (λ (d : Dictionary). WordsStand old.code (owner_in y.words) 1 0 d.words y.words) (sym is) (subst (λ m. WordsStand old.code (owner_in (take m x.words)) 1 0 (take m old.dictionary.words) (take m x.words)) (sym less) kept_words);
            system = let s = above_system n ok.0 in let l = ap (λ m. length (take m x.words)) less in omega (arith, s, l, shorter);
            room = let r = h.room in let l = ap (λ m. length (take m x.words)) less in omega (arith, r, l, shorter, le);
            first = ap (λ (d : Dictionary). d.context) is ∙ ap (λ c. kept (suc n) c) h.first;
            current = ap (λ (d : Dictionary). d.current) is ∙ h.current;
            here = w.1.1;
            in_space = w.1.2;
            cells = cut ∙ ap (λ m. used_cells (take m x.words)) (sym less);
            definition = subst (λ o. Holds compiler old.code o) (sym gone) closed_now;
            begun = subst (λ o. IsBegun old.begun_at y.words o) (sym gone) tt;
          },
          record {
            lies = subst (λ m. Left old.code (owner_in (take m x.words)) doing.pending doing.place entries levels) (sym less) (left_stays (suc n) old.code owner_at old.code (owner_in (take n x.words)) stays doing.pending doing.place entries levels before left.lies);
            running = more_before (suc n) (suc (length y.words)) (let l = ap (λ m. length (take m x.words)) less in omega (arith, l, shorter)) (around_of levels).running before;
          },
        ),
      )

-- ---- for any token

less_one : (token : ℕ) → 0 < token → token ≡ suc (token - 1)
less_one token h = omega arith

pub refuses_running : (l : Lexicon) (x : Language) (token : ℕ) (doing : Doing) (entries : List Entry) (levels : List Level) → Stands l x → IsLeft l x doing entries levels → 0 < token → is_some x.definition ≡ false → (end : ℕ) → end ≡ used_cells (take (token - 1) x.words) → calls_below end doing.place entries ≡ false → forgetting token (around_of levels).running x ≡ Refuses Protected
refuses_running l x token doing entries levels h left above none end is below =
    let e = less_one token above in
    let b = left_below l.code x.words (token - 1) doing entries levels left.lies left.running in
    runs_on token (around_of levels).running x none
    (ap (λ t. all_below t (around_of levels).running) e ∙ sym b ∙ ap (λ n. calls_below n doing.place entries) (sym is) ∙ below)

pub is_word : (l : Lexicon) (x : Language) (token : ℕ) → Stands l x → IsWord x token → IsTrue (is_token l.dictionary token)
is_word l x token h w =
    let n = words-length l.code (owner_in x.words) 1 0 l.dictionary.words x.words h.words in
    true_token (length l.dictionary.words) token w.above (let m = w.most in omega (arith, n, m))
  where
    true_token : (n token : ℕ) → 0 < token → token ≤ n → IsTrue (nat_lt 0 token && nat_le token n)
    true_token n token a b = grind (arith, nat_tests)

-- a word of one language that a lexicon stands for is one of each
pub same_word : (l : Lexicon) (x y : Language) (token : ℕ) → Stands l x → Stands l y → IsWord x token → IsWord y token
same_word l x y token h k w =
    let m = words-length l.code (owner_in x.words) 1 0 l.dictionary.words x.words h.words in
    let n = words-length l.code (owner_in y.words) 1 0 l.dictionary.words y.words k.words in
    record { above = w.above; most = let a = w.most in omega (arith, m, n, a) }

pub no_more_cells : (l : Lexicon) (x : Language) (token end : ℕ) → Stands l x → end ≡ used_cells (take (token - 1) x.words) → end ≤ used l.compiler
no_more_cells l x token end h e = let u = used-take (token - 1) x.words in let c = h.cells in omega (arith, u, c, e)

pub forgets_word : (old : Lexicon) (dictionary : Dictionary) (compiler : Compiler) (here token : ℕ) (x : Language) (doing : Doing) (entries : List Entry) (levels : List Level) → Stands old x → IsLeft old x doing entries levels → is_some x.definition ≡ false → IsWord x token → forget_refusal old.dictionary token ≡ None → dictionary ≡ dictionary_after old.dictionary token → Some here ≡ option_map (λ w. w.here) (entry old.dictionary.words token) → IsClosed compiler → (end : ℕ) → end ≡ used_cells (take (token - 1) x.words) → used compiler ≡ end → calls_below end doing.place entries ≡ true → (y : Language) × ((forgetting token (around_of levels).running x ≡ Adds y) × Stands (after old dictionary compiler here 0) y × IsLeft (after old dictionary compiler here 0) y doing entries levels)
forgets_word old dictionary compiler here token x doing entries levels h left none word allowed is at closed_now end ends cut below =
    let e = less_one token word.above in
    let n : ℕ = token - 1 in
    let r = forgets old dictionary compiler here n x doing entries levels h left none (let m = word.most in omega (arith, m, e)) (ap (λ t. forget_refusal old.dictionary t) (sym e) ∙ allowed) (is ∙ ap (λ t. dictionary_after old.dictionary t) e) (at ∙ ap (λ t. option_map (λ w. w.here) (entry old.dictionary.words t)) e) closed_now (cut ∙ ends) (ap (λ m. calls_below m doing.place entries) (sym ends) ∙ below) in
    (r.0, (ap (λ t. forgetting t (around_of levels).running x) e ∙ r.1.0, r.1.1, r.1.2))
