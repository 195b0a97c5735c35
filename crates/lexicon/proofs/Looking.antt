-- What the dictionary answers, in the language.
use Rattle.std.proofs.Common.{◌≡◌, ℕ, zero, suc, ◌+◌, ◌<◌, ◌≤◌, List, length, take, refl, ◌∙◌, ap, arith, Option, Some, None}
use Rattle.std.specs.Prelude.{IfSome, IsTrue, nat_lt, nat_le, ◌&&◌}
use Rattle.std.proofs.lemmas.Bool.Decides.{nat_tests}
use Rattle.dictionary.specs.Words.{Kind, Primitive, Colon, Created, Constant, Vocabulary, find, find_in, entry, forth_token}
use Rattle.dictionary.specs.Dictionary.{Named, is_token}
use Rattle.compiler.specs.Definition.{Body}
use Rattle.lexicon.specs.declared.language.Lexicon.{Lexicon}
use Rattle.lexicon.specs.Language.{Part, ForthWord, Language, used_cells}
use Rattle.lexicon.specs.Stands.{owner_in, KindStands, Stands, IsWord}
use Rattle.lexicon.specs.Kinds.{is_immediate, is_vocabulary, makes_vocabulary, data_address, data_field}
use Rattle.lexicon.proofs.Words.{EntryStands, words-last, words-length}
use Rattle.lexicon.proofs.Calls.{at}

module _ (l : Lexicon) (x : Language) (h : Stands l x) where
  pub finds_in : (v : ℕ) (name : List ℕ) → find_in l.dictionary.words v name ≡ find_in x.words v name
  finds_in v name = words-last l.code (owner_in x.words) 1 0 l.dictionary.words x.words v name h.words

  pub finds : (name : List ℕ) → find l.dictionary.words l.dictionary.context name ≡ find x.words x.first name
  finds name = rw (finds_in l.dictionary.context name, finds_in forth_token name, h.first) refl

  true_word : (n token : ℕ) → IsTrue (nat_lt 0 token && nat_le token n) → (0 < token) × (token ≤ n)
  true_word n token t = (grind (arith, nat_tests), grind (arith, nat_tests))

  pub token_word : (token : ℕ) → IsTrue (is_token l.dictionary token) → IsWord x token
  token_word token t =
      let n = words-length l.code (owner_in x.words) 1 0 l.dictionary.words x.words h.words in
      let b = true_word (length l.dictionary.words) token t in
      record { above = b.0; most = let m = b.1 in omega (arith, n, m) }

  -- ---- an entry

  pub entries : (token : ℕ) → (p : ℕ) × EntryStands l.code (owner_in x.words) token p (entry l.dictionary.words token) (entry x.words token)
  entries zero = (0, tt)
  entries (suc n) = (0 + used_cells (take n x.words), at l x h n)

module _ (code : List ℕ) (owner_at : ℕ → ℕ) (k p : ℕ) where
  immediate_of : (o : Option Named) (q : Option ForthWord) (g : Named) → EntryStands code owner_at k p o q → Some g ≡ o → g.immediate ≡ is_immediate q
  immediate_of None q g h e = cc
  immediate_of (Some f) None g h e = absurd h
  immediate_of (Some f) (Some w) g h e = let s : g ≡ f = cc in ap (λ (d : Named). d.immediate) s ∙ h.immediate

  none_of : (o : Option Named) (q : Option ForthWord) → EntryStands code owner_at k p o q → None ≡ o → None ≡ q
  none_of None None h e = refl
  none_of None (Some w) h e = absurd h
  none_of (Some g) q h e = cc

  kinds_vocabulary : (g : Kind ℕ ℕ) (w : Kind Body Part) → KindStands code owner_at k p g w → makes_vocabulary g ≡ makes_vocabulary w
  kinds_vocabulary Primitive Primitive h = refl
  kinds_vocabulary (Colon place) (Colon body) h = refl
  kinds_vocabulary (Created a None) (Created b None) h = refl
  kinds_vocabulary (Created a (Some q)) (Created b (Some part)) h = refl
  kinds_vocabulary (Constant n) (Constant m) h = refl
  kinds_vocabulary Vocabulary Vocabulary h = refl
  kinds_vocabulary _ _ h = absurd h

  kinds_field : (g : Kind ℕ ℕ) (w : Kind Body Part) → KindStands code owner_at k p g w → data_field g ≡ data_field w
  kinds_field Primitive Primitive h = refl
  kinds_field (Colon place) (Colon body) h = refl
  kinds_field (Created a None) (Created b None) h = ap Some h
  kinds_field (Created a (Some q)) (Created b (Some part)) h = ap Some h.0
  kinds_field (Constant n) (Constant m) h = refl
  kinds_field Vocabulary Vocabulary h = refl
  kinds_field _ _ h = absurd h

  vocabulary_of : (o : Option Named) (q : Option ForthWord) (g : Named) → EntryStands code owner_at k p o q → Some g ≡ o → makes_vocabulary g.kind ≡ is_vocabulary q
  vocabulary_of None q g h e = cc
  vocabulary_of (Some f) None g h e = absurd h
  vocabulary_of (Some f) (Some w) g h e =
      let s : g ≡ f = cc in ap (λ (d : Named). makes_vocabulary d.kind) s ∙ kinds_vocabulary f.kind w.kind h.kind

  address_of : (o : Option Named) (q : Option ForthWord) (g : Named) → EntryStands code owner_at k p o q → Some g ≡ o → data_field g.kind ≡ data_address q
  address_of None q g h e = cc
  address_of (Some f) None g h e = absurd h
  address_of (Some f) (Some w) g h e =
      let s : g ≡ f = cc in ap (λ (d : Named). data_field d.kind) s ∙ kinds_field f.kind w.kind h.kind

module _ (l : Lexicon) (x : Language) (h : Stands l x) (token : ℕ) where
  pub looks_immediate : (g : Named) → Some g ≡ entry l.dictionary.words token → g.immediate ≡ is_immediate (entry x.words token)
  looks_immediate g e =
      let r = entries l x h token in immediate_of l.code (owner_in x.words) token r.0 (entry l.dictionary.words token) (entry x.words token) g r.1 e

  pub looks_none : None ≡ entry l.dictionary.words token → None ≡ entry x.words token
  looks_none e =
      let r = entries l x h token in none_of l.code (owner_in x.words) token r.0 (entry l.dictionary.words token) (entry x.words token) r.1 e

  pub looks_vocabulary : (g : Named) → Some g ≡ entry l.dictionary.words token → makes_vocabulary g.kind ≡ is_vocabulary (entry x.words token)
  looks_vocabulary g e =
      let r = entries l x h token in vocabulary_of l.code (owner_in x.words) token r.0 (entry l.dictionary.words token) (entry x.words token) g r.1 e

  pub looks_address : (g : Named) → Some g ≡ entry l.dictionary.words token → data_field g.kind ≡ data_address (entry x.words token)
  looks_address g e =
      let r = entries l x h token in address_of l.code (owner_in x.words) token r.0 (entry l.dictionary.words token) (entry x.words token) g r.1 e

pub found_words : (l : Lexicon) (r : Option ℕ) → IfSome r (λ token. IsTrue (is_token l.dictionary token)) → IfSome r (λ token. (x : Language) → Stands l x → IsWord x token)
found_words l None t = t
found_words l (Some token) t = λ x h. token_word l x h token t
