-- New words, once their names are taken.
use Rattle.std.proofs.Common.{◌≡◌, ℕ, Bool, true, false, List, length, Option, Some, None, Result, Ok, Err, refl, sym, ap, subst, ◌∙◌}
use Rattle.std.specs.Prelude.{not, nat_lt, is_some, if◌then◌else◌, OnOk, IfErr}
use Rattle.cell_machine.specs.Fault as fault
use Rattle.cell_machine.specs.Fault.{Name, DictionaryFull, DefinitionOpen, Faults}
use Rattle.cell_machine.specs.Frames.{Core}
use Rattle.cell_machine.specs.Value.{Outcome, Ends}
use Rattle.dictionary.specs.Words.{is_name, most_words}
use Rattle.compiler.specs.Definition.{Definition, Adding, Adds, Refuses}
use Rattle.lexicon.specs.declared.language.Lexicon.{Lexicon}
use Rattle.lexicon.specs.declared.language.LexiconRefusal.{LexiconRefusal}
use Rattle.lexicon.specs.Adding.{MayBeAdded}
use Rattle.lexicon.specs.Stands.{Stands as Means}
use Rattle.lexicon.specs.Promise.{Goes, Stops, Becomes, fault_of}
use Rattle.lexicon.specs.Language.{Language, with_new_name}
use Rattle.interpreter.specs.State.{World, needing}
use Rattle.interpreter.specs.Lexicon.{language_of}

abbrev pub new_name : (List ℕ → Core → World → Outcome World) → List ℕ → Core → World → Outcome World
new_name go name c x = needing (is_name name) Name c x (λ c. needing (nat_lt (length x.words) most_words) DictionaryFull c x (λ c. go name c x))

abbrev refusing : fault.Fault → Adding Language
refusing f = Refuses f

abbrev tested : Option Definition → (a b : Bool) → Adding Language → Adding Language
tested o a b step = if is_some o then Refuses DefinitionOpen else (if not a then Refuses Name else (if b then step else Refuses DictionaryFull))

module _ (c : Core) (x : World) (go : Core → Outcome World) where
  may : (o : Option Definition) (a b : Bool) (m : Language) → ((step : Adding Language) → tested o a b step ≡ step) → needing a Name c x (λ c. needing b DictionaryFull c x go) ≡ go c
  may None true true m h = refl
  may None true false m h = absurd (let e : Refuses DictionaryFull ≡ Adds m = h (Adds m) in cc)
  may None false b m h = absurd (let e : Refuses Name ≡ Adds m = h (Adds m) in cc)
  may (Some d) a b m h = absurd (let e : Refuses DefinitionOpen ≡ Adds m = h (Adds m) in cc)

  may_not : (f : fault.Fault) (o : Option Definition) (a b : Bool) (m : Language) → is_some o ≡ false → ((step : Adding Language) → tested o a b step ≡ Refuses f)
      → needing a Name c x (λ c. needing b DictionaryFull c x go) ≡ Ends (Faults f) c x
  may_not f None true true m none h = absurd (let e : Adds m ≡ Refuses f = h (Adds m) in cc)
  may_not f None true false m none h = let e : refusing DictionaryFull ≡ refusing f = h (Adds m) in let same : DictionaryFull ≡ f = cc in ap (λ f. Ends (Faults f) c x) same
  may_not f None false b m none h = let e : refusing Name ≡ refusing f = h (Adds m) in let same : Name ≡ f = cc in ap (λ f. Ends (Faults f) c x) same
  may_not f (Some d) a b m none h = absurd (let no : true ≡ false = none in cc)

pub new_name-yes : (name : List ℕ) (c : Core) (x : World) (go : List ℕ → Core → World → Outcome World) → ((step : Adding Language) → with_new_name name (language_of x) step ≡ step) → new_name go name c x ≡ go name c x
new_name-yes name c x go fits = may c x (λ c. go name c x) x.definition (is_name name) (nat_lt (length x.words) most_words) (language_of x) fits

pub new_name-no : (name : List ℕ) (c : Core) (x : World) (go : List ℕ → Core → World → Outcome World) (f : fault.Fault) → is_some x.definition ≡ false → ((step : Adding Language) → with_new_name name (language_of x) step ≡ Refuses f)
    → new_name go name c x ≡ Ends (Faults f) c x
new_name-no name c x go f none refused = may_not c x (λ c. go name c x) f x.definition (is_name name) (nat_lt (length x.words) most_words) (language_of x) none refused

-- what comes of a word that may be added
pub new_word : (result : Result (Unit {0}) LexiconRefusal) (old new : Lexicon) (name : List ℕ) (after : Language → Language) (x : Language) → MayBeAdded old name → Means old x
    → OnOk result (Goes old new (λ x. with_new_name name x (Adds (after x)))) → IfErr result (λ e. Stops old new (λ x. with_new_name name x (Adds (after x))) (fault_of e)) → Becomes old new x (after x)
new_word (Ok v) old new name after x may means goes stops =
    let g = goes x means in
    let e : Adds (after x) ≡ Adds g.0 = sym (may.fits x means (Adds (after x))) ∙ g.1.0 in
    let same : g.0 ≡ after x = cc in
    subst (λ y. Becomes old new x y) same g.1.1
new_word (Err refusal) old new name after x may means goes stops =
    absurd (let e : Adds (after x) ≡ Refuses (fault_of refusal) = sym (may.fits x means (Adds (after x))) ∙ stops.0 x means in cc)
