-- An addition to the open definition, in the language.
use Rattle.std.proofs.Common.{◌≡◌, ℕ, suc, ◌+◌, ◌<◌, Bool, true, false, List, [], ◌∷◌, ◌++◌, length, refl, sym, ◌∙◌, ap, subst, arith, Option, Some, None, Result, Ok, Err}
use Rattle.std.specs.Prelude.{OnOk, not, nat_lt, nat_le, ◌==◌, ◌/◌, if◌then◌else◌, slice_index}
use Rattle.cell_machine.specs.Fault.{Fault, Unbalanced, CodeFull}
use Rattle.cell_machine.specs.Layout.{exit_token, compile_token}
use Rattle.cell_machine.specs.Layout.{most_cells}
use Rattle.cell_machine.specs.Tree.{LoopKind, TextKind, Trees, End, Lit, Call, Text, If, Until, While, Loop, Leave, Exit, Compile, append}
use Rattle.compiler.specs.declared.definition.Compiler.{Compiler}
use Rattle.compiler.specs.declared.definition.CompileRefusal.{CompileRefusal}
use Rattle.compiler.specs.Definition.{Begun, AfterIf, AfterElse, AfterBegin, AfterWhile, AfterDo, Definition, Adding, Adds, Refuses, tested, with_cells, unmarked, with_tree, in_loop, add, add_literal, add_text, add_plain, add_word, begin, closed, else_of, then_of, until_of, while_of, repeat_of, loop_of, outside, end_definition}
use Rattle.compiler.specs.Promise.{on_open, BodiesStay, Added}
use Rattle.compiler.specs.Represents.{used}
use Rattle.lexicon.specs.declared.language.Lexicon.{Lexicon}
use Rattle.system_words.specs.declared.words.Structure.{Structure}
use Rattle.system_words.specs.declared.words.Structure.TheVariants as structure
use Rattle.lexicon.specs.Structures.{adding}
use Rattle.dictionary.specs.Words.{is_name}
use Rattle.lexicon.specs.Language.{ForthWord, Language, used_cells, changing, with_definition}
use Rattle.lexicon.specs.Stands.{owner_in, IsBegun, IsHere}
use Rattle.lexicon.specs.Promise.{Goes}
use Rattle.lexicon.proofs.Becoming.{becomes, same_owners}
use Rattle.lexicon.proofs.Words.{words-stay}

-- ---- what is added keeps the definition's name, and where it began

pub record IsOf (old new : Definition) : Type 0 where
  pub name : new.name ≡ old.name
  pub here : new.here ≡ old.here

abbrev pub Keeps : Definition → Adding Definition → Type 0
Keeps d (Adds e) = IsOf d e
Keeps d (Refuses f) = Unit {0}

module _ (d : Definition) where
  tested-keeps : (b : Bool) (f : Fault) (a : Adding Definition) → Keeps d a → Keeps d (tested b f a)
  tested-keeps true f a h = h
  tested-keeps false f a h = tt

  with_cells-keeps : (u n : ℕ) (e : Definition) → IsOf d e → Keeps d (with_cells u n e)
  with_cells-keeps u n e h =
      tested-keeps (nat_le (u + (e.cells + n)) most_cells) CodeFull (Adds (record e { cells = e.cells + n })) (record { name = h.name; here = h.here })

  unmarked-keeps : (e : Definition) (a : Adding Definition) → Keeps d a → Keeps d (unmarked e a)
  unmarked-keeps e a h = tested-keeps (not e.marked) Unbalanced a h

  outside-keeps : (u : ℕ) (b : List Begun) (a : Adding Definition) → Keeps d a → Keeps d (outside u b a)
  outside-keeps u [] a h = h
  outside-keeps u (b ∷ begun) a h = tt

of_itself : (d : Definition) → IsOf d d
of_itself d = record { name = refl; here = refl }

module _ (u : ℕ) (d : Definition) where
  add-keeps : (n : ℕ) (t : Trees) → Keeps d (add u n t d)
  add-keeps n t = with_cells-keeps d u n (with_tree d t) (record { name = refl; here = refl })

  pub literal-keeps : (v : ℕ) → Keeps d (add_literal u v d)
  literal-keeps v = unmarked-keeps d d (add u 2 (Lit v End) d) (add-keeps 2 (Lit v End))

  pub text-keeps : (kind : TextKind) (s : List ℕ) → Keeps d (add_text u kind s d)
  text-keeps kind s = unmarked-keeps d d (add u (2 + (length s + 1) / 2) (Text kind s End) d) (add-keeps (2 + (length s + 1) / 2) (Text kind s End))

  if-keeps : (b : Bool) (x y : Adding Definition) → Keeps d x → Keeps d y → Keeps d (if b then x else y)
  if-keeps true x y h k = h
  if-keeps false x y h k = k

  plain-keeps : (w : ℕ) → Keeps d (add_plain u w d)
  plain-keeps w =
      if-keeps (w == compile_token) (with_cells u 1 (record d { marked = true })) (if w == exit_token then tested (not (in_loop d.begun)) Unbalanced (add u 1 (Exit End) d) else add u 1 (Call w End) d)
      (with_cells-keeps d u 1 (record d { marked = true }) (record { name = refl; here = refl }))
      (if-keeps (w == exit_token) (tested (not (in_loop d.begun)) Unbalanced (add u 1 (Exit End) d)) (add u 1 (Call w End) d)
      (tested-keeps d (not (in_loop d.begun)) Unbalanced (add u 1 (Exit End) d) (add-keeps 1 (Exit End))) (add-keeps 1 (Call w End)))

  pub word-keeps : (w : ℕ) → Keeps d (add_word u w d)
  word-keeps w =
      if-keeps d.marked (add u 1 (Compile w End) (record d { marked = false })) (add_plain u w d)
      (with_cells-keeps d u 1 (with_tree (record d { marked = false }) (Compile w End)) (record { name = refl; here = refl })) (plain-keeps w)

  begin-keeps : (b : Begun) (n : ℕ) → Keeps d (begin u b n d)
  begin-keeps b n =
      unmarked-keeps d d _ (tested-keeps d (nat_lt (length d.begun) 256) CodeFull (with_cells u n (record d { begun = b ∷ d.begun; trees = End })) (with_cells-keeps d u n (record d { begun = b ∷ d.begun; trees = End }) (record { name = refl; here = refl })))

  closed-keeps : (begun : List Begun) (before tree : Trees) (n : ℕ) → Keeps d (closed u begun before tree n d)
  closed-keeps begun before tree n = with_cells-keeps d u n (record d { begun = begun; trees = append before tree }) (record { name = refl; here = refl })

  half-keeps : (begun : List Begun) → Keeps d (with_cells u 2 (record d { begun = begun; trees = End }))
  half-keeps begun = with_cells-keeps d u 2 (record d { begun = begun; trees = End }) (record { name = refl; here = refl })

  else-keeps : (b : List Begun) → Keeps d (else_of u b d)
  else-keeps [] = tt
  else-keeps (AfterIf before ∷ begun) = half-keeps (AfterElse before d.trees ∷ begun)
  else-keeps (AfterElse before a ∷ begun) = tt
  else-keeps (AfterBegin before ∷ begun) = tt
  else-keeps (AfterWhile before a ∷ begun) = tt
  else-keeps (AfterDo before ∷ begun) = tt

  then-keeps : (b : List Begun) → Keeps d (then_of u b d)
  then-keeps [] = tt
  then-keeps (AfterIf before ∷ begun) = closed-keeps begun before (If d.trees End End) 0
  then-keeps (AfterElse before a ∷ begun) = closed-keeps begun before (If a d.trees End) 0
  then-keeps (AfterBegin before ∷ begun) = tt
  then-keeps (AfterWhile before a ∷ begun) = tt
  then-keeps (AfterDo before ∷ begun) = tt

  until-keeps : (b : List Begun) → Keeps d (until_of u b d)
  until-keeps [] = tt
  until-keeps (AfterIf before ∷ begun) = tt
  until-keeps (AfterElse before a ∷ begun) = tt
  until-keeps (AfterBegin before ∷ begun) = closed-keeps begun before (Until d.trees End) 2
  until-keeps (AfterWhile before a ∷ begun) = tt
  until-keeps (AfterDo before ∷ begun) = tt

  while-keeps : (b : List Begun) → Keeps d (while_of u b d)
  while-keeps [] = tt
  while-keeps (AfterIf before ∷ begun) = tt
  while-keeps (AfterElse before a ∷ begun) = tt
  while-keeps (AfterBegin before ∷ begun) = half-keeps (AfterWhile before d.trees ∷ begun)
  while-keeps (AfterWhile before a ∷ begun) = tt
  while-keeps (AfterDo before ∷ begun) = tt

  repeat-keeps : (b : List Begun) → Keeps d (repeat_of u b d)
  repeat-keeps [] = tt
  repeat-keeps (AfterIf before ∷ begun) = tt
  repeat-keeps (AfterElse before a ∷ begun) = tt
  repeat-keeps (AfterBegin before ∷ begun) = tt
  repeat-keeps (AfterWhile before a ∷ begun) = closed-keeps begun before (While a d.trees End) 2
  repeat-keeps (AfterDo before ∷ begun) = tt

  loop-keeps : (kind : LoopKind) (b : List Begun) → Keeps d (loop_of u kind b d)
  loop-keeps kind [] = tt
  loop-keeps kind (AfterIf before ∷ begun) = tt
  loop-keeps kind (AfterElse before a ∷ begun) = tt
  loop-keeps kind (AfterBegin before ∷ begun) = tt
  loop-keeps kind (AfterWhile before a ∷ begun) = tt
  loop-keeps kind (AfterDo before ∷ begun) = closed-keeps begun before (Loop kind d.trees End) 2

  pub end-keeps : Keeps d (end_definition u d)
  end-keeps =
      unmarked-keeps d d (outside u d.begun (with_cells u 1 d)) (outside-keeps d u d.begun (with_cells u 1 d) (with_cells-keeps d u 1 d (of_itself d)))

  pub structure-keeps : (s : Structure) → Keeps d (adding s u d)
  structure-keeps structure.If = begin-keeps (AfterIf d.trees) 2
  structure-keeps structure.Else = unmarked-keeps d d (else_of u d.begun d) (else-keeps d.begun)
  structure-keeps structure.Then = unmarked-keeps d d (then_of u d.begun d) (then-keeps d.begun)
  structure-keeps structure.Begin = begin-keeps (AfterBegin d.trees) 0
  structure-keeps structure.Until = unmarked-keeps d d (until_of u d.begun d) (until-keeps d.begun)
  structure-keeps structure.While = unmarked-keeps d d (while_of u d.begun d) (while-keeps d.begun)
  structure-keeps structure.Repeat = unmarked-keeps d d (repeat_of u d.begun d) (repeat-keeps d.begun)
  structure-keeps structure.Do = begin-keeps (AfterDo d.trees) 1
  structure-keeps structure.Loop = unmarked-keeps d d (loop_of u _ d.begun d) (loop-keeps _ d.begun)
  structure-keeps structure.PlusLoop = unmarked-keeps d d (loop_of u _ d.begun d) (loop-keeps _ d.begun)
  structure-keeps structure.Leave =
      unmarked-keeps d d (tested (in_loop d.begun) Unbalanced (add u 2 (Leave End) d)) (tested-keeps d (in_loop d.begun) Unbalanced (add u 2 (Leave End) d) (add-keeps 2 (Leave End)))
  structure-keeps structure.Does =
      unmarked-keeps d d (outside u d.begun (with_cells u 1 (record d { parts = d.parts ++ d.trees ∷ []; trees = End })))
      (outside-keeps d u d.begun (with_cells u 1 (record d { parts = d.parts ++ d.trees ∷ []; trees = End })) (with_cells-keeps d u 1 (record d { parts = d.parts ++ d.trees ∷ []; trees = End }) (record { name = refl; here = refl })))

-- ---- the same in the language

-- everything that is added keeps it
pub record IsAddition (step : ℕ → Definition → Adding Definition) : Type 0 where
  pub keeps : (u : ℕ) (d : Definition) → Keeps d (step u d)

pub kept : (d : Definition) (a : Adding Definition) (e : Definition) → Keeps d a → a ≡ Adds e → IsOf d e
kept d a e h is = subst (λ (b : Adding Definition). Keeps d b) is h

begun_still : (begun_at : ℕ) (words : List ForthWord) (d e : Definition) → IsOf d e → IsBegun begun_at words (Some d) → IsBegun begun_at words (Some e)
begun_still begun_at words d e k h =
    (h.0 ∙ sym k.here, subst IsHere (sym k.here) h.1, ap is_name k.name ∙ h.2, h.3)

begun_after : (begun_at u : ℕ) (words : List ForthWord) (step : ℕ → Definition → Adding Definition) (o : Option Definition) (d : Definition) → IsAddition step → IsBegun begun_at words o → on_open o (step u) ≡ Adds d → IsBegun begun_at words (Some d)
begun_after begun_at u words step None d k h e = cc
begun_after begun_at u words step (Some c) d k h e = begun_still begun_at words c d (kept c (step u c) d (k.keeps u c) e) h

module _ (old : Lexicon) (compiler : Compiler) (code : List ℕ) (step : ℕ → Definition → Adding Definition) (k : IsAddition step) (stay : BodiesStay old.compiler old.code compiler code) where
  abbrev changed : Lexicon
  changed = record { dictionary = old.dictionary; code = code; compiler = compiler; here = old.here; begun_at = old.begun_at }

  lifted : Added old.compiler old.code compiler code step → Goes old changed (changing step)
  lifted a x h =
      let r = a x.definition h.definition in
      let y : Language = record x { definition = Some r.0 } in
      let same : (z : ℕ) → z < used_cells x.words → slice_index code z ≡ slice_index old.code z = λ z l. stay.below.same z (subst (λ n. z < n) (sym h.cells) l) in
      let stays = same_owners (suc (length x.words)) x.words old.code code same in (
        y,
        (
          ap (λ u. with_definition x (on_open x.definition (step u))) (sym h.cells) ∙ ap (with_definition x) r.1.0,
          becomes old changed x y stays (omega arith) (record {
            words = words-stay (suc (length x.words)) old.code (owner_in x.words) code (owner_in x.words) stays 1 0 old.dictionary.words x.words (omega arith) (omega arith) h.words;
            system = h.system;
            room = h.room;
            first = h.first;
            current = h.current;
            here = h.here;
            in_space = h.in_space;
            cells = stay.end ∙ h.cells;
            definition = r.1.1;
            begun = begun_after old.begun_at (used old.compiler) x.words step x.definition r.0 k h.begun r.1.0;
          }),
        ),
      )

  pub lifted_ok : (r : Result (Unit {0}) CompileRefusal) → OnOk r (Added old.compiler old.code compiler code step) → OnOk r (Goes old changed (changing step))
  lifted_ok (Ok v) a = lifted a
  lifted_ok (Err e) a = a
