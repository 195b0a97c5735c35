-- What the machine's events mean for what is left of a line.
use Rattle.std.proofs.Common.{◌≡◌, ℕ, zero, suc, ◌+◌, ◌*◌, ◌<◌, ◌≤◌, List, [], ◌∷◌, Option, Some, None, Result, Ok, Err, refl, sym, ap, subst, ◌∙◌, arith}
use Rattle.dictionary.specs.Words.{Kind, Primitive, Colon, Created, Constant, Vocabulary, entry}
use Rattle.compiler.specs.Definition.{Body}
use Rattle.std.specs.Prelude.{Bool, true, false, not, nat_lt, ◌==◌, if◌then◌else◌, length, option_map}
use Rattle.std.proofs.lemmas.Bool.{eqb-true}
use Rattle.dictionary.specs.System.{is_marked_only}
use Rattle.cell_machine.specs.Limits.{data_cells, return_units}
use Rattle.cell_machine.specs.Fault.{StackFull, ReturnStack, Token, Quits}
use Rattle.cell_machine.specs.Tree.{Prints, AbortsWith, Trees, End, Lit, Call, Text, If, Until, While, Loop, Leave, Exit, Compile, append}
use Rattle.cell_machine.specs.declared.event.Op.{Op}
use Rattle.cell_machine.specs.declared.event.Op.TheVariants as op
use Rattle.cell_machine.specs.declared.event.Event.TheVariants as event
use Rattle.stacks.specs.declared.return_stack.Entry.{Entry}
use Rattle.lexicon.specs.Falling.{fall_of, Paid}
use Rattle.interpreter.specs.FreeServices.{WhereFree}
use Rattle.system_words.specs.declared.words.Meaning.{Meaning as RowMeaning}
use Rattle.system_words.specs.declared.words.Mark.{Mark}
use Rattle.system_words.specs.Rows.{rows, at_token, meaning_of as meaning_at}
use Rattle.cell_machine.specs.Frames.{Core, Around, Level, Due, Word, Next, Goes, Asked, Finished, Stopped, around_of, charge, need, push, machine_word, own_or, on_next}
use Rattle.cell_machine.specs.Value.{Outcome, Did, Ends, Serve, body_value, word_value}
use Rattle.cell_machine.specs.Effects.{Item}
use Rattle.cell_machine.specs.Frames.{Turning, Frame, Once, Load, Print, AbortWith, Add, Give, in_body, step, step_end, step_trees, step_leave, nothing_aside}
use Rattle.cell_machine.proofs.Rules.{need-rel, charge-rel, push-rel, test-rel, do_word-rel, do_loop-rel, end_loop-rel, leave_loop-rel, nothing_aside-rel, do_text-rel}
use Rattle.interpreter.specs.declared.fault.Stop.{Stop}
use Rattle.interpreter.specs.declared.interpreting.Round.{Round}
use Rattle.interpreter.specs.declared.interpreting.Round.TheVariants.{GoesOn, Over}
use Rattle.cell_machine.specs.Calling.{Meaning, Outside, GivesCell, RunsBody, RunsPart, with_body, call, or_call, calling_step, calling_steps}
use Rattle.cell_machine.specs.Served.{by_meaning, executed_as, executed, as_meant, ServesAsMeant}
use Rattle.cell_machine.specs.Layout.{execute_token}
use Rattle.cell_machine.specs.Events.{core_of}
use Rattle.cell_machine.proofs.Due.{due_has}
use Rattle.cell_machine.proofs.Keeps.{step_keeps}
use Rattle.cell_machine.proofs.Served.{calling_keeps}
use Rattle.cell_machine.proofs.Same.{body_value-same}
use Rattle.interpreter.specs.State.{World, Part, ForthWord, needing}
use Rattle.interpreter.specs.Text.{serve, text, back, service_of, may_execute, due_word, user_kind, user_word}
use Rattle.interpreter.specs.Law.{left, next}
use Rattle.lexicon.specs.declared.language.Lexicon.{Lexicon}
use Rattle.lexicon.specs.Language.{Language}
use Rattle.lexicon.specs.Stands.{Stands as Means}
use Rattle.lexicon.specs.Laws.{SystemWordsAreOutsideOrLook}
use Rattle.lexicon.specs.Running.{here_token, pad_token, looks, or_looks, meanings, meaning_of, word_meaning, AsksFor}
use Rattle.interpreter.specs.Lexicon.{language_of, IsDue}
use Rattle.interpreter.specs.RoundContract.{IsAtText, Decreases}
use Rattle.interpreter.proofs.Entering.{may_word}
use Rattle.interpreter.proofs.Frugal.{serve-frugal}
use Rattle.interpreter.proofs.Same.{serve_agrees}

-- the event asks for a service
pub due_of : (l : Lexicon) (x : Language) (o : Op) (found : Next) (levels : List Level) (c : Core) → AsksFor l x o found levels c → (due : Due) × (IsDue l x o due × (found ≡ Asked due levels c))
due_of l x (op.Word w) found levels c h = (_, ((refl, h.1), h.0))
due_of l x (op.Text place) found levels c h = (_, ((h.0, (h.1.0, refl)), h.1.1))
due_of l x (op.AbortText place) found levels c h = (_, ((h.0, (h.1.0, refl)), h.1.1))
due_of l x (op.Compile w) found levels c h = (_, ((h.0, refl), h.1))
due_of l x (op.Does place) found levels c h = (_, ((h.0, h.1, (h.2.0, refl)), h.2.1))

-- no event gives steps back, and a service goes down
pub paid_least : (o : Op) (b a : ℕ) → Paid (event.Service o) b a → a ≤ b
paid_least (op.Word w) b a h = omega (arith, h)
paid_least (op.Text place) b a h = omega (arith, h)
paid_least (op.AbortText place) b a h = omega (arith, h)
paid_least (op.Compile w) b a h = omega (arith, h)
paid_least (op.Does place) b a h = h

least_fall : (s : ℕ) (es : List Entry) → s * 257 ≤ fall_of s es
least_fall s es = omega arith

most_fall : (s : ℕ) (es : List Entry) → fall_of s es ≤ s * 257 + 256
most_fall s es = omega arith

paid_falls : (s0 s1 s2 : ℕ) (es0 es2 : List Entry) → s1 < s0 → s2 ≤ s1 → fall_of s2 es2 < fall_of s0 es0
paid_falls s0 s1 s2 es0 es2 h k =
    let a = most_fall s2 es2 in let b = least_fall s0 es0 in let e : s2 + 1 ≤ s0 = omega (arith, h, k) in let m : (s2 + 1) * 257 ≤ s0 * 257 = omega (arith, e) in omega (arith, a, b, m)

pub service_falls : (o : Op) (s0 s1 s2 : ℕ) (es0 es1 es2 : List Entry) → fall_of s1 es1 < fall_of s0 es0 → Paid (event.Service o) s0 s1 → WhereFree o (fall_of s2 es2 ≤ fall_of s1 es1) → s2 ≤ s1 → fall_of s2 es2 < fall_of s0 es0
service_falls (op.Word w) s0 s1 s2 es0 es1 es2 falls paid free le = paid_falls s0 s1 s2 es0 es2 paid le
service_falls (op.Text place) s0 s1 s2 es0 es1 es2 falls paid free le = paid_falls s0 s1 s2 es0 es2 paid le
service_falls (op.AbortText place) s0 s1 s2 es0 es1 es2 falls paid free le = paid_falls s0 s1 s2 es0 es2 paid le
service_falls (op.Compile w) s0 s1 s2 es0 es1 es2 falls paid free le = paid_falls s0 s1 s2 es0 es2 paid le
service_falls (op.Does place) s0 s1 s2 es0 es1 es2 falls paid free le = omega (arith, falls, free)

-- a system word that only looks has a row, and leaves a cell
module _ (x : Language) (w : ℕ) where
  abbrev seen : Bool → Bool → Meaning
  seen b d = if b then GivesCell x.here else (if d then GivesCell (x.here + 324) else Outside)

  unseen : (b d : Bool) → (w == here_token) ≡ b → (w == pad_token) ≡ d → at_token rows w ≡ None → seen b d ≡ Outside
  unseen true d e f none = let row : at_token rows here_token ≡ None = subst (λ v. at_token rows v ≡ None) (eqb-true w here_token e) none in cc
  unseen false true e f none = let row : at_token rows pad_token ≡ None = subst (λ v. at_token rows v ≡ None) (eqb-true w pad_token f) none in cc
  unseen false false e f none = refl

  pub no_look : at_token rows w ≡ None → looks x w ≡ Outside
  no_look none = unseen (w == here_token) (w == pad_token) refl refl none

  seen_no_body : (b d : Bool) (parts : List Trees) → seen b d ≡ RunsBody parts → ⊥
  seen_no_body true d parts e = cc
  seen_no_body false true parts e = cc
  seen_no_body false false parts e = cc

  pub looks_no_body : (parts : List Trees) → looks x w ≡ RunsBody parts → ⊥
  looks_no_body parts e = seen_no_body (w == here_token) (w == pad_token) parts e

looks_outside : (m : Meaning) → or_looks m Outside ≡ m
looks_outside Outside = refl
looks_outside (GivesCell n) = refl
looks_outside (RunsBody parts) = refl
looks_outside (RunsPart owner d parts) = refl

-- where a word is outside, its entry is
pub entry_outside : (m l : Meaning) → or_looks m l ≡ Outside → m ≡ Outside
entry_outside Outside l e = refl
entry_outside (GivesCell n) l e = cc
entry_outside (RunsBody parts) l e = cc
entry_outside (RunsPart owner d parts) l e = cc

-- the services do each word as it is meant
module _ (n w : ℕ) (a : Around) (c : Core) (x : World) (small : c.steps ≤ n) where
  abbrev inner : Serve World
  inner a due c x = serve n a due c x

  abbrev all : Serve World
  all a due c x = serve (suc n) a due c x

  body_same : (owner : ℕ) (parts : List Trees) (d : Core) → d.steps ≤ n → body_value (suc n) inner a owner parts d x ≡ body_value (suc n) all a owner parts d x
  body_same owner parts d less =
      body_value-same n (suc n) (suc n) inner all (λ a due c x. serve-frugal n a due c x) (serve_agrees n) a owner parts d x less (omega arith) (omega arith)

  body_meant : (room : Bool) (parts : List Trees) → needing room ReturnStack c x (λ c. body_value (suc n) inner a w parts c x) ≡ need room ReturnStack c (λ e c. Ends e c x) (λ c. body_value (suc n) all a w parts c x)
  body_meant true parts = body_same w parts c small
  body_meant false parts = refl

  part_pushed : (cell : Bool) (d owner : ℕ) (parts : List Trees)
      → need cell StackFull c (λ e c. Ends e c x) (λ c. body_value (suc n) inner a owner parts (record c { stack = d ∷ c.stack }) x)
      ≡ need cell StackFull c (λ e c. Ends e c x) (λ c. body_value (suc n) all a owner parts (record c { stack = d ∷ c.stack }) x)
  part_pushed true d owner parts = body_same owner parts (record c { stack = d ∷ c.stack }) small
  part_pushed false d owner parts = refl

  part_meant : (unit : Bool) (d owner : ℕ) (parts : List Trees)
      → needing unit ReturnStack c x (λ c. push d c (λ e c. Ends e c x) (λ c. body_value (suc n) inner a owner parts c x))
      ≡ need unit ReturnStack c (λ e c. Ends e c x) (λ c. push d c (λ e c. Ends e c x) (λ c. body_value (suc n) all a owner parts c x))
  part_meant true d owner parts = part_pushed (nat_lt (length c.stack) data_cells) d owner parts
  part_meant false d owner parts = refl

  kind_meant : (k : Kind Body Part) → user_kind (suc n) inner w k a c x ≡ all a (Word w) c x → user_kind (suc n) inner w k a c x ≡ by_meaning (suc n) all (meaning_of k) w a c x
  kind_meant Primitive e = e
  kind_meant (Colon body) e = body_meant (nat_lt a.units return_units) body.parts
  kind_meant (Created d None) e = refl
  kind_meant (Created d (Some p)) e = part_meant (nat_lt a.units return_units) d p.owner p.parts
  kind_meant (Constant k) e = refl
  kind_meant Vocabulary e = e

  word_meant : (o : Option ForthWord) → user_word (suc n) inner w o a c x ≡ all a (Word w) c x → user_word (suc n) inner w o a c x ≡ by_meaning (suc n) all (word_meaning o) w a c x
  word_meant None e = e
  word_meant (Some word) e = kind_meant word.kind e

  looks_meant : (b d : Bool) → (w == here_token) ≡ b → (w == pad_token) ≡ d → all a (Word w) c x ≡ by_meaning (suc n) all (seen (language_of x) w b d) w a c x
  looks_meant true d e f = ap (λ v. all a (Word v) c x) (eqb-true w here_token e)
  looks_meant false true e f = ap (λ v. all a (Word v) c x) (eqb-true w pad_token f)
  looks_meant false false e f = refl

  due_meant : (o : Option (Mark × RowMeaning)) → at_token rows w ≡ o → ((row : Mark × RowMeaning) → at_token rows w ≡ Some row → meanings (language_of x) w ≡ looks (language_of x) w)
      → all a (Word w) c x ≡ by_meaning (suc n) all (meanings (language_of x) w) w a c x
  due_meant (Some row) is system =
      looks_meant (w == here_token) (w == pad_token) refl refl ∙ ap (λ m. by_meaning (suc n) all m w a c x) (sym (system row is))
  due_meant None is system =
      let no_service : service_of (meaning_at w) ≡ None = ap (λ o. service_of (option_map (λ row. row.1) o)) is in
      let user : all a (Word w) c x ≡ user_word (suc n) inner w (entry x.words w) a c x = ap (λ s. due_word (suc n) inner w s a c x) no_service in
      let entered : or_looks (word_meaning (entry x.words w)) (looks (language_of x) w) ≡ word_meaning (entry x.words w) = ap (λ l. or_looks (word_meaning (entry x.words w)) l) (no_look (language_of x) w is) ∙ looks_outside (word_meaning (entry x.words w)) in
      user ∙ word_meant (entry x.words w) (sym user) ∙ ap (λ m. by_meaning (suc n) all m w a c x) (sym entered)

-- and EXECUTE does the word on the data stack as that is meant
module _ (n : ℕ) (a : Around) (x : World) (system : (w : ℕ) (row : Mark × RowMeaning) → at_token rows w ≡ Some row → meanings (language_of x) w ≡ looks (language_of x) w) where
  abbrev below : Serve World
  below a due c x = serve n a due c x

  abbrev every : Serve World
  every a due c x = serve (suc n) a due c x

  meant : (w : ℕ) (c : Core) → c.steps ≤ n → every a (Word w) c x ≡ by_meaning (suc n) every (meanings (language_of x) w) w a c x
  meant w c h = due_meant n w a c x h (at_token rows w) refl (system w)

  -- a word that has a body is there, and has no row
  is_there : (w : ℕ) (words : List ForthWord) → (word_meaning (entry words w) ≡ Outside → ⊥) → (0 < w) × (w ≤ length words)
  is_there zero words inside = absurd (inside refl)
  is_there (suc k) words inside = (omega arith, there k words inside)
    where
      there : (k : ℕ) (words : List ForthWord) → (word_meaning (entry words (suc k)) ≡ Outside → ⊥) → suc k ≤ length words
      there k [] inside = absurd (inside refl)
      there zero (v ∷ words) inside = omega arith
      there (suc k) (v ∷ words) inside = let b = there k words inside in omega (arith, b)

  no_row : (w : ℕ) (o : Option (Mark × RowMeaning)) → at_token rows w ≡ o → (parts : List Trees) → meanings (language_of x) w ≡ RunsBody parts → at_token rows w ≡ None
  no_row w (Some row) is parts body = absurd (looks_no_body (language_of x) w parts (sym (system w row is) ∙ body))
  no_row w None is parts body = is

  has_entry : (w : ℕ) (parts : List Trees) → meanings (language_of x) w ≡ RunsBody parts → word_meaning (entry x.words w) ≡ Outside → ⊥
  has_entry w parts body none = looks_no_body (language_of x) w parts (sym (ap (λ m. or_looks m (looks (language_of x) w)) none) ∙ body)

  may : (w : ℕ) → at_token rows w ≡ None → (0 < w) × (w ≤ length x.words) → true ≡ may_execute w x
  may w none there = ap (λ o. not (is_marked_only (option_map (λ row. row.0) o))) (sym none) ∙ may_word w x there.0 there.1

  -- it is done by itself as by a call
  by_itself : (w : ℕ) (c : Core) → c.steps < n → at_token rows w ≡ None → word_value (suc n) below a w c x ≡ charge 1 c (λ e c. Ends e c x) (λ c. by_meaning (suc n) every (meanings (language_of x) w) w a c x)
  by_itself w c h none =
      charge-rel (λ (r : Outcome World) (s : Outcome World). r ≡ s) c.steps (λ e c. Ends e c x) (λ e c. Ends e c x) (λ e d k. refl) 1 c
      (λ c. own_or (machine_word (meaning_at w)) a.units [] c (λ e c. Ends e c x) (λ own c. Did c x) (λ c. below a (Word w) c x))
      (λ c. by_meaning (suc n) every (meanings (language_of x) w) w a c x) (omega arith) (λ d hd.
      ap (λ o. own_or (machine_word (option_map (λ row. row.1) o)) a.units [] d (λ e c. Ends e c x) (λ own c. Did c x) (λ c. below a (Word w) c x)) none
      ∙ (serve_agrees n).below a (Word w) d x (omega (arith, h, hd)) ∙ meant w d (omega (arith, h, hd)))

  callable : (w : ℕ) (c : Core) → c.steps < n → (parts : List Trees) → meanings (language_of x) w ≡ RunsBody parts
      → needing (may_execute w x) Token c x (λ c. word_value (suc n) below a w c x) ≡ charge 1 c (λ e c. Ends e c x) (λ c. by_meaning (suc n) every (meanings (language_of x) w) w a c x)
  callable w c h parts body =
      let none = no_row w (at_token rows w) refl parts body in
      ap (λ b. needing b Token c x (λ c. word_value (suc n) below a w c x)) (sym (may w none (is_there w x.words (has_entry w parts body)))) ∙ by_itself w c h none

  executed_meant : (w : ℕ) (c untokened : Core) → untokened.steps < n → every a (Word execute_token) c x ≡ needing (may_execute w x) Token untokened x (λ c. word_value (suc n) below a w c x)
      → (m : Meaning) → meanings (language_of x) w ≡ m → every a (Word execute_token) c x ≡ executed_as (suc n) every m w a c untokened x
  executed_meant w c untokened h is Outside e = refl
  executed_meant w c untokened h is (GivesCell v) e = refl
  executed_meant w c untokened h is (RunsBody parts) e =
      is ∙ callable w untokened h parts e ∙ ap (λ m. charge 1 untokened (λ e c. Ends e c x) (λ c. by_meaning (suc n) every m w a c x)) e
  executed_meant w c untokened h is (RunsPart owner d parts) e = refl

  execute_meant : (stack space : List ℕ) (steps : ℕ) → steps < n → every a (Word execute_token) (core_of stack space steps) x ≡ executed (suc n) every (meanings (language_of x)) stack a (core_of stack space steps) x
  execute_meant [] space steps h = refl
  execute_meant (w ∷ stack) space steps h =
      executed_meant w (core_of (w ∷ stack) space steps) (core_of stack space steps) h refl (meanings (language_of x) w) refl

  word_or_execute : (is_execute : Bool) (w : ℕ) (c : Core) → (w == execute_token) ≡ is_execute → c.steps < n → every a (Word w) c x ≡ as_meant (suc n) every is_execute (meanings (language_of x)) w a c x
  word_or_execute true w c e h = ap (λ v. every a (Word v) c x) (eqb-true w execute_token e) ∙ execute_meant c.stack c.space c.steps h
  word_or_execute false w c e h = meant w c (omega (arith, h))

pub serves_as_meant : (n : ℕ) (x : World) → ((w : ℕ) (row : Mark × RowMeaning) → at_token rows w ≡ Some row → meanings (language_of x) w ≡ looks (language_of x) w)
    → ServesAsMeant n (λ a due c x. serve n a due c x) (meanings (language_of x)) x
serves_as_meant zero x system = λ a w c h. absurd (omega (arith, h))
serves_as_meant (suc n) x system = λ a w c h. word_or_execute n a x system (w == execute_token) w c refl (omega (arith, h))

-- frame steps that call too keep the value of what is left
pub left_calls : SystemWordsAreOutsideOrLook → (n : ℕ) (l : Lexicon) (x : World) (k : ℕ) (levels : List Level) (c : Core) → Means l (language_of x) → c.steps < n → left n levels c x ≡ next n (calling_steps (meanings (language_of x)) k levels c) x
left_calls looking n l x k levels c means h =
    calling_keeps n (λ a due c x. serve n a due c x) (λ a c x. text n (λ a due c x. serve n a due c x) n a c x) back (meanings (language_of x)) x
    (step_keeps n (λ a due c x. serve n a due c x) (λ a due c x. serve-frugal n a due c x) (λ a c x. text n (λ a due c x. serve n a due c x) n a c x) back)
    (serves_as_meant n x (λ w row is. looking l (language_of x) means w row is)) k levels c h

-- ---- where nothing is left to do above the text

-- no call and no word by itself ends there
abbrev EndsAtText : Next → Type 0
EndsAtText (Finished levels c) = IsAtText levels
EndsAtText _ = Unit {0}

module _ (owner : ℕ) (later : List Trees) (levels : List Level) where
  leave_at_text : (loops : List Turning) (own : List Item) (c : Core) → EndsAtText (step_leave owner loops later own levels c)
  leave_at_text [] own c = tt
  leave_at_text (t ∷ loops) own c = tt

step_end-ends : (owner : ℕ) (loops : List Turning) (later : List Trees) (own : List Item) (levels : List Level) (c : Core) → EndsAtText (step_end owner loops later own levels c)
step_end-ends owner (t ∷ loops) later own levels c =
    end_loop-rel (λ (r : Next) (s : Next). EndsAtText r) c.steps Stopped Stopped (λ e d h. tt) t.kind own c
    (λ own c. Goes (Frame owner t.body (t ∷ loops) later own ∷ levels) c) (λ own c. Goes (Frame owner t.following loops later own ∷ levels) c) (λ own c. Stopped Quits c) (λ own c. Stopped Quits c) (omega arith) (λ o d hd. tt) (λ o d hd. tt)
step_end-ends owner [] [] own levels c =
    nothing_aside-rel (λ (r : Next) (s : Next). EndsAtText r) c.steps Stopped Stopped (λ e d h. tt) own c (λ c. Goes levels c) (λ c. Stopped Quits c) (omega arith) tt
step_end-ends owner [] (part ∷ parts) own levels c =
    nothing_aside-rel (λ (r : Next) (s : Next). EndsAtText r) c.steps Stopped Stopped (λ e d h. tt) own c (λ c. Asked (Give owner (part ∷ parts)) levels c) (λ c. Stopped Quits c) (omega arith) tt

step_trees-ends : (owner : ℕ) (t : Trees) (loops : List Turning) (later : List Trees) (own : List Item) (levels : List Level) (c : Core) → EndsAtText (step_trees owner t loops later own levels c)
step_trees-ends owner End loops later own levels c = step_end-ends owner loops later own levels c
step_trees-ends owner (Lit n rest) loops later own levels c =
    charge-rel (λ (r : Next) (s : Next). EndsAtText r) c.steps Stopped Stopped (λ e d h. tt) 1 c (λ c. push n c Stopped (λ c. Goes (Frame owner rest loops later own ∷ levels) c)) (λ c. Stopped Quits c) (omega arith) (λ d hd.
    push-rel (λ (r : Next) (s : Next). EndsAtText r) c.steps Stopped Stopped (λ e d h. tt) n d (λ c. Goes (Frame owner rest loops later own ∷ levels) c) (λ c. Stopped Quits c) (omega arith) (λ e he. tt))
step_trees-ends owner (Call w rest) loops later own levels c =
    do_word-rel (λ (r : Next) (s : Next). EndsAtText r) c.steps Stopped Stopped (λ e d h. tt) w (in_body owner (around_of levels)).units own c (λ own c. Goes (Frame owner rest loops later own ∷ levels) c) (λ c. Asked (Word w) (Frame owner rest loops later own ∷ levels) c) (λ own c. Stopped Quits c) (λ c. Stopped Quits c) (omega arith) (λ o d hd. tt) (λ d hd. tt)
step_trees-ends owner (Text Prints s rest) loops later own levels c =
    do_text-rel (λ (r : Next) (s : Next). EndsAtText r) c.steps Stopped Stopped (λ e d h. tt) Prints c (λ c. Goes (Frame owner rest loops later own ∷ levels) c) (λ c. Asked (Print s) (Frame owner rest loops later own ∷ levels) c) (λ c. Stopped Quits c) (λ c. Stopped Quits c) (omega arith) (λ d hd. tt) (λ d hd. tt)
step_trees-ends owner (Text AbortsWith s rest) loops later own levels c =
    do_text-rel (λ (r : Next) (s : Next). EndsAtText r) c.steps Stopped Stopped (λ e d h. tt) AbortsWith c (λ c. Goes (Frame owner rest loops later own ∷ levels) c) (λ c. Asked (AbortWith s) (Frame owner rest loops later own ∷ levels) c) (λ c. Stopped Quits c) (λ c. Stopped Quits c) (omega arith) (λ d hd. tt) (λ d hd. tt)
step_trees-ends owner (If b1 b2 rest) loops later own levels c =
    test-rel (λ (r : Next) (s : Next). EndsAtText r) c.steps Stopped Stopped (λ e d h. tt) c (λ c. Goes (Frame owner (append b1 rest) loops later own ∷ levels) c) (λ c. Goes (Frame owner (append b2 rest) loops later own ∷ levels) c) (λ c. Stopped Quits c) (λ c. Stopped Quits c) (omega arith) (λ d hd. tt) (λ d hd. tt)
step_trees-ends owner (Until body rest) loops later own levels c = tt
step_trees-ends owner (While head body rest) loops later own levels c = tt
step_trees-ends owner (Loop kind body rest) loops later own levels c =
    do_loop-rel (λ (r : Next) (s : Next). EndsAtText r) c.steps Stopped Stopped (λ e d h. tt) (in_body owner (around_of levels)).units own c (λ own c. Goes (Frame owner body (record { kind = kind; body = body; following = rest } ∷ loops) later own ∷ levels) c) (λ own c. Stopped Quits c) (omega arith) (λ l i d hd. tt)
step_trees-ends owner (Leave rest) loops later own levels c =
    leave_loop-rel (λ (r : Next) (s : Next). EndsAtText r) c.steps Stopped Stopped (λ e d h. tt) own c (λ own c. step_leave owner loops later own levels c) (λ own c. Stopped Quits c) (omega arith) (λ o d hd. leave_at_text owner later levels loops o d)
step_trees-ends owner (Exit rest) loops later own levels c =
    charge-rel (λ (r : Next) (s : Next). EndsAtText r) c.steps Stopped Stopped (λ e d h. tt) 1 c (λ c. nothing_aside own c Stopped (λ c. Goes levels c)) (λ c. Stopped Quits c) (omega arith) (λ d hd.
    nothing_aside-rel (λ (r : Next) (s : Next). EndsAtText r) c.steps Stopped Stopped (λ e d h. tt) own d (λ c. Goes levels c) (λ c. Stopped Quits c) (omega arith) tt)
step_trees-ends owner (Compile w rest) loops later own levels c =
    charge-rel (λ (r : Next) (s : Next). EndsAtText r) c.steps Stopped Stopped (λ e d h. tt) 1 c (λ c. Asked (Add w) (Frame owner rest loops later own ∷ levels) c) (λ c. Stopped Quits c) (omega arith) (λ d hd. tt)

step-ends : (levels : List Level) (c : Core) → EndsAtText (step levels c)
step-ends [] c = tt
step-ends (Frame owner t loops later own ∷ levels) c = step_trees-ends owner t loops later own levels c
step-ends (Once w ∷ levels) c =
    do_word-rel (λ (r : Next) (s : Next). EndsAtText r) c.steps Stopped Stopped (λ e d h. tt) w (around_of levels).units [] c (λ own c. Goes levels c) (λ c. Asked (Word w) levels c) (λ own c. Stopped Quits c) (λ c. Stopped Quits c) (omega arith) (λ o d hd. tt) (λ d hd. tt)
step-ends (Load blk to_in ∷ levels) c = tt

call_ends : (m : Meaning) (w : ℕ) (levels : List Level) (c : Core) → EndsAtText (call m w levels c)
call_ends Outside w levels c = tt
call_ends (GivesCell v) w levels c = push-rel (λ (r : Next) (s : Next). EndsAtText r) c.steps Stopped Stopped (λ e d h. tt) v c (λ c. Goes levels c) (λ c. Stopped Quits c) (omega arith) (λ d hd. tt)
call_ends (RunsBody parts) w levels c =
    need-rel (λ (r : Next) (s : Next). EndsAtText r) c.steps Stopped Stopped (λ e d h. tt) (nat_lt (around_of levels).units return_units) ReturnStack c (λ c. Goes (with_body w parts levels) c) (λ c. Stopped Quits c) (omega arith) tt
call_ends (RunsPart owner d parts) w levels c =
    need-rel (λ (r : Next) (s : Next). EndsAtText r) c.steps Stopped Stopped (λ e d h. tt) (nat_lt (around_of levels).units return_units) ReturnStack c (λ c. push d c Stopped (λ c. Goes (with_body owner parts levels) c)) (λ c. Stopped Quits c) (omega arith)
    (push-rel (λ (r : Next) (s : Next). EndsAtText r) c.steps Stopped Stopped (λ e d h. tt) d c (λ c. Goes (with_body owner parts levels) c) (λ c. Stopped Quits c) (omega arith) (λ d hd. tt))

or_call_ends : (words : ℕ → Meaning) (n : Next) → EndsAtText n → EndsAtText (or_call words n)
or_call_ends words (Goes levels c) h = tt
or_call_ends words (Asked (Word w) levels c) h =
    due_has EndsAtText words levels c tt (λ e d h. tt) (λ w d h. call_ends (words w) w levels d) (w == execute_token) w
or_call_ends words (Asked (Print s) levels c) h = tt
or_call_ends words (Asked (AbortWith s) levels c) h = tt
or_call_ends words (Asked (Add w) levels c) h = tt
or_call_ends words (Asked (Give owner parts) levels c) h = tt
or_call_ends words (Finished levels c) h = h
or_call_ends words (Stopped e c) h = tt

on_next_ends : (words : ℕ → Meaning) (k : ℕ) (n : Next) → EndsAtText n → ((levels : List Level) (c : Core) → EndsAtText (calling_steps words k levels c)) → EndsAtText (on_next n (λ levels c. calling_steps words k levels c))
on_next_ends words k (Goes levels c) h later = later levels c
on_next_ends words k (Asked due levels c) h later = tt
on_next_ends words k (Finished levels c) h later = h
on_next_ends words k (Stopped e c) h later = tt

steps_end : (words : ℕ → Meaning) (k : ℕ) (levels : List Level) (c : Core) → EndsAtText (calling_steps words k levels c)
steps_end words zero levels c = tt
steps_end words (suc k) levels c =
    on_next_ends words k (calling_step words levels c) (or_call_ends words (step levels c) (step-ends levels c)) (λ levels c. steps_end words k levels c)

-- the machine finds nothing more to do only where a text goes on
pub finished_at_text : (words : ℕ → Meaning) (k : ℕ) (levels after : List Level) (c d : Core) → calling_steps words k levels c ≡ Finished after d → IsAtText after
finished_at_text words k levels after c d is = subst EndsAtText is (steps_end words k levels c)

-- where what comes of a round goes down, it goes down
pub down_if : (result : Result Round Stop) (before after : ℕ) → after < before → Decreases result before after
down_if (Ok GoesOn) before after h = h
down_if (Ok Over) before after h = tt
down_if (Err s) before after h = tt
