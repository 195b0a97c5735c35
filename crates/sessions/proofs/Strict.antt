-- Lines that went well, and the one that failed.
use Rattle.std.proofs.Common.{◌≡◌, ◌≢◌, Bool, true, false, true≢false, ◌&&◌, List, [], ◌∷◌, ◌++◌, refl, sym, subst, ap, ◌∙◌, None, Some}
use Rattle.std.specs.Prelude.{MatchBool, Option, take}
use Rattle.interpreter.specs.Lines.{LineEnd, Interpreting, Compiling, Quit, Io, Fails, Turn, has_failed}
use Rattle.interpreter.specs.Promise.{FaultIs, IsPlaced}
use Rattle.interpreter.specs.Told.{has_aborted}
use Rattle.interpreter.specs.declared.fault.Fault.{Fault as Told}
use Rattle.interpreter.specs.declared.place.LeftAt.{LeftAt}
use Rattle.sessions.specs.Strict.{NoneFailed, behind_line, behind_lines, is_due, is_failed, strict_ones}
use Rattle.sessions.specs.declared.strictness.Strictness.{Strictness}
use Rattle.sessions.specs.declared.strictness.Strictness.TheVariants.{Never, First, Always}

behind : (turns : List Turn) (turn : Turn) → NoneFailed turns → is_failed turn ≡ false → NoneFailed (turns ++ turn ∷ [])
behind [] turn before none = (none, tt)
behind (first ∷ turns) turn before none = (before.0, behind turns turn before.1 none)

-- ---- how strict a run is behind its lines

never_behind : (turns : List Turn) → behind_lines Never turns ≡ Never
never_behind [] = refl
never_behind (turn ∷ turns) = never_behind turns

always_behind : (turns : List Turn) → behind_lines Always turns ≡ Always
always_behind [] = refl
always_behind (turn ∷ turns) = always_behind turns

one_more : (strictness : Strictness) (turns : List Turn) (turn : Turn) → behind_lines strictness (turns ++ turn ∷ []) ≡ behind_line (behind_lines strictness turns)
one_more strictness [] turn = refl
one_more strictness (first ∷ turns) turn = one_more (behind_line strictness) turns turn

pub left_more : (strictness left : Strictness) (turns more : List Turn) (turn : Turn) → left ≡ behind_lines strictness turns → more ≡ turns ++ turn ∷ []
    → behind_line left ≡ behind_lines strictness more
left_more strictness left turns more turn is longer = ap behind_line is ∙ sym (one_more strictness turns turn) ∙ ap (λ ts. behind_lines strictness ts) (sym longer)

-- it goes on behind a line, so that isn't one with which it ends, or it didn't fail
well_more : (strictness : Strictness) (turns : List Turn) (turn : Turn) → false ≡ (is_due (behind_lines strictness turns) && is_failed turn)
    → NoneFailed (strict_ones strictness turns) → NoneFailed (strict_ones strictness (turns ++ turn ∷ []))
well_more Never turns turn test before = tt
well_more First [] turn test before = (sym test, tt)
well_more First (first ∷ turns) turn test before = before
well_more Always turns turn test before = behind turns turn before (sym (subst (λ s. false ≡ (is_due s && is_failed turn)) (always_behind turns) test))

pub unfailed_more : (strictness left : Strictness) (turns more : List Turn) (turn : Turn) (failed : Bool) → left ≡ behind_lines strictness turns
    → false ≡ (is_due left && failed) → is_failed turn ≡ failed → more ≡ turns ++ turn ∷ []
    → NoneFailed (strict_ones strictness turns) → NoneFailed (strict_ones strictness more)
unfailed_more strictness left turns more turn failed is test told longer before =
    subst (λ ts. NoneFailed (strict_ones strictness ts)) (sym longer)
    (well_more strictness turns turn
    (test ∙ ap (λ s. is_due s && failed) is ∙ ap (λ f. is_due (behind_lines strictness turns) && f) (sym told)) before)

pub unfailed_same : (strictness : Strictness) (turns more : List Turn) → more ≡ turns → NoneFailed (strict_ones strictness turns) → NoneFailed (strict_ones strictness more)
unfailed_same strictness turns more is before = subst (λ ts. NoneFailed (strict_ones strictness ts)) (sym is) before

none_at_first : (strictness : Strictness) → NoneFailed (strict_ones strictness [])
none_at_first Never = tt
none_at_first First = tt
none_at_first Always = tt

pub unfailed_none : (strictness : Strictness) (turns : List Turn) → turns ≡ [] → NoneFailed (strict_ones strictness turns)
unfailed_none strictness turns is = subst (λ ts. NoneFailed (strict_ones strictness ts)) (sym is) (none_at_first strictness)

pub left_none : (strictness : Strictness) (turns : List Turn) → turns ≡ [] → strictness ≡ behind_lines strictness turns
left_none strictness turns is = ap (λ ts. behind_lines strictness ts) (sym is)

pub left_same : (strictness left : Strictness) (turns more : List Turn) → more ≡ turns → left ≡ behind_lines strictness turns → left ≡ behind_lines strictness more
left_same strictness left turns more is so = so ∙ ap (λ ts. behind_lines strictness ts) (sym is)

-- ---- it ends with a line

pub both : (due failed : Bool) → true ≡ (due && failed) → (due ≡ true) × (failed ≡ true)
both true true test = (refl, refl)
both true false test = absurd (true≢false test)
both false failed test = absurd (true≢false test)

not_due : (turns : List Turn) → is_due (behind_lines Never turns) ≡ true → ⊥
not_due turns due = true≢false (sym due ∙ ap is_due (never_behind turns))

-- so that is one with which it ends, and none before it failed
all_before : (strictness : Strictness) (turns : List Turn) → is_due (behind_lines strictness turns) ≡ true → NoneFailed (strict_ones strictness turns) → NoneFailed turns
all_before Never turns due before = absurd (not_due turns due)
all_before First [] due before = tt
all_before First (turn ∷ turns) due before = absurd (not_due turns due)
all_before Always turns due before = before

all_strict : (strictness : Strictness) (turns : List Turn) (last : Turn) → is_due (behind_lines strictness turns) ≡ true
    → strict_ones strictness (turns ++ last ∷ []) ≡ turns ++ last ∷ []
all_strict Never turns last due = absurd (not_due turns due)
all_strict First [] last due = refl
all_strict First (turn ∷ turns) last due = absurd (not_due turns due)
all_strict Always turns last due = refl

module _ (strictness left : Strictness) (turns : List Turn) (failed : Bool) (is : left ≡ behind_lines strictness turns) (test : true ≡ (is_due left && failed)) where
  due_behind : is_due (behind_lines strictness turns) ≡ true
  due_behind = ap is_due (sym is) ∙ (both (is_due left) failed test).0

  pub strict_before : NoneFailed (strict_ones strictness turns) → NoneFailed turns
  strict_before before = all_before strictness turns due_behind before

  pub strict_last : (last : Turn) → strict_ones strictness (turns ++ last ∷ []) ≡ turns ++ last ∷ []
  strict_last last = all_strict strictness turns last due_behind

  pub last_failed : failed ≡ true
  last_failed = (both (is_due left) failed test).1

never_due : (strictness : Strictness) → is_due strictness ≡ true → strictness ≢ Never
never_due strictness due is = true≢false (sym due ∙ ap is_due is)

due_first : (strictness : Strictness) (turns : List Turn) → is_due (behind_lines strictness turns) ≡ true → is_due strictness ≡ true
due_first Never turns due = absurd (not_due turns due)
due_first First turns due = refl
due_first Always turns due = refl

pub strict_at_last : (strictness : Strictness) → is_due strictness ≡ true → strictness ≢ Never
strict_at_last = never_due

-- over any device: behind whatever lines, it was strict at its first one
pub due_before : (left : Strictness) → is_due (behind_line left) ≡ true → is_due left ≡ true
due_before Never due = due
due_before First due = refl
due_before Always due = refl

-- ---- whether a line failed

pub failed_by_fault : (ending : LineEnd) (place : Option LeftAt) (fault : Told) → FaultIs ending (Some fault) → true ≡ has_failed ending place
failed_by_fault (Fails f) place fault is = refl
failed_by_fault Interpreting place fault is = absurd (let no : Some fault ≡ None = is in cc)
failed_by_fault Compiling place fault is = absurd (let no : Some fault ≡ None = is in cc)
failed_by_fault Quit place fault is = absurd (let no : Some fault ≡ None = is in cc)
failed_by_fault Io place fault is = absurd (let no : Some fault ≡ None = is in cc)

pub failed_by_abort : (ending : LineEnd) (place : Option LeftAt) → FaultIs ending None → ending ≢ Io → IsPlaced ending place → has_aborted place ≡ has_failed ending place
failed_by_abort (Fails f) place is answered placed = absurd (let no : None ≡ Some is.0 = is.1 in cc)
failed_by_abort Interpreting place is answered placed = ap has_aborted placed
failed_by_abort Compiling place is answered placed = ap has_aborted placed
failed_by_abort Quit place is answered placed = refl
failed_by_abort Io place is answered placed = absurd (answered refl)
