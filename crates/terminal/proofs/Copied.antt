-- An image that another one was made of, and the file that was made for that.
use Rattle.std.proofs.Common.{◌≡◌, ◌∙◌, Bool, Option, None, Some, Result, Ok, Err, ap, inl, inr, refl}
use Rattle.std.specs.Prelude.{IfErr, IfSome, MatchOption, OnOk, unwrap_or}
use Rattle.terminal.specs.Done.{IsGiven}
use Rattle.terminal.specs.Failed.{IsUntouched}
use Rattle.terminal.specs.Shapes.{AnotherDone, AnotherFailed}
use Rattle.terminal.specs.declared.failure.Failure.{Failure}
use Rattle.terminal.specs.declared.left.Left.{Left}

module _ {A B D E T : Type 0} (one : A → Left D E) (both : A → B → Left D E) where
  -- It was made of one that was opened: what is left are both.
  pub both_left : (target : Option B) (r : Result T Failure) (left : Left D E) (opened : A → Type 0) (source source' : A) (P : A → A → B → Type 0)
      → opened source → MatchOption target (left ≡ one source') (λ made. left ≡ both source' made)
      → OnOk r (IsGiven target (P source source')) → OnOk r (AnotherDone one both opened P left)
  both_left (Some b) (Ok t) left opened source source' P is at given =
      (source', given.0, (at ∙ ap (λ d. both source' (unwrap_or d b)) given.1), source, is, given.2)
  both_left None (Ok t) left opened source source' P is at given = let none : None ≡ Some given.0 = given.1 in absurd cc
  both_left target (Err e) left opened source source' P is at given = tt

  -- It wasn't made, or in part.
  pub some_left : (target : Option B) (r : Result T Failure) (left : Left D E) (opened : A → Type 0) (P : Failure → A → A → B → Type 0)
      (source source' : A) → opened source → MatchOption target (left ≡ one source') (λ made. left ≡ both source' made)
      → (fits : A → Bool) → IfErr r (λ failure. target ≡ None → IsUntouched fits failure source source')
      → IfErr r (λ failure. IfSome target (P failure source source')) → IfErr r (λ failure. AnotherFailed one both fits opened (P failure) failure left)
  some_left target (Ok t) left opened P source source' is at fits unmade some = tt
  some_left None (Err e) left opened P source source' is at fits unmade some = inl (inr (source', at, source, is, unmade refl))
  some_left (Some b) (Err e) left opened P source source' is at fits unmade some = inr (source, is, source', b, at, some)
