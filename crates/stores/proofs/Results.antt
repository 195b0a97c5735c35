-- What is told of a result.
use Rattle.std.proofs.Common.{Result, Ok, Err}
use Rattle.std.specs.Prelude.{IfOk, IfErr, OnOk, MatchResult}

module _ {T E : Type 0} where
  pub if_ok : (result : Result T E) {P Q : T → Type 0} → ((x : T) → P x → Q x) → IfOk result P → IfOk result Q
  if_ok (Ok x) f p = f x p
  if_ok (Err e) f p = p

  pub if_ok_both : (result : Result T E) {P Q R : T → Type 0} → ((x : T) → P x → Q x → R x) → IfOk result P → IfOk result Q → IfOk result R
  if_ok_both (Ok x) f p q = f x p q
  if_ok_both (Err e) f p q = p

  pub if_err : (result : Result T E) {P Q : E → Type 0} → ((e : E) → P e → Q e) → IfErr result P → IfErr result Q
  if_err (Ok x) f p = p
  if_err (Err e) f p = f e p

  pub either : (result : Result T E) {P Q : T → Type 0} {R S : E → Type 0} → ((x : T) → P x → Q x) → ((e : E) → R e → S e)
      → MatchResult result P R → MatchResult result Q S
  either (Ok x) f g p = f x p
  either (Err e) f g p = g e p

  pub ok_of : (result : Result T E) {P : Type 0} {Q : T → Type 0} (R : E → Type 0) → ((x : T) → Q x → P) → MatchResult result Q R → OnOk result P
  ok_of (Ok x) R f q = f x q
  ok_of (Err e) R f r = tt
