-- How a command ended, by its exit status; and what isn't a session can't be stopped.
use Rattle.std.proofs.Common.{◌≡◌, ◌≢◌, ◌∙◌, ◌⊎◌, ℕ, List, [], true, false, Option, Some, None, Result, Ok, Err, ap, inl, inr, refl, subst, sym}
use Rattle.std.proofs.lemmas.Bool.{cases_eq}
use Rattle.std.specs.Prelude.{⊤, IfErr, IfOk, IfSome, IsErr, MatchOption, MatchResult, OnOk, is_some}
use Rattle.clap.specs.Words.{HasKind, IsAmong, Kinds, kind_of}
use Rattle.clap.specs.declared.error.kind.ErrorKind.{ErrorKind}
use Rattle.clap.specs.declared.error.kind.ErrorKind.TheVariants.{DisplayHelp, DisplayVersion, OutOfMemory}
use Rattle.clap.specs.declared.error.Error.{Error}
use Rattle.terminal.specs.InMemory.{AsksForHelp, EndsHelp, IsHelp}
use Rattle.terminal.specs.Failures.{status_of}
use Rattle.terminal.specs.OrderDone.{KeepsStreams, prints, reads_input}
use Rattle.terminal.specs.Done.{EachLeft}
use Rattle.terminal.specs.Said.{Said}
use Rattle.terminal.specs.declared.left.Left.{Left}
use Rattle.terminal.specs.declared.left.Left.TheVariants.{Compared, Copied, Looked, Made, Nothing, Opened, Upgraded}
use Rattle.terminal.specs.declared.failure.Outcome.{Outcome}
use Rattle.terminal.specs.declared.failure.Outcome.TheVariants.{Done, Stopped}
use Rattle.terminal.specs.declared.failure.Failure.{Failure}
use Rattle.command_line.specs.declared.orders.Order.{Order}

module _ {T : Type 0} where
  -- What holds anyway holds whatever the outcome is.
  pub if_done : {P : Type 0} (r : Result T Failure) → P → OnOk r P
  if_done (Ok t) p = p
  if_done (Err e) p = tt

  -- What holds of a failure, or of what was done, and what else holds of it.
  pub both_ok : (P Q : Type 0) (r : Result T Failure) → OnOk r P → OnOk r Q → OnOk r (P × Q)
  both_ok P Q (Ok t) p q = (p, q)
  both_ok P Q (Err e) p q = tt

  pub both_err : (r : Result T Failure) (P Q : Failure → Type 0) → IfErr r P → IfErr r Q → IfErr r (λ e. P e × Q e)
  both_err (Ok t) P Q p q = tt
  both_err (Err e) P Q p q = (p, q)

-- What was done, or failed, is so of a command that has no session.
module _ {T : Type 0} where
  pub ended_so : (P : Outcome → Type 0) (r : Result T Failure) (o : Result Outcome Failure)
      → MatchResult r (λ _. o ≡ Ok Done) (λ failure. o ≡ Err failure) → OnOk r (P Done) → IfOk o P
  ended_so P (Ok t) o is done = subst (λ (o : Result Outcome Failure). IfOk o P) (sym is) done
  ended_so P (Err e) o is done = subst (λ (o : Result Outcome Failure). IfOk o P) (sym is) tt

  pub failed_so : (Q : Failure → Type 0) (r : Result T Failure) (o : Result Outcome Failure)
      → MatchResult r (λ _. o ≡ Ok Done) (λ failure. o ≡ Err failure) → IfErr r Q → IfErr o Q
  failed_so Q (Ok t) o is failed = subst (λ (o : Result Outcome Failure). IfErr o Q) (sym is) tt
  failed_so Q (Err e) o is failed = subst (λ (o : Result Outcome Failure). IfErr o Q) (sym is) failed

  pub well_so : (P : Type 0) (r : Result T Failure) (o : Result Outcome Failure)
      → MatchResult r (λ _. o ≡ Ok Done) (λ failure. o ≡ Err failure) → o ≡ Ok Done → OnOk r P → P
  well_so P (Ok t) o is done well = well
  well_so P (Err e) o is done well = absurd (let no : (let r : Result Outcome Failure = Err e in r) ≡ Ok Done = sym is ∙ done in cc)

  -- Another status than 0 is that of a failure.
  pub broke_so : (Q : Failure → Type 0) (r : Result T Failure) (o : Result Outcome Failure) (status : ℕ)
      → MatchResult r (λ _. o ≡ Ok Done) (λ failure. o ≡ Err failure) → status ≢ 0 → (status ≡ 1 → o ≡ Ok Stopped)
      → (status ≢ 0 → status ≢ 1 → IsErr o) → IfErr o (λ failure. status ≡ status_of failure) → IfErr r Q
      → (failure : Failure) × (status ≡ status_of failure) × Q failure
  broke_so Q (Ok t) o status is other stopped others told failed = elim (cases_eq status 1) [
    | inl one ↦ absurd (let no : (let r : Result Outcome Failure = Ok Done in r) ≡ Ok Stopped = sym is ∙ stopped one in cc)
    | inr another ↦ absurd (let err = subst (λ (o : Result Outcome Failure). IsErr o) is (others other another) in cc)
  ]
  broke_so Q (Err e) o status is other stopped others told failed =
      (e, subst (λ (o : Result Outcome Failure). IfErr o (λ failure. status ≡ status_of failure)) is told, failed)

-- What holds of how it ended, by its status.
pub ended_as : (P : Outcome → Type 0) (o : Result Outcome Failure) (outcome : Outcome) → o ≡ Ok outcome → IfOk o P → P outcome
ended_as P o outcome is ended = subst (λ (o : Result Outcome Failure). IfOk o P) is ended

pub failed_as : (Q : Failure → Type 0) (o : Result Outcome Failure) (status : ℕ) → IsErr o → IfErr o (λ failure. status ≡ status_of failure)
    → IfErr o Q → (failure : Failure) × (status ≡ status_of failure) × Q failure
failed_as Q (Ok outcome) status is told failed = absurd cc
failed_as Q (Err e) status is told failed = (e, told, failed)

-- What was made whole and didn't get its name failed so, and what failed before did as it did.
pub failed_or_unnamed : (Q : Failure → Type 0) (P : Outcome → Type 0) (U : Failure → Type 0) (B C : Type 0) (o ended : Result Outcome Failure)
    → (B → C) → IfErr ended (λ e. (o ≡ Err e) ⊎ ((o ≡ Ok Done) × B × U e)) → IfErr o Q → IfOk o P → IfErr ended (λ e. Q e ⊎ (C × U e × P Done))
failed_or_unnamed Q P U B C o (Ok end) is how failed done = tt
failed_or_unnamed Q P U B C o (Err e) is (inl same) failed done = inl (subst (λ (o : Result Outcome Failure). IfErr o Q) same failed)
failed_or_unnamed Q P U B C o (Err e) is (inr so) failed done = inr (is so.1, so.2, ended_as P o Done so.0 done)

-- What holds of a name in the code holds of that of the order.
module _ {A B : Type 0} (f : A → B) where
  pub has_name : (new : Option A) (name : Option B) → MatchOption new (name ≡ None) (λ a. name ≡ Some (f a)) → (P : B → Type 0)
      → IfSome new (λ a. P (f a)) → IfSome name P
  has_name None name same P p = subst (λ (n : Option B). IfSome n P) (sym same) tt
  has_name (Some a) name same P p = subst (λ (n : Option B). IfSome n P) (sym same) p

  pub is_named : (new : Option A) (name : Option B) → MatchOption new (name ≡ None) (λ a. name ≡ Some (f a)) → is_some new ≡ true → is_some name ≡ true
  is_named None name same is = absurd (let no : false ≡ true = is in cc)
  is_named (Some a) name same is = ap (λ (n : Option B). is_some n) same

-- ---- the input and the output of an order

-- They weren't used.
pub untouched : (order : Order) (said : Said) → KeepsStreams order said said
untouched order said = record { unread = λ is. refl; unwritten = λ is. refl }

-- It prints.
pub printed_only : (order : Order) (before after : Said) → after.left ≡ before.left → prints order ≡ true → KeepsStreams order before after
printed_only order before after same prints = record {
  unread = λ is. same;
  unwritten = λ is. absurd (let no : true ≡ false = sym prints ∙ is in cc);
}

-- It is a session.
pub used : (order : Order) (before after : Said) → reads_input order ≡ true → prints order ≡ true → KeepsStreams order before after
used order before after reads prints = record {
  unread = λ is. absurd (let no : true ≡ false = sym reads ∙ is in cc);
  unwritten = λ is. absurd (let no : true ≡ false = sym prints ∙ is in cc);
}

-- What was not printed is so of the output's bytes.
pub prints_none : {T W : Type 0} (silent : Failure → Type 0) (contents : W → Option (List ℕ)) (old new : W) (r : Result T Failure)
    → IfErr r (λ e. silent e → new ≡ old) → IfErr r (λ e. silent e → contents new ≡ contents old)
prints_none silent contents old new (Ok t) same = tt
prints_none silent contents old new (Err e) same = λ is. ap contents (same is)

-- It reads nothing, and prints nothing.
pub unprinted_so : (order : Order) (before after : Said) → after.left ≡ before.left → after.written ≡ before.written → KeepsStreams order before after
unprinted_so order before after unread unwritten = record { unread = λ is. unread; unwritten = λ is. unwritten }

pub said_same : {W : Type 0} (left : Option (List ℕ)) (contents : W → Option (List ℕ)) (old new : W) → new ≡ old
    → (let s : Said = record { left = left; written = contents new } in s) ≡ (let s : Said = record { left = left; written = contents old } in s)
said_same left contents old new same = ap (λ (o : _). let s : Said = record { left = left; written = contents o } in s) same

-- ---- the devices that are left

-- Of each that was read alone holds what it holds by a premise that is met.
pub each_read : {D E : Type 0} {C : Type 0} (P : D → Type 0) (Q : E → Type 0) (left : Left D E) → C → EachLeft P (λ look. C → Q look) left → EachLeft P Q left
each_read P Q Nothing is each = tt
each_read P Q (Opened device) is each = each
each_read P Q (Made device) is each = each
each_read P Q (Upgraded old new) is each = each
each_read P Q (Looked device) is each = each is
each_read P Q (Compared old new) is each = (each.0 is, each.1 is)
each_read P Q (Copied old new) is each = (each.0 is, each.1)

pub each_made : {D E : Type 0} (P : D → Type 0) (Q : E → Type 0) (left : Left D E) → EachLeft P Q left → EachLeft P (λ look. ⊤) left
each_made P Q Nothing each = tt
each_made P Q (Opened device) each = each
each_made P Q (Made device) each = each
each_made P Q (Upgraded old new) each = each
each_made P Q (Looked device) each = tt
each_made P Q (Compared old new) each = (tt, tt)
each_made P Q (Copied old new) each = (tt, each.1)

-- ---- words that give no order

-- Of words that are refused nothing it is memory that wasn't there.
pub no_memory : {kinds : Kinds} (e : Error) → HasKind kinds e → kinds ≡ [] → kind_of e ≡ OutOfMemory
no_memory {kinds} e (inl memory) none = memory
no_memory {kinds} e (inr among) none = absurd (subst (λ (ks : Kinds). IsAmong (kind_of e) ks) none among)

-- Where memory wasn't there no help was asked for, so nothing is printed.
pub not_help : {P : Type 0} (e : Error) → kind_of e ≡ OutOfMemory → IsHelp (kind_of e) ⊎ P → P
not_help e memory (inr p) = p
not_help e memory (inl (inl help)) = absurd (let no : OutOfMemory ≡ DisplayHelp = sym memory ∙ help in cc)
not_help e memory (inl (inr version)) = absurd (let no : OutOfMemory ≡ DisplayVersion = sym memory ∙ version in cc)

-- Help that an error shows was asked for.
pub asked_for : (kinds : Kinds) (e : Error) → HasKind kinds e → IsHelp (kind_of e) → AsksForHelp kinds
asked_for kinds e (inl memory) help = not_help {P = AsksForHelp kinds} e memory (inl help)
asked_for kinds e (inr among) (inl help) = inl (subst (λ (k : ErrorKind). IsAmong k kinds) help among)
asked_for kinds e (inr among) (inr version) = inr (subst (λ (k : ErrorKind). IsAmong k kinds) version among)

pub ends_as : (kinds : Kinds) (e : Error) (status : ℕ) → HasKind kinds e
    → (status ≡ 2) ⊎ (status ≡ 5) ⊎ (IsHelp (kind_of e) × EndsHelp status) → (status ≡ 2) ⊎ (status ≡ 5) ⊎ (AsksForHelp kinds × EndsHelp status)
ends_as kinds e status has (inl refused) = inl refused
ends_as kinds e status has (inr (inl memory)) = inr (inl memory)
ends_as kinds e status has (inr (inr shown)) = inr (inr (asked_for kinds e has shown.0, shown.1))

pub prints_same : (kinds : Kinds) {W : Type 0} (contents : W → Option (List ℕ)) {old new : W} (e : Error) → HasKind kinds e
    → IsHelp (kind_of e) ⊎ (new ≡ old) → AsksForHelp kinds ⊎ (contents new ≡ contents old)
prints_same kinds contents e has (inl help) = inl (asked_for kinds e has help)
prints_same kinds contents e has (inr same) = inr (ap contents same)
