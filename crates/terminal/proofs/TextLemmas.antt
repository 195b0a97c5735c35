-- What was read of a text that a system opened, and what it is told as where it wasn't had.
use Rattle.std.proofs.Common.{◌≡◌, ◌∙◌, ◌-◌, ◌≤◌, ◌⊎◌, ⊎_elim, ℕ, List, [], ◌∷◌, ◌++◌, length, take, drop, Option, None, Some, Result, Ok, Err, ap, append-nil, arith, get_or, inl, inr, refl, subst, sym}
use Rattle.std.proofs.lemmas.List.{take_all}
use Rattle.std.specs.Borrow.{Bor}
use Rattle.std.specs.Prelude.{Bool, IfErr, IfSome, MatchBool}
use Rattle.std.specs.Io.KnownBytes.{Consumes, IsAtEnd}
use Rattle.sector_disk.specs.declared.device.SectorDevice.{Ghosts}
use Rattle.journal.specs.declared.store.Store.{Store}
use Rattle.command_line.specs.declared.orders.Form.{Form}
use Rattle.terminal.specs.Failed.{IsOfTexts, LooksInVain}
use Rattle.terminal.specs.Findings.{refusal, said, told}
use Rattle.terminal.specs.Putting.{LeavesSome, PutsSome}
use Rattle.terminal.specs.Scripts.{lined}
use Rattle.terminal.specs.Texts.{OneIsUnread}
use Rattle.terminal.specs.declared.failure.Failure.{Failure}
use Rattle.terminal.specs.declared.failure.Failure.TheVariants.{BadSize, CannotRead, NoMemory}

-- What was read, where nothing is left, is all that was left before.
pub read_whole : (before after : Option (List ℕ)) (text : List ℕ) → Consumes before after text → IsAtEnd after → IfSome before (λ left. text ≡ left)
read_whole None after text read end = tt
read_whole (Some all) None text read end = absurd read
read_whole (Some all) (Some rest) text read end = sym (read ∙ ap (λ l. text ++ l) end ∙ append-nil text)

-- the first of some, and the others
pub first_and_others : {A : Type 0} (d : A) (xs : List A) → 1 ≤ length xs → xs ≡ get_or xs 0 d ∷ take (length xs - 1) (drop 1 xs)
first_and_others d [] some = absurd (omega arith)
first_and_others d (x ∷ xs) some = ap (λ l. x ∷ l) (sym (take_all (length (x ∷ xs) - 1) xs (omega arith)))

-- ---- a text of a name is all that the reader had left which the system opened

module _ {R : Type 0} (remaining : R → Option (List ℕ)) (is_text : List ℕ → Type 0) (reader : R)
    (named : (text : List ℕ) → IfSome (remaining reader) (λ left. text ≡ left) → is_text text) where
  pub lines_named : (old new : List ℕ) → (bytes : List ℕ) × IfSome (remaining reader) (λ left. bytes ≡ left) × (new ≡ old ++ lined bytes)
      → (bytes : List ℕ) × is_text bytes × (new ≡ old ++ lined bytes)
  lines_named old new read = (read.0, named read.0 read.1, read.2)

  pub said_named : (form : Form) (room : ℕ) (bytes : List ℕ)
      → (file : List ℕ) × IfSome (remaining reader) (λ left. file ≡ left) × (refusal (told form room file) ≡ None) × (bytes ≡ said form file)
      → (file : List ℕ) × is_text file × (refusal (told form room file) ≡ None) × (bytes ≡ said form file)
  said_named form room bytes read = (read.0, named read.0 read.1, read.2, read.3)

-- ---- a text that wasn't had

-- Where it is told, so is the name.
pub told_unread : {Unread : Type 0} (e : Failure) → (e ≡ CannotRead) ⊎ (e ≡ NoMemory) → (e ≡ CannotRead → Unread)
    → ((e ≡ CannotRead) × Unread) ⊎ (e ≡ NoMemory)
told_unread e only unread = ⊎_elim (λ is. inl (is, unread is)) (λ memory. inr memory) only

-- It is the first of those that are left of some.
pub first_unread : (is_unread : (path : List ℕ) → Type 0) (paths rest others : List (Bor (List ℕ))) (path : Bor (List ℕ)) → rest ≡ path ∷ others
    → (OneIsUnread is_unread rest → OneIsUnread is_unread paths) → is_unread path.now → OneIsUnread is_unread paths
first_unread is_unread paths rest others path one so_far unread =
    so_far (subst (λ (l : List (Bor (List ℕ))). OneIsUnread is_unread l) (sym one) (inl unread))

-- What is told of the first of those that are left.
pub first_unread_of : (is_unread : (path : List ℕ) → Type 0) (paths rest others : List (Bor (List ℕ))) (path : Bor (List ℕ)) (e : Failure)
    → rest ≡ path ∷ others → (OneIsUnread is_unread rest → OneIsUnread is_unread paths)
    → ((e ≡ CannotRead) × is_unread path.now) ⊎ (e ≡ NoMemory) → ((e ≡ CannotRead) × OneIsUnread is_unread paths) ⊎ (e ≡ NoMemory)
first_unread_of is_unread paths rest others path e one so_far told =
    ⊎_elim (λ no. inl (no.0, first_unread is_unread paths rest others path one so_far no.1)) (λ memory. inr memory) told

-- It is one of the others.
pub others_unread : (is_unread : (path : List ℕ) → Type 0) (paths rest : List (Bor (List ℕ))) → 1 ≤ length rest
    → (OneIsUnread is_unread rest → OneIsUnread is_unread paths)
    → OneIsUnread is_unread (take (length rest - 1) (drop 1 rest)) → OneIsUnread is_unread paths
others_unread is_unread paths [] some so_far unread = absurd (omega arith)
others_unread is_unread paths (path ∷ rest) some so_far unread =
    so_far (inr (subst (λ (l : List (Bor (List ℕ))). OneIsUnread is_unread l) (take_all (length (path ∷ rest) - 1) rest (omega arith)) unread))

-- What it is told as where nothing was done but that.
pub looked_in_vain : {D T : Type 0} (fits : D → Bool) (unread : Type 0) (r : Result T Failure) (device : D)
    → IfErr r (λ e. MatchBool (fits device) (IsOfTexts e) (e ≡ BadSize)) → IfErr r (λ e. e ≡ CannotRead → unread)
    → IfErr r (λ failure. LooksInVain fits unread failure device device)
looked_in_vain fits unread (Ok t) device told cannot = tt
looked_in_vain fits unread (Err e) device told cannot = record { same = refl; told = told; cannot = cannot }

-- ---- a text that was put

module _ {D R : Type 0} {G : Ghosts D} (remaining : R → Option (List ℕ)) (is_text : List ℕ → Type 0) (reader : R)
    (named : (text : List ℕ) → IfSome (remaining reader) (λ left. text ≡ left) → is_text text) (old new : Store D G) (b : ℕ) where
  pub puts_named : PutsSome (λ bytes. IfSome (remaining reader) (λ left. bytes ≡ left)) old new b → PutsSome is_text old new b
  puts_named puts = record {
    saved = λ m stands. let saved = puts.saved m stands in (saved.0, named saved.0 saved.1, saved.2, saved.3, saved.4, saved.5);
  }

  pub leaves_named : LeavesSome (λ bytes. IfSome (remaining reader) (λ left. bytes ≡ left)) old new b → LeavesSome is_text old new b
  leaves_named leaves = record {
    left = λ m stands live image since.
        ⊎_elim (λ before. inl before) (λ with_text. inr (with_text.0, named with_text.0 with_text.1, with_text.2, with_text.3, with_text.4))
        (leaves.left m stands live image since);
  }
