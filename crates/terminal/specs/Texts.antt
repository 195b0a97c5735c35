-- Texts that a system opens under their names, to be read.
use Rattle.std.specs.Prelude.{◌≡◌, ◌⊎◌, ⊤, ℕ, List, [], ◌∷◌, Option, IfSome}
use Rattle.std.specs.Borrow.{Bor}

-- The text is that of a reader which the system opened: where it is known what that one had left, the text is this.
pub record IsTextOf {R : Type 0} (remaining : R → Option (List ℕ)) (opens : R → Type 0) (text : List ℕ) : Type 0 where
  pub reader : R
  pub opened : opens reader
  pub known : IfSome (remaining reader) (λ left. text ≡ left)

-- A text wasn't had: the system refused to open it, or it opened a reader, of which no more is said.
abbrev pub IsUnread : {R : Type 0} (opens : R → Type 0) (refuses : Type 0) → Type 0
IsUnread {R} opens refuses = refuses ⊎ ((reader : R) × opens reader)

-- These are the texts of these names, one after another.
abbrev pub AreTexts : (is_text : (path text : List ℕ) → Type 0) (paths : List (Bor (List ℕ))) (texts : List (List ℕ)) → Type 0
AreTexts is_text [] [] = ⊤
AreTexts is_text [] (text ∷ texts) = ⊥
AreTexts is_text (path ∷ paths) [] = ⊥
AreTexts is_text (path ∷ paths) (text ∷ texts) = is_text path.now text × AreTexts is_text paths texts

-- The text of one of these names wasn't had.
abbrev pub OneIsUnread : (is_unread : (path : List ℕ) → Type 0) (paths : List (Bor (List ℕ))) → Type 0
OneIsUnread is_unread [] = ⊥
OneIsUnread is_unread (path ∷ paths) = is_unread path.now ⊎ OneIsUnread is_unread paths
