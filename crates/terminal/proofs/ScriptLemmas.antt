-- Files one after another: as the lines of a script, and as blocks.
use Rattle.std.proofs.Common.{◌≡◌, ◌∙◌, ◌-◌, ℕ, suc, Bool, false, true, List, [], ◌∷◌, ◌++◌, length, None, Some, Option, Result, Ok, Err, ap, not, subst, sym, append_assoc, append-nil}
use Rattle.std.specs.Prelude.{OnOk}
use Rattle.std.specs.Io.KnownBytes.{prepend_known}
use Rattle.std.specs.Borrow.{Bor}
use Rattle.std.specs.List.{flat_map}
use Rattle.command_line.specs.declared.orders.Form.{Form}
use Rattle.terminal.specs.Findings.{AreSound, blocks_for, in_blocks, refusal, said, said_all, told}
use Rattle.sessions.specs.Streams.{left_of}
use Rattle.terminal.specs.Scripts.{IsLed, lined}
use Rattle.terminal.specs.Texts.{AreTexts}

-- ---- lines

-- Whatever texts the names have that are left: behind them a text has come from the old one by the lines of the texts of all names.
abbrev pub LinesSoFar : (is_text : (path text : List ℕ) → Type 0) (paths : List (Bor (List ℕ))) (old text : List ℕ) (left : List (Bor (List ℕ))) → Type 0
LinesSoFar is_text paths old text left = (more : List (List ℕ)) → AreTexts is_text left more
    → (texts : List (List ℕ)) × AreTexts is_text paths texts × (text ++ flat_map lined more ≡ old ++ flat_map lined texts)

-- the lines of a text more
pub lines_next : (is_text : (path text : List ℕ) → Type 0) (paths : List (Bor (List ℕ))) (old mid new : List ℕ) (left others : List (Bor (List ℕ)))
    (path : Bor (List ℕ)) → left ≡ path ∷ others → (bytes : List ℕ) × is_text path.now bytes × (new ≡ mid ++ lined bytes)
    → LinesSoFar is_text paths old mid left → LinesSoFar is_text paths old new others
lines_next is_text paths old mid new left others path one file so_far more are =
    let all = so_far (file.0 ∷ more) (subst (λ (l : List (Bor (List ℕ))). AreTexts is_text l (file.0 ∷ more)) (sym one) (file.1, are)) in (
      all.0,
      all.1,
      ap (λ l. l ++ flat_map lined more) file.2 ∙ append_assoc mid (lined file.0) (flat_map lined more) ∙ all.2,
    )

-- no name is left
pub lines_all : (is_text : (path text : List ℕ) → Type 0) (paths : List (Bor (List ℕ))) (old text : List ℕ) (left : List (Bor (List ℕ))) → length left ≡ 0
    → LinesSoFar is_text paths old text left → (texts : List (List ℕ)) × AreTexts is_text paths texts × (text ≡ old ++ flat_map lined texts)
lines_all is_text paths old text [] none so_far = let all = so_far [] tt in (all.0, all.1, sym (append-nil text) ∙ all.2)
lines_all is_text paths old text (path ∷ left) none so_far = absurd (let no : suc (length left) ≡ 0 = none in cc)

-- behind the line the lines of the files, and then the input
pub led_by : (is_text : (path text : List ℕ) → Type 0) (line : List ℕ) (files paths : List (Bor (List ℕ))) (goes_on : Bool) (old text : List ℕ) (left led : Option (List ℕ))
    {T E : Type 0} (r : Result T E) → paths ≡ files → old ≡ line
    → (texts : List (List ℕ)) × AreTexts is_text paths texts × (text ≡ old ++ flat_map lined texts)
    → OnOk r (led ≡ prepend_known text (left_of (not goes_on) left)) → OnOk r (IsLed is_text line files goes_on left led)
led_by is_text line files paths goes_on old text left led (Ok x) named begun added is = (
  added.0,
  subst (λ (l : List (Bor (List ℕ))). AreTexts is_text l added.0) named added.1,
  is ∙ ap (λ l. prepend_known l (left_of (not goes_on) left)) (added.2 ∙ ap (λ l. l ++ flat_map lined added.0) begun),
)
led_by is_text line files paths goes_on old text left led (Err e) named begun added is = tt

-- a text in the place of the input
pub replaced : (goes_on : Bool) (text : List ℕ) (left led : Option (List ℕ)) → goes_on ≡ false → led ≡ Some text
    → led ≡ prepend_known text (left_of (not goes_on) left)
replaced false text left led cut is = is ∙ ap Some (sym (append-nil text))
replaced true text left led cut is = absurd (let no : true ≡ false = cut in cc)

-- a text before the input
pub begun_with : (goes_on : Bool) (text : List ℕ) (left led : Option (List ℕ)) → goes_on ≡ true → led ≡ prepend_known text left
    → led ≡ prepend_known text (left_of (not goes_on) left)
begun_with true text left led on is = is
begun_with false text left led on is = absurd (let no : false ≡ true = on in cc)

-- ---- blocks

-- The same of blocks, for which there is so much room left.
abbrev pub BlocksSoFar : (is_text : (path text : List ℕ) → Type 0) (form : Form) (paths : List (Bor (List ℕ))) (room : ℕ) (old bytes : List ℕ)
    (left : List (Bor (List ℕ))) (now : ℕ) → Type 0
BlocksSoFar is_text form paths room old bytes left now = (more : List (List ℕ)) → AreTexts is_text left more → AreSound form now more
    → (files : List (List ℕ)) × AreTexts is_text paths files × AreSound form room files × (bytes ++ said_all form more ≡ old ++ said_all form files)

-- the blocks of a file more
pub blocks_next : (is_text : (path text : List ℕ) → Type 0) (form : Form) (paths : List (Bor (List ℕ))) (room : ℕ) (old mid new : List ℕ)
    (left others : List (Bor (List ℕ))) (path : Bor (List ℕ)) (now now' : ℕ) → left ≡ path ∷ others
    → (file : List ℕ) × is_text path.now file × (refusal (told form now file) ≡ None) × (now' ≡ now - blocks_for (length (said form file)))
    × (new ≡ mid ++ in_blocks (said form file))
    → BlocksSoFar is_text form paths room old mid left now → BlocksSoFar is_text form paths room old new others now'
blocks_next is_text form paths room old mid new left others path now now' one file so_far more are sound =
    let all = so_far (file.0 ∷ more) (subst (λ (l : List (Bor (List ℕ))). AreTexts is_text l (file.0 ∷ more)) (sym one) (file.1, are))
    (file.2, subst (λ (n : ℕ). AreSound form n more) file.3 sound) in (
      all.0,
      all.1,
      all.2,
      ap (λ l. l ++ said_all form more) file.4 ∙ append_assoc mid (in_blocks (said form file.0)) (said_all form more) ∙ all.3,
    )

-- no name is left
pub blocks_all : (is_text : (path text : List ℕ) → Type 0) (form : Form) (paths : List (Bor (List ℕ))) (room : ℕ) (old bytes : List ℕ)
    (left : List (Bor (List ℕ))) (now : ℕ) → length left ≡ 0 → BlocksSoFar is_text form paths room old bytes left now
    → (files : List (List ℕ)) × AreTexts is_text paths files × AreSound form room files × (bytes ≡ old ++ said_all form files)
blocks_all is_text form paths room old bytes [] now none so_far =
    let all = so_far [] tt tt in (all.0, all.1, all.2, sym (append-nil bytes) ∙ all.3)
blocks_all is_text form paths room old bytes (path ∷ left) now none so_far = absurd (let no : suc (length left) ≡ 0 = none in cc)
