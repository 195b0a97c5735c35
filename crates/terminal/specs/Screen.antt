-- A block as the lines of a screen: 16 rows of 64 bytes.
use Rattle.std.specs.Prelude.{ℕ, zero, suc, ◌-◌, ◌==◌, ◌&&◌, nat_le, if◌then◌else◌, List, [], ◌∷◌, ◌++◌, length, map, replicate, take, drop, Option, Some, None, option_map}
use Rattle.sessions.specs.Cut.{line_text}

-- the byte is put before the first line
abbrev pub longer : ℕ → List (List ℕ) → List (List ℕ)
longer b [] = (b ∷ []) ∷ []
longer b (line ∷ lines) = (b ∷ line) ∷ lines

-- Each line feed ends a line, and bytes after the last one are a line too.
abbrev pub lines_of : List ℕ → List (List ℕ)
lines_of [] = []
lines_of (b ∷ bytes) = if b == 10 then [] ∷ lines_of bytes else longer b (lines_of bytes)

-- a line filled with blanks
abbrev pub row : List ℕ → List ℕ
row line = line ++ replicate (64 - length line) 32

-- n rows, one for each line and blank ones after them: none where a line is too long, or is left over
abbrev pub rows : ℕ → List (List ℕ) → Option (List ℕ)
rows zero [] = Some []
rows zero (line ∷ lines) = None
rows (suc n) [] = option_map (λ below. row [] ++ below) (rows n [])
rows (suc n) (line ∷ lines) =
    if nat_le (length line) 64 then option_map (λ below. row line ++ below) (rows n lines) else None

-- the lines as they are read
abbrev pub texts_of : List ℕ → List (List ℕ)
texts_of bytes = map line_text (lines_of bytes)

-- the block that a text says
abbrev pub screen_of : List ℕ → Option (List ℕ)
screen_of bytes = rows 16 (texts_of bytes)

-- a point stands for what isn't printable ASCII
abbrev pub shown : ℕ → ℕ
shown b = if nat_le 32 b && nat_le b 126 then b else 46

-- the first n rows as lines
abbrev pub printed : ℕ → List ℕ → List ℕ
printed zero bytes = []
printed (suc n) bytes = map shown (take 64 bytes) ++ 10 ∷ printed n (drop 64 bytes)

-- a block as it is listed
abbrev pub listing : List ℕ → List ℕ
listing block = printed 16 block
