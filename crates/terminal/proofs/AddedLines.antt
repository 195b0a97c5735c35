-- Lines that are added one after another are those of all blocks, or of all rows.
use Rattle.std.proofs.Common.{◌≡◌, ◌∙◌, ◌++◌, ℕ, suc, List, take, drop, sym, ap, ap₂, append_assoc}
use Rattle.terminal.specs.Compared.{change, changes, digest_line, digest_lines}

-- the lines of one block more
pub digest_step : (b k n m : ℕ) (lines new bytes : List ℕ) → k ≡ suc b → m ≡ suc n → new ≡ lines ++ digest_line b (take 1024 bytes)
    → new ++ digest_lines k n (drop 1024 bytes) ≡ lines ++ digest_lines b m bytes
digest_step b k n m lines new bytes next is added =
    ap₂ (λ l j. l ++ digest_lines j n (drop 1024 bytes)) added next
    ∙ append_assoc lines (digest_line b (take 1024 bytes)) (digest_lines (suc b) n (drop 1024 bytes))
    ∙ ap (λ j. lines ++ digest_lines b j bytes) (sym is)

-- what differs in one row more
pub change_step : (b k n m : ℕ) (lines text old new : List ℕ) → k ≡ suc b → m ≡ suc n → text ≡ lines ++ change b (take 64 old) (take 64 new)
    → text ++ changes k n (drop 64 old) (drop 64 new) ≡ lines ++ changes b m old new
change_step b k n m lines text old new next is added =
    ap₂ (λ l j. l ++ changes j n (drop 64 old) (drop 64 new)) added next
    ∙ append_assoc lines (change b (take 64 old) (take 64 new)) (changes (suc b) n (drop 64 old) (drop 64 new))
    ∙ ap (λ j. lines ++ changes b j old new) (sym is)
