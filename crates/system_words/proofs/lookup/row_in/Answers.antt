use Rattle.std.proofs.Common.{◌≡◌, ℕ, zero, suc, ◌-◌, ◌<◌, ◌≤◌, List, [], ◌∷◌, length, map, refl, sym, arith, get_or, Some}
use Rattle.std.specs.Prelude.{option_map}
use Rattle.std.specs.List.{slice_get}
use Rattle.system_words.specs.Rows.{Row, row_of, beside_name, at_token}
use Rattle.system_words.proofs.lookup.row_in.Goals as goal

row_at : {A : Type 0} (f : A → Row) (xs : List A) (k : ℕ) (d : A) → k < length xs → option_map beside_name (slice_get (map f xs) k) ≡ Some (beside_name (f (get_or xs k d)))
row_at f [] k d lt = absurd (omega arith)
row_at f (x ∷ xs) zero d lt = refl
row_at f (x ∷ xs) (suc k) d lt = row_at f xs k d (omega arith)

row_of_token : {A : Type 0} (f : A → Row) (xs : List A) (token : ℕ) (d : A) → (token ≡ 0 → ⊥) → token ≤ length xs → Some (beside_name (f (get_or xs (token - 1) d))) ≡ at_token (map f xs) token
row_of_token f xs zero d some le = absurd (some refl)
row_of_token f xs (suc k) d some le =
    let same : suc k - 1 ≡ k = omega arith in rw same (sym (row_at f xs k d (omega arith)))

pub returns : goal.returns
returns c = row_of_token (λ row. row_of row.0.now row.1 row.2) c.args.rows.now c.args.token _ c.if-token-eq0.false c.if-token-rows.false
