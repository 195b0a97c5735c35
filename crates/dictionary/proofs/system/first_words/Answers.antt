use Rattle.std.proofs.Common.{◌≡◌, List, [], ◌∷◌, ◌++◌, map, refl, ap, ◌∙◌, sym, subst, Bool, IsTrue}
use Rattle.std.specs.List.{list_all}
use Rattle.std.specs.Prelude.{◌&&◌}
use Rattle.system_words.specs.Rows.{row_of, rows}
use Rattle.dictionary.specs.Words.{is_name}
use Rattle.dictionary.specs.System.{system_word}
use Rattle.dictionary.proofs.system.first_words.Goals as goal

composed : {A B C : Type 0} (f : B → C) (g : A → B) (xs : List A) → map (λ x. f (g x)) xs ≡ map f (map g xs)
composed f g [] = refl
composed f g (x ∷ xs) = ap (λ ys. f (g x) ∷ ys) (composed f g xs)

all_mapped : {A B : Type 0} (p : B → Bool) (g : A → B) (xs : List A) → list_all p (map g xs) ≡ list_all (λ x. p (g x)) xs
all_mapped p g [] = refl
all_mapped p g (x ∷ xs) = ap (λ b. p (g x) && b) (all_mapped p g xs)

pub push_primitives-requires-clause-names : goal.push_primitives-requires-clause-names
push_primitives-requires-clause-names c =
    let named : IsTrue (list_all (λ row. is_name row.name) rows) = refl in
    subst (λ b. IsTrue b) (all_mapped (λ row. is_name row.name) (λ row. row_of row.0.now row.1 row.2) c.all.result.now)
    (subst (λ ws. IsTrue (list_all (λ row. is_name row.name) ws)) (sym c.all.ensures.rows) named)

pub returns : goal.returns
returns c =
    c.push_primitives.ensures ∙ ap (λ ws. ws ++ map (λ row. system_word (row_of row.0.now row.1 row.2)) c.all.result.now) c.in_ok-words.ensures
    ∙ composed system_word (λ row. row_of row.0.now row.1 row.2) c.all.result.now ∙ ap (map system_word) c.all.ensures.rows
