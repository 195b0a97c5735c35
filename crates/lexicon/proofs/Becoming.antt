-- From one language to the next, over changed cells.
use Rattle.std.proofs.Common.{◌≡◌, ℕ, suc, ◌<◌, ◌≤◌, Bool, true, false, List, [], ◌∷◌, ◌++◌, length, take, inl, inr, refl, sym, arith}
use Rattle.std.specs.List.{AllByRecursion}
use Rattle.std.specs.Prelude.{nat_lt, ◌&&◌, slice_index}
use Rattle.std.proofs.lemmas.Bool.{cases_lt}
use Rattle.std.proofs.lemmas.Bool.Decides.{nat_tests}
use Rattle.cell_machine.specs.Frames.{around_of}
use Rattle.cell_machine.specs.Staying.{IsBefore, Stays}
use Rattle.cell_machine.proofs.Staying.{left_stays}
use Rattle.lexicon.specs.declared.language.Lexicon.{Lexicon}
use Rattle.lexicon.specs.Language.{ForthWord, Language, used_cells, all_below}
use Rattle.lexicon.specs.Stands.{owner_in, Stands}
use Rattle.lexicon.specs.Promise.{Becomes}
use Rattle.lexicon.proofs.Owners.{owner-below, owner-append, owner-take, owner-from_one, Alike, alike-owner}

pub more_before : (past past' : ℕ) → past ≤ past' → (running : List ℕ) → AllByRecursion (λ w. IsBefore past w) running → AllByRecursion (λ w. IsBefore past' w) running
more_before past past' le [] h = h
more_before past past' le (w ∷ running) h =
    (record { above = h.0.above; below = omega (arith, h.0.below) }, more_before past past' le running h.1)

pub both_true : (a b : Bool) → (a && b) ≡ true → (a ≡ true) × (b ≡ true)
both_true true b h = (refl, h)
both_true false b h = cc

below_test : (w token : ℕ) → nat_lt w token ≡ true → w < token
below_test w token h = grind (arith, nat_tests)

-- where all that run are older than a word, they are before it
pub older_before : (past token : ℕ) (running : List ℕ) → AllByRecursion (λ w. IsBefore past w) running → all_below token running ≡ true → AllByRecursion (λ w. IsBefore token w) running
older_before past token [] h a = h
older_before past token (w ∷ running) h a =
    let b = both_true (nat_lt w token) (all_below token running) a in
    (record { above = h.0.above; below = below_test w token b.0 }, older_before past token running h.1 b.1)

pub becomes : (old new : Lexicon) (x y : Language) → Stays (suc (length x.words)) old.code (owner_in x.words) new.code (owner_in y.words) → length x.words ≤ length y.words → Stands new y → Becomes old new x y
becomes old new x y s le h = record {
  stands = h;
  left = λ doing entries levels l. record {
    lies = left_stays (suc (length x.words)) old.code (owner_in x.words) new.code (owner_in y.words) s doing.pending doing.place entries levels l.running l.lies;
    running = more_before (suc (length x.words)) (suc (length y.words)) (omega arith) (around_of levels).running l.running;
  };
}

-- ---- what stays

-- the cells of all bodies, and their owners
pub same_owners : (past : ℕ) (words : List ForthWord) (old new : List ℕ) → ((y : ℕ) → y < used_cells words → slice_index new y ≡ slice_index old y) → Stays past old (owner_in words) new (owner_in words)
same_owners past words old new below = record {
  cells = λ y b. below y (let l = owner-below 1 0 words y b.above in omega (arith, l));
  owners = λ y b. refl;
}

pub more_words : (past : ℕ) (words more : List ForthWord) (old new : List ℕ) → ((y : ℕ) → y < used_cells words → slice_index new y ≡ slice_index old y) → Stays past old (owner_in words) new (owner_in (words ++ more))
more_words past words more old new below = record {
  cells = λ y b. below y (let l = owner-below 1 0 words y b.above in omega (arith, l));
  owners = λ y b. let l = owner-below 1 0 words y b.above in owner-append 1 0 words more y (omega arith) (omega (arith, l));
}

pub alike_words : (past : ℕ) (words others : List ForthWord) (code : List ℕ) → Alike words others → Stays past code (owner_in words) code (owner_in others)
alike_words past words others code a = record { cells = λ y b. refl; owners = λ y b. sym (alike-owner 1 0 words others y a) }

-- the words before one stay when it goes
pub fewer_words : (n : ℕ) (words : List ForthWord) (code : List ℕ) → Stays (suc n) code (owner_in words) code (owner_in (take n words))
fewer_words n words code = record {
  cells = λ y b. refl;
  owners = λ y b.
      elim (cases_lt y (used_cells (take n words))) as (λ s. owner_in (take n words) y ≡ owner_in words y) [
        | inl l ↦ owner-take 1 0 n words y (omega arith) (omega arith)
        | inr l ↦ let f = owner-from_one 1 0 n words y (omega arith) b.above in let g = b.below in absurd (omega (arith, f, g))
      ];
}
