-- A line that failed, where lines are events.
use Rattle.std.proofs.Common.{◌≡◌, ℕ, Bool, true, false, IsTrue, List, Option, [], ◌∷◌, refl, sym, ap, subst, ◌∙◌}
use Rattle.std.specs.Prelude.{◌&&◌, ◌||◌, if◌then◌else◌, nat_lt, unwrap_or}
use Rattle.sector_disk.specs.declared.device.SectorDevice.{Ghosts}
use Rattle.journal.specs.Maps.{Maps, block_in, discarded, none_pending}
use Rattle.journal.specs.Suits.{suits}
use Rattle.journal.proofs.Blocks.{at_none}
use Rattle.block_words.specs.Words.{Save, has_unsaved, pending_number, view}
use Rattle.interpreter.specs.declared.forth.Forth.{Forth}
use Rattle.interpreter.specs.declared.place.LeftAt.{LeftAt}
use Rattle.interpreter.specs.Lines.{LineEnd, Turn, Line, IsAsSaved, has_failed, settled, settled_by, line_on}
use Rattle.interpreter.specs.LineContract.{IsSystem}
use Rattle.interpreter.specs.Promise.{Keeps, KeepsMaps}
use Rattle.interpreter.specs.Representation.{RepresentsWorld, device}
use Rattle.interpreter.specs.State.{World}
use Rattle.interpreter.specs.State as state

-- What is taken back was never saved.
kept_settled : {D : Type 0} (G : Ghosts D) (taken_back : Bool) (m m' : Maps) (old new : D) (made : List Save) → KeepsMaps G m m' old new made
    → KeepsMaps G m (if taken_back then discarded m' else m') old new made
kept_settled G true m m' old new made h = record { kept = h.kept; shuts = h.shuts; none = h.none; last = h.last }
kept_settled G false m m' old new made h = h

pub keeps_settled : {D : Type 0} (G : Ghosts D) (ending : LineEnd) (place : Option LeftAt) (opening over : state.Forth) (old new : D) (made : List Save) → Keeps G opening over old new made
    → Keeps G opening (settled_by ending place over) old new made
keeps_settled G ending place opening over old new made h = kept_settled G (over.undoes && has_failed ending place) opening.world.maps over.world.maps old new made h

module _ {D : Type 0} {G : Ghosts D} where
  pub system_settled : (ending : LineEnd) (mid new : Forth D G) → new ≡ record mid { blocks = new.blocks } → device new ≡ device mid
      → ((x : World) → RepresentsWorld mid x → RepresentsWorld new (settled (mid.budget.undoes && has_failed ending mid.place) x))
      → (s : state.Forth) → IsSystem mid s → IsSystem new (settled_by ending mid.place s)
  system_settled ending mid new rest on settles s is =
      let h = is.represents in
      let stands : RepresentsWorld new (settled (s.undoes && has_failed ending mid.place) s.world) =
      subst (λ b. RepresentsWorld new (settled (b && has_failed ending mid.place) s.world)) (sym h.undoes) (settles s.world h.rests) in
      record {
        represents = record {
          budget = h.budget ∙ sym (ap (λ (f : Forth D G). f.budget.steps) rest);
          undoes = h.undoes ∙ sym (ap (λ (f : Forth D G). f.budget.undoes) rest);
          same_core = record { stack = h.same_core.stack ∙ sym (ap (λ (f : Forth D G). f.stack) rest); space = h.same_core.space ∙ sym (ap (λ (f : Forth D G). f.space) rest) };
          rests = stands;
        };
        model = subst (λ d. IsTrue (suits G d)) (sym on) is.model;
      }

-- ---- as a law

none_number : {A : Type 0} (xs : List A) → pending_number (none_pending xs) ≡ 0
none_number [] = refl
none_number (x ∷ xs) = none_number xs

as_saved : (s : state.Forth) (x : World) → s.world ≡ settled true x → IsAsSaved s
as_saved s x is = record {
  reads = λ b. subst (λ (w : World). view (state.block_state s.core w) b ≡ block_in w.maps.saved b) (sym is) (ap (λ o. unwrap_or o (block_in x.maps.saved b)) (at_none x.maps.pending b));
  saved = subst (λ (w : World). has_unsaved w.buffers w.maps ≡ false) (sym is) (ap (λ n. nat_lt 0 n || false) (none_number x.maps.pending));
}

pub failed_undone : (opening : state.Forth) (bytes : List ℕ) (turn : Turn) (closing : state.Forth)
    → opening.undoes ≡ true → Line opening bytes turn closing → has_failed turn.ending turn.place ≡ true → IsAsSaved closing
failed_undone opening bytes turn closing undoes l failed =
    let e = line_on opening bytes turn.given l.answers in
    let both : (opening.undoes && has_failed e.ending e.place) ≡ true = ap (λ b. b && has_failed e.ending e.place) undoes ∙ ap (λ i. has_failed i e.place) l.ends ∙ ap (λ p. has_failed turn.ending p) l.placed ∙ failed in
    as_saved closing (state.with_run state.idle e.world)
    (sym (ap (λ (s : state.Forth). s.world) l.leaves) ∙ ap (λ b. state.with_run state.idle (settled b e.world)) both)
