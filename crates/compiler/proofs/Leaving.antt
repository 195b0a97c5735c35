-- A LEAVE added to the open definition: it waits for the end of its loop.
use Rattle.std.proofs.Common.{◌≡◌, ℕ, ◌+◌, ◌<◌, ◌≤◌, true, false, List, [], ◌∷◌, refl, sym, ap, ◌∙◌, subst, arith, inl, inr, ⊎_elim, Option, Some, None}
use Rattle.std.specs.Prelude.{slice_index}
use Rattle.cell_machine.specs.Tree.{End, Leave}
use Rattle.cell_machine.specs.Fault.{CodeFull, Unbalanced}
use Rattle.cell_machine.specs.Layout.{Cell, IsIn, leave_cell, most_cells}
use Rattle.cell_machine.proofs.Laid.{at_once, stays}
use Rattle.compiler.specs.declared.definition.Compiler.{Compiler}
use Rattle.compiler.specs.declared.definition.CompileRefusal.TheVariants as refusal
use Rattle.compiler.specs.Definition.{Definition, Adds, Refuses, tested, with_tree, add, add_leave, in_loop}
use Rattle.compiler.specs.Represents.{Within, Chain, Holds}
use Rattle.compiler.specs.Promise.{SameBelow, Added, Refused, on_open}
use Rattle.compiler.proofs.Grows.{Lies, Leaving, chain_kept}
use Rattle.compiler.proofs.Adds.{waiting_below, unmarked_is, fits_is, full_is, represents_adds, loop_known}

chain_last : (code : List ℕ) (ls : List ℕ) (last q : ℕ) → ((y : ℕ) → IsIn y ls → y < q) → Chain code ls last → last ≤ q
chain_last code [] last q below h = let e : last ≡ 0 = h in omega arith
chain_last code (y ∷ ys) last q below h = let e : last ≡ y = h.0 in let l : y < q = below y (inl refl) in omega arith

-- the cell after it waits now
leaving : (old new : List ℕ) (ls : List ℕ) (own q : ℕ) → ((y : ℕ) → IsIn y ls → y < q) → SameBelow q old new → slice_index new (q + 1) ≡ own → Leaving old new q ls (Some own) ((q + 1) ∷ ls) (Some (q + 1))
leaving old new ls own q below same stored =
    record {
      waits = λ y i. inr i;
      waiting = λ y i. ⊎_elim (λ (e : y ≡ q + 1). inr (omega arith)) (λ j. inl j) i;
      none = λ e f. absurd (cc);
      some = λ o e h.
          let is : own ≡ o = cc in
          let chain : Chain old ls own = subst (λ n. Chain old ls n) (sym is) h in
          let kept : Chain new ls own = chain_kept old new ls own (λ y i. same.same y (below y i)) chain in
          let low : own ≤ q = chain_last old ls own q below chain in
          (q + 1, (refl, (refl, omega arith, subst (λ n. Chain new ls n) (sym stored) kept)));
    }

leave_lies : (code : List ℕ) (ls : List ℕ) (q : ℕ) → ((y : ℕ) → IsIn y ls → y < q) → q + 2 ≤ most_cells → slice_index code q ≡ leave_cell → Lies code ((q + 1) ∷ ls) q (q + 2) (Leave End)
leave_lies code ls q below fits a =
    let settled : IsIn q ((q + 1) ∷ ls) → ⊥ = λ i. ⊎_elim (λ (e : q ≡ q + 1). absurd (omega arith)) (λ j. let l : q < q = below q j in absurd (omega arith)) i in
    let first : Cell code q (q + 2) ((q + 1) ∷ ls) q leave_cell = record { is = a; from = omega arith; below = omega arith; stored = omega arith; settled = settled } in
    record {
      longer = omega arith;
      still = record { cell = leave_cell; holds = first; no_jump = omega arith; no_back = omega arith };
      lies = at_once _ q (first, record { waits = inl refl; from = omega arith; below = omega arith }, stays _ (q + 2));
    }

pub adds_leave : (c : Compiler) (old new : List ℕ) (own : ℕ) → c.is_open ≡ true → c.marked ≡ false → c.leaves ≡ Some own → c.here + 2 ≤ most_cells → SameBelow c.here old new → slice_index new c.here ≡ leave_cell → slice_index new (c.here + 1) ≡ own → Added c old (record c { here = c.here + 2; leaves = Some (c.here + 1) }) new (λ used. add_leave used)
adds_leave c old new own op ma in_one fits same a b None h = absurd (cc)
adds_leave c old new own op ma in_one fits same a b (Some d) h =
    let r = h.1 in
    let below = waiting_below c old d r in
    let within : in_loop d.begun ≡ true = (loop_known old r.waiting c.leaves c.part d.begun c.opens d.trees r.end r.stands).1 own in_one in
    let e : add_leave c.start d ≡ Adds (record (with_tree d (Leave End)) { cells = d.cells + 2 }) =
    unmarked_is c old d r ma (tested (in_loop d.begun) Unbalanced (add c.start 2 (Leave End) d))
    ∙ ap (λ b. tested b Unbalanced (add c.start 2 (Leave End) d)) within
    ∙ fits_is c old d r 2 (with_tree d (Leave End)) refl fits
    in
    let all : Within ((c.here + 1) ∷ r.waiting) 0 (c.here + 2) =
    record { each = λ y i. ⊎_elim (λ (e : y ≡ c.here + 1). (omega arith, omega arith)) (λ j. let w = r.within.each y j in let l : y < c.here = w.1 in (w.0, omega arith)) i }
    in
    let now : Leaving old new c.here r.waiting c.leaves ((c.here + 1) ∷ r.waiting) (Some (c.here + 1)) =
    subst (λ l. Leaving old new c.here r.waiting l ((c.here + 1) ∷ r.waiting) (Some (c.here + 1))) (sym in_one) (leaving old new r.waiting own c.here below same b)
    in (
      _,
      (
        e,
        (
          op,
          represents_adds c old d r new (Leave End) 2 ((c.here + 1) ∷ r.waiting) (Some (c.here + 1)) ma fits same now all
              (leave_lies new r.waiting c.here below fits a),
        ),
      ),
    )

outside_refused : (c : Compiler) (code : List ℕ) → c.is_open ≡ true → c.marked ≡ false → c.leaves ≡ None → (o : Option Definition) → Holds c code o → on_open o (add_leave c.start) ≡ Refuses Unbalanced
outside_refused c code op ma out None h = absurd (cc)
outside_refused c code op ma out (Some d) h =
    let r = h.1 in
    let outside : in_loop d.begun ≡ false = (loop_known code r.waiting c.leaves c.part d.begun c.opens d.trees r.end r.stands).0 out in
    unmarked_is c code d r ma (tested (in_loop d.begun) Unbalanced (add c.start 2 (Leave End) d)) ∙ ap (λ b. tested b Unbalanced (add c.start 2 (Leave End) d)) outside

pub refuses_outside : (c : Compiler) (code : List ℕ) → c.is_open ≡ true → c.marked ≡ false → c.leaves ≡ None → Refused c code c code (λ used. add_leave used) refusal.Unbalanced
refuses_outside c code op ma out = (outside_refused c code op ma out, refl, refl)

leave_full : (c : Compiler) (code : List ℕ) (own : ℕ) → c.is_open ≡ true → c.marked ≡ false → c.leaves ≡ Some own → most_cells < c.here + 2 → (o : Option Definition) → Holds c code o → on_open o (add_leave c.start) ≡ Refuses CodeFull
leave_full c code own op ma in_one full None h = absurd (cc)
leave_full c code own op ma in_one full (Some d) h =
    let r = h.1 in
    let within : in_loop d.begun ≡ true = (loop_known code r.waiting c.leaves c.part d.begun c.opens d.trees r.end r.stands).1 own in_one in
    unmarked_is c code d r ma (tested (in_loop d.begun) Unbalanced (add c.start 2 (Leave End) d))
    ∙ ap (λ b. tested b Unbalanced (add c.start 2 (Leave End) d)) within
    ∙ full_is c code d r 2 (with_tree d (Leave End)) refl full

pub refuses_leave : (c : Compiler) (code : List ℕ) (own : ℕ) → c.is_open ≡ true → c.marked ≡ false → c.leaves ≡ Some own → most_cells < c.here + 2 → Refused c code c code (λ used. add_leave used) refusal.CodeFull
refuses_leave c code own op ma in_one full = (leave_full c code own op ma in_one full, refl, refl)
