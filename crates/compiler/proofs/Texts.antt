-- A text added to the open definition.
use Rattle.std.proofs.Common.{◌≡◌, ◌≢◌, ℕ, ◌+◌, ◌/◌, ◌*◌, ◌<◌, ◌≤◌, true, false, List, [], ◌∷◌, length, refl, sym, ap, ◌∙◌, subst, arith, Some, None}
use Rattle.std.specs.Prelude.{slice_index}
use Rattle.cell_machine.specs.Tree.{End, Text, TextKind, Prints, AbortsWith}
use Rattle.cell_machine.specs.Layout.{Cell, IsIn, TextAt, Bytes, Reaches, text_cells, text_length, text_cell, jump_cell, back_cell, most_cells}
use Rattle.cell_machine.proofs.Laid.{at_once, stays}
use Rattle.cell_machine.proofs.Texts.{cells_are}
use Rattle.compiler.specs.declared.definition.Compiler.{Compiler}
use Rattle.compiler.specs.Definition.{Adds, with_tree, add, add_text}
use Rattle.compiler.specs.Promise.{SameBelow, Added}
use Rattle.compiler.proofs.Grows.{Lies}
use Rattle.compiler.proofs.Adds.{cell_new, waiting_below, unmarked_is, fits_is, represents_more}

module _ (code : List ℕ) (ls : List ℕ) (q : ℕ) (below : (z : ℕ) → IsIn z ls → z < q) where
  bytes_in : (p r : ℕ) (s : List ℕ) → q ≤ p → p + (length s + 1) / 2 ≤ r → r ≤ most_cells → Bytes (λ y v. slice_index code y ≡ v) p s → Bytes (Cell code q r ls) p s
  bytes_in p r [] lo hi most h = tt
  bytes_in p r (a ∷ []) lo hi most h = cell_new code ls q below r p a lo (omega arith) most h
  bytes_in p r (a ∷ b ∷ s) lo hi most h =
      (cell_new code ls q below r p (a + 256 * b) lo (omega arith) most h.0, bytes_in (p + 1) r s (omega arith) (omega arith) most h.1)

  text_still : (kind : TextKind) → (text_cell kind ≢ jump_cell) × (text_cell kind ≢ back_cell)
  text_still Prints = (omega arith, omega arith)
  text_still AbortsWith = (omega arith, omega arith)

  pub text_lies : (kind : TextKind) (s : List ℕ) (r : ℕ) → r ≡ q + (2 + (length s + 1) / 2) → r ≤ most_cells → slice_index code q ≡ text_cell kind → TextAt code (q + 1) s → Lies code ls q r (Text kind s End)
  text_lies kind s r is most a t =
      let first = cell_new code ls q below r q (text_cell kind) (omega arith) (omega arith) most a in
      let apart = text_still kind in
      let C = Cell code q r ls in
      let next : q + 1 + 1 ≡ q + 2 = omega arith in
      let bytes : Bytes (λ y v. slice_index code y ≡ v) (q + 2) s = subst (λ n. Bytes (λ y v. slice_index code y ≡ v) n s) next t.lies in
      let cells : text_cells C s ≡ (length s + 1) / 2 = cells_are C s in
      let end : r ≡ q + 2 + text_cells C s = omega arith in
      record {
        longer = omega arith;
        still = record { cell = text_cell kind; holds = first; no_jump = apart.0; no_back = apart.1 };
        lies = at_once _ q (
          first,
          cell_new code ls q below r (q + 1) (text_length s) (omega arith) (omega arith) most t.count,
          bytes_in (q + 2) r s (omega arith) (omega arith) most bytes,
          subst (λ n. Reaches C n r) end (stays C r),
          t.is_text,
        );
      }

pub adds_text : (c : Compiler) (old new : List ℕ) (kind : TextKind) (s : List ℕ) (n : ℕ) → n ≡ 2 + (length s + 1) / 2 → c.is_open ≡ true → c.marked ≡ false → c.here + n ≤ most_cells → SameBelow c.here old new → slice_index new c.here ≡ text_cell kind → TextAt new (c.here + 1) s → Added c old (record c { here = c.here + n }) new (λ used. add_text used kind s)
adds_text c old new kind s n is op ma fits same a t None h = absurd (cc)
adds_text c old new kind s n is op ma fits same a t (Some d) h =
    let r = h.1 in
    let e : add_text c.start kind s d ≡ Adds (record (with_tree d (Text kind s End)) { cells = d.cells + n }) =
    unmarked_is c old d r ma (add c.start (2 + (length s + 1) / 2) (Text kind s End) d)
    ∙ ap (λ k. add c.start k (Text kind s End) d) (sym is)
    ∙ fits_is c old d r n (with_tree d (Text kind s End)) refl fits
    in (
      _,
      (
        e,
        (
          op,
          represents_more c old d r new (Text kind s End) n ma fits same
              (text_lies new r.waiting c.here (waiting_below c old d r) kind s (c.here + n) (omega arith) fits a t),
        ),
      ),
    )
