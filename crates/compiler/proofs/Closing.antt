-- Structures ended: THEN, UNTIL, REPEAT, LOOP and +LOOP. The jumps that lead to their end are written back.
use Rattle.std.proofs.Common.{◌≡◌, ◌≢◌, ℕ, suc, ◌+◌, ◌<◌, ◌≤◌, true, false, List, ◌∷◌, length, refl, sym, ap, ◌∙◌, subst, arith, Option, Some, None}
use Rattle.std.specs.Prelude.{slice_index}
use Rattle.cell_machine.specs.Tree.{LoopKind, Trees, End, If, Until, While, Loop, append}
use Rattle.cell_machine.specs.Layout.{Means, Cell, IsIn, IsStill, Forward, Back, test_cell, jump_cell, back_cell, do_cell, end_of, most_cells}
use Rattle.cell_machine.proofs.Laid.{means_more, at_once, stays, goes_on, hops_once}
use Rattle.compiler.specs.declared.opens.Open.{Open}
use Rattle.compiler.specs.declared.opens.Open.TheVariants as open_at
use Rattle.compiler.specs.declared.definition.Compiler.{Compiler}
use Rattle.compiler.specs.Definition.{Begun, AfterIf, AfterElse, AfterBegin, AfterWhile, AfterDo, Definition, Adds, add_then, add_until, add_repeat, add_loop, then_of, until_of, repeat_of, loop_of}
use Rattle.compiler.specs.Represents.{Waits, Within, Chain, Patched, Stands, Represents, Holds, IsSound}
use Rattle.compiler.specs.Promise.{SameBelow, Added}
use Rattle.compiler.proofs.Grows.{fewer, same_list, unmoved, Lies, stands_adds, stands_le, chain_kept, means_in}
use Rattle.compiler.proofs.Adds.{stands_here, free, waiting_below, waiting_same, within_more, unmarked_is, fits_is}
use Rattle.compiler.proofs.Opening.{represents_begun, Writes, writes_below, means_kept, cell_kept, first_still}

module _ (c : Compiler) (old new : List ℕ) (d : Definition) (r : Represents c old d) (ma : c.marked ≡ false) where
  -- the innermost structure ends: what stood before it, and its tree
  represents_closed : (ls : List ℕ) (last : Option ℕ) (begun : List Begun) (before : Trees) (opens : List Open) (tree : Trees) (x n here : ℕ) → here ≡ c.here + n → here ≤ most_cells → length begun ≡ length opens → SameBelow x old new → ((y : ℕ) → IsIn y ls → slice_index new y ≡ slice_index old y) → Within ls 0 here → Stands old ls last c.part begun opens before x → Lies new ls x here tree → Represents (record c { opens = opens; here = here; leaves = last }) new (record d { begun = begun; trees = append before tree; cells = d.cells + n })
  represents_closed ls last begun before opens tree x n here e fits dep same kept within st piece =
      represents_begun c old d r ma new ls last begun opens (append before tree) x n here e fits dep (stands_le old ls last c.part begun opens before x st) same within
      (stands_adds old new x here tree same ls last ls last (unmoved old new x ls last kept) piece c.part begun opens before st)

-- ---- THEN

then_in : (c : Compiler) (old new : List ℕ) (x : ℕ) (opens : List Open) → c.is_open ≡ true → c.marked ≡ false → Writes old new (x + 1) c.here → (d : Definition) (r : Represents c old d) (begun : List Begun) → d.begun ≡ begun → length begun ≡ suc (length opens) → Stands old r.waiting c.leaves c.part begun (open_at.If x ∷ opens) d.trees c.here → (e : Definition) × ((add_then c.start d ≡ Adds e) × Holds (record c { opens = opens }) new (Some e))
then_in c old new x opens op ma pa d r (AfterIf before ∷ begun) is dep st =
    let fits : c.here ≤ most_cells = r.fits in
    let le : x + 2 ≤ c.here = st.0.rest.ordered in
    let ls = r.waiting in
    let closed : Definition = record d { begun = begun; trees = append before (If d.trees End End) } in
    let n : x ≢ x + 1 = omega arith in
    let test : Cell new x c.here ls x test_cell = cell_kept old new ls x test_cell x c.here (pa.others x n) (omega arith) (omega arith) st.0.test in
    let to : Cell new x c.here ls (x + 1) c.here = record { is = pa.stored; from = omega arith; below = omega arith; stored = omega arith; settled = st.0.free } in
    let e : add_then c.start d ≡ Adds (record closed { cells = d.cells + 0 }) =
    unmarked_is c old d r ma (then_of c.start d.begun d) ∙ ap (λ l. then_of c.start l d) is ∙ fits_is c old d r 0 closed refl (omega arith)
    in (
      _,
      (
        e,
        (
          op,
          represents_closed c old new d r ma ls c.leaves begun before opens (If d.trees End End) x 0 c.here (omega arith) fits (omega arith)
              (writes_below old new (x + 1) c.here x (omega arith) pa)
              (λ y i. let k : y ≢ x + 1 = λ e. st.0.free (subst (λ z. IsIn z ls) e i) in pa.others y k) r.within st.1
              (record {
                longer = omega arith;
                still = record { cell = test_cell; holds = test; no_jump = omega arith; no_back = omega arith };
                lies = at_once _ x (
                  c.here,
                  c.here,
                  (
                    test,
                    to,
                    means_kept old new ls (x + 2) c.here x c.here (λ y f g. let k : y ≢ x + 1 = omega arith in pa.others y k) (omega arith) (omega arith) (x + 2) d.trees c.here st.0.rest.lies,
                    stays _ c.here,
                    stays _ c.here,
                  ),
                );
              }),
        ),
      ),
    )
then_in c old new x opens op ma pa d r _ is dep st = absurd st

pub adds_then : (c : Compiler) (old new : List ℕ) (x : ℕ) (opens : List Open) → c.is_open ≡ true → c.marked ≡ false → c.opens ≡ open_at.If x ∷ opens → Writes old new (x + 1) c.here → Added c old (record c { opens = opens }) new (λ used. add_then used)
adds_then c old new x opens op ma is pa None h = absurd (cc)
adds_then c old new x opens op ma is pa (Some d) h =
    then_in c old new x opens op ma pa d h.1 d.begun refl
    (subst (λ l. length d.begun ≡ length l) is h.1.depth)
    (subst (λ l. Stands old h.1.waiting c.leaves c.part d.begun l d.trees c.here) is (stands_here c old d h.1 ma))

else_then_in : (c : Compiler) (old new : List ℕ) (y : ℕ) (opens : List Open) → c.is_open ≡ true → c.marked ≡ false → Writes old new (y + 1) c.here → (d : Definition) (r : Represents c old d) (begun : List Begun) → d.begun ≡ begun → length begun ≡ suc (length opens) → Stands old r.waiting c.leaves c.part begun (open_at.Else y ∷ opens) d.trees c.here → (e : Definition) × ((add_then c.start d ≡ Adds e) × Holds (record c { opens = opens }) new (Some e))
else_then_in c old new y opens op ma pa d r (AfterElse before a ∷ begun) is dep st =
    let fits : c.here ≤ most_cells = r.fits in
    let at = st.0 in
    let x = at.place in
    let le : x + 2 ≤ y = at.half.ordered in
    let le2 : y + 2 ≤ c.here = at.rest.ordered in
    let ls = r.waiting in
    let closed : Definition = record d { begun = begun; trees = append before (If a d.trees End) } in
    let n : x ≢ y + 1 = omega arith in
    let n1 : x + 1 ≢ y + 1 = omega arith in
    let n2 : y ≢ y + 1 = omega arith in
    let test : Cell new x c.here ls x test_cell = cell_kept old new ls x test_cell x c.here (pa.others x n) (omega arith) (omega arith) at.test in
    let to : Cell new x c.here ls (x + 1) (y + 2) = cell_kept old new ls (x + 1) (y + 2) x c.here (pa.others (x + 1) n1) (omega arith) (omega arith) at.to in
    let jump : Cell new x c.here ls y jump_cell = cell_kept old new ls y jump_cell x c.here (pa.others y n2) (omega arith) (omega arith) at.jump in
    let past : Cell new x c.here ls (y + 1) c.here = record { is = pa.stored; from = omega arith; below = omega arith; stored = omega arith; settled = at.free } in
    let first = means_kept old new ls (x + 2) y x c.here (λ z f g. let k : z ≢ y + 1 = omega arith in pa.others z k) (omega arith) (omega arith) (x + 2) a y at.half.lies in
    let second = means_kept old new ls (y + 2) c.here x c.here (λ z f g. let k : z ≢ y + 1 = omega arith in pa.others z k) (omega arith) (omega arith) (y + 2) d.trees c.here at.rest.lies in
    let e : add_then c.start d ≡ Adds (record closed { cells = d.cells + 0 }) =
    unmarked_is c old d r ma (then_of c.start d.begun d) ∙ ap (λ l. then_of c.start l d) is ∙ fits_is c old d r 0 closed refl (omega arith)
    in (
      _,
      (
        e,
        (
          op,
          represents_closed c old new d r ma ls c.leaves begun before opens (If a d.trees End) x 0 c.here (omega arith) fits (omega arith)
              (writes_below old new (y + 1) c.here x (omega arith) pa)
              (λ z i. let k : z ≢ y + 1 = λ e. at.free (subst (λ w. IsIn w ls) e i) in pa.others z k) r.within st.1
              (record {
                longer = omega arith;
                still = record { cell = test_cell; holds = test; no_jump = omega arith; no_back = omega arith };
                lies = at_once _ x (y + 2, c.here, (test, to, goes_on _ _ a (x + 2) y c.here first (hops_once _ y c.here (Forward jump past (omega arith))), second, stays _ c.here));
              }),
        ),
      ),
    )
else_then_in c old new y opens op ma pa d r _ is dep st = absurd st

pub adds_else_then : (c : Compiler) (old new : List ℕ) (y : ℕ) (opens : List Open) → c.is_open ≡ true → c.marked ≡ false → c.opens ≡ open_at.Else y ∷ opens → Writes old new (y + 1) c.here → Added c old (record c { opens = opens }) new (λ used. add_then used)
adds_else_then c old new y opens op ma is pa None h = absurd (cc)
adds_else_then c old new y opens op ma is pa (Some d) h =
    else_then_in c old new y opens op ma pa d h.1 d.begun refl
    (subst (λ l. length d.begun ≡ length l) is h.1.depth)
    (subst (λ l. Stands old h.1.waiting c.leaves c.part d.begun l d.trees c.here) is (stands_here c old d h.1 ma))

-- ---- UNTIL

until_in : (c : Compiler) (old new : List ℕ) (b : ℕ) (opens : List Open) → c.is_open ≡ true → c.marked ≡ false → c.here + 2 ≤ most_cells → SameBelow c.here old new → slice_index new c.here ≡ test_cell → slice_index new (c.here + 1) ≡ b → (d : Definition) (r : Represents c old d) (begun : List Begun) → d.begun ≡ begun → length begun ≡ suc (length opens) → Stands old r.waiting c.leaves c.part begun (open_at.Begin b ∷ opens) d.trees c.here → (e : Definition) × ((add_until c.start d ≡ Adds e) × Holds (record c { opens = opens; here = c.here + 2 }) new (Some e))
until_in c old new b opens op ma fits below t f d r (AfterBegin before ∷ begun) is dep st =
    let le : b ≤ c.here = st.0.rest.ordered in
    let ls = r.waiting in
    let closed : Definition = record d { begun = begun; trees = append before (Until d.trees End) } in
    let at_test : Cell new b (c.here + 2) ls c.here test_cell =
    record { is = t; from = le; below = omega arith; stored = omega arith; settled = free c old d r c.here (omega arith) }
    in
    let at_back : Cell new b (c.here + 2) ls (c.here + 1) b =
    record { is = f; from = omega arith; below = omega arith; stored = omega arith; settled = free c old d r (c.here + 1) (omega arith) }
    in
    let e : add_until c.start d ≡ Adds (record closed { cells = d.cells + 2 }) =
    unmarked_is c old d r ma (until_of c.start d.begun d) ∙ ap (λ l. until_of c.start l d) is ∙ fits_is c old d r 2 closed refl fits
    in (
      _,
      (
        e,
        (
          op,
          represents_closed c old new d r ma ls c.leaves begun before opens (Until d.trees End) b 2 (c.here + 2) refl fits (omega arith)
              (fewer old new b c.here le below) (waiting_same c old d r new below) (within_more c old d r 2) st.1
              (record {
                longer = omega arith;
                still = first_still old new ls b d.trees c.here (c.here + 2) below le (omega arith) at_test st.0.started;
                lies = at_once _ b (c.here, (means_in old new ls ls b c.here b (c.here + 2) below (same_list c.here ls) (omega arith) (omega arith) b d.trees c.here st.0.rest.lies, at_test, at_back, stays _ (c.here + 2)));
              }),
        ),
      ),
    )
until_in c old new b opens op ma fits below t f d r _ is dep st = absurd st

pub adds_until : (c : Compiler) (old new : List ℕ) (b : ℕ) (opens : List Open) → c.is_open ≡ true → c.marked ≡ false → c.opens ≡ open_at.Begin b ∷ opens → c.here + 2 ≤ most_cells → SameBelow c.here old new → slice_index new c.here ≡ test_cell → slice_index new (c.here + 1) ≡ b → Added c old (record c { opens = opens; here = c.here + 2 }) new (λ used. add_until used)
adds_until c old new b opens op ma is fits below t f None h = absurd (cc)
adds_until c old new b opens op ma is fits below t f (Some d) h =
    until_in c old new b opens op ma fits below t f d h.1 d.begun refl
    (subst (λ l. length d.begun ≡ length l) is h.1.depth)
    (subst (λ l. Stands old h.1.waiting c.leaves c.part d.begun l d.trees c.here) is (stands_here c old d h.1 ma))

-- ---- REPEAT: a jump back at the end, and the test goes past it

repeat_in : (c : Compiler) (old mid new : List ℕ) (b m : ℕ) (opens : List Open) → c.is_open ≡ true → c.marked ≡ false → c.here + 2 ≤ most_cells → SameBelow c.here old mid → slice_index mid c.here ≡ back_cell → slice_index mid (c.here + 1) ≡ b → Writes mid new (m + 1) (c.here + 2) → (d : Definition) (r : Represents c old d) (begun : List Begun) → d.begun ≡ begun → length begun ≡ suc (length opens) → Stands old r.waiting c.leaves c.part begun (open_at.While b m ∷ opens) d.trees c.here → (e : Definition) × ((add_repeat c.start d ≡ Adds e) × Holds (record c { opens = opens; here = c.here + 2 }) new (Some e))
repeat_in c old mid new b m opens op ma fits below t f pa d r (AfterWhile before head ∷ begun) is dep st =
    let at = st.0 in
    let le : b ≤ m = at.half.ordered in
    let le2 : m + 2 ≤ c.here = at.rest.ordered in
    let ls = r.waiting in
    let closed : Definition = record d { begun = begun; trees = append before (While head d.trees End) } in
    let same : (y : ℕ) → y ≢ m + 1 → y < c.here → slice_index new y ≡ slice_index old y = λ y n l. pa.others y n ∙ below.same y l in
    let n : m ≢ m + 1 = omega arith in
    let n1 : c.here ≢ m + 1 = omega arith in
    let n2 : c.here + 1 ≢ m + 1 = omega arith in
    let test : Cell new b (c.here + 2) ls m test_cell = cell_kept old new ls m test_cell b (c.here + 2) (same m n (omega arith)) le (omega arith) at.test in
    let to : Cell new b (c.here + 2) ls (m + 1) (c.here + 2) = record { is = pa.stored; from = omega arith; below = omega arith; stored = omega arith; settled = at.free } in
    let back : Cell new b (c.here + 2) ls c.here back_cell =
    record { is = pa.others c.here n1 ∙ t; from = omega arith; below = omega arith; stored = omega arith; settled = free c old d r c.here (omega arith) }
    in
    let back_to : Cell new b (c.here + 2) ls (c.here + 1) b =
    record { is = pa.others (c.here + 1) n2 ∙ f; from = omega arith; below = omega arith; stored = omega arith; settled = free c old d r (c.here + 1) (omega arith) }
    in
    let first = means_kept old new ls b m b (c.here + 2) (λ y v w. let k : y ≢ m + 1 = omega arith in same y k (omega arith)) (omega arith) (omega arith) b head m at.half.lies in
    let second = means_kept old new ls (m + 2) c.here b (c.here + 2) (λ y v w. let k : y ≢ m + 1 = omega arith in same y k w) (omega arith) (omega arith) (m + 2) d.trees c.here at.rest.lies in
    let s = at.still in
    let h = s.holds in
    let low : b < m + 1 = h.below in
    let nb : b ≢ m + 1 = omega arith in
    let still : IsStill (Cell new b (c.here + 2) ls) b =
    record { cell = s.cell; holds = record { is = same b nb (omega arith) ∙ h.is; from = omega arith; below = omega arith; stored = h.stored; settled = h.settled }; no_jump = s.no_jump; no_back = s.no_back }
    in
    let e : add_repeat c.start d ≡ Adds (record closed { cells = d.cells + 2 }) =
    unmarked_is c old d r ma (repeat_of c.start d.begun d) ∙ ap (λ l. repeat_of c.start l d) is ∙ fits_is c old d r 2 closed refl fits
    in (
      _,
      (
        e,
        (
          op,
          represents_closed c old new d r ma ls c.leaves begun before opens (While head d.trees End) b 2 (c.here + 2) refl fits (omega arith)
              (record { same = λ y l. let k : y ≢ m + 1 = omega arith in same y k (omega arith) })
              (λ y i. let k : y ≢ m + 1 = λ e. at.free (subst (λ w. IsIn w ls) e i) in same y k (waiting_below c old d r y i)) (within_more c old d r 2) st.1
              (record {
                longer = omega arith;
                still = still;
                lies = at_once _ b (m, c.here + 2, (first, test, to, goes_on _ _ d.trees (m + 2) c.here b second (hops_once _ c.here b (Back back back_to still)), stays _ (c.here + 2)));
              }),
        ),
      ),
    )
repeat_in c old mid new b m opens op ma fits below t f pa d r _ is dep st = absurd st

pub adds_repeat : (c : Compiler) (old mid new : List ℕ) (b m : ℕ) (opens : List Open) → c.is_open ≡ true → c.marked ≡ false → c.opens ≡ open_at.While b m ∷ opens → c.here + 2 ≤ most_cells → SameBelow c.here old mid → slice_index mid c.here ≡ back_cell → slice_index mid (c.here + 1) ≡ b → Writes mid new (m + 1) (c.here + 2) → Added c old (record c { opens = opens; here = c.here + 2 }) new (λ used. add_repeat used)
adds_repeat c old mid new b m opens op ma is fits below t f pa None h = absurd (cc)
adds_repeat c old mid new b m opens op ma is fits below t f pa (Some d) h =
    repeat_in c old mid new b m opens op ma fits below t f pa d h.1 d.begun refl
    (subst (λ l. length d.begun ≡ length l) is h.1.depth)
    (subst (λ l. Stands old h.1.waiting c.leaves c.part d.begun l d.trees c.here) is (stands_here c old d h.1 ma))

-- ---- LOOP and +LOOP: the end of a turn, and each LEAVE of the loop goes past it

loop_in : (c : Compiler) (old mid new : List ℕ) (kind : LoopKind) (x last : ℕ) (outer : Option ℕ) (opens : List Open) → c.is_open ≡ true → c.marked ≡ false → c.here + 2 ≤ most_cells → SameBelow c.here old mid → slice_index mid c.here ≡ end_of kind → slice_index mid (c.here + 1) ≡ x + 1 → ((own : ℕ) → c.leaves ≡ Some own → last ≡ own) → ((ls : List ℕ) → Chain mid ls last → Patched mid ls (c.here + 2) new) → (d : Definition) (r : Represents c old d) (begun : List Begun) → d.begun ≡ begun → length begun ≡ suc (length opens) → Stands old r.waiting c.leaves c.part begun (open_at.Do x outer ∷ opens) d.trees c.here → (e : Definition) × ((add_loop c.start kind d ≡ Adds e) × Holds (record c { opens = opens; here = c.here + 2; leaves = outer }) new (Some e))
loop_in c old mid new kind x last outer opens op ma fits below t f last_is patch d r (AfterDo before ∷ begun) is dep st =
    let at = st.0 in
    let le : x + 1 ≤ c.here = at.rest.ordered in
    let ls = r.waiting in
    let closed : Definition = record d { begun = begun; trees = append before (Loop kind d.trees End) } in
    let chain : Chain mid ls last = subst (λ n. Chain mid ls n) (sym (last_is at.own at.last_is)) (chain_kept old mid ls at.own (waiting_same c old d r mid below) at.chain) in
    let p = patch ls chain in
    let same : (y : ℕ) → (IsIn y ls → ⊥) → y < c.here → slice_index new y ≡ slice_index old y = λ y n l. p.others y n ∙ below.same y l in
    let apart : (y : ℕ) → x < y → IsIn y at.outer → ⊥ = λ y l i. let k : y < x = (at.outside.each y i).1 in absurd (omega arith) in
    let early : (y : ℕ) → y ≤ x → IsIn y ls → ⊥ = λ y l i. let k : x < y = at.after y i in absurd (omega arith) in
    let begins : Cell new x (c.here + 2) at.outer x do_cell = cell_kept old new at.outer x do_cell x (c.here + 2) (same x (early x (omega arith)) (omega arith)) (omega arith) (omega arith) at.begins in
    let ends : Cell new x (c.here + 2) at.outer c.here (end_of kind) =
    record { is = p.others c.here (free c old d r c.here (omega arith)) ∙ t; from = omega arith; below = omega arith; stored = omega arith; settled = apart c.here (omega arith) }
    in
    let again : Cell new x (c.here + 2) at.outer (c.here + 1) (x + 1) =
    record { is = p.others (c.here + 1) (free c old d r (c.here + 1) (omega arith)) ∙ f; from = omega arith; below = omega arith; stored = omega arith; settled = apart (c.here + 1) (omega arith) }
    in
    let turn : Means (Cell new x (c.here + 2) at.outer) (λ y. Cell new x (c.here + 2) at.outer y (c.here + 2)) (x + 1) d.trees c.here =
    means_more (Cell old (x + 1) c.here ls) (Cell new x (c.here + 2) at.outer)
    (λ y v w. let lo : x + 1 ≤ y = w.from in let hi : y < c.here = w.below in record { is = same y w.settled hi ∙ w.is; from = omega arith; below = omega arith; stored = w.stored; settled = apart y (omega arith) })
    (Waits (x + 1) c.here ls) (λ y. Cell new x (c.here + 2) at.outer y (c.here + 2))
    (λ y w. let lo : x + 1 ≤ y = w.from in let hi : y < c.here = w.below in record { is = p.there y w.waits; from = omega arith; below = omega arith; stored = omega arith; settled = apart y (omega arith) })
    (x + 1) d.trees c.here at.rest.lies
    in
    let e : add_loop c.start kind d ≡ Adds (record closed { cells = d.cells + 2 }) =
    unmarked_is c old d r ma (loop_of c.start kind d.begun d) ∙ ap (λ l. loop_of c.start kind l d) is ∙ fits_is c old d r 2 closed refl fits
    in (
      _,
      (
        e,
        (
          op,
          represents_closed c old new d r ma at.outer outer begun before opens (Loop kind d.trees End) x 2 (c.here + 2) refl fits (omega arith)
              (record { same = λ y l. same y (early y (omega arith)) (omega arith) })
              (λ y i. let k : y < x = (at.outside.each y i).1 in same y (early y (omega arith)) (omega arith))
              (record { each = λ y i. let k : y < x = (at.outside.each y i).1 in ((at.outside.each y i).0, omega arith) }) st.1
              (record {
                longer = omega arith;
                still = record { cell = do_cell; holds = begins; no_jump = omega arith; no_back = omega arith };
                lies = at_once _ x (c.here, (begins, turn, ends, again, stays _ (c.here + 2)));
              }),
        ),
      ),
    )
loop_in c old mid new kind x last outer opens op ma fits below t f last_is patch d r _ is dep st = absurd st

pub adds_loop : (c : Compiler) (old mid new : List ℕ) (kind : LoopKind) (x last : ℕ) (outer : Option ℕ) (opens : List Open) → c.is_open ≡ true → c.marked ≡ false → c.opens ≡ open_at.Do x outer ∷ opens → c.here + 2 ≤ most_cells → SameBelow c.here old mid → slice_index mid c.here ≡ end_of kind → slice_index mid (c.here + 1) ≡ x + 1 → ((own : ℕ) → c.leaves ≡ Some own → last ≡ own) → ((ls : List ℕ) → Chain mid ls last → Patched mid ls (c.here + 2) new) → Added c old (record c { opens = opens; here = c.here + 2; leaves = outer }) new (λ used. add_loop used kind)
adds_loop c old mid new kind x last outer opens op ma is fits below t f last_is patch None h = absurd (cc)
adds_loop c old mid new kind x last outer opens op ma is fits below t f last_is patch (Some d) h =
    loop_in c old mid new kind x last outer opens op ma fits below t f last_is patch d h.1 d.begun refl
    (subst (λ l. length d.begun ≡ length l) is h.1.depth)
    (subst (λ l. Stands old h.1.waiting c.leaves c.part d.begun l d.trees c.here) is (stands_here c old d h.1 ma))

-- the LEAVEs of the innermost loop, as they are found when it ends
waiting_in : (c : Compiler) (old mid : List ℕ) (x last : ℕ) (outer : Option ℕ) (opens : List Open) → SameBelow c.here old mid → ((own : ℕ) → c.leaves ≡ Some own → last ≡ own) → (d : Definition) (r : Represents c old d) (begun : List Begun) → Stands old r.waiting c.leaves c.part begun (open_at.Do x outer ∷ opens) d.trees c.here → (ls : List ℕ) × (Chain mid ls last × ((y : ℕ) → IsIn y ls → (x < y) × (y < c.here)))
waiting_in c old mid x last outer opens below last_is d r (AfterDo before ∷ begun) st =
    let at = st.0 in
    (r.waiting, (subst (λ n. Chain mid r.waiting n) (sym (last_is at.own at.last_is)) (chain_kept old mid r.waiting at.own (waiting_same c old d r mid below) at.chain), λ y i. (at.after y i, waiting_below c old d r y i)))
waiting_in c old mid x last outer opens below last_is d r _ st = absurd st

pub waiting_at : (c : Compiler) (old mid : List ℕ) (x last : ℕ) (outer : Option ℕ) (opens : List Open) → IsSound c old → c.is_open ≡ true → c.marked ≡ false → c.opens ≡ open_at.Do x outer ∷ opens → SameBelow c.here old mid → ((own : ℕ) → c.leaves ≡ Some own → last ≡ own) → (ls : List ℕ) × (Chain mid ls last × ((y : ℕ) → IsIn y ls → (x < y) × (y < c.here)))
waiting_at c old mid x last outer opens (None, h) op ma is below last_is = absurd (cc)
waiting_at c old mid x last outer opens (Some d, h) op ma is below last_is =
    waiting_in c old mid x last outer opens below last_is d h.1 d.begun (subst (λ l. Stands old h.1.waiting c.leaves c.part d.begun l d.trees c.here) is (stands_here c old d h.1 ma))
