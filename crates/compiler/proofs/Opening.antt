-- Structures begun: IF, BEGIN, DO, and those that turn: ELSE, WHILE.
use Rattle.std.proofs.Common.{◌≡◌, ◌≢◌, ℕ, suc, ◌+◌, ◌<◌, ◌≤◌, true, false, List, [], ◌∷◌, length, refl, sym, ap, ◌∙◌, subst, arith, inl, inr, Option, Some, None, nat_lt}
use Rattle.std.proofs.lemmas.Bool.Decides.{nat_tests}
use Rattle.std.specs.Prelude.{slice_index}
use Rattle.cell_machine.specs.Tree.{Trees, End}
use Rattle.cell_machine.specs.Fault.{CodeFull}
use Rattle.cell_machine.specs.Layout.{Means, Cell, IsIn, IsStill, test_cell, jump_cell, do_cell, most_cells}
use Rattle.cell_machine.proofs.Laid.{means_more, stays}
use Rattle.compiler.specs.declared.opens.Open.{Open}
use Rattle.compiler.specs.declared.opens.Open.TheVariants as open_at
use Rattle.compiler.specs.declared.definition.Compiler.{Compiler}
use Rattle.compiler.specs.Definition.{Begun, AfterIf, AfterElse, AfterBegin, AfterWhile, AfterDo, Definition, Adds, tested, with_cells, most_begun, begin, add_if, add_else, add_begin, add_while, add_do, else_of, while_of}
use Rattle.compiler.specs.Represents.{Waits, Within, Segment, Fixed, Started, Stands, Represents, Holds}
use Rattle.compiler.specs.Promise.{SameBelow, Added}
use Rattle.compiler.proofs.Grows.{fewer, same_list, segment_in, still_in, stands_kept, stands_le, ended_kept}
use Rattle.compiler.proofs.Adds.{stands_here, free, waiting_below, waiting_same, within_more, unmarked_is, fits_is}

-- only this cell may differ
pub record Writes (old new : List ℕ) (x v : ℕ) : Type 0 where
  pub stored : slice_index new x ≡ v
  pub others : (y : ℕ) → y ≢ x → slice_index new y ≡ slice_index old y

pub writes_below : (old new : List ℕ) (x v q : ℕ) → q ≤ x → Writes old new x v → SameBelow q old new
writes_below old new x v q h p = record { same = λ y l. let n : y ≢ x = omega arith in p.others y n }

-- a stretch whose cells stay keeps its meaning, within a longer one
pub means_kept : (old new ls : List ℕ) (p q r s : ℕ) → ((y : ℕ) → p ≤ y → y < q → slice_index new y ≡ slice_index old y) → r ≤ p → q ≤ s → (a : ℕ) (t : Trees) (b : ℕ) → Means (Cell old p q ls) (Waits p q ls) a t b → Means (Cell new r s ls) (Waits r s ls) a t b
means_kept old new ls p q r s same lo hi a t b m =
    means_more _ _
    (λ y v c. let f : p ≤ y = c.from in let g : y < q = c.below in record { is = same y f g ∙ c.is; from = omega arith; below = omega arith; stored = c.stored; settled = c.settled })
    _ _ (λ y w. let f : p ≤ y = w.from in let g : y < q = w.below in record { waits = w.waits; from = omega arith; below = omega arith }) a t b m

-- a cell that stays, in a longer stretch
pub cell_kept : (old new ls : List ℕ) (y v r s : ℕ) → slice_index new y ≡ slice_index old y → r ≤ y → y < s → Fixed old ls y v → Cell new r s ls y v
cell_kept old new ls y v r s same lo hi f =
    record { is = same ∙ f.is; from = lo; below = hi; stored = f.stored; settled = f.settled }

pub fixed_new : (new ls : List ℕ) (y v : ℕ) → y < most_cells → (IsIn y ls → ⊥) → slice_index new y ≡ v → Fixed new ls y v
fixed_new new ls y v st n e = record { is = e; from = omega arith; below = omega arith; stored = st; settled = n }

pub empty_segment : (code ls : List ℕ) (q : ℕ) → Segment code ls q End q
empty_segment code ls q = record { lies = stays _ q; ordered = omega arith }

-- a loop begins with a cell that is no jump: the first of its trees, or the test after it
pub first_still : (old new ls : List ℕ) (b : ℕ) (t : Trees) (q s : ℕ) → SameBelow q old new → b ≤ q → q < s → Cell new b s ls q test_cell → Started old ls b t q → IsStill (Cell new b s ls) b
first_still old new ls b t q s same le lt c (inl e) =
    record { cell = test_cell; holds = subst (λ n. Cell new b s ls n test_cell) (sym e.0) c; no_jump = omega arith; no_back = omega arith }
first_still old new ls b t q s same le lt c (inr i) = still_in old new ls ls b q b s same (same_list q ls) (omega arith) (omega arith) b i

module _ (c : Compiler) (old : List ℕ) (d : Definition) (r : Represents c old d) (ma : c.marked ≡ false) where
  -- the innermost structure changes, or one more begins
  pub represents_begun : (new : List ℕ) (ls : List ℕ) (last : Option ℕ) (begun : List Begun) (opens : List Open) (trees : Trees) (x n here : ℕ) → here ≡ c.here + n → here ≤ most_cells → length begun ≡ length opens → c.part ≤ x → SameBelow x old new → Within ls 0 here → Stands new ls last c.part begun opens trees here → Represents (record c { opens = opens; here = here; leaves = last }) new (record d { begun = begun; trees = trees; cells = d.cells + n })
  represents_begun new ls last begun opens trees x n here e fits dep le same within st =
      let size : c.start + d.cells ≡ c.here = r.size in
      record {
        waiting = ls;
        named = r.named;
        marked = r.marked;
        size = omega arith;
        fits = fits;
        within = within;
        ended = ended_kept old new c.start d.parts c.part (fewer old new c.part x le same) r.ended;
        depth = dep;
        end = here;
        plain = λ e. refl;
        mark = λ e. absurd (cc);
        stands = st;
      }

  part_here : c.part ≤ c.here
  part_here = stands_le old r.waiting c.leaves c.part d.begun c.opens d.trees c.here (stands_here c old d r ma)

  -- a structure more is let in
  begins_is : (b : Begun) (n : ℕ) → length c.opens < most_begun → c.here + n ≤ most_cells → begin c.start b n d ≡ Adds (record d { begun = b ∷ d.begun; trees = End; cells = d.cells + n })
  begins_is b n few fits =
      let depth : length d.begun ≡ length c.opens = r.depth in
      let begun : Definition = record d { begun = b ∷ d.begun; trees = End } in
      let few' : nat_lt (length d.begun) most_begun ≡ true = grind (arith, nat_tests) in
      unmarked_is c old d r ma (tested (nat_lt (length d.begun) most_begun) CodeFull (with_cells c.start n begun))
      ∙ ap (λ b. tested b CodeFull (with_cells c.start n begun)) few' ∙ fits_is c old d r n begun refl fits

  -- the structures so far, below what is new
  outer_here : (new : List ℕ) → SameBelow c.here old new → Stands new r.waiting c.leaves c.part d.begun c.opens d.trees c.here
  outer_here new same =
      stands_kept old new r.waiting c.leaves c.part d.begun c.opens d.trees c.here (waiting_same c old d r new same) same (stands_here c old d r ma)

-- ---- IF

pub adds_if : (c : Compiler) (old new : List ℕ) → c.is_open ≡ true → c.marked ≡ false → length c.opens < most_begun → c.here + 2 ≤ most_cells → SameBelow c.here old new → slice_index new c.here ≡ test_cell → Added c old (record c { opens = open_at.If c.here ∷ c.opens; here = c.here + 2 }) new (λ used. add_if used)
adds_if c old new op ma few fits below a None h = absurd (cc)
adds_if c old new op ma few fits below a (Some d) h =
    let r = h.1 in (
      _,
      (
        begins_is c old d r ma (AfterIf d.trees) 2 few fits,
        (
          op,
          represents_begun c old d r ma new r.waiting c.leaves _ _ End c.here 2 (c.here + 2) refl fits (ap suc r.depth) (part_here c old d r ma) below (within_more c old d r 2) (
            record {
              test = fixed_new new r.waiting c.here test_cell (omega arith) (free c old d r c.here (omega arith)) a;
              free = free c old d r (c.here + 1) (omega arith);
              rest = empty_segment new r.waiting (c.here + 2);
            },
            outer_here c old d r ma new below,
          ),
        ),
      ),
    )

-- ---- BEGIN

pub adds_begin : (c : Compiler) (old : List ℕ) → c.is_open ≡ true → c.marked ≡ false → length c.opens < most_begun → Added c old (record c { opens = open_at.Begin c.here ∷ c.opens }) old (λ used. add_begin used)
adds_begin c old op ma few None h = absurd (cc)
adds_begin c old op ma few (Some d) h =
    let r = h.1 in
    let fits : c.here ≤ most_cells = r.fits in
    let within : Within r.waiting 0 c.here = r.within in (
      _,
      (
        begins_is c old d r ma (AfterBegin d.trees) 0 few (omega arith),
        (
          op,
          represents_begun c old d r ma old r.waiting c.leaves _ _ End c.here 0 c.here (omega arith) fits (ap suc r.depth) (part_here c old d r ma) (record { same = λ y l. refl }) within
              (record { started = inl (refl, refl); rest = empty_segment old r.waiting c.here }, stands_here c old d r ma),
        ),
      ),
    )

-- ---- DO

pub adds_do : (c : Compiler) (old new : List ℕ) → c.is_open ≡ true → c.marked ≡ false → length c.opens < most_begun → c.here + 1 ≤ most_cells → SameBelow c.here old new → slice_index new c.here ≡ do_cell → Added c old (record c { opens = open_at.Do c.here c.leaves ∷ c.opens; here = c.here + 1; leaves = Some 0 }) new (λ used. add_do used)
adds_do c old new op ma few fits below a None h = absurd (cc)
adds_do c old new op ma few fits below a (Some d) h =
    let r = h.1 in (
      _,
      (
        begins_is c old d r ma (AfterDo d.trees) 1 few fits,
        (
          op,
          represents_begun c old d r ma new [] (Some 0) _ _ End c.here 1 (c.here + 1) refl fits (ap suc r.depth) (part_here c old d r ma) below (record { each = λ y i. absurd i }) (
            record {
              outer = r.waiting;
              own = 0;
              last_is = refl;
              begins = fixed_new new r.waiting c.here do_cell (omega arith) (free c old d r c.here (omega arith)) a;
              chain = refl;
              after = λ y i. absurd i;
              outside = r.within;
              rest = empty_segment new [] (c.here + 1);
            },
            outer_here c old d r ma new below,
          ),
        ),
      ),
    )

-- ---- ELSE: first a jump at the end, then the test goes past it

else_in : (c : Compiler) (old mid new : List ℕ) (x : ℕ) (opens : List Open) → c.is_open ≡ true → c.marked ≡ false → c.here + 2 ≤ most_cells → Writes old mid c.here jump_cell → Writes mid new (x + 1) (c.here + 2) → (d : Definition) (r : Represents c old d) (begun : List Begun) → d.begun ≡ begun → length begun ≡ suc (length opens) → Stands old r.waiting c.leaves c.part begun (open_at.If x ∷ opens) d.trees c.here → (e : Definition) × ((add_else c.start d ≡ Adds e) × Holds (record c { opens = open_at.Else c.here ∷ opens; here = c.here + 2 }) new (Some e))
else_in c old mid new x opens op ma fits pj pa d r (AfterIf before ∷ begun) is dep st =
    let le : x + 2 ≤ c.here = st.0.rest.ordered in
    let ls = r.waiting in
    let turned : Definition = record d { begun = AfterElse before d.trees ∷ begun; trees = End } in
    let same : (y : ℕ) → y ≢ x + 1 → y ≢ c.here → slice_index new y ≡ slice_index old y = λ y n m. pa.others y n ∙ pj.others y m in
    let same_x : SameBelow x old new = record { same = λ y l. let n : y ≢ x + 1 = omega arith in let m : y ≢ c.here = omega arith in same y n m } in
    let nh : c.here ≢ x + 1 = omega arith in
    let n : x ≢ x + 1 = omega arith in
    let m : x ≢ c.here = omega arith in
    let e : add_else c.start d ≡ Adds (record turned { cells = d.cells + 2 }) =
    unmarked_is c old d r ma (else_of c.start d.begun d) ∙ ap (λ l. else_of c.start l d) is ∙ fits_is c old d r 2 turned refl fits
    in
    let part : c.part ≤ x = stands_le old ls c.leaves c.part begun opens before x st.1 in
    let outer = stands_kept old new ls c.leaves c.part begun opens before x
    (λ y i. let k : y ≢ x + 1 = λ e. st.0.free (subst (λ z. IsIn z ls) e i) in let l : y < c.here = waiting_below c old d r y i in let j : y ≢ c.here = omega arith in same y k j) same_x st.1
    in (
      _,
      (
        e,
        (
          op,
          represents_begun c old d r ma new ls c.leaves _ _ End x 2 (c.here + 2) refl fits dep part same_x (within_more c old d r 2) (
            record {
              place = x;
              test = cell_kept old new ls x test_cell x (x + 1) (same x n m) (omega arith) (omega arith) st.0.test;
              to = fixed_new new ls (x + 1) (c.here + 2) (omega arith) st.0.free pa.stored;
              half = record { lies = means_kept old new ls (x + 2) c.here (x + 2) c.here (λ y f g. let k : y ≢ x + 1 = omega arith in let j : y ≢ c.here = omega arith in same y k j) (omega arith) (omega arith) (x + 2) d.trees c.here st.0.rest.lies; ordered = le };
              jump = fixed_new new ls c.here jump_cell (omega arith) (free c old d r c.here (omega arith)) (pa.others c.here nh ∙ pj.stored);
              free = free c old d r (c.here + 1) (omega arith);
              rest = empty_segment new ls (c.here + 2);
            },
            outer,
          ),
        ),
      ),
    )
else_in c old mid new x opens op ma fits pj pa d r _ is dep st = absurd st

pub adds_else : (c : Compiler) (old mid new : List ℕ) (x : ℕ) (opens : List Open) → c.is_open ≡ true → c.marked ≡ false → c.opens ≡ open_at.If x ∷ opens → c.here + 2 ≤ most_cells → Writes old mid c.here jump_cell → Writes mid new (x + 1) (c.here + 2) → Added c old (record c { opens = open_at.Else c.here ∷ opens; here = c.here + 2 }) new (λ used. add_else used)
adds_else c old mid new x opens op ma is fits pj pa None h = absurd (cc)
adds_else c old mid new x opens op ma is fits pj pa (Some d) h =
    else_in c old mid new x opens op ma fits pj pa d h.1 d.begun refl
    (subst (λ l. length d.begun ≡ length l) is h.1.depth)
    (subst (λ l. Stands old h.1.waiting c.leaves c.part d.begun l d.trees c.here) is (stands_here c old d h.1 ma))

-- ---- WHILE: a test at the end

while_in : (c : Compiler) (old new : List ℕ) (b : ℕ) (opens : List Open) → c.is_open ≡ true → c.marked ≡ false → c.here + 2 ≤ most_cells → SameBelow c.here old new → slice_index new c.here ≡ test_cell → (d : Definition) (r : Represents c old d) (begun : List Begun) → d.begun ≡ begun → length begun ≡ suc (length opens) → Stands old r.waiting c.leaves c.part begun (open_at.Begin b ∷ opens) d.trees c.here → (e : Definition) × ((add_while c.start d ≡ Adds e) × Holds (record c { opens = open_at.While b c.here ∷ opens; here = c.here + 2 }) new (Some e))
while_in c old new b opens op ma fits below a d r (AfterBegin before ∷ begun) is dep st =
    let le : b ≤ c.here = st.0.rest.ordered in
    let ls = r.waiting in
    let turned : Definition = record d { begun = AfterWhile before d.trees ∷ begun; trees = End } in
    let e : add_while c.start d ≡ Adds (record turned { cells = d.cells + 2 }) =
    unmarked_is c old d r ma (while_of c.start d.begun d) ∙ ap (λ l. while_of c.start l d) is ∙ fits_is c old d r 2 turned refl fits
    in
    let part : c.part ≤ b = stands_le old ls c.leaves c.part begun opens before b st.1 in
    let test : Fixed new ls c.here test_cell = fixed_new new ls c.here test_cell (omega arith) (free c old d r c.here (omega arith)) a in
    let below_b : SameBelow b old new = fewer old new b c.here le below in (
      _,
      (
        e,
        (
          op,
          represents_begun c old d r ma new ls c.leaves _ _ End b 2 (c.here + 2) refl fits dep part below_b (within_more c old d r 2) (
            record {
              still = first_still old new ls b d.trees c.here (c.here + 1) below le (omega arith) (cell_kept new new ls c.here test_cell b (c.here + 1) refl le (omega arith) test) st.0.started;
              half = segment_in old new ls ls b d.trees c.here below (same_list c.here ls) st.0.rest;
              test = test;
              free = free c old d r (c.here + 1) (omega arith);
              rest = empty_segment new ls (c.here + 2);
            },
            stands_kept old new ls c.leaves c.part begun opens before b (waiting_same c old d r new below) below_b st.1,
          ),
        ),
      ),
    )
while_in c old new b opens op ma fits below a d r _ is dep st = absurd st

pub adds_while : (c : Compiler) (old new : List ℕ) (b : ℕ) (opens : List Open) → c.is_open ≡ true → c.marked ≡ false → c.opens ≡ open_at.Begin b ∷ opens → c.here + 2 ≤ most_cells → SameBelow c.here old new → slice_index new c.here ≡ test_cell → Added c old (record c { opens = open_at.While b c.here ∷ opens; here = c.here + 2 }) new (λ used. add_while used)
adds_while c old new b opens op ma is fits below a None h = absurd (cc)
adds_while c old new b opens op ma is fits below a (Some d) h =
    while_in c old new b opens op ma fits below a d h.1 d.begun refl
    (subst (λ l. length d.begun ≡ length l) is h.1.depth)
    (subst (λ l. Stands old h.1.waiting c.leaves c.part d.begun l d.trees c.here) is (stands_here c old d h.1 ma))
