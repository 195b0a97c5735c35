-- Things added to the open definition: a literal, a word, a mark and the word after it; and what a text and a LEAVE
-- share with them.
use Rattle.std.proofs.Common.{◌≡◌, ◌≢◌, ℕ, ◌+◌, ◌<◌, ◌≤◌, Bool, true, false, List, [], ◌∷◌, refl, sym, ap, ◌∙◌, subst, arith, ⊎_elim, Option, Some, None}
use Rattle.std.proofs.lemmas.Bool.Decides.{nat_tests}
use Rattle.std.proofs.lemmas.Bool.{cases_eq}
use Rattle.std.specs.Prelude.{slice_index, nat_le, not, ◌==◌, if◌then◌else◌}
use Rattle.cell_machine.specs.Tree.{Trees, End, Lit, Call, Exit, Compile, append}
use Rattle.cell_machine.specs.Layout.{exit_token, compile_token}
use Rattle.cell_machine.specs.Fault.{CodeFull, Unbalanced}
use Rattle.cell_machine.specs.Layout.{Cell, IsIn, IsCalled, IsAdded, Reaches, literal_cell, most_cells, most_tokens}
use Rattle.cell_machine.proofs.Laid.{at_once, stays}
use Rattle.compiler.specs.declared.definition.Compiler.{Compiler}
use Rattle.compiler.specs.declared.opens.Open.{Open}
use Rattle.compiler.specs.declared.opens.Open.TheVariants as open_at
use Rattle.compiler.specs.Definition.{Begun, AfterIf, AfterElse, AfterBegin, AfterWhile, AfterDo, Definition, Adding, Adds, Refuses, tested, unmarked, with_cells, with_tree, add, add_literal, add_word, add_plain, in_loop}
use Rattle.compiler.specs.Represents.{Waits, Within, Chain, AtDo, Stands, Represents, Holds}
use Rattle.compiler.specs.declared.definition.CompileRefusal.TheVariants as refusal
use Rattle.compiler.specs.Promise.{SameBelow, Added, Refused, on_open}
use Rattle.compiler.proofs.Grows.{fewer, stands_le, Leaving, unmoved, Lies, stands_adds, stands_kept, ended_kept}

-- ---- what is known of the open definition

module _ (c : Compiler) (code : List ℕ) (d : Definition) (r : Represents c code d) where
  -- where no mark stands, the trees go up to the free cells
  pub stands_here : c.marked ≡ false → Stands code r.waiting c.leaves c.part d.begun c.opens d.trees c.here
  stands_here ma = subst (λ n. Stands code r.waiting c.leaves c.part d.begun c.opens d.trees n) (r.plain ma) r.stands

  -- a cell at or past the end waits for nothing
  pub free : (y : ℕ) → c.here ≤ y → IsIn y r.waiting → ⊥
  free y h i = let l : y < c.here = (r.within.each y i).1 in absurd (omega arith)

  pub waiting_below : (y : ℕ) → IsIn y r.waiting → y < c.here
  waiting_below y i = (r.within.each y i).1

  pub waiting_same : (new : List ℕ) → SameBelow c.here code new → (y : ℕ) → IsIn y r.waiting → slice_index new y ≡ slice_index code y
  waiting_same new same y i = same.same y (waiting_below y i)

  pub within_more : (n : ℕ) → Within r.waiting 0 (c.here + n)
  within_more n = record { each = λ y i. ((r.within.each y i).0, let l : y < c.here = (r.within.each y i).1 in omega arith) }

  pub ended_here : (new : List ℕ) → c.marked ≡ false → SameBelow c.here code new → Rattle.compiler.specs.Represents.Ended new c.start d.parts c.part
  ended_here new ma same =
      ended_kept code new c.start d.parts c.part (fewer code new c.part c.here (stands_le code r.waiting c.leaves c.part d.begun c.opens d.trees c.here (stands_here ma)) same) r.ended

  pub unmarked_is : c.marked ≡ false → (a : Adding Definition) → unmarked d a ≡ a
  unmarked_is ma a = ap (λ b. tested (not b) Unbalanced a) (sym r.marked ∙ ma)

  -- the size of what is added fits
  pub fits_is : (n : ℕ) (d' : Definition) → d'.cells ≡ d.cells → c.here + n ≤ most_cells → with_cells c.start n d' ≡ Adds (record d' { cells = d'.cells + n })
  fits_is n d' e h =
      let size : c.start + d.cells ≡ c.here = r.size in
      let t : nat_le (c.start + (d'.cells + n)) most_cells ≡ true = grind (arith, nat_tests) in
      ap (λ b. tested b CodeFull (Adds (record d' { cells = d'.cells + n }))) t

  -- a tree more, up to n cells further
  pub represents_adds : (new : List ℕ) (tree : Trees) (n : ℕ) (more : List ℕ) (last : Option ℕ) → c.marked ≡ false → c.here + n ≤ most_cells → SameBelow c.here code new → Leaving code new c.here r.waiting c.leaves more last → Within more 0 (c.here + n) → Lies new more c.here (c.here + n) tree → Represents (record c { here = c.here + n; leaves = last }) new (record d { trees = append d.trees tree; cells = d.cells + n })
  represents_adds new tree n more last ma fits same leaving within piece =
      let size : c.start + d.cells ≡ c.here = r.size in
      record {
        waiting = more;
        named = r.named;
        marked = r.marked;
        size = omega arith;
        fits = fits;
        within = within;
        ended = ended_here new ma same;
        depth = r.depth;
        end = c.here + n;
        plain = λ e. refl;
        mark = λ e. absurd (cc);
        stands = stands_adds code new c.here (c.here + n) tree same r.waiting c.leaves more last leaving piece c.part d.begun c.opens d.trees (stands_here ma);
      }

  -- the same, where no LEAVE is added
  pub represents_more : (new : List ℕ) (tree : Trees) (n : ℕ) → c.marked ≡ false → c.here + n ≤ most_cells → SameBelow c.here code new → Lies new r.waiting c.here (c.here + n) tree → Represents (record c { here = c.here + n }) new (record d { trees = append d.trees tree; cells = d.cells + n })
  represents_more new tree n ma fits same piece =
      represents_adds new tree n r.waiting c.leaves ma fits same (unmoved code new c.here r.waiting c.leaves (waiting_same new same)) (within_more n) piece

-- ---- what lies in the cells added

module _ (code : List ℕ) (ls : List ℕ) (q : ℕ) (below : (z : ℕ) → IsIn z ls → z < q) where
  pub cell_new : (r y v : ℕ) → q ≤ y → y < r → r ≤ most_cells → slice_index code y ≡ v → Cell code q r ls y v
  cell_new r y v lo hi most e =
      record { is = e; from = lo; below = hi; stored = omega arith; settled = λ i. let h : y < q = below y i in omega arith }

  pub literal_lies : (n : ℕ) → q + 2 ≤ most_cells → slice_index code q ≡ literal_cell → slice_index code (q + 1) ≡ n → Lies code ls q (q + 2) (Lit n End)
  literal_lies n fits a b =
      let first = cell_new (q + 2) q literal_cell (omega arith) (omega arith) fits a in
      record {
        longer = omega arith;
        still = record { cell = literal_cell; holds = first; no_jump = omega arith; no_back = omega arith };
        lies = at_once _ q (first, cell_new (q + 2) (q + 1) n (omega arith) (omega arith) fits b, stays _ (q + 2));
      }

  pub call_lies : (w : ℕ) → IsCalled w → q + 1 ≤ most_cells → slice_index code q ≡ w → Lies code ls q (q + 1) (Call w End)
  call_lies w k fits a =
      let most : w ≤ 4096 = k.most in
      let first = cell_new (q + 1) q w (omega arith) (omega arith) fits a in
      record {
        longer = omega arith;
        still = record { cell = w; holds = first; no_jump = omega arith; no_back = omega arith };
        lies = at_once _ q (k, first, stays _ (q + 1));
      }

  pub exit_lies : q + 1 ≤ most_cells → slice_index code q ≡ exit_token → Lies code ls q (q + 1) (Exit End)
  exit_lies fits a =
      let first = cell_new (q + 1) q exit_token (omega arith) (omega arith) fits a in
      record {
        longer = omega arith;
        still = record { cell = exit_token; holds = first; no_jump = omega arith; no_back = omega arith };
        lies = at_once _ q (first, stays _ (q + 1));
      }

-- ---- literal

pub adds_literal : (c : Compiler) (old new : List ℕ) (v : ℕ) → c.is_open ≡ true → c.marked ≡ false → c.here + 2 ≤ most_cells → SameBelow c.here old new → slice_index new c.here ≡ literal_cell → slice_index new (c.here + 1) ≡ v → Added c old (record c { here = c.here + 2 }) new (λ used. add_literal used v)
adds_literal c old new v op ma fits same a b None h = absurd (cc)
adds_literal c old new v op ma fits same a b (Some d) h =
    let r = h.1 in
    let e : add_literal c.start v d ≡ Adds (record (with_tree d (Lit v End)) { cells = d.cells + 2 }) =
    unmarked_is c old d r ma (add c.start 2 (Lit v End) d) ∙ fits_is c old d r 2 (with_tree d (Lit v End)) refl fits
    in
    (_, (e, (op, represents_more c old d r new (Lit v End) 2 ma fits same (literal_lies new r.waiting c.here (waiting_below c old d r) v fits a b))))

-- ---- words

-- a word that isn't COMPILE's own
word_is : (used w : ℕ) (d : Definition) → d.marked ≡ false → w ≢ compile_token → add_word used w d ≡ (if w == exit_token then tested (not (in_loop d.begun)) Unbalanced (add used 1 (Exit End) d) else add used 1 (Call w End) d)
word_is used w d m n =
    let t : (w == compile_token) ≡ false = grind (arith, nat_tests) in
    ap (λ b. if b then add used 1 (Compile w End) (record d { marked = false }) else add_plain used w d) m
    ∙ ap (λ b. if b then with_cells used 1 (record d { marked = true }) else (if w == exit_token then tested (not (in_loop d.begun)) Unbalanced (add used 1 (Exit End) d) else add used 1 (Call w End) d)) t

pub adds_plain : (c : Compiler) (old new : List ℕ) (w : ℕ) → IsCalled w → c.is_open ≡ true → c.marked ≡ false → c.here + 1 ≤ most_cells → SameBelow c.here old new → slice_index new c.here ≡ w → Added c old (record c { here = c.here + 1 }) new (λ used. add_word used w)
adds_plain c old new w k op ma fits same a None h = absurd (cc)
adds_plain c old new w k op ma fits same a (Some d) h =
    let r = h.1 in
    let n : w ≢ exit_token = k.no_exit in
    let t : (w == exit_token) ≡ false = grind (arith, nat_tests) in
    let e : add_word c.start w d ≡ Adds (record (with_tree d (Call w End)) { cells = d.cells + 1 }) =
    word_is c.start w d (sym r.marked ∙ ma) k.no_compile
    ∙ ap (λ b. if b then tested (not (in_loop d.begun)) Unbalanced (add c.start 1 (Exit End) d) else add c.start 1 (Call w End) d) t
    ∙ fits_is c old d r 1 (with_tree d (Call w End)) refl fits
    in
    (_, (e, (op, represents_more c old d r new (Call w End) 1 ma fits same (call_lies new r.waiting c.here (waiting_below c old d r) w k fits a))))

-- whether a loop is open
pub loop_known : (code : List ℕ) (ls : List ℕ) (last : Option ℕ) (part : ℕ) (bs : List Begun) (os : List Open) (t : Trees) (q : ℕ) → Stands code ls last part bs os t q → (last ≡ None → in_loop bs ≡ false) × ((own : ℕ) → last ≡ Some own → in_loop bs ≡ true)
loop_known code ls last part [] [] t q s = (λ e. refl, λ own e. let n : last ≡ None = s.1 in absurd (cc))
loop_known code ls last part (AfterIf b ∷ bs) (open_at.If x ∷ os) t q s = loop_known code ls last part bs os b x s.1
loop_known code ls last part (AfterElse b a ∷ bs) (open_at.Else y ∷ os) t q s = loop_known code ls last part bs os b s.0.place s.1
loop_known code ls last part (AfterBegin b ∷ bs) (open_at.Begin x ∷ os) t q s = loop_known code ls last part bs os b x s.1
loop_known code ls last part (AfterWhile b h ∷ bs) (open_at.While x m ∷ os) t q s = loop_known code ls last part bs os b x s.1
loop_known code ls last part (AfterDo b ∷ bs) (open_at.Do x outer ∷ os) t q s =
    (λ e. let n : last ≡ Some s.0.own = s.0.last_is in absurd (cc), λ own e. refl)
loop_known code ls last part _ _ t q s = absurd s

pub adds_exit : (c : Compiler) (old new : List ℕ) → c.is_open ≡ true → c.marked ≡ false → c.leaves ≡ None → c.here + 1 ≤ most_cells → SameBelow c.here old new → slice_index new c.here ≡ exit_token → Added c old (record c { here = c.here + 1 }) new (λ used. add_word used exit_token)
adds_exit c old new op ma out fits same a None h = absurd (cc)
adds_exit c old new op ma out fits same a (Some d) h =
    let r = h.1 in
    let outside : in_loop d.begun ≡ false = (loop_known old r.waiting c.leaves c.part d.begun c.opens d.trees r.end r.stands).0 out in
    let n : exit_token ≢ compile_token = omega arith in
    let e : add_word c.start exit_token d ≡ Adds (record (with_tree d (Exit End)) { cells = d.cells + 1 }) =
    word_is c.start exit_token d (sym r.marked ∙ ma) n
    ∙ ap (λ b. tested (not b) Unbalanced (add c.start 1 (Exit End) d)) outside
    ∙ fits_is c old d r 1 (with_tree d (Exit End)) refl fits
    in
    (_, (e, (op, represents_more c old d r new (Exit End) 1 ma fits same (exit_lies new r.waiting c.here (waiting_below c old d r) fits a))))

-- COMPILE makes a mark
pub adds_mark : (c : Compiler) (old new : List ℕ) → c.is_open ≡ true → c.marked ≡ false → c.here + 1 ≤ most_cells → SameBelow c.here old new → slice_index new c.here ≡ compile_token → Added c old (record c { here = c.here + 1; marked = true }) new (λ used. add_word used compile_token)
adds_mark c old new op ma fits same a None h = absurd (cc)
adds_mark c old new op ma fits same a (Some d) h =
    let r = h.1 in
    let size : c.start + d.cells ≡ c.here = r.size in
    let m : d.marked ≡ false = sym r.marked ∙ ma in
    let marked : Definition = record d { marked = true } in
    let e : add_word c.start compile_token d ≡ Adds (record marked { cells = d.cells + 1 }) =
    ap (λ b. if b then add c.start 1 (Compile compile_token End) (record d { marked = false }) else add_plain c.start compile_token d) m
    ∙ fits_is c old d r 1 marked refl fits
    in (
      _,
      (
        e,
        (
          op,
          record {
            waiting = r.waiting;
            named = r.named;
            marked = refl;
            size = omega arith;
            fits = fits;
            within = within_more c old d r 1;
            ended = ended_here c old d r new ma same;
            depth = r.depth;
            end = c.here;
            plain = λ e. absurd (cc);
            mark = λ e. (refl, record { is = a; from = omega arith; below = omega arith; stored = omega arith; settled = free c old d r c.here (omega arith) });
            stands = stands_kept old new r.waiting c.leaves c.part d.begun c.opens d.trees c.here (waiting_same c old d r new same) same (stands_here c old d r ma);
          },
        ),
      ),
    )

-- and the word after it is one that the body adds when it runs
pub adds_marked : (c : Compiler) (old new : List ℕ) (w : ℕ) → IsAdded w → c.is_open ≡ true → c.marked ≡ true → c.here + 1 ≤ most_cells → SameBelow c.here old new → slice_index new c.here ≡ w → Added c old (record c { here = c.here + 1; marked = false }) new (λ used. add_word used w)
adds_marked c old new w token op ma fits same a None h = absurd (cc)
adds_marked c old new w token op ma fits same a (Some d) h =
    let r = h.1 in
    let size : c.start + d.cells ≡ c.here = r.size in
    let m : d.marked ≡ true = sym r.marked ∙ ma in
    let at : r.end + 1 ≡ c.here = (r.mark ma).0 in
    let k = (r.mark ma).1 in
    let clear : Definition = record d { marked = false } in
    let here : c.here + 1 ≡ r.end + 2 = omega arith in
    let below_end : SameBelow r.end old new = fewer old new r.end c.here (omega arith) same in
    let e : add_word c.start w d ≡ Adds (record (with_tree clear (Compile w End)) { cells = d.cells + 1 }) =
    ap (λ b. if b then add c.start 1 (Compile w End) clear else add_plain c.start w d) m
    ∙ fits_is c old d r 1 (with_tree clear (Compile w End)) refl fits
    in
    let mark : Cell new r.end (c.here + 1) r.waiting r.end compile_token =
    record { is = same.same r.end (omega arith) ∙ k.is; from = omega arith; below = omega arith; stored = omega arith; settled = k.settled }
    in
    let word : Cell new r.end (c.here + 1) r.waiting (r.end + 1) w =
    record { is = ap (λ n. slice_index new n) at ∙ a; from = omega arith; below = omega arith; stored = omega arith; settled = free c old d r (r.end + 1) (omega arith) }
    in
    let piece : Lies new r.waiting r.end (c.here + 1) (Compile w End) =
    record {
      longer = omega arith;
      still = record { cell = compile_token; holds = mark; no_jump = omega arith; no_back = omega arith };
      lies = at_once _ r.end (mark, word, subst (λ n. Reaches (Cell new r.end (c.here + 1) r.waiting) n (c.here + 1)) here (stays _ (c.here + 1)), token);
    }
    in
    let part : c.part ≤ r.end = stands_le old r.waiting c.leaves c.part d.begun c.opens d.trees r.end r.stands in (
      _,
      (
        e,
        (
          op,
          record {
            waiting = r.waiting;
            named = r.named;
            marked = refl;
            size = omega arith;
            fits = fits;
            within = within_more c old d r 1;
            ended = ended_kept old new c.start d.parts c.part (fewer old new c.part r.end part below_end) r.ended;
            depth = r.depth;
            end = c.here + 1;
            plain = λ e. refl;
            mark = λ e. absurd (cc);
            stands = stands_adds old new r.end (c.here + 1) (Compile w End) below_end r.waiting c.leaves r.waiting c.leaves
                (unmoved old new r.end r.waiting c.leaves (waiting_same c old d r new same)) piece c.part d.begun c.opens d.trees r.stands;
          },
        ),
      ),
    )

-- the same of equal fields
pub for_equal : (c : Compiler) (old : List ℕ) (a b : Compiler) (new : List ℕ) (add : ℕ → Definition → Adding Definition) → b ≡ a → Added c old a new add → Added c old b new add
for_equal c old a b new add e h = subst (λ s. Added c old s new add) (sym e) h

-- any word but COMPILE
pub adds_word : (c : Compiler) (old new : List ℕ) (w : ℕ) → 0 < w → w ≤ most_tokens → w ≢ compile_token → (w ≡ exit_token → c.leaves ≡ None) → c.is_open ≡ true → c.marked ≡ false → c.here + 1 ≤ most_cells → SameBelow c.here old new → slice_index new c.here ≡ w → Added c old (record c { here = c.here + 1 }) new (λ used. add_word used w)
adds_word c old new w from most n out op ma fits same a =
    ⊎_elim
    (λ (e : w ≡ exit_token).
    subst (λ t. Added c old (record c { here = c.here + 1 }) new (λ used. add_word used t)) (sym e)
    (adds_exit c old new op ma (out e) fits same (a ∙ e)))
    (λ ne. adds_plain c old new w (record { above = from; most = most; no_exit = ne; no_compile = n }) op ma fits same a)
    (cases_eq w exit_token)

-- ---- refusals of a word

not_none : (o : Option ℕ) → (o ≡ None → ⊥) → (v : ℕ) × (o ≡ Some v)
not_none None n = absurd (n refl)
not_none (Some v) n = (v, refl)

exit_refused : (c : Compiler) (code : List ℕ) → c.marked ≡ false → (c.leaves ≡ None → ⊥) → c.is_open ≡ true → (o : Option Definition) → Holds c code o → on_open o (add_word c.start exit_token) ≡ Refuses Unbalanced
exit_refused c code ma inside op None h = absurd (cc)
exit_refused c code ma inside op (Some d) h =
    let r = h.1 in
    let own = not_none c.leaves inside in
    let within : in_loop d.begun ≡ true = (loop_known code r.waiting c.leaves c.part d.begun c.opens d.trees r.end r.stands).1 own.0 own.1 in
    let n : exit_token ≢ compile_token = omega arith in
    word_is c.start exit_token d (sym r.marked ∙ ma) n ∙ ap (λ b. tested (not b) Unbalanced (add c.start 1 (Exit End) d)) within

pub refuses_exit : (c : Compiler) (code : List ℕ) (w : ℕ) → c.marked ≡ false → w ≡ exit_token → (c.leaves ≡ None → ⊥) → c.is_open ≡ true → Refused c code c code (λ used. add_word used w) refusal.Unbalanced
refuses_exit c code w ma is inside op =
    (λ o h. subst (λ t. on_open o (add_word c.start t) ≡ Refuses Unbalanced) (sym is) (exit_refused c code ma inside op o h), refl, refl)

-- too few cells are left
pub full_is : (c : Compiler) (code : List ℕ) (d : Definition) → Represents c code d → (n : ℕ) (d' : Definition) → d'.cells ≡ d.cells → most_cells < c.here + n → with_cells c.start n d' ≡ Refuses CodeFull
full_is c code d r n d' e h =
    let size : c.start + d.cells ≡ c.here = r.size in
    let t : nat_le (c.start + (d'.cells + n)) most_cells ≡ false = grind (arith, nat_tests) in
    ap (λ b. tested b CodeFull (Adds (record d' { cells = d'.cells + n }))) t

word_full : (c : Compiler) (code : List ℕ) (w : ℕ) → (c.marked ≡ false → w ≡ exit_token → c.leaves ≡ None) → c.is_open ≡ true → most_cells < c.here + 1 → (m : Bool) → c.marked ≡ m → (o : Option Definition) → Holds c code o → on_open o (add_word c.start w) ≡ Refuses CodeFull
word_full c code w out op full m ma None h = absurd (cc)
word_full c code w out op full true ma (Some d) h =
    let r = h.1 in
    let m : d.marked ≡ true = sym r.marked ∙ ma in
    let clear : Definition = record d { marked = false } in
    ap (λ b. if b then add c.start 1 (Compile w End) clear else add_plain c.start w d) m
    ∙ full_is c code d r 1 (with_tree clear (Compile w End)) refl full
word_full c code w out op full false ma (Some d) h =
    let r = h.1 in
    let m : d.marked ≡ false = sym r.marked ∙ ma in
    let marked : Definition = record d { marked = true } in
    let mark_full = full_is c code d r 1 marked refl full in
    let exit_full = full_is c code d r 1 (with_tree d (Exit End)) refl full in
    let call_full = full_is c code d r 1 (with_tree d (Call w End)) refl full in
    ⊎_elim
    (λ (e : w ≡ compile_token).
    subst (λ t. add_word c.start t d ≡ Refuses CodeFull) (sym e)
    (ap (λ b. if b then add c.start 1 (Compile compile_token End) (record d { marked = false }) else add_plain c.start compile_token d) m ∙ mark_full))
    (λ n. word_is c.start w d m n ∙
    ⊎_elim
    (λ (e : w ≡ exit_token).
    let outside : in_loop d.begun ≡ false = (loop_known code r.waiting c.leaves c.part d.begun c.opens d.trees r.end r.stands).0 (out ma e) in
    let t : (w == exit_token) ≡ true = grind (arith, nat_tests) in
    ap (λ b. if b then tested (not (in_loop d.begun)) Unbalanced (add c.start 1 (Exit End) d) else add c.start 1 (Call w End) d) t
    ∙ ap (λ b. tested (not b) Unbalanced (add c.start 1 (Exit End) d)) outside ∙ exit_full)
    (λ ne.
    let t : (w == exit_token) ≡ false = grind (arith, nat_tests) in
    ap (λ b. if b then tested (not (in_loop d.begun)) Unbalanced (add c.start 1 (Exit End) d) else add c.start 1 (Call w End) d) t ∙ call_full)
    (cases_eq w exit_token))
    (cases_eq w compile_token)

pub refuses_word : (c : Compiler) (code : List ℕ) (w : ℕ) → (c.marked ≡ false → w ≡ exit_token → c.leaves ≡ None) → c.is_open ≡ true → most_cells < c.here + 1 → Refused c code c code (λ used. add_word used w) refusal.CodeFull
refuses_word c code w out op full = (word_full c code w out op full c.marked refl, refl, refl)
