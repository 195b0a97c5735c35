-- A definition opened, a part ended by DOES>, and a definition ended: its cells mean its body.
use Rattle.std.proofs.Common.{◌≡◌, ℕ, ◌+◌, ◌<◌, ◌≤◌, true, false, List, [], ◌∷◌, ◌++◌, length, refl, sym, ap, ◌∙◌, subst, arith, Option, Some, None}
use Rattle.std.specs.Prelude.{slice_index, OnOk, IsOk, Result, Ok, Err}
use Rattle.cell_machine.specs.Tree.{Trees, End}
use Rattle.cell_machine.specs.Layout.{Means, Cell, NoLeaves, Later, Body, does_cell, end_cell, most_cells}
use Rattle.cell_machine.proofs.Laid.{means_more}
use Rattle.compiler.specs.declared.definition.Compiler.{Compiler}
use Rattle.compiler.specs.Definition.{Definition, Adds, outside, with_cells, add_does, end_definition, body_of}
use Rattle.compiler.specs.Represents.{Waits, Segment, Fixed, Stands, Ended, Represents, Holds, name_of, used}
use Rattle.compiler.specs.Promise.{SameBelow, Added, Opened, Finished, on_open}
use Rattle.compiler.proofs.Grows.{cell_in, same_list, nothing_changed, ended_kept, ended_le, fewer, segment_in}
use Rattle.compiler.proofs.Adds.{stands_here, unmarked_is, fits_is}
use Rattle.compiler.proofs.Opening.{fixed_new, empty_segment}

nothing : {A : Type 0} (l : List A) → length l ≡ 0 → l ≡ []
nothing [] e = refl
nothing (x ∷ xs) e = absurd (omega arith)

-- where no structure is open, the trees are those of the part
pub record Alone (c : Compiler) (code : List ℕ) (d : Definition) : Type 0 where
  pub begun : d.begun ≡ []
  pub segment : Segment code [] c.part d.trees c.here
  pub leaves : c.leaves ≡ None

pub alone : (c : Compiler) (code : List ℕ) (d : Definition) (r : Represents c code d) → c.marked ≡ false → length c.opens ≡ 0 → Alone c code d
alone c code d r ma few =
    let none : c.opens ≡ [] = nothing c.opens few in
    let depth : length d.begun ≡ length c.opens = r.depth in
    let begun : d.begun ≡ [] = nothing d.begun (omega arith) in
    let st : Stands code r.waiting c.leaves c.part [] [] d.trees c.here =
    subst (λ o. Stands code r.waiting c.leaves c.part [] o d.trees c.here) none (subst (λ b. Stands code r.waiting c.leaves c.part b c.opens d.trees c.here) begun (stands_here c code d r ma))
    in
    record { begun = begun; segment = subst (λ w. Segment code w c.part d.trees c.here) st.0 st.2; leaves = st.1 }

-- what lies in a stretch where nothing waits
means_alone : (code : List ℕ) (q h : ℕ) (trees : Trees) (lo hi : ℕ) → lo ≤ q → h ≤ hi → Segment code [] q trees h → Means (Cell code lo hi []) NoLeaves q trees h
means_alone code q h trees lo hi le ge seg =
    means_more (Cell code q h []) (Cell code lo hi []) (cell_in code code [] [] q h lo hi (nothing_changed code h) (same_list h []) le ge) (Waits q h []) NoLeaves (λ y w. w.waits) q trees h seg.lies

-- ---- DOES>

ended_more : (code : List ℕ) (p : ℕ) (parts : List Trees) (q : ℕ) (trees : Trees) (e : ℕ) → Segment code [] q trees e → Fixed code [] e does_cell → Ended code p parts q → Ended code p (parts ++ trees ∷ []) (e + 1)
ended_more code p [] q trees e seg does h =
    let is : p ≡ q = h in
    let o : q ≤ e = seg.ordered in
    (e, (subst (λ n. Means (Cell code n e []) NoLeaves n trees e) (sym is) (means_alone code q e trees q e (omega arith) (omega arith) seg), omega arith, does, refl))
ended_more code p (part ∷ parts) q trees e seg does h =
    (h.0, (h.1.0, h.1.1, h.1.2, ended_more code (h.0 + 1) parts q trees e seg does h.1.3))

pub adds_does : (c : Compiler) (old new : List ℕ) → c.is_open ≡ true → c.marked ≡ false → length c.opens ≡ 0 → c.here + 1 ≤ most_cells → SameBelow c.here old new → slice_index new c.here ≡ does_cell → Added c old (record c { here = c.here + 1; part = c.here + 1 }) new (λ used. add_does used)
adds_does c old new op ma few fits same a None h = absurd (cc)
adds_does c old new op ma few fits same a (Some d) h =
    let r = h.1 in
    let one = alone c old d r ma few in
    let seg = segment_in old new [] [] c.part d.trees c.here same (same_list c.here []) one.segment in
    let o : c.part ≤ c.here = seg.ordered in
    let ended : Definition = record d { parts = d.parts ++ d.trees ∷ []; trees = End } in
    let size : c.start + d.cells ≡ c.here = r.size in
    let none : c.opens ≡ [] = nothing c.opens few in
    let e : add_does c.start d ≡ Adds (record ended { cells = d.cells + 1 }) =
    unmarked_is c old d r ma (outside c.start d.begun (with_cells c.start 1 ended)) ∙ ap (λ l. outside c.start l (with_cells c.start 1 ended)) one.begun ∙ fits_is c old d r 1 ended refl fits
    in
    let stands : Stands new [] c.leaves (c.here + 1) [] [] End (c.here + 1) = (refl, one.leaves, empty_segment new [] (c.here + 1)) in (
      _,
      (
        e,
        (
          op,
          record {
            waiting = [];
            named = r.named;
            marked = r.marked;
            size = omega arith;
            fits = fits;
            within = record { each = λ y i. absurd i };
            ended = ended_more new c.start d.parts c.part d.trees c.here seg (fixed_new new [] c.here does_cell (omega arith) (λ i. i) a) (ended_kept old new c.start d.parts c.part (fewer old new c.part c.here o same) r.ended);
            depth = r.depth;
            end = c.here + 1;
            plain = λ e. refl;
            mark = λ e. absurd (cc);
            stands = subst (λ b. Stands new [] c.leaves (c.here + 1) b c.opens End (c.here + 1)) (sym one.begun) (subst (λ l. Stands new [] c.leaves (c.here + 1) [] l End (c.here + 1)) (sym none) stands);
          },
        ),
      ),
    )

-- ---- ;

later_of : (C : ℕ → ℕ → Type 0) (e : ℕ) (parts : List Trees) → C e does_cell → Body C (e + 1) parts → Later C e parts
later_of C e [] c b = absurd b
later_of C e (part ∷ parts) c b = (b.0, (c, b.1.0, b.1.1))

module _ (code : List ℕ) (lo hi q h : ℕ) (trees : Trees) (last : Segment code [] q trees h) (end : slice_index code h ≡ end_cell) (below : h < hi) (most : hi ≤ most_cells) where
  body_from : (p : ℕ) (parts : List Trees) → lo ≤ p → Ended code p parts q → Body (Cell code lo hi []) p (parts ++ trees ∷ [])
  body_from p [] le e =
      let o = last.ordered in
      let is : p ≡ q = e in (
        h,
        (
          subst (λ n. Means (Cell code lo hi []) NoLeaves n trees h) (sym is) (means_alone code q h trees lo hi (omega arith) (omega arith) last),
          record { is = end; from = omega arith; below = below; stored = omega arith; settled = λ i. i },
        ),
      )
  body_from p (part ∷ parts) le e =
      let o = last.ordered in
      let k : e.0 + 1 ≤ q = ended_le code (e.0 + 1) parts q e.1.3 in
      let j : p ≤ e.0 = e.1.1 in
      let does = e.1.2 in (
        e.0,
        (
          means_more (Cell code p e.0 []) (Cell code lo hi []) (cell_in code code [] [] p e.0 lo hi (nothing_changed code e.0) (same_list e.0 []) le (omega arith)) NoLeaves NoLeaves (λ y n. n) p part e.0 e.1.0,
          later_of _ e.0 (parts ++ trees ∷ []) (record { is = does.is; from = omega arith; below = omega arith; stored = does.stored; settled = λ i. i })
              (body_from (e.0 + 1) parts (omega arith) e.1.3),
        ),
      )

finished : (c : Compiler) (old new : List ℕ) → c.is_open ≡ true → c.marked ≡ false → length c.opens ≡ 0 → c.here + 1 ≤ most_cells → SameBelow c.here old new → slice_index new c.here ≡ end_cell → (o : Option Definition) → Holds c old o → (d : Definition) × ((on_open o (end_definition (used c)) ≡ Adds d) × (c.here + 1 ≡ c.start + (body_of d).cells) × Body (Cell new c.start (c.here + 1) []) c.start (body_of d).parts)
finished c old new op ma few fits same a None h = absurd (cc)
finished c old new op ma few fits same a (Some d) h =
    let r = h.1 in
    let one = alone c old d r ma few in
    let seg = segment_in old new [] [] c.part d.trees c.here same (same_list c.here []) one.segment in
    let o : c.part ≤ c.here = seg.ordered in
    let size : c.start + d.cells ≡ c.here = r.size in
    let e : end_definition c.start d ≡ Adds (record d { cells = d.cells + 1 }) =
    unmarked_is c old d r ma (outside c.start d.begun (with_cells c.start 1 d)) ∙ ap (λ l. outside c.start l (with_cells c.start 1 d)) one.begun ∙ fits_is c old d r 1 d refl fits
    in (
      _,
      (
        e,
        omega arith,
        body_from new c.start (c.here + 1) c.part c.here d.trees seg a (omega arith) fits c.start d.parts (omega arith)
            (ended_kept old new c.start d.parts c.part (fewer old new c.part c.here o same) r.ended),
      ),
    )

pub finishes : (c : Compiler) (old new : List ℕ) (closed : Compiler) → c.is_open ≡ true → c.marked ≡ false → length c.opens ≡ 0 → c.here + 1 ≤ most_cells → SameBelow c.here old new → slice_index new c.here ≡ end_cell → closed ≡ record c { start = c.here + 1; is_open = false } → Finished c old closed new c.start
finishes c old new closed op ma few fits same a is =
    subst (λ n. Finished c old n new c.start) (sym is) (refl, (refl, fits), finished c old new op ma few fits same a)

-- ---- :

pub opens_new : (s c : Compiler) (name : List ℕ) → s.is_open ≡ false → c.is_open ≡ true → name_of c ≡ name → c.start ≡ s.start → c.part ≡ s.start → c.here ≡ s.start → c.marked ≡ false → c.leaves ≡ None → c.opens ≡ [] → Opened s c name
opens_new s c name closed op named start part here ma leaves opens code (Some d) at h = absurd (cc)
opens_new s c name closed op named start part here ma leaves opens code None at h =
    let fits : s.start ≤ most_cells = h.1 in (
      refl,
      (
        op,
        record {
          waiting = [];
          named = named;
          marked = ma;
          size = omega arith;
          fits = omega arith;
          within = record { each = λ y i. absurd i };
          ended = start ∙ sym part;
          depth = sym (ap length opens);
          end = c.here;
          plain = λ e. refl;
          mark = λ e. absurd (cc);
          stands = subst (λ l. Stands code [] c.leaves c.part [] l End c.here) (sym opens) (refl, leaves, subst (λ n. Segment code [] c.part End n) (part ∙ sym here) (empty_segment code [] c.part));
        },
      ),
    )

pub ok_holds : {T E P : Type 0} → (r : Result T E) → IsOk r → OnOk r P → P
ok_holds (Ok x) is h = h
ok_holds (Err e) is h = absurd (cc)
