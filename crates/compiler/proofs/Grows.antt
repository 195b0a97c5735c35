-- What stands in the cells below a place keeps standing there when cells from that place on are written.
use Rattle.std.proofs.Common.{◌≡◌, ℕ, ◌+◌, ◌<◌, ◌≤◌, List, [], ◌∷◌, refl, sym, ◌∙◌, subst, arith, inl, inr, ⊎_elim, ◌⊎◌, Option, Some, None}
use Rattle.std.specs.Prelude.{slice_index}
use Rattle.cell_machine.specs.Tree.{Trees, append}
use Rattle.cell_machine.specs.Layout.{Means, Cell, IsIn, IsStill, NoLeaves, does_cell}
use Rattle.cell_machine.proofs.Laid.{means_more, seam}
use Rattle.compiler.specs.declared.opens.Open.{Open}
use Rattle.compiler.specs.declared.opens.Open.TheVariants as open_at
use Rattle.compiler.specs.Definition.{Begun, AfterIf, AfterElse, AfterBegin, AfterWhile, AfterDo}
use Rattle.compiler.specs.Represents.{Waits, Segment, Fixed, Started, Chain, AtIf, AtElse, AtWhile, AtDo, Stands, Ended}
use Rattle.compiler.specs.Promise.{SameBelow}

pub fewer : (old new : List ℕ) (p q : ℕ) → p ≤ q → SameBelow q old new → SameBelow p old new
fewer old new p q h s = record { same = λ y l. s.same y (omega arith) }

pub nothing_changed : (code : List ℕ) (q : ℕ) → SameBelow q code code
nothing_changed code q = record { same = λ y l. refl }

-- more cells wait, but none below q
pub record Grows (q : ℕ) (ls more : List ℕ) : Type 0 where
  pub waits : (y : ℕ) → IsIn y ls → IsIn y more
  pub settled : (y : ℕ) → y < q → IsIn y more → IsIn y ls

pub same_list : (q : ℕ) (ls : List ℕ) → Grows q ls ls
same_list q ls = record { waits = λ y i. i; settled = λ y l i. i }

pub grows_below : (p q : ℕ) (ls more : List ℕ) → p ≤ q → Grows q ls more → Grows p ls more
grows_below p q ls more h g = record { waits = g.waits; settled = λ y l i. g.settled y (omega arith) i }

module _ (old new ls more : List ℕ) where
  -- a cell of a stretch is one of a longer stretch
  pub cell_in : (p q r s : ℕ) → SameBelow q old new → Grows q ls more → r ≤ p → q ≤ s → (y v : ℕ) → Cell old p q ls y v → Cell new r s more y v
  cell_in p q r s same g lo hi y v c =
      record { is = same.same y c.below ∙ c.is; from = omega arith; below = omega arith; stored = c.stored; settled = λ i. c.settled (g.settled y c.below i) }

  waits_in : (p q r s : ℕ) → Grows q ls more → r ≤ p → q ≤ s → (y : ℕ) → Waits p q ls y → Waits r s more y
  waits_in p q r s g lo hi y w = record { waits = g.waits y w.waits; from = omega arith; below = omega arith }

  pub means_in : (p q r s : ℕ) → SameBelow q old new → Grows q ls more → r ≤ p → q ≤ s → (a : ℕ) (t : Trees) (b : ℕ) → Means (Cell old p q ls) (Waits p q ls) a t b → Means (Cell new r s more) (Waits r s more) a t b
  means_in p q r s same g lo hi a t b m =
      means_more _ _ (cell_in p q r s same g lo hi) _ _ (waits_in p q r s g lo hi) a t b m

  pub still_in : (p q r s : ℕ) → SameBelow q old new → Grows q ls more → r ≤ p → q ≤ s → (a : ℕ) → IsStill (Cell old p q ls) a → IsStill (Cell new r s more) a
  still_in p q r s same g lo hi a i =
      record { cell = i.cell; holds = cell_in p q r s same g lo hi _ _ i.holds; no_jump = i.no_jump; no_back = i.no_back }

  pub segment_in : (p : ℕ) (t : Trees) (q : ℕ) → SameBelow q old new → Grows q ls more → Segment old ls p t q → Segment new more p t q
  segment_in p t q same g s =
      record { lies = means_in p q p q same g (omega arith) (omega arith) p t q s.lies; ordered = s.ordered }

  pub fixed_in : (y v q : ℕ) → y < q → SameBelow q old new → Grows q ls more → Fixed old ls y v → Fixed new more y v
  fixed_in y v q h same g f =
      record { is = same.same y h ∙ f.is; from = f.from; below = f.below; stored = f.stored; settled = λ i. f.settled (g.settled y h i) }

  started_in : (p : ℕ) (t : Trees) (q : ℕ) → SameBelow q old new → Grows q ls more → Started old ls p t q → Started new more p t q
  started_in p t q same g (inl e) = inl e
  started_in p t q same g (inr i) = inr (still_in p q p q same g (omega arith) (omega arith) p i)

  -- the innermost structure, with other trees in it
  module _ (q r : ℕ) (t u : Trees) (same : SameBelow q old new) (g : Grows q ls more) where
    pub at_if : (x : ℕ) → AtIf old ls x t q → Segment new more (x + 2) u r → AtIf new more x u r
    at_if x a rest =
        let o = a.rest.ordered in
        record { test = fixed_in x _ q (omega arith) same g a.test; free = λ i. a.free (g.settled (x + 1) (omega arith) i); rest = rest }

    abbrev pub at_else : (y : ℕ) (first : Trees) → AtElse old ls y first t q → Segment new more (y + 2) u r → AtElse new more y first u r
    at_else y first a rest =
        let o = a.rest.ordered in
        let h = a.half.ordered in
        record {
          place = a.place;
          test = fixed_in a.place _ q (omega arith) same g a.test;
          to = fixed_in (a.place + 1) _ q (omega arith) same g a.to;
          half = segment_in (a.place + 2) first y (fewer old new y q (omega arith) same) (grows_below y q ls more (omega arith) g) a.half;
          jump = fixed_in y _ q (omega arith) same g a.jump;
          free = λ i. a.free (g.settled (y + 1) (omega arith) i);
          rest = rest;
        }

    pub at_while : (b m : ℕ) (head : Trees) → AtWhile old ls b m head t q → Segment new more (m + 2) u r → AtWhile new more b m head u r
    at_while b m head a rest =
        let o = a.rest.ordered in
        record {
          still = still_in b (m + 1) b (m + 1) (fewer old new (m + 1) q (omega arith) same) (grows_below (m + 1) q ls more (omega arith) g) (omega arith) (omega arith) b a.still;
          half = segment_in b head m (fewer old new m q (omega arith) same) (grows_below m q ls more (omega arith) g) a.half;
          test = fixed_in m _ q (omega arith) same g a.test;
          free = λ i. a.free (g.settled (m + 1) (omega arith) i);
          rest = rest;
        }

-- what is open stands after where the part begins
pub stands_le : (code : List ℕ) (ls : List ℕ) (last : Option ℕ) (part : ℕ) (bs : List Begun) (os : List Open) (t : Trees) (q : ℕ) → Stands code ls last part bs os t q → part ≤ q
stands_le code ls last part [] [] t q s = s.2.ordered
stands_le code ls last part (AfterIf b ∷ bs) (open_at.If x ∷ os) t q s =
    let o = s.0.rest.ordered in let i : part ≤ x = stands_le code ls last part bs os b x s.1 in omega arith
stands_le code ls last part (AfterElse b a ∷ bs) (open_at.Else y ∷ os) t q s =
    let o = s.0.half.ordered in let o2 = s.0.rest.ordered in let i : part ≤ s.0.place = stands_le code ls last part bs os b s.0.place s.1 in omega arith
stands_le code ls last part (AfterBegin b ∷ bs) (open_at.Begin x ∷ os) t q s =
    let o = s.0.rest.ordered in let i : part ≤ x = stands_le code ls last part bs os b x s.1 in omega arith
stands_le code ls last part (AfterWhile b h ∷ bs) (open_at.While x m ∷ os) t q s =
    let o = s.0.half.ordered in let o2 = s.0.rest.ordered in let i : part ≤ x = stands_le code ls last part bs os b x s.1 in omega arith
stands_le code ls last part (AfterDo b ∷ bs) (open_at.Do x outer ∷ os) t q s =
    let o = s.0.rest.ordered in let i : part ≤ x = stands_le code s.0.outer outer part bs os b x s.1 in omega arith
stands_le code ls last part _ _ t q s = absurd s

pub ended_le : (code : List ℕ) (p : ℕ) (parts : List Trees) (q : ℕ) → Ended code p parts q → p ≤ q
ended_le code p [] q h = omega arith
ended_le code p (part ∷ parts) q h =
    let l : h.0 + 1 ≤ q = ended_le code (h.0 + 1) parts q h.1.3 in let k : p ≤ h.0 = h.1.1 in omega arith

pub chain_kept : (old new : List ℕ) (ls : List ℕ) (last : ℕ) → ((y : ℕ) → IsIn y ls → slice_index new y ≡ slice_index old y) → Chain old ls last → Chain new ls last
chain_kept old new [] last w h = h
chain_kept old new (y ∷ ys) last w h =
    let e : slice_index new y ≡ slice_index old y = w y (inl refl) in
    let down : slice_index old y < y = h.1 in
    (h.0, omega arith, subst (λ n. Chain new ys n) (sym e) (chain_kept old new ys _ (λ z i. w z (inr i)) h.2))

-- how the LEAVEs that wait change, from q on
pub record Leaving (old new : List ℕ) (q : ℕ) (ls : List ℕ) (last : Option ℕ) (more : List ℕ) (last' : Option ℕ) : Type 0 where
  pub waits : (y : ℕ) → IsIn y ls → IsIn y more
  pub waiting : (y : ℕ) → IsIn y more → IsIn y ls ⊎ (q < y)
  pub none : ls ≡ [] → last ≡ None → (more ≡ []) × (last' ≡ None)
  pub some : (own : ℕ) → last ≡ Some own → Chain old ls own → (own' : ℕ) × ((last' ≡ Some own') × Chain new more own')

-- none more waits
pub unmoved : (old new : List ℕ) (q : ℕ) (ls : List ℕ) (last : Option ℕ) → ((y : ℕ) → IsIn y ls → slice_index new y ≡ slice_index old y) → Leaving old new q ls last ls last
unmoved old new q ls last w =
    record { waits = λ y i. i; waiting = λ y i. inl i; none = λ e f. (e, f); some = λ own e c. (own, (e, chain_kept old new ls own w c)) }

pub grows_at : (old new : List ℕ) (q : ℕ) (ls : List ℕ) (last : Option ℕ) (more : List ℕ) (last' : Option ℕ) → Leaving old new q ls last more last' → (x : ℕ) → x ≤ q → Grows x ls more
grows_at old new q ls last more last' g x h =
    record { waits = g.waits; settled = λ y l i. ⊎_elim (λ o. o) (λ far. absurd (omega arith)) (g.waiting y i) }

module _ (old new : List ℕ) where
  abbrev at_do : (ls : List ℕ) (last : Option ℕ) (more : List ℕ) (last' : Option ℕ) (q0 : ℕ) → Leaving old new q0 ls last more last' → SameBelow q0 old new → (x : ℕ) (t u : Trees) (q r : ℕ) → q ≤ q0 → AtDo old ls last x t q → Segment new more (x + 1) u r → AtDo new more last' x u r
  at_do ls last more last' q0 g same x t u q r le a rest =
      let o = a.rest.ordered in
      let own = g.some a.own a.last_is a.chain in
      record {
        outer = a.outer;
        own = own.0;
        last_is = own.1.0;
        begins = fixed_in old new a.outer a.outer x _ q0 (omega arith) same (same_list q0 a.outer) a.begins;
        chain = own.1.1;
        after = λ y i. ⊎_elim (λ j. a.after y j) (λ far. omega arith) (g.waiting y i);
        outside = a.outside;
        rest = rest;
      }

  -- the same trees, with more that waits
  pub stands_moves : (ls : List ℕ) (last : Option ℕ) (more : List ℕ) (last' : Option ℕ) (q0 : ℕ) → Leaving old new q0 ls last more last' → SameBelow q0 old new → (part : ℕ) (bs : List Begun) (os : List Open) (t : Trees) (q : ℕ) → q ≤ q0 → Stands old ls last part bs os t q → Stands new more last' part bs os t q
  stands_moves ls last more last' q0 g same part [] [] t q le s =
      let n = g.none s.0 s.1 in
      (n.0, n.1, segment_in old new ls more part t q (fewer old new q q0 le same) (grows_at old new q0 ls last more last' g q le) s.2)
  stands_moves ls last more last' q0 g same part (AfterIf b ∷ bs) (open_at.If x ∷ os) t q le s =
      let o = s.0.rest.ordered in
      let gq = grows_at old new q0 ls last more last' g q le in
      let sq = fewer old new q q0 le same in (
        at_if old new ls more q q t t sq gq x s.0 (segment_in old new ls more (x + 2) t q sq gq s.0.rest),
        stands_moves ls last more last' q0 g same part bs os b x (omega arith) s.1,
      )
  stands_moves ls last more last' q0 g same part (AfterElse b a ∷ bs) (open_at.Else y ∷ os) t q le s =
      let o = s.0.half.ordered in
      let p = s.0.rest.ordered in
      let gq = grows_at old new q0 ls last more last' g q le in
      let sq = fewer old new q q0 le same in
      let at = at_else old new ls more q q t t sq gq y a s.0 (segment_in old new ls more (y + 2) t q sq gq s.0.rest) in
      (at, stands_moves ls last more last' q0 g same part bs os b s.0.place (omega arith) s.1)
  stands_moves ls last more last' q0 g same part (AfterBegin b ∷ bs) (open_at.Begin x ∷ os) t q le s =
      let o = s.0.rest.ordered in
      let gq = grows_at old new q0 ls last more last' g q le in
      let sq = fewer old new q q0 le same in (
        record { started = started_in old new ls more x t q sq gq s.0.started; rest = segment_in old new ls more x t q sq gq s.0.rest },
        stands_moves ls last more last' q0 g same part bs os b x (omega arith) s.1,
      )
  stands_moves ls last more last' q0 g same part (AfterWhile b h ∷ bs) (open_at.While x m ∷ os) t q le s =
      let o = s.0.half.ordered in
      let p = s.0.rest.ordered in
      let gq = grows_at old new q0 ls last more last' g q le in
      let sq = fewer old new q q0 le same in (
        at_while old new ls more q q t t sq gq x m h s.0 (segment_in old new ls more (m + 2) t q sq gq s.0.rest),
        stands_moves ls last more last' q0 g same part bs os b x (omega arith) s.1,
      )
  stands_moves ls last more last' q0 g same part (AfterDo b ∷ bs) (open_at.Do x outer ∷ os) t q le s =
      let a = s.0 in
      let o = a.rest.ordered in
      let at = at_do ls last more last' q0 g same x t t q q le a (segment_in old new ls more (x + 1) t q (fewer old new q q0 le same) (grows_at old new q0 ls last more last' g q le) a.rest) in
      let sx = fewer old new x q0 (omega arith) same in
      (at, stands_moves a.outer outer a.outer outer x (unmoved old new x a.outer outer (λ y i. same.same y (let h : y < x = (a.outside.each y i).1 in omega arith))) sx part bs os b x (omega arith) s.1)
  stands_moves ls last more last' q0 g same part _ _ t q le s = absurd s

  pub stands_kept : (ls : List ℕ) (last : Option ℕ) (part : ℕ) (bs : List Begun) (os : List Open) (t : Trees) (q : ℕ) → ((y : ℕ) → IsIn y ls → slice_index new y ≡ slice_index old y) → SameBelow q old new → Stands old ls last part bs os t q → Stands new ls last part bs os t q
  stands_kept ls last part bs os t q w same s = stands_moves ls last ls last q (unmoved old new q ls last w) same part bs os t q (omega arith) s

  -- the parts that are ended stay
  pub ended_kept : (p : ℕ) (parts : List Trees) (q : ℕ) → SameBelow q old new → Ended old p parts q → Ended new p parts q
  ended_kept p [] q same h = h
  ended_kept p (part ∷ parts) q same h =
      let l : h.0 + 1 ≤ q = ended_le old (h.0 + 1) parts q h.1.3 in (
        h.0,
        (
          means_more _ _ (cell_in old new [] [] p h.0 p h.0 (fewer old new h.0 q (omega arith) same) (same_list h.0 []) (omega arith) (omega arith)) NoLeaves NoLeaves (λ y n. n) p part h.0 h.1.0,
          h.1.1,
          fixed_in old new [] [] h.0 does_cell q (omega arith) same (same_list q []) h.1.2,
          ended_kept (h.0 + 1) parts q same h.1.3,
        ),
      )

-- ---- a tree more

-- what is added lies from q on
pub record Lies (new : List ℕ) (more : List ℕ) (q r : ℕ) (tree : Trees) : Type 0 where
  pub longer : q ≤ r
  pub still : IsStill (Cell new q r more) q
  pub lies : Means (Cell new q r more) (Waits q r more) q tree r

module _ (old new : List ℕ) (q r : ℕ) (tree : Trees) (same : SameBelow q old new) (ls : List ℕ) (last : Option ℕ) (more : List ℕ) (last' : Option ℕ) (g : Leaving old new q ls last more last') (piece : Lies new more q r tree) where
  here : Grows q ls more
  here = grows_at old new q ls last more last' g q (omega arith)

  segment_adds : (p : ℕ) (t : Trees) → Segment old ls p t q → Segment new more p (append t tree) r
  segment_adds p t s =
      let o = s.ordered in
      let le = piece.longer in
      record {
        lies = seam _ _ t tree p q r (means_in old new ls more p q p r same here (omega arith) le p t q s.lies)
            (means_in new new more more q r p r (nothing_changed new r) (same_list r more) o (omega arith) q tree r piece.lies);
        ordered = omega arith;
      }

  started_adds : (p : ℕ) (t : Trees) → Started old ls p t q → Started new more p (append t tree) r
  started_adds p t (inl e) = inr (subst (λ n. IsStill (Cell new n r more) n) (sym e.0) piece.still)
  started_adds p t (inr i) = inr (still_in old new ls more p q p r same here (omega arith) piece.longer p i)

  outer_moves : (part : ℕ) (bs : List Begun) (os : List Open) (t : Trees) (x : ℕ) → x ≤ q → Stands old ls last part bs os t x → Stands new more last' part bs os t x
  outer_moves part bs os t x le s = stands_moves old new ls last more last' q g same part bs os t x le s

  -- a tree more in the innermost structure
  pub stands_adds : (part : ℕ) (bs : List Begun) (os : List Open) (t : Trees) → Stands old ls last part bs os t q → Stands new more last' part bs os (append t tree) r
  stands_adds part [] [] t s = let n = g.none s.0 s.1 in (n.0, n.1, segment_adds part t s.2)
  stands_adds part (AfterIf b ∷ bs) (open_at.If x ∷ os) t s =
      let o = s.0.rest.ordered in
      (at_if old new ls more q r t (append t tree) same here x s.0 (segment_adds (x + 2) t s.0.rest), outer_moves part bs os b x (omega arith) s.1)
  stands_adds part (AfterElse b a ∷ bs) (open_at.Else y ∷ os) t s =
      let o = s.0.half.ordered in
      let p = s.0.rest.ordered in
      let at = at_else old new ls more q r t (append t tree) same here y a s.0 (segment_adds (y + 2) t s.0.rest) in
      (at, outer_moves part bs os b s.0.place (omega arith) s.1)
  stands_adds part (AfterBegin b ∷ bs) (open_at.Begin x ∷ os) t s =
      let o = s.0.rest.ordered in
      (record { started = started_adds x t s.0.started; rest = segment_adds x t s.0.rest }, outer_moves part bs os b x (omega arith) s.1)
  stands_adds part (AfterWhile b h ∷ bs) (open_at.While x m ∷ os) t s =
      let o = s.0.half.ordered in
      let p = s.0.rest.ordered in
      (at_while old new ls more q r t (append t tree) same here x m h s.0 (segment_adds (m + 2) t s.0.rest), outer_moves part bs os b x (omega arith) s.1)
  stands_adds part (AfterDo b ∷ bs) (open_at.Do x outer ∷ os) t s =
      let a = s.0 in
      let o = a.rest.ordered in
      let at = at_do old new ls last more last' q g same x t (append t tree) q r (omega arith) a (segment_adds (x + 1) t a.rest) in
      (at, stands_kept old new a.outer outer part bs os b x (λ y i. same.same y (let h : y < x = (a.outside.each y i).1 in omega arith)) (fewer old new x q (omega arith) same) s.1)
  stands_adds part _ _ t s = absurd s
