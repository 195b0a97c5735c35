-- Where the bodies that run lie.
use Rattle.std.proofs.Common.{◌≡◌, ℕ, zero, suc, ◌+◌, ◌<◌, ◌≤◌, List, [], ◌∷◌, length, take, inl, inr, refl, sym, ◌∙◌, ap, subst, arith}
use Rattle.std.specs.Prelude.{nat_lt, ◌&&◌}
use Rattle.std.proofs.lemmas.Bool.{cases_lt}
use Rattle.std.proofs.lemmas.Bool.Decides.{nat_tests}
use Rattle.stacks.specs.declared.return_stack.Entry.{Entry}
use Rattle.stacks.specs.declared.return_stack.Entry.TheVariants.{Call as CallOf}
use Rattle.stacks.specs.Stacks.{calls_below}
use Rattle.cell_machine.specs.Effects.{Item, Value as Aside, Running}
use Rattle.cell_machine.specs.Tree.{Trees, End, Lit, Call, Text, If, Until, While, Loop, Leave, Exit, Compile}
use Rattle.cell_machine.specs.Layout.{Hop, Forward, Back, Hops, Reaches, Means, Cell, Later, Body, NoLeaves}
use Rattle.cell_machine.specs.Levels.{entries_of, FrameAt, Owned, LevelsAt}
use Rattle.cell_machine.specs.Frames.{Turning, Level, Frame, Once, Load, around_of}
use Rattle.cell_machine.specs.Events.{BodyAt}
use Rattle.cell_machine.specs.Staying.{RunsBefore}
use Rattle.lexicon.specs.Language.{ForthWord, used_cells, all_below}
use Rattle.lexicon.specs.Stands.{owner_in}
use Rattle.lexicon.proofs.Owners.{owner-some, owner-take, owner-from_one}

-- ---- where something stands to be run, a cell is held

module _ (Holds : ℕ → ℕ → Type 0) where
  pub record IsHeld (p : ℕ) : Type 0 where
    pub cell : ℕ
    pub holds : Holds p cell

  held_hops : (n p r : ℕ) → Hops Holds n p r → IsHeld r → IsHeld p
  held_hops zero p r e h = subst IsHeld (sym e) h
  held_hops (suc n) p r e h = held_hop p e.0 e.1.0
    where
      held_hop : (p r : ℕ) → Hop Holds p r → IsHeld p
      held_hop p r (Forward a b c) = record { cell = _; holds = a }
      held_hop p r (Back a b c) = record { cell = _; holds = a }

  held_reaches : (p r : ℕ) → Reaches Holds p r → IsHeld r → IsHeld p
  held_reaches p r e h = held_hops e.count p r e.hops h

  held_means : (Leaves : ℕ → Type 0) (p : ℕ) (t : Trees) (q : ℕ) → Means Holds Leaves p t q → IsHeld q → IsHeld p
  held_means Leaves p End q m h = held_reaches p q m h
  held_means Leaves p (Lit n rest) q m h = held_reaches p m.place m.reached (record { cell = _; holds = m.lies.0 })
  held_means Leaves p (Call w rest) q m h = held_reaches p m.place m.reached (record { cell = _; holds = m.lies.1 })
  held_means Leaves p (Text kind s rest) q m h = held_reaches p m.place m.reached (record { cell = _; holds = m.lies.0 })
  held_means Leaves p (If a b rest) q m h = held_reaches p m.place m.reached (record { cell = _; holds = m.lies.2.0 })
  held_means Leaves p (Until a rest) q m h =
      held_reaches p m.place m.reached (held_means Leaves m.place a m.lies.0 m.lies.1.0 (record { cell = _; holds = m.lies.1.1 }))
  held_means Leaves p (While a b rest) q m h =
      held_reaches p m.place m.reached (held_means Leaves m.place a m.lies.0 m.lies.2.0 (record { cell = _; holds = m.lies.2.1 }))
  held_means Leaves p (Loop kind a rest) q m h = held_reaches p m.place m.reached (record { cell = _; holds = m.lies.1.0 })
  held_means Leaves p (Leave rest) q m h = held_reaches p m.place m.reached (record { cell = _; holds = m.lies.0 })
  held_means Leaves p (Exit rest) q m h = held_reaches p m.place m.reached (record { cell = _; holds = m.lies.0 })
  held_means Leaves p (Compile w rest) q m h = held_reaches p m.place m.reached (record { cell = _; holds = m.lies.0 })

  held_later : (e : ℕ) (parts : List Trees) → Later Holds e parts → IsHeld e
  held_later e [] l = record { cell = _; holds = l }
  held_later e (part ∷ parts) l = record { cell = _; holds = l.1.0 }

  pub held_frame : (p : ℕ) (t : Trees) (loops : List Turning) (later : List Trees) → FrameAt Holds p t loops later → IsHeld p
  held_frame p t [] later f = held_means (NoLeaves) p t f.0 f.1.0 (held_later f.0 later f.1.1)
  held_frame p t (l ∷ loops) later f = held_means (λ y. Holds y (f.0 + 2)) p t f.0 f.2.0 (record { cell = _; holds = f.2.1 })

  pub held_body : (p : ℕ) (parts : List Trees) → Body Holds p parts → IsHeld p
  held_body p [] b = absurd b
  held_body p (part ∷ parts) b = held_means (NoLeaves) p part b.0 b.1.0 (held_later b.0 parts b.1.1)

-- ---- so its place is one of its word's body

module _ (code : List ℕ) (owner_at : ℕ → ℕ) where
  pub body_owner : (owner place : ℕ) (parts : List Trees) → BodyAt code owner_at owner place parts → owner_at place ≡ owner
  body_owner owner place parts b =
      let h = held_body (Cell code b.0 b.1 []) place parts b.2.1 in b.2.0.owned place h.holds.from h.holds.below

  frame_owner : (owner lo hi p : ℕ) (t : Trees) (loops : List Turning) (later : List Trees) → Owned code owner_at owner lo hi → FrameAt (Cell code lo hi []) p t loops later → owner_at p ≡ owner
  frame_owner owner lo hi p t loops later o f =
      let h = held_frame (Cell code lo hi []) p t loops later f in o.owned p h.holds.from h.holds.below

-- ---- what runs lies below a word's body where the words that run are older

length_take : (n : ℕ) (words : List ForthWord) → length (take n words) ≤ n
length_take zero words = omega arith
length_take (suc n) [] = omega arith
length_take (suc n) (w ∷ words) = let h = length_take n words in omega (arith, h)

pub older_is_below : (n : ℕ) (words : List ForthWord) (y : ℕ) → 0 < owner_in words y → nat_lt y (used_cells (take n words)) ≡ nat_lt (owner_in words y) (suc n)
older_is_below n words y h =
    elim (cases_lt y (used_cells (take n words))) as (λ s. nat_lt y (used_cells (take n words)) ≡ nat_lt (owner_in words y) (suc n)) [
      | inl l ↦
          let s = owner-some 1 0 (take n words) y (omega arith) (omega arith) in
          let e = owner-take 1 0 n words y (omega arith) (omega arith) in
          let m = length_take n words in
          grind (arith, nat_tests)
      | inr l ↦ let s = owner-from_one 1 0 n words y (omega arith) h in grind (arith, nat_tests)
    ]

own_below : (limit p : ℕ) (own : List Item) (below : List Entry) → calls_below limit p (entries_of own below) ≡ calls_below limit p below
own_below limit p [] below = refl
own_below limit p (Aside w ∷ own) below = own_below limit p own below
own_below limit p (Running l i ∷ own) below = own_below limit p own below

module _ (code : List ℕ) (words : List ForthWord) (n : ℕ) where
  pub runs_below_is : (p : ℕ) (entries : List Entry) (levels : List Level) → LevelsAt code (owner_in words) p entries levels → RunsBefore (suc (length words)) levels → calls_below (used_cells (take n words)) p entries ≡ all_below (suc n) (around_of levels).running
  runs_below_is p entries [] h all = ap (λ es. calls_below (used_cells (take n words)) p es) h
  runs_below_is p entries (Frame owner t loops later own ∷ levels) h all =
      let f = frame_owner code (owner_in words) owner h.0 h.1 p t loops later h.4.1 h.4.2 in
      let above = all.0.above in
      ap (λ es. calls_below (used_cells (take n words)) p es) h.4.0
      ∙ own_below (used_cells (take n words)) p own (CallOf h.2 ∷ h.3)
      ∙ ap (λ b. b && calls_below (used_cells (take n words)) h.2 h.3) (older_is_below n words p (omega (arith, f, above)) ∙ ap (λ o. nat_lt o (suc n)) f)
      ∙ ap (λ b. nat_lt owner (suc n) && b) (runs_below_is h.2 h.3 levels h.4.3 all.1)
  runs_below_is p entries (Once w ∷ levels) h all = absurd h
  runs_below_is p entries (Load blk to_in ∷ levels) h all =
      ap (λ es. calls_below (used_cells (take n words)) p es) h.1.0 ∙ runs_below_is p h.0 levels h.1.1 all
