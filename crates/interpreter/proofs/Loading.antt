-- A load that is entered.
use Rattle.std.proofs.Common.{◌≡◌, ℕ, suc, ◌+◌, ◌≤◌, ◌<◌, List, ◌∷◌, None, refl, sym, ap, subst, ◌∙◌, arith}
use Rattle.std.specs.Prelude.{length, nat_lt, nat_le}
use Rattle.stacks.specs.declared.return_stack.Entry.{Entry}
use Rattle.stacks.specs.declared.return_stack.Entry.TheVariants.{Load as LoadOf}
use Rattle.stacks.specs.Stacks.{units}
use Rattle.cell_machine.specs.Frames.{Core, Level, Load, in_load, around_of}
use Rattle.cell_machine.specs.Levels.{Left}
use Rattle.cell_machine.specs.Events.{Doing}
use Rattle.cell_machine.proofs.Steps.{same_units}
use Rattle.std.proofs.lemmas.Bool.{lt-ltb, le-ltb, lt-leb, le-leb}
use Rattle.cell_machine.specs.Limits.{return_units}
use Rattle.cell_machine.specs.Fault.{NoBlock, LoadDepth, ReturnStack, Faults}
use Rattle.system_words.specs.declared.words.Service.TheVariants.{Load as LoadWord}
use Rattle.cell_machine.specs.Value.{Outcome, Did, Ends, Serve, and_then}
use Rattle.interpreter.specs.State.{World, with_load, needing, system_cell, set_cell, to_in_cell, blk_cell, place_in}
use Rattle.interpreter.specs.Text.{serve, text, back, load, on_service}
use Rattle.interpreter.specs.Law.{left}
use Rattle.interpreter.proofs.Enter.{enter_load}
use Rattle.interpreter.proofs.Short.{popping-one, needing-no, needing-yes}
use Rattle.lexicon.specs.declared.language.Lexicon.{Lexicon}
use Rattle.lexicon.specs.Language.{Language}
use Rattle.lexicon.specs.Stands.{IsLeft, owner_in}

-- where no word waits, the units are those of the levels
pub units_left : (l : Lexicon) (x : Language) (doing : Doing) (entries : List Entry) (levels : List Level) → doing.pending ≡ None → IsLeft l x doing entries levels → units entries ≡ (around_of levels).units
units_left l x doing entries levels idle h = same_units l.code (owner_in x.words) doing.place entries levels (subst (λ pending. Left l.code (owner_in x.words) pending doing.place entries levels) idle h.lies)

pub left_loaded : (l : Lexicon) (x : Language) (doing : Doing) (entries : List Entry) (levels : List Level) (blk to_in : ℕ) → doing.pending ≡ None → IsLeft l x doing entries levels → IsLeft l x doing (LoadOf blk to_in ∷ entries) (Load blk to_in ∷ levels)
left_loaded l x doing entries levels blk to_in idle h = record {
  lies =
      subst (λ pending. Left l.code (owner_in x.words) pending doing.place (LoadOf blk to_in ∷ entries) (Load blk to_in ∷ levels)) (sym idle)
      (entries, (refl, subst (λ pending. Left l.code (owner_in x.words) pending doing.place entries levels) idle h.lies));
  running = h.running;
}

-- what comes of LOAD, as its tests find it
module _ (m : ℕ) (levels : List Level) (old : Core) (x : World) (u : ℕ) (stack : List ℕ) (is : old.stack ≡ u ∷ stack) where
  abbrev inner : Serve World
  inner a due c x = serve m a due c x

  abbrev on : Outcome World → Outcome World
  on o = and_then o (λ c x. left (suc m) levels c x)

  abbrev loading : Outcome World
  loading = on (on_service (suc m) inner LoadWord (around_of levels) old x)

  abbrev mid : Core
  mid = record old { stack = stack }

  abbrev entered : Core
  entered = set_cell to_in_cell 0 (set_cell blk_cell u mid)

  abbrev after_depth : Core → Outcome World
  after_depth c =
      needing (nat_le ((around_of levels).units + 2) return_units) ReturnStack c x (λ c.
      and_then (text (suc m) inner (suc m) (in_load (around_of levels)) (set_cell to_in_cell 0 (set_cell blk_cell u c)) (with_load (place_in c.space) x))
      (λ d y. Did (back (system_cell blk_cell c) (system_cell to_in_cell c) d) y))

  taken : loading ≡ on (load (suc m) inner u (around_of levels) mid x)
  taken = ap on (popping-one old x _ u stack is)

  pub no_block : u ≡ 0 → loading ≡ Ends (Faults NoBlock) mid x
  no_block zero = taken ∙ ap on (needing-no (nat_lt 0 u) NoBlock mid x _ (le-ltb 0 u (omega (arith, zero))))

  above : (u ≡ 0 → ⊥) → loading ≡ on (needing (nat_lt (length x.loads) 8) LoadDepth mid x after_depth)
  above some = taken ∙ ap on (needing-yes (nat_lt 0 u) NoBlock mid x _ (lt-ltb 0 u (omega (arith, some))))

  pub too_deep : (u ≡ 0 → ⊥) → 8 ≤ length x.loads → loading ≡ Ends (Faults LoadDepth) mid x
  too_deep some deep = above some ∙ ap on (needing-no (nat_lt (length x.loads) 8) LoadDepth mid x after_depth (le-ltb _ _ deep))

  within : (u ≡ 0 → ⊥) → length x.loads < 8 → loading ≡ on (after_depth mid)
  within some few = above some ∙ ap on (needing-yes (nat_lt (length x.loads) 8) LoadDepth mid x after_depth (lt-ltb _ _ few))

  pub no_units : (u ≡ 0 → ⊥) → length x.loads < 8 → 256 < (around_of levels).units + 2 → loading ≡ Ends (Faults ReturnStack) mid x
  no_units some few many = within some few ∙ ap on (needing-no (nat_le ((around_of levels).units + 2) 256) ReturnStack mid x _ (lt-leb _ _ many))

  pub loads_text : (u ≡ 0 → ⊥) → length x.loads < 8 → (around_of levels).units + 2 ≤ 256 → old.steps ≤ m
      → loading ≡ left (suc m) (Load (system_cell blk_cell mid) (system_cell to_in_cell mid) ∷ levels) entered (with_load (place_in mid.space) x)
  loads_text some few room less =
      within some few
      ∙ ap on (needing-yes (nat_le ((around_of levels).units + 2) 256) ReturnStack mid x _ (le-leb _ _ room))
      ∙ enter_load m (system_cell blk_cell mid) (system_cell to_in_cell mid) levels entered (with_load (place_in mid.space) x) less
