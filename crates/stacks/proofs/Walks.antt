-- A walk over the calls, from the top down.
use Rattle.std.proofs.Common.{◌≡◌, ◌∙◌, refl, sym, ap, subst, ℕ, ◌+◌, ◌-◌, ◌<◌, ◌≤◌, true, false, List, [], ◌∷◌, arith}
use Rattle.std.specs.Prelude.{◌&&◌, nat_lt}
use Rattle.stacks.specs.declared.return_stack.Entry.{Entry}
use Rattle.stacks.specs.declared.return_stack.Entry.TheVariants.{Call, Value, Loop, Load}
use Rattle.stacks.specs.Stacks.{entry_units, units, calls_below, loads}
use Rattle.stacks.specs.Entries.{entry_at, entries_in}
use Rattle.stacks.proofs.Entries.{Lies, has_top, fits, taken, empty}

no_call : (limit place : ℕ) (e : Entry) (es : List Entry) → ((back : ℕ) → e ≡ Call back → ⊥) → calls_below limit place (e ∷ es) ≡ calls_below limit place es
no_call limit place (Call back) es n = absurd (n back refl)
no_call limit place (Value w) es n = refl
no_call limit place (Loop l i) es n = refl
no_call limit place (Load b t) es n = refl

one_more : (e : Entry) (es : List Entry) → loads (e ∷ es) ≡ loads (e ∷ []) + loads es
one_more (Call back) es = omega arith
one_more (Value w) es = omega arith
one_more (Loop l i) es = omega arith
one_more (Load b t) es = omega arith

module _ (p : List Entry) (u : ℕ) (h : Lies p u (entries_in 256 p u)) (n : u ≡ 0 → ⊥) (used : ℕ) (is : used ≡ entry_units (entry_at p u)) where
  pub enough : used ≤ u
  enough = omega (arith, fits p u (entries_in 256 p u) h n)

  pub next : Lies p (u - used) (entries_in 256 p (u - used))
  next = subst (λ k. Lies p (u - k) (entries_in 256 p (u - k))) (sym is) (taken p u (entries_in 256 p u) h n)

  split : entries_in 256 p u ≡ entry_at p u ∷ entries_in 256 p (u - used)
  split = has_top p u (entries_in 256 p u) h n ∙ ap (λ k. entry_at p u ∷ entries_in 256 p (u - k)) (sym is)

  pub past_other : (limit place : ℕ) → ((back : ℕ) → entry_at p u ≡ Call back → ⊥) → calls_below limit place (entries_in 256 p (u - used)) ≡ calls_below limit place (entries_in 256 p u)
  past_other limit place other = sym (ap (λ l. calls_below limit place l) split ∙ no_call limit place (entry_at p u) (entries_in 256 p (u - used)) other)

  pub past_any : loads (entries_in 256 p u) ≡ loads (entry_at p u ∷ []) + loads (entries_in 256 p (u - used))
  past_any = ap (λ l. loads l) split ∙ one_more (entry_at p u) (entries_in 256 p (u - used))

  at_call : (limit place back : ℕ) → entry_at p u ≡ Call back → calls_below limit place (entries_in 256 p u) ≡ (nat_lt place limit && calls_below limit back (entries_in 256 p (u - used)))
  at_call limit place back e =
      ap (λ l. calls_below limit place l) split ∙ ap (λ x. calls_below limit place (x ∷ entries_in 256 p (u - used))) e

  pub past_call : (limit place back : ℕ) → entry_at p u ≡ Call back → nat_lt place limit ≡ true → calls_below limit back (entries_in 256 p (u - used)) ≡ calls_below limit place (entries_in 256 p u)
  past_call limit place back e b =
      sym (at_call limit place back e ∙ ap (λ t. t && calls_below limit back (entries_in 256 p (u - used))) b)

pub stops : (p : List Entry) (u : ℕ) → Lies p u (entries_in 256 p u) → (u ≡ 0 → ⊥) → (limit place back : ℕ) → entry_at p u ≡ Call back → nat_lt place limit ≡ false → false ≡ calls_below limit place (entries_in 256 p u)
stops p u h n limit place back e b =
    sym (at_call p u h n (entry_units (entry_at p u)) refl limit place back e ∙ ap (λ t. t && calls_below limit back (entries_in 256 p (u - entry_units (entry_at p u)))) b)

pub at_end : (p : List Entry) (u : ℕ) → Lies p u (entries_in 256 p u) → u ≡ 0 → (limit place : ℕ) → true ≡ calls_below limit place (entries_in 256 p u)
at_end p u h z limit place = sym (ap (λ l. calls_below limit place l) (empty p u (entries_in 256 p u) h z))

pub no_more : (p : List Entry) (u : ℕ) → Lies p u (entries_in 256 p u) → u ≡ 0 → loads (entries_in 256 p u) ≡ 0
no_more p u h z = ap (λ l. loads l) (empty p u (entries_in 256 p u) h z)
