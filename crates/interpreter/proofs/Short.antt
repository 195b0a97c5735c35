-- The short words of the definitions, where the test is known.
use Rattle.std.proofs.Common.{◌≡◌, ℕ, ◌-◌, ◌<◌, ◌≤◌, Bool, true, false, List, [], ◌∷◌, length, ◌⊎◌, inl, inr, refl, ap, ◌∙◌, arith}
use Rattle.std.specs.Prelude.{nat_lt, nat_le, ◌&&◌}
use Rattle.std.proofs.lemmas.Bool.{le-ltb, lt-leb, le-leb}
use Rattle.cell_machine.specs.Fault.{Fault, Steps, StackFull, StackEmpty, Faults}
use Rattle.cell_machine.specs.Frames.{Core, top_of, paid}
use Rattle.interpreter.specs.Terminals.{paying}
use Rattle.cell_machine.specs.Value.{Outcome, Ends}
use Rattle.interpreter.specs.State.{World, pushing, popping, needing, with_args}

pub needing-no : (b : Bool) (f : Fault) (c : Core) (x : World) (go : Core → Outcome World) → b ≡ false → needing b f c x go ≡ Ends (Faults f) c x
needing-no b f c x go is = ap (λ b. needing b f c x go) is

pub needing-yes : (b : Bool) (f : Fault) (c : Core) (x : World) (go : Core → Outcome World) → b ≡ true → needing b f c x go ≡ go c
needing-yes b f c x go is = ap (λ b. needing b f c x go) is

pub pushing-full : (w : ℕ) (c : Core) (x : World) → (length c.stack < 256 → ⊥) → pushing w c x ≡ Ends (Faults StackFull) c x
pushing-full w c x full = needing-no (nat_lt (length c.stack) 256) StackFull c x _ (le-ltb _ _ (omega (arith, full)))

pub popping-none : (c : Core) (x : World) (go : ℕ → Core → Outcome World) → c.stack ≡ [] → popping c x go ≡ Ends (Faults StackEmpty) c x
popping-none c x go is = ap (λ l. top_of l c (λ e c. Ends e c x) go) is

pub popping-one : (c : Core) (x : World) (go : ℕ → Core → Outcome World) (w : ℕ) (stack : List ℕ) → c.stack ≡ w ∷ stack → popping c x go ≡ go w (record c { stack = stack })
popping-one c x go w stack is = ap (λ l. top_of l c (λ e c. Ends e c x) go) is

-- two cells
pub two-args : (c : Core) (x : World) (go : ℕ → ℕ → Core → Outcome World) (u a : ℕ) (stack : List ℕ) → c.stack ≡ u ∷ a ∷ stack
    → with_args 2 c x (λ c. popping c x (λ u c. popping c x (λ a c. go u a c))) ≡ go u a (record c { stack = stack })
two-args c x go u a stack is =
    let enough : nat_le 2 (length c.stack) ≡ true = le-leb 2 (length c.stack) (omega (arith, ap length is)) in
    needing-yes (nat_le 2 (length c.stack)) StackEmpty c x (λ c. popping c x (λ u c. popping c x (λ a c. go u a c))) enough
    ∙ popping-one c x (λ u c. popping c x (λ a c. go u a c)) u (a ∷ stack) is

-- three
pub three-args : (c : Core) (x : World) (go : ℕ → ℕ → ℕ → Core → Outcome World) (a h l : ℕ) (stack : List ℕ) → c.stack ≡ a ∷ h ∷ l ∷ stack
    → with_args 3 c x (λ c. popping c x (λ a c. popping c x (λ h c. popping c x (λ l c. go a h l c)))) ≡ go a h l (record c { stack = stack })
three-args c x go a h l stack is =
    let enough : nat_le 3 (length c.stack) ≡ true = le-leb 3 (length c.stack) (omega (arith, ap length is)) in
    needing-yes (nat_le 3 (length c.stack)) StackEmpty c x (λ c. popping c x (λ a c. popping c x (λ h c. popping c x (λ l c. go a h l c)))) enough
    ∙ popping-one c x (λ a c. popping c x (λ h c. popping c x (λ l c. go a h l c))) a (h ∷ l ∷ stack) is

pub few-args : (n : ℕ) (c : Core) (x : World) (go : Core → Outcome World) → length c.stack < n → with_args n c x go ≡ Ends (Faults StackEmpty) c x
few-args n c x go few = needing-no (nat_le n (length c.stack)) StackEmpty c x go (lt-leb n (length c.stack) few)

pub paying-yes : (n : ℕ) (c : Core) (x : World) (go : Core → Outcome World) → n ≤ c.steps → paying n c x go ≡ go (record c { steps = c.steps - n })
paying-yes n c x go enough = ap (λ b. paid b n c (λ e c. Ends e c x) go) (le-leb n c.steps enough)

pub paying-no : (n : ℕ) (c : Core) (x : World) (go : Core → Outcome World) → c.steps < n → paying n c x go ≡ Ends (Faults Steps) c x
paying-no n c x go few = ap (λ b. paid b n c (λ e c. Ends e c x) go) (lt-leb n c.steps few)

-- ---- BASE

and-false : (a : Bool) → (a && false) ≡ false
and-false true = refl
and-false false = refl

pub no_base : (b : ℕ) → (b < 2) ⊎ (72 < b) → (nat_le 2 b && nat_le b 72) ≡ false
no_base b (inl less) = ap (λ t. t && nat_le b 72) (lt-leb 2 b less)
no_base b (inr more) = ap (λ t. nat_le 2 b && t) (lt-leb b 72 more) ∙ and-false (nat_le 2 b)

pub a_base : (b : ℕ) → 2 ≤ b → b ≤ 72 → (nat_le 2 b && nat_le b 72) ≡ true
a_base b low high = ap (λ t. t && nat_le b 72) (le-leb 2 b low) ∙ le-leb b 72 high
