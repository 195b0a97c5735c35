-- Where the innermost structure lies: between the beginning of the definition and the free cells.
use Rattle.std.proofs.Common.{◌≡◌, ℕ, ◌+◌, ◌≤◌, true, false, List, ◌∷◌, subst, arith, Option, Some, None}
use Rattle.cell_machine.specs.Layout.{most_cells}
use Rattle.compiler.specs.declared.opens.Open.{Open}
use Rattle.compiler.specs.declared.opens.Open.TheVariants as open_at
use Rattle.compiler.specs.declared.definition.Compiler.{Compiler}
use Rattle.compiler.specs.Definition.{Begun, AfterIf, AfterElse, AfterWhile, AfterDo, Definition}
use Rattle.compiler.specs.Represents.{Stands, Represents, IsSound}
use Rattle.compiler.proofs.Grows.{stands_le, ended_le}
use Rattle.compiler.proofs.Adds.{stands_here}

-- so many cells from x on are used
pub record Spot (c : Compiler) (x n : ℕ) : Type 0 where
  pub after : c.start ≤ x
  pub before : x + n ≤ c.here
  pub fits : c.here ≤ most_cells

if_in : (c : Compiler) (old : List ℕ) (x : ℕ) (opens : List Open) (d : Definition) (r : Represents c old d) (begun : List Begun) → Stands old r.waiting c.leaves c.part begun (open_at.If x ∷ opens) d.trees c.here → Spot c x 2
if_in c old x opens d r (AfterIf before ∷ begun) st =
    let le : x + 2 ≤ c.here = st.0.rest.ordered in
    let part : c.part ≤ x = stands_le old r.waiting c.leaves c.part begun opens before x st.1 in
    let start : c.start ≤ c.part = ended_le old c.start d.parts c.part r.ended in
    record { after = omega arith; before = le; fits = r.fits }
if_in c old x opens d r _ st = absurd st

else_in : (c : Compiler) (old : List ℕ) (x : ℕ) (opens : List Open) (d : Definition) (r : Represents c old d) (begun : List Begun) → Stands old r.waiting c.leaves c.part begun (open_at.Else x ∷ opens) d.trees c.here → Spot c x 2
else_in c old x opens d r (AfterElse before a ∷ begun) st =
    let le : x + 2 ≤ c.here = st.0.rest.ordered in
    let le1 : st.0.place + 2 ≤ x = st.0.half.ordered in
    let part : c.part ≤ st.0.place = stands_le old r.waiting c.leaves c.part begun opens before st.0.place st.1 in
    let start : c.start ≤ c.part = ended_le old c.start d.parts c.part r.ended in
    record { after = omega arith; before = le; fits = r.fits }
else_in c old x opens d r _ st = absurd st

while_in : (c : Compiler) (old : List ℕ) (b x : ℕ) (opens : List Open) (d : Definition) (r : Represents c old d) (begun : List Begun) → Stands old r.waiting c.leaves c.part begun (open_at.While b x ∷ opens) d.trees c.here → Spot c x 2
while_in c old b x opens d r (AfterWhile before head ∷ begun) st =
    let le : x + 2 ≤ c.here = st.0.rest.ordered in
    let le1 : b ≤ x = st.0.half.ordered in
    let part : c.part ≤ b = stands_le old r.waiting c.leaves c.part begun opens before b st.1 in
    let start : c.start ≤ c.part = ended_le old c.start d.parts c.part r.ended in
    record { after = omega arith; before = le; fits = r.fits }
while_in c old b x opens d r _ st = absurd st

do_in : (c : Compiler) (old : List ℕ) (x : ℕ) (outer : Option ℕ) (opens : List Open) (d : Definition) (r : Represents c old d) (begun : List Begun) → Stands old r.waiting c.leaves c.part begun (open_at.Do x outer ∷ opens) d.trees c.here → Spot c x 1
do_in c old x outer opens d r (AfterDo before ∷ begun) st =
    let le : x + 1 ≤ c.here = st.0.rest.ordered in
    let part : c.part ≤ x = stands_le old st.0.outer outer c.part begun opens before x st.1 in
    let start : c.start ≤ c.part = ended_le old c.start d.parts c.part r.ended in
    record { after = omega arith; before = le; fits = r.fits }
do_in c old x outer opens d r _ st = absurd st

-- the structures as they stand, with the innermost one named
pub stands_as : (c : Compiler) (old : List ℕ) (opens : List Open) (d : Definition) (r : Represents c old d) → c.marked ≡ false → c.opens ≡ opens → Stands old r.waiting c.leaves c.part d.begun opens d.trees c.here
stands_as c old opens d r ma is =
    subst (λ l. Stands old r.waiting c.leaves c.part d.begun l d.trees c.here) is (stands_here c old d r ma)

pub if_spot : (c : Compiler) (old : List ℕ) (x : ℕ) (opens : List Open) → IsSound c old → c.is_open ≡ true → c.marked ≡ false → c.opens ≡ open_at.If x ∷ opens → Spot c x 2
if_spot c old x opens (None, h) op ma is = absurd (cc)
if_spot c old x opens (Some d, h) op ma is = if_in c old x opens d h.1 d.begun (stands_as c old (open_at.If x ∷ opens) d h.1 ma is)

pub else_spot : (c : Compiler) (old : List ℕ) (x : ℕ) (opens : List Open) → IsSound c old → c.is_open ≡ true → c.marked ≡ false → c.opens ≡ open_at.Else x ∷ opens → Spot c x 2
else_spot c old x opens (None, h) op ma is = absurd (cc)
else_spot c old x opens (Some d, h) op ma is = else_in c old x opens d h.1 d.begun (stands_as c old (open_at.Else x ∷ opens) d h.1 ma is)

pub while_spot : (c : Compiler) (old : List ℕ) (b x : ℕ) (opens : List Open) → IsSound c old → c.is_open ≡ true → c.marked ≡ false → c.opens ≡ open_at.While b x ∷ opens → Spot c x 2
while_spot c old b x opens (None, h) op ma is = absurd (cc)
while_spot c old b x opens (Some d, h) op ma is = while_in c old b x opens d h.1 d.begun (stands_as c old (open_at.While b x ∷ opens) d h.1 ma is)

pub do_spot : (c : Compiler) (old : List ℕ) (x : ℕ) (outer : Option ℕ) (opens : List Open) → IsSound c old → c.is_open ≡ true → c.marked ≡ false → c.opens ≡ open_at.Do x outer ∷ opens → Spot c x 1
do_spot c old x outer opens (None, h) op ma is = absurd (cc)
do_spot c old x outer opens (Some d, h) op ma is = do_in c old x outer opens d h.1 d.begun (stands_as c old (open_at.Do x outer ∷ opens) d h.1 ma is)
