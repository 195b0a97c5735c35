-- What the compiler's fields and the cells say of the definition that is open.
use Rattle.std.specs.Prelude.{◌≡◌, ℕ, ◌+◌, ◌<◌, ◌≤◌, true, false, List, [], ◌∷◌, length, ◌⊎◌, slice_index, Option, Some, None}
use Rattle.cell_machine.specs.Layout.{compile_token}
use Rattle.cell_machine.specs.Tree.{Trees, End}
use Rattle.cell_machine.specs.Layout.{Means, Cell, IsIn, IsStill, NoLeaves, test_cell, jump_cell, do_cell, does_cell, most_cells}
use Rattle.compiler.specs.declared.opens.Open.{Open}
use Rattle.compiler.specs.declared.opens.Open.TheVariants as open_at
use Rattle.compiler.specs.declared.definition.Compiler.{Compiler}
use Rattle.compiler.specs.Definition.{Begun, AfterIf, AfterElse, AfterBegin, AfterWhile, AfterDo, Definition}

-- a cell in which a LEAVE will say where it goes
pub record Waits (lo hi : ℕ) (waiting : List ℕ) (y : ℕ) : Type 0 where
  pub waits : IsIn y waiting
  pub from : lo ≤ y
  pub below : y < hi

-- these cells, and no others, were written
pub record Patched (old : List ℕ) (ls : List ℕ) (to : ℕ) (new : List ℕ) : Type 0 where
  pub there : (y : ℕ) → IsIn y ls → slice_index new y ≡ to
  pub others : (y : ℕ) → (IsIn y ls → ⊥) → slice_index new y ≡ slice_index old y

-- these lie between
pub record Within (waiting : List ℕ) (lo hi : ℕ) : Type 0 where
  pub each : (y : ℕ) → IsIn y waiting → (lo < y) × (y < hi)

module _ (code : List ℕ) where
  -- the cells from p on and below q mean these trees
  pub record Segment (waiting : List ℕ) (p : ℕ) (trees : Trees) (q : ℕ) : Type 0 where
    pub lies : Means (Cell code p q waiting) (Waits p q waiting) p trees q
    pub ordered : p ≤ q

  -- a cell that is not patched any more
  abbrev pub Fixed : (waiting : List ℕ) (y v : ℕ) → Type 0
  Fixed waiting y v = Cell code y (y + 1) waiting y v

  -- nothing was added yet, or the first cell is no jump
  abbrev pub Started : (waiting : List ℕ) (p : ℕ) (trees : Trees) (q : ℕ) → Type 0
  Started waiting p trees q = ((p ≡ q) × (trees ≡ End)) ⊎ IsStill (Cell code p q waiting) p

  -- each waiting cell holds the place of the one before it, and the first one 0
  abbrev pub Chain : List ℕ → ℕ → Type 0
  Chain [] last = last ≡ 0
  Chain (y ∷ ys) last = (last ≡ y) × (slice_index code y < y) × Chain ys (slice_index code y)

  -- after IF: the test at x doesn't say yet where it goes
  pub record AtIf (waiting : List ℕ) (x : ℕ) (trees : Trees) (q : ℕ) : Type 0 where
    pub test : Fixed waiting x test_cell
    pub free : IsIn (x + 1) waiting → ⊥
    pub rest : Segment waiting (x + 2) trees q

  -- after ELSE: the test goes past the jump at y, and that one doesn't say yet where it goes
  pub record AtElse (waiting : List ℕ) (y : ℕ) (first trees : Trees) (q : ℕ) : Type 0 where
    pub place : ℕ
    pub test : Fixed waiting place test_cell
    pub to : Fixed waiting (place + 1) (y + 2)
    pub half : Segment waiting (place + 2) first y
    pub jump : Fixed waiting y jump_cell
    pub free : IsIn (y + 1) waiting → ⊥
    pub rest : Segment waiting (y + 2) trees q

  -- after BEGIN, which took no cell
  pub record AtBegin (waiting : List ℕ) (b : ℕ) (trees : Trees) (q : ℕ) : Type 0 where
    pub started : Started waiting b trees q
    pub rest : Segment waiting b trees q

  -- after WHILE: the test at m doesn't say yet where it goes
  pub record AtWhile (waiting : List ℕ) (b m : ℕ) (head trees : Trees) (q : ℕ) : Type 0 where
    pub still : IsStill (Cell code b (m + 1) waiting) b
    pub half : Segment waiting b head m
    pub test : Fixed waiting m test_cell
    pub free : IsIn (m + 1) waiting → ⊥
    pub rest : Segment waiting (m + 2) trees q

  -- after DO: its LEAVEs wait, the last one of them in cell own, and so do those of the loop around it
  pub record AtDo (waiting : List ℕ) (last : Option ℕ) (x : ℕ) (trees : Trees) (q : ℕ) : Type 0 where
    pub outer : List ℕ
    pub own : ℕ
    pub last_is : last ≡ Some own
    pub begins : Fixed outer x do_cell
    pub chain : Chain waiting own
    pub after : (y : ℕ) → IsIn y waiting → x < y
    pub outside : Within outer 0 x
    pub rest : Segment waiting (x + 1) trees q

  -- The begun structures, innermost first, with the trees of the innermost one up to q. Waiting is where the LEAVEs of
  -- the innermost loop wait for its end, last the last of them, and part where the part begins.
  abbrev pub Stands : (waiting : List ℕ) (last : Option ℕ) (part : ℕ) → List Begun → List Open → Trees → ℕ → Type 0
  Stands waiting last part [] [] trees q = (waiting ≡ []) × (last ≡ None) × Segment waiting part trees q
  Stands waiting last part (AfterIf before ∷ begun) (open_at.If x ∷ opens) trees q =
      AtIf waiting x trees q × Stands waiting last part begun opens before x
  Stands waiting last part (AfterElse before first ∷ begun) (open_at.Else y ∷ opens) trees q =
      (at : AtElse waiting y first trees q) × Stands waiting last part begun opens before at.place
  Stands waiting last part (AfterBegin before ∷ begun) (open_at.Begin b ∷ opens) trees q =
      AtBegin waiting b trees q × Stands waiting last part begun opens before b
  Stands waiting last part (AfterWhile before head ∷ begun) (open_at.While b m ∷ opens) trees q =
      AtWhile waiting b m head trees q × Stands waiting last part begun opens before b
  Stands waiting last part (AfterDo before ∷ begun) (open_at.Do x outer_last ∷ opens) trees q =
      (at : AtDo waiting last x trees q) × Stands at.outer outer_last part begun opens before x
  Stands waiting last part _ _ trees q = ⊥

  -- the parts that are ended: each goes on at its DOES>
  abbrev pub Ended : ℕ → List Trees → ℕ → Type 0
  Ended p [] q = p ≡ q
  Ended p (part ∷ parts) q =
      (e : ℕ) × (Means (Cell code p e []) NoLeaves p part e × (p ≤ e) × Fixed [] e does_cell × Ended (e + 1) parts q)

-- the name of the definition that is open, or was the last one
abbrev pub name_of : Compiler → List ℕ
name_of c = c.name.items

-- the cells of all bodies but that of the open definition, which begins after them
abbrev pub used : Compiler → ℕ
used c = c.start

-- the open definition d
pub record Represents (c : Compiler) (code : List ℕ) (d : Definition) : Type 0 where
  pub waiting : List ℕ
  pub named : name_of c ≡ d.name
  pub marked : c.marked ≡ d.marked
  pub size : c.start + d.cells ≡ c.here
  pub fits : c.here ≤ most_cells
  pub within : Within waiting 0 c.here
  pub ended : Ended code c.start d.parts c.part
  pub depth : length d.begun ≡ length c.opens
  -- where the trees end: a mark of COMPILE may stand after them
  pub end : ℕ
  pub plain : c.marked ≡ false → end ≡ c.here
  pub mark : c.marked ≡ true → (end + 1 ≡ c.here) × Fixed code waiting end compile_token
  pub stands : Stands code waiting c.leaves c.part d.begun c.opens d.trees end

-- no definition is open
abbrev pub IsClosed : Compiler → Type 0
IsClosed c = (c.is_open ≡ false) × (used c ≤ most_cells)

-- an open definition, or none
abbrev pub Holds : Compiler → List ℕ → Option Definition → Type 0
Holds c code None = IsClosed c
Holds c code (Some d) = (c.is_open ≡ true) × Represents c code d

abbrev pub IsSound : Compiler → List ℕ → Type 0
IsSound c code = (o : Option Definition) × Holds c code o
