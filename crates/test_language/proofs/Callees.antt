-- The words of the tests of calls: what they are, and how their bodies lie.
use Rattle.std.proofs.Common.{◌≡◌, ℕ, ◌+◌, ◌<◌, ◌≤◌, Bool, true, false, List, [], ◌∷◌, length, refl, sym, subst, arith, Option, None}
use Rattle.std.proofs.lemmas.Bool.Decides.{nat_tests}
use Rattle.std.specs.Prelude.{◌==◌, nat_lt, if◌then◌else◌, slice_index}
use Rattle.stacks.specs.declared.return_stack.Entry.{Entry}
use Rattle.cell_machine.specs.declared.calls.Called.{Called}
use Rattle.cell_machine.specs.declared.calls.Called.TheVariants as called
use Rattle.cell_machine.specs.declared.event.Op.{Op}
use Rattle.cell_machine.specs.declared.event.Event.{Event}
use Rattle.cell_machine.specs.declared.event.Event.TheVariants as event
use Rattle.cell_machine.specs.declared.event.Work.TheVariants as work
use Rattle.cell_machine.specs.Tree.{Trees, End, Call}
use Rattle.cell_machine.specs.Frames.{Core, Once}
use Rattle.cell_machine.specs.Layout.{Cell, Means, NoLeaves, IsCalled}
use Rattle.cell_machine.specs.Levels.{Left}
use Rattle.cell_machine.specs.Events.{BodyAt, Entered}
use Rattle.cell_machine.specs.Calling.{Meaning, Outside, GivesCell, RunsBody, RunsPart, StandsFor, IsReadyToCall, ResumedCalling}

-- a body that only calls
abbrev calling : List ℕ → Trees
calling [] = End
calling (w ∷ ws) = Call w (calling ws)

-- from p on these calls, and the end
abbrev LiesAt : List ℕ → ℕ → List ℕ → Type 0
LiesAt code p [] = slice_index code p ≡ 4108
LiesAt code p (w ∷ ws) = IsCalled w × (slice_index code p ≡ w × LiesAt code (p + 1) ws)

module _ (code : List ℕ) (lo hi : ℕ) (most : hi ≤ 12) where
  cell : (y v : ℕ) → slice_index code y ≡ v → lo ≤ y → y < hi → Cell code lo hi [] y v
  cell y v e l h = record { is = e; from = l; below = h; stored = omega (arith, h, most); settled = λ h. h }

  means : (ws : List ℕ) (p : ℕ) → LiesAt code p ws → lo ≤ p → p + length ws < hi → (e : ℕ) × (Means (Cell code lo hi []) NoLeaves p (calling ws) e × Cell code lo hi [] e 4108)
  means [] p l a b = (p, (record { count = 0; hops = refl }, cell p 4108 l a (omega (arith, b))))
  means (w ∷ ws) p l a b =
      let rest = means ws (p + 1) l.1.1 (omega (arith, a)) (omega (arith, b)) in (
        rest.0,
        (
          record { place = p; reached = record { count = 0; hops = refl }; lies = (l.0, cell p w l.1.0 a (omega (arith, b)), rest.1.0) },
          rest.1.1,
        ),
      )

-- whose body a cell belongs to; 1007 is the word whose parts the others run
abbrev owner_at : ℕ → ℕ
owner_at y =
    if nat_lt y 3 then 1001 else (if nat_lt y 5 then 1007 else (if nat_lt y 8 then 1004 else (if nat_lt y 10 then 1005 else 1007)))

-- what the table answers, by which token it is
abbrev answer : (a b c d e f : Bool) → Called
answer a b c d e f =
    if a then called.Body 0 else
    (if b then called.Cell 7 else
    (if c then called.Part 3 1280 else
    (if d then called.Body 5 else
    (if e then called.Body 8 else (if f then called.Part 10 1280 else called.Outside)))))

-- what it means
abbrev meaning : (a b c d e f : Bool) → Meaning
meaning a b c d e f =
    if a then RunsBody (calling (1002 ∷ 1003 ∷ []) ∷ []) else
    (if b then GivesCell 7 else
    (if c then RunsPart 1007 1280 (calling (13 ∷ []) ∷ []) else
    (if d then RunsBody (calling (1008 ∷ 1001 ∷ []) ∷ []) else
    (if e then RunsBody (calling (1005 ∷ []) ∷ []) else
    (if f then RunsPart 1007 1280 (calling (1006 ∷ []) ∷ []) else Outside)))))

abbrev answered : ℕ → Called
answered w = answer (w == 1001) (w == 1002) (w == 1003) (w == 1004) (w == 1005) (w == 1006)

abbrev meaning_of : ℕ → Meaning
meaning_of w = meaning (w == 1001) (w == 1002) (w == 1003) (w == 1004) (w == 1005) (w == 1006)

-- the cells of the five bodies
pub record Laid (code : List ℕ) : Type 0 where
  pub inner : LiesAt code 0 (1002 ∷ 1003 ∷ [])
  pub part : LiesAt code 3 (13 ∷ [])
  pub outer : LiesAt code 5 (1008 ∷ 1001 ∷ [])
  pub itself : LiesAt code 8 (1005 ∷ [])
  pub own_part : LiesAt code 10 (1006 ∷ [])

user : (w : ℕ) → 111 < w → w ≤ 4096 → IsCalled w
user w a b =
    record { above = omega (arith, a); most = b; no_exit = λ e. omega (arith, a, e); no_compile = λ e. omega (arith, a, e) }

pub laid : (code : List ℕ) → slice_index code 0 ≡ 1002 → slice_index code 1 ≡ 1003 → slice_index code 2 ≡ 4108 → slice_index code 3 ≡ 13 → slice_index code 4 ≡ 4108 → slice_index code 5 ≡ 1008 → slice_index code 6 ≡ 1001 → slice_index code 7 ≡ 4108 → slice_index code 8 ≡ 1005 → slice_index code 9 ≡ 4108 → slice_index code 10 ≡ 1006 → slice_index code 11 ≡ 4108 → Laid code
laid code a b c d e f g h i j k l = record {
  inner = (user 1002 (omega arith) (omega arith), (a, (user 1003 (omega arith) (omega arith), (b, c))));
  part = (record { above = omega arith; most = omega arith; no_exit = omega arith; no_compile = omega arith }, (d, e));
  outer = (user 1008 (omega arith) (omega arith), (f, (user 1001 (omega arith) (omega arith), (g, h))));
  itself = (user 1005 (omega arith) (omega arith), (i, j));
  own_part = (user 1006 (omega arith) (omega arith), (k, l));
}

module _ (code : List ℕ) (l : Laid code) where
  body : (owner lo hi : ℕ) (ws : List ℕ) → hi ≤ 12 → LiesAt code lo ws → lo + length ws < hi → ((y : ℕ) → lo ≤ y → y < hi → owner_at y ≡ owner) → BodyAt code owner_at owner lo (calling ws ∷ [])
  body owner lo hi ws most at fits own =
      (lo, hi, (record { owned = own; within = omega (arith, most) }, means code lo hi most ws lo at (omega arith) fits))

  inner : BodyAt code owner_at 1001 0 (calling (1002 ∷ 1003 ∷ []) ∷ [])
  inner = body 1001 0 3 (1002 ∷ 1003 ∷ []) (omega arith) l.inner (omega arith) (λ y a b. grind (arith, nat_tests, a, b))

  part : BodyAt code owner_at 1007 3 (calling (13 ∷ []) ∷ [])
  part = body 1007 3 5 (13 ∷ []) (omega arith) l.part (omega arith) (λ y a b. grind (arith, nat_tests, a, b))

  outer : BodyAt code owner_at 1004 5 (calling (1008 ∷ 1001 ∷ []) ∷ [])
  outer = body 1004 5 8 (1008 ∷ 1001 ∷ []) (omega arith) l.outer (omega arith) (λ y a b. grind (arith, nat_tests, a, b))

  itself : BodyAt code owner_at 1005 8 (calling (1005 ∷ []) ∷ [])
  itself = body 1005 8 10 (1005 ∷ []) (omega arith) l.itself (omega arith) (λ y a b. grind (arith, nat_tests, a, b))

  own_part : BodyAt code owner_at 1007 10 (calling (1006 ∷ []) ∷ [])
  own_part = body 1007 10 12 (1006 ∷ []) (omega arith) l.own_part (omega arith) (λ y a b. grind (arith, nat_tests, a, b))

  stands : (w : ℕ) (a b c d e f : Bool) → (a ≡ true → w ≡ 1001) → (d ≡ true → w ≡ 1004) → (e ≡ true → w ≡ 1005) → StandsFor code owner_at (answer a b c d e f) w (meaning a b c d e f)
  stands w true b c d e f h i j =
      subst (λ o. BodyAt code owner_at o 0 (calling (1002 ∷ 1003 ∷ []) ∷ [])) (sym (h refl)) inner
  stands w false true c d e f h i j = refl
  stands w false false true d e f h i j = (refl, part)
  stands w false false false true e f h i j =
      subst (λ o. BodyAt code owner_at o 5 (calling (1008 ∷ 1001 ∷ []) ∷ [])) (sym (i refl)) outer
  stands w false false false false true f h i j =
      subst (λ o. BodyAt code owner_at o 8 (calling (1005 ∷ []) ∷ [])) (sym (j refl)) itself
  stands w false false false false false true h i j = (refl, own_part)
  stands w false false false false false false h i j = tt

  all_stand : (w : ℕ) → StandsFor code owner_at (answered w) w (meaning_of w)
  all_stand w =
      stands w (w == 1001) (w == 1002) (w == 1003) (w == 1004) (w == 1005) (w == 1006) (λ t. grind (arith, nat_tests, t)) (λ t. grind (arith, nat_tests, t)) (λ t. grind (arith, nat_tests, t))

  pub ready : (word : ℕ) (pending pending' : Option ℕ) (p p' : ℕ) (es es' : List Entry) (st st' : List ℕ) → pending ≡ None → es ≡ [] → Entered code (work.Primitive word) pending p es st pending' p' es' st' → IsReadyToCall code answered pending' p' es'
  ready word pending pending' p p' es es' st st' n e h =
      let left : Left code owner_at pending p es [] = subst (λ o. Left code owner_at o p es []) (sym n) e in
      (owner_at, meaning_of, Once word ∷ [], (all_stand, h.1 owner_at [] left))

-- after a service the rest is ready
pub asked_ready : (code : List ℕ) (calls : ℕ → Called) (came : Event) (o : Op) (pending pending' : Option ℕ) (p p' : ℕ) (es es' : List Entry) (before after : Core) → came ≡ event.Service o → IsReadyToCall code calls pending p es → ResumedCalling code calls came pending p es before pending' p' es' after → IsReadyToCall code calls pending' p' es'
asked_ready code calls came o pending pending' p p' es es' before after e r resumed =
    let service : ResumedCalling code calls (event.Service o) pending p es before pending' p' es' after = subst (λ v. ResumedCalling code calls v pending p es before pending' p' es' after) e resumed in
    let comes = service r.0 r.1 r.2 r.3.0 r.3.1 in
    (r.0, r.1, comes.1.0, (r.3.0, comes.1.1.0))
