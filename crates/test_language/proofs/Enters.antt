-- A word entered by itself where nothing is left to do.
use Rattle.std.proofs.Common.{◌≡◌, ℕ, List, [], ◌∷◌, sym, subst, Option, None}
use Rattle.stacks.specs.declared.return_stack.Entry.{Entry}
use Rattle.cell_machine.specs.declared.event.Work.TheVariants as work
use Rattle.cell_machine.specs.Frames.{Once}
use Rattle.cell_machine.specs.Levels.{Left}
use Rattle.cell_machine.specs.Events.{Entered, IsReady}

pub ready_once : (code : List ℕ) (token : ℕ) (pending pending' : Option ℕ) (p p' : ℕ) (es es' : List Entry) (st st' : List ℕ) → pending ≡ None → es ≡ [] → Entered code (work.Primitive token) pending p es st pending' p' es' st' → IsReady code pending' p' es'
ready_once code token pending pending' p p' es es' st st' n e h =
    let l : Left code (λ y. 0) pending p es [] = subst (λ o. Left code (λ y. 0) o p es []) (sym n) e in
    (λ y. 0, Once token ∷ [], h.1 (λ y. 0) [] l)
