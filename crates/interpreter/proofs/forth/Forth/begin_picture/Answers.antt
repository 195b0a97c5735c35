use Rattle.std.proofs.Common.{◌≡◌, ◌+◌, refl, ap, sym, arith}
use Rattle.interpreter.specs.State.{pad}
use Rattle.interpreter.proofs.Altering.{went}
use Rattle.interpreter.proofs.forth.Forth.begin_picture.Goals as goal

pub returns-clause-alters : goal.returns-clause-alters
returns-clause-alters g c = λ levels x stands.
    let at : x.here + 324 ≡ c.here.result + 324 = ap (λ n. n + 324) (sym (c.here.ensures.here _ stands.rests.meant)) in
    went _ (record x { held_end = pad x; held = 0 })
    (record {
      rests = record { meant = stands.rests.meant; held_end = at; held = refl; buffers = stands.rests.buffers; loads = stands.rests.loads; maps = stands.rests.maps };
      left = stands.left;
    })
    (λ r. refl) refl (omega arith)
