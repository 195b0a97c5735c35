use Rattle.std.proofs.Common.{◌≡◌, ◌∙◌, ◌+◌, ◌*◌, ◌++◌, ℕ, List, append_assoc, refl, arith, sym, ap, subst, IsTrue, suc}
use Rattle.sha2.specs.Hashers.{Holds256}
use Rattle.sector_disk.specs.Disk.{Disk}
use Rattle.journal.proofs.Calls.{reads_then}
use Rattle.image_care.specs.View.{found_by}
use Rattle.image_care.specs.Examined.{joined_below}
use Rattle.image_care.proofs.blocks.add_blocks.Goals as goal

pub loop-b-preserved : goal.loop-b-preserved
loop-b-preserved g c =
    let D = g.D.SectorDevice in
    let inv = c.loop-b.invariant in
    let view = c.args.view.now in
    let b = c.loop-b.b in
    let old = c.args.device.now in
    let honest : IsTrue (D.keeps_model old) → IsTrue (D.keeps_model c.loop-b.device) = λ keeps. subst IsTrue (sym inv.reads.passes.model) keeps in
    record {
      added = λ keeps m held.
          let found : ℕ → List ℕ = found_by view (D.disk old).content in
          let below = joined_below found b in
          let next : Holds256 c.add_block.new.hasher ((m ++ below) ++ found b) =
          subst (λ (d : Disk). Holds256 c.add_block.new.hasher ((m ++ below) ++ found_by view d.content b)) (inv.reads.disk keeps)
          (c.in_ok-add_block.ensures.ok (honest keeps) (m ++ below) (inv.added keeps m held)) in
          let one_more : suc b ≡ b + 1 = omega arith in
          subst (λ l. Holds256 c.add_block.new.hasher l) (append_assoc m below (found b) ∙ ap (λ k. m ++ joined_below found k) one_more) next;
      reads = reads_then D old c.loop-b.device c.add_block.new.device g.met.D.SectorDevice.widens (2 * b) 2 (2 * (b + 1)) (omega arith)
          inv.reads c.in_ok-add_block.ensures.reads refl;
    }
