use Rattle.std.proofs.Common.{◌≡◌, ◌∙◌, ◌+◌, ◌++◌, ℕ, List, arith, sym, ap, subst, IsTrue, suc}
use Rattle.sector_disk.specs.Disk.{Disk}
use Rattle.journal.specs.Images.{pair_at}
use Rattle.recovery.proofs.Upgrades.{only_read_then}
use Rattle.image_care.specs.Examined.{joined_below}
use Rattle.image_care.specs.View.{found_by}
use Rattle.image_care.proofs.all_blocks.collect.Goals as goal

pub loop-b-preserved : goal.loop-b-preserved
loop-b-preserved g c =
    let D = g.D.SectorDevice in
    let inv = c.loop-b.invariant in
    let step = c.append_pair.ensures in
    let view = c.args.view.now in
    let b = c.loop-b.b in
    let old = c.args.device.now in
    let honest : IsTrue (D.keeps_model old) → IsTrue (D.keeps_model c.loop-b.device) = λ keeps. subst IsTrue (sym inv.only_read.passes.model) keeps in
    record {
      so_far = λ keeps.
          let found : ℕ → List ℕ = found_by view (D.disk old).content in
          let one_more : suc b ≡ b + 1 = omega arith in
          c.in_ok-append_pair.ensures.bytes (honest keeps)
          ∙ ap (λ k. c.loop-b.bytes.items ++ pair_at (D.disk c.loop-b.device).content k) c.place_of.ensures.place
          ∙ ap (λ (d : Disk). c.loop-b.bytes.items ++ found_by view d.content b) (inv.only_read.disk keeps)
          ∙ ap (λ (l : List ℕ). l ++ found b) (inv.so_far keeps)
          ∙ ap (joined_below found) one_more;
      length = omega (arith, inv.length, c.in_ok-append_pair.ensures.length);
      well = c.in_ok-append_pair.ensures.well ∙ inv.well;
      only_read = only_read_then D old c.loop-b.device c.append_pair.new.device g.met.D.SectorDevice.widens inv.only_read step.only_read;
      reads = omega (arith, inv.reads, step.reads);
    }
