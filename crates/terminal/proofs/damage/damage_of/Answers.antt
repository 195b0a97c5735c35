use Rattle.std.proofs.Common.{◌≡◌, ◌∙◌, ◌+◌, ◌++◌, ℕ, List, IsTrue, ap, arith, string_bytes, subst, suc, sym}
use Rattle.sector_disk.specs.Disk.{Disk}
use Rattle.recovery.proofs.Upgrades.{only_read_then}
use Rattle.image_care.specs.Standing.{standing_of}
use Rattle.terminal.specs.Damage.{damage_line, damage_lines}
use Rattle.terminal.proofs.damage.damage_of.Goals as goal

pub loop-b-preserved : goal.loop-b-preserved
loop-b-preserved g c =
    let D = g.D.SectorDevice in
    let inv = c.loop-b.invariant in
    let step = c.add_damage.ensures in
    let b = c.loop-b.b in
    let old = c.args.device.now in
    let honest : IsTrue (D.keeps_model old) → IsTrue (D.keeps_model c.loop-b.device) = λ keeps. subst IsTrue (sym inv.read.passes.model) keeps in
    record {
      told = λ keeps.
          let standing = standing_of (D.disk old).content in
          let one_more : suc b ≡ b + 1 = omega arith in
          c.in_ok-add_damage.ensures.ok (honest keeps)
          ∙ ap (λ (d : Disk). string_bytes c.loop-b.text ++ damage_line b (standing_of d.content b)) (inv.read.disk keeps)
          ∙ ap (λ (l : List ℕ). l ++ damage_line b (standing b)) (inv.told keeps) ∙ ap (λ k. damage_lines k standing) one_more;
      well = c.in_ok-add_damage.ensures.well ∙ inv.well;
      read = only_read_then D old c.loop-b.device c.add_damage.new.device g.met.D.SectorDevice.widens inv.read step.only_read;
    }
