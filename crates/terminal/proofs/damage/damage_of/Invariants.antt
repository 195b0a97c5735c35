use Rattle.std.proofs.Common.{◌≡◌, IsTrue, string_bytes}
use Rattle.recovery.specs.Steps.{OnlyRead}
use Rattle.image_care.specs.Standing.{standing_of}
use Rattle.terminal.specs.Damage.{damage_lines}
use Rattle.terminal.proofs.damage.damage_of.Given as goal

abbrev pub invariant-loop-b : goal.invariant-loop-b
invariant-loop-b g l =
    let D = g.D.SectorDevice in
    let old = l.initial.device in
    let now = l.device in
    record {
      told : IsTrue (D.keeps_model old) → string_bytes l.text ≡ damage_lines l.b (standing_of (D.disk old).content);
      well : D.failures now ≡ D.failures old;
      read : OnlyRead D old now;
    }
