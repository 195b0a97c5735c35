use Rattle.std.proofs.Common.{◌∙◌, ◌<◌, ◌/◌, inl, inr, length, refl, arith, rules}
use Rattle.std.proofs.lemmas.Bool.{cases_eq}
use Rattle.std.proofs.lemmas.List.{places}
use Rattle.journal.proofs.Bits.{byte_turned, byte_apart}
use Rattle.journal.proofs.Copies.{zero_lists_none}
use Rattle.journal.proofs.pages.saving.flipped_bytes.Goals as goal

pub loop-i-init : goal.loop-i-init
loop-i-init c = record { long = refl; each = λ b below. absurd (omega arith); rest = λ b from. zero_lists_none b }

pub loop-i-preserved : goal.loop-i-preserved
loop-i-preserved c =
    let i = c.loop-i.i in
    let bits = c.loop-i.bits in
    let listing = c.args.listing.now in
    let pending = c.args.pending.now in
    let within : i < length bits = omega (arith, c.loop-i.invariant.long, c.loop-i-test.true, c.requires) in
    record {
      long = search (rules, places);
      each = λ b below. elim (cases_eq (b / 8) i) [
        | inl at ↦ byte_turned bits listing pending i within b at
        | inr out ↦ byte_apart bits listing pending i within b out ∙ c.loop-i.invariant.each b (omega arith)
      ];
      rest = λ b from. byte_apart bits listing pending i within b (omega arith) ∙ c.loop-i.invariant.rest b (omega (arith, from));
    }
