use Rattle.std.proofs.Common.{◌≡◌, ◌<◌, ◌≤◌, ◌∙◌, ◌+◌, ◌*◌, length, slice_index, inl, inr, sym, arith}
use Rattle.std.proofs.lemmas.Bool.{cases_lt}
use Rattle.std.proofs.lemmas.List.{get_or-replicate, get_or_past}
use Rattle.sector_disk.specs.Spans.{sector_is}
use Rattle.image_care.proofs.still_disk.sector_in.Goals as goal

pub returns : goal.returns
returns c =
    let bytes = c.args.bytes.now in
    let k = c.args.k in
    let n = c.copied.result in
    let copied = c.copied.ensures in
    sector_is (λ p. slice_index bytes p) k c.copied.new.buffer c.copied.auto.buffer
    (λ i below. elim (cases_lt i n) [
      | inl early ↦ copied.gives i early
      | inr late ↦
          let short : n < 512 = omega (arith, late, below) in
          let end : length bytes ≤ 512 * k + i = omega (arith, late, copied.all short) in
          copied.rest i late ∙ get_or-replicate 512 i 0 0 below ∙ sym (get_or_past bytes (512 * k + i) 0 end)
    ])
