-- A count of failures that goes up by what is told, call by call.
use Rattle.std.proofs.Common.{◌≡◌, ℕ, zero, suc, ◌+◌, Result, Ok, Err, ◌∙◌, ap, arith, add-one}
use Rattle.sector_disk.specs.Counting.{count_up, count_up_by}
use Rattle.block_words.specs.declared.buffered_blocks.BlockFault.{BlockFault}
use Rattle.block_words.specs.declared.buffered_blocks.BlockFault.TheVariants.{NoBlock, NoBuffer, Device, Closed, Memory}
use Rattle.block_words.specs.Calls.{failures_after, counted_after}

-- what was told before a call and by it is what is told after it
pub told_then : {A : Type 0} (result : Result A BlockFault) (told before now new : ℕ) → now ≡ count_up_by told before
    → new ≡ counted_after result now → new ≡ count_up_by (failures_after result told) before
told_then (Ok value) told before now new first then = then ∙ first
told_then (Err NoBlock) told before now new first then = then ∙ first
told_then (Err NoBuffer) told before now new first then = then ∙ first
told_then (Err Device) told before now new first then = rw add-one (then ∙ ap count_up first)
told_then (Err Closed) told before now new first then = then ∙ first
told_then (Err Memory) told before now new first then = then ∙ first

counts_then : (first then before : ℕ) → count_up_by then (count_up_by first before) ≡ count_up_by (first + then) before
counts_then first zero before =
    let same : first ≡ first + zero = omega arith in
    ap (λ n. count_up_by n before) same
counts_then first (suc then) before =
    let same : suc (first + then) ≡ first + suc then = omega arith in
    ap count_up (counts_then first then before) ∙ ap (λ n. count_up_by n before) same

-- so many more, and then so many
pub risen_then : (first then before mid after : ℕ) → mid ≡ count_up_by first before → after ≡ count_up_by then mid
    → after ≡ count_up_by (first + then) before
risen_then first then before mid after one two = two ∙ ap (λ n. count_up_by then n) one ∙ counts_then first then before
