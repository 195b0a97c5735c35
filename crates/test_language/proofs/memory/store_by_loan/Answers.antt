use Rattle.std.proofs.Common.{ap, ◌∙◌, slice_set}
use Rattle.std.proofs.lemmas.List.{take_at, length-set}
use Rattle.data_space.specs.Space.{with_byte}
use Rattle.test_language.proofs.memory.store_by_loan.Goals as goal

pub returns : goal.returns
returns c =
    take_at (slice_set c.bytes_mut-bytes.result.now c.from.result c.args.b) _ 65536 (length-set c.bytes_mut-bytes.result.now c.from.result c.args.b ∙ c.bytes_mut-bytes.ensures.len)
    ∙ ap (λ l. slice_set l c.from.result c.args.b) c.bytes_mut-bytes.ensures.value
    ∙ ap (λ a. with_byte c.args.space.now a c.args.b) c.from.ensures
