use Rattle.std.proofs.Common.{arith, ◌∙◌}
use Rattle.journal.proofs.Signing.{listed_same}
use Rattle.journal.proofs.pages.saving.next_record.Goals as goal

pub returns-clause-bits : goal.returns-clause-bits
returns-clause-bits c =
    let same = listed_same c.with_sum.result c.flipped.result c.with_sum.ensures.bits in
    record {
      each = λ b below. same b (omega (arith, below, c.requires)) ∙ c.flipped.ensures.each b below;
      rest = λ b past low. same b low ∙ c.flipped.ensures.rest b past low;
    }
