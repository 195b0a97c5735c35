use Rattle.std.proofs.Common.{◌≡◌, ◌∙◌, None, Some, sym}
use Rattle.embed.proofs.exports.silgwyrad_open.Goals as goal

pub returns-clause-stays : goal.returns-clause-stays
returns-clause-stays c = λ done none.
    let kept = c.open_over.ensures.stays done in
    absurd (let other : Some kept.0 ≡ None = sym kept.1 ∙ none in cc)
