use Rattle.std.proofs.Common.{◌≡◌, ◌∙◌, None, Some, refl, sym}
use Rattle.embed.proofs.Devices.{never_suits}
use Rattle.embed.proofs.exports.silgwyrad_save_open.Goals as goal

-- Of the host nothing is assumed.
pub save_open_over-requires : goal.save_open_over-requires
save_open_over-requires c = record { stays = λ keeps. absurd (never_suits _ c.disk.result refl refl keeps) }

pub returns-clause-stays : goal.returns-clause-stays
returns-clause-stays c = λ done none.
    let kept = c.save_open_over.ensures.stays done in
    absurd (let other : Some kept.0 ≡ None = sym kept.1 ∙ none in cc)
