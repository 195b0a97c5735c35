use Rattle.std.proofs.Common.{◌≡◌, ◌∙◌, ap, inl, inr, subst, sym}
use Rattle.journal.specs.Calls.{StopsLeave}
use Rattle.hosted.specs.Calls.{MayRecover}
use Rattle.hosted.specs.Costs.{OpeningBegins}
use Rattle.hosted.specs.Refusals.{IsOfImage, IsOfSession}
use Rattle.hosted.specs.declared.refusal.Refusal.TheVariants.{BadSize, Device, NoMemory}
use Rattle.hosted.proofs.Outcomes.{not_both}
use Rattle.hosted.proofs.Rooms.{map_err, map_ok}
use Rattle.hosted.proofs.image_sessions.begun.Goals as goal

pub returns-in-Ok-clause-ok : goal.returns-in-Ok-clause-ok
returns-in-Ok-clause-ok g c =
    map_ok c.begun_over.result _ _ (λ room over. record { store = c.in-Ok.store; opens = c.in-Ok.ensures.ok; opening = c.in-Ok.ensures.begins; over = over }) c.begun_over.ensures.ok

pub returns-in-Ok-clause-recovers : goal.returns-in-Ok-clause-recovers
returns-in-Ok-clause-recovers g c = λ keeps.
    map_err c.begun_over.result _ _ (λ e told.
    subst (λ d. StopsLeave g.D.SectorDevice c.args.device d (MayRecover g.D.SectorDevice c.args.device)) (sym told) (c.in-Ok.ensures.ok.stops keeps)) c.begun_over.ensures.device

pub returns-in-Ok-clause-uncalled : goal.returns-in-Ok-clause-uncalled
returns-in-Ok-clause-uncalled g c =
    map_err c.begun_over.result _ _ (λ e told is. absurd (let other : NoMemory ≡ BadSize = sym told ∙ is in cc)) c.begun_over.ensures.refused

pub returns-in-Ok-clause-memory : goal.returns-in-Ok-clause-memory
returns-in-Ok-clause-memory g c = λ keeps.
    map_err c.begun_over.result _ _ (λ e told is. c.in-Ok.ensures.exact keeps) c.begun_over.ensures.refused

pub returns-in-Ok-clause-failed : goal.returns-in-Ok-clause-failed
returns-in-Ok-clause-failed g c =
    map_err c.begun_over.result _ _ (λ e told is. absurd (let other : NoMemory ≡ Device = sym told ∙ is in cc)) c.begun_over.ensures.refused

pub returns-in-Ok-clause-unfailed : goal.returns-in-Ok-clause-unfailed
returns-in-Ok-clause-unfailed g c =
    map_err c.begun_over.result _ _ (λ e told other. ap g.D.SectorDevice.failures told ∙ c.in-Ok.ensures.ok.well) c.begun_over.ensures.device

pub returns-in-Ok-clause-begins : goal.returns-in-Ok-clause-begins
returns-in-Ok-clause-begins g c = λ keeps.
    map_err c.begun_over.result _ _ (λ e told. subst (OpeningBegins g.D.SectorDevice c.args.device) (sym told) (c.in-Ok.ensures.begins keeps)) c.begun_over.ensures.device

pub returns-in-Ok-clause-kind : goal.returns-in-Ok-clause-kind
returns-in-Ok-clause-kind g c = map_err c.begun_over.result _ _ (λ e told. inr (subst IsOfSession (sym told) tt)) c.begun_over.ensures.refused

pub returns-in-Err-clause-kind : goal.returns-in-Err-clause-kind
returns-in-Err-clause-kind g c = inl c.in-Err.ensures.image

pub returns-in-Err-clause-memory : goal.returns-in-Err-clause-memory
returns-in-Err-clause-memory g c = λ keeps is. absurd (not_both c.in-Err.refused.0 c.in-Err.ensures.image is)

pub returns-in-Ok-clause-content : goal.returns-in-Ok-clause-content
returns-in-Ok-clause-content g c = λ keeps.
    map_err c.begun_over.result _ _ (λ e told is other. absurd (subst IsOfImage told is)) c.begun_over.ensures.refused
