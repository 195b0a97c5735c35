use Rattle.std.proofs.Common.{◌∙◌, ap, inr, slice_index_or, slice_set, subst, sym}
use Rattle.hosted.specs.Refusals.{IsOfImage, IsOfSession}
use Rattle.hosted.proofs.Devices.{untouched}
use Rattle.hosted.proofs.Runs.{broke, came, not_either, not_image, not_steps, of_session, ran, was_read, was_write}
use Rattle.hosted.proofs.image_sessions.run_image.Goals as goal

pub returns-then-steps-eq0-clause-recovers : goal.returns-then-steps-eq0-clause-recovers
returns-then-steps-eq0-clause-recovers g c = λ keeps no_input no_output.
    untouched g.D.SectorDevice c.args.device (g.met.D.SectorDevice.only_now c.args.device)

pub ended-after-requires : goal.ended-after-requires
ended-after-requires g c = record { alone = (c.run-end.new.forth, ap (λ l. slice_set l 0 c.run-end.new.forth) c.in-Ok.ensures.ok.over.alone) }

pub returns-in-Ok-end-clause-ran : goal.returns-in-Ok-end-clause-ran
returns-in-Ok-end-clause-ran g c =
    ran g.D.SectorDevice _ _ _ c.args.device c.args.steps _ _ _ _ c.in-Ok.room.items c.in-Ok.ensures.ok c.index_mut.result.now c.run-end.new.forth
    (c.index_mut.ensures.value ∙ ap (λ l. slice_index_or l 0 c.index_mut.result.now) c.in-Ok.ensures.ok.over.alone)
    c.ended-after.result (c.ended-after.ensures.ends c.run-end.new.forth (ap (λ l. slice_set l 0 c.run-end.new.forth) c.in-Ok.ensures.ok.over.alone))
    c.run-end.result c.run-end.ensures.ok c.run-end.ensures.err c.run-end.ensures.time c.run-end.ensures.model c.run-end.ensures.failures
    c.in-Ok-end.field-0 c.in-Ok-end.is

pub returns-in-Ok-end-clause-goes : goal.returns-in-Ok-end-clause-goes
returns-in-Ok-end-clause-goes g c =
    came g.D.SectorDevice _ _ _ c.args.device c.args.steps _ _ _ _ c.in-Ok.room.items c.in-Ok.ensures.ok c.index_mut.result.now c.run-end.new.forth
    (c.index_mut.ensures.value ∙ ap (λ l. slice_index_or l 0 c.index_mut.result.now) c.in-Ok.ensures.ok.over.alone)
    c.ended-after.result (c.ended-after.ensures.ends c.run-end.new.forth (ap (λ l. slice_set l 0 c.run-end.new.forth) c.in-Ok.ensures.ok.over.alone))
    c.run-end.result c.run-end.ensures.ok c.run-end.ensures.err c.run-end.ensures.time c.run-end.ensures.model c.run-end.ensures.failures
    g.met.D.SectorDevice.widens

pub returns-in-Err-end-clause-input : goal.returns-in-Err-end-clause-input
returns-in-Err-end-clause-input g c = λ keeps is.
    broke g.D.SectorDevice _ _ _ c.args.device c.args.steps _ _ _ _ c.in-Ok.room.items c.in-Ok.ensures.ok c.index_mut.result.now c.run-end.new.forth
    (c.index_mut.ensures.value ∙ ap (λ l. slice_index_or l 0 c.index_mut.result.now) c.in-Ok.ensures.ok.over.alone)
    c.ended-after.result (c.ended-after.ensures.ends c.run-end.new.forth (ap (λ l. slice_set l 0 c.run-end.new.forth) c.in-Ok.ensures.ok.over.alone))
    c.run-end.result c.run-end.ensures.ok c.run-end.ensures.err c.run-end.ensures.time c.run-end.ensures.model c.run-end.ensures.failures
    c.in-Err-end.fault _ c.in-Err-end.is (was_read c.in-Err-end.fault c.from.result c.from.ensures is) keeps

pub returns-in-Err-end-clause-output : goal.returns-in-Err-end-clause-output
returns-in-Err-end-clause-output g c = λ keeps is.
    broke g.D.SectorDevice _ _ _ c.args.device c.args.steps _ _ _ _ c.in-Ok.room.items c.in-Ok.ensures.ok c.index_mut.result.now c.run-end.new.forth
    (c.index_mut.ensures.value ∙ ap (λ l. slice_index_or l 0 c.index_mut.result.now) c.in-Ok.ensures.ok.over.alone)
    c.ended-after.result (c.ended-after.ensures.ends c.run-end.new.forth (ap (λ l. slice_set l 0 c.run-end.new.forth) c.in-Ok.ensures.ok.over.alone))
    c.run-end.result c.run-end.ensures.ok c.run-end.ensures.err c.run-end.ensures.time c.run-end.ensures.model c.run-end.ensures.failures
    c.in-Err-end.fault _ c.in-Err-end.is (was_write c.in-Err-end.fault c.from.result c.from.ensures is) keeps

pub returns-in-Err-end-clause-steps : goal.returns-in-Err-end-clause-steps
returns-in-Err-end-clause-steps g c = (λ told. absurd (not_steps c.in-Err-end.fault (sym c.from.ensures ∙ told)), λ none. absurd (c.if-steps-eq0.false none))

pub returns-in-Err-end-clause-image : goal.returns-in-Err-end-clause-image
returns-in-Err-end-clause-image g c = λ keeps is. absurd (not_image c.in-Err-end.fault (subst IsOfImage c.from.ensures is))

pub returns-in-Err-end-clause-goes : goal.returns-in-Err-end-clause-goes
returns-in-Err-end-clause-goes g c =
    came g.D.SectorDevice _ _ _ c.args.device c.args.steps _ _ _ _ c.in-Ok.room.items c.in-Ok.ensures.ok c.index_mut.result.now c.run-end.new.forth
    (c.index_mut.ensures.value ∙ ap (λ l. slice_index_or l 0 c.index_mut.result.now) c.in-Ok.ensures.ok.over.alone)
    c.ended-after.result (c.ended-after.ensures.ends c.run-end.new.forth (ap (λ l. slice_set l 0 c.run-end.new.forth) c.in-Ok.ensures.ok.over.alone))
    c.run-end.result c.run-end.ensures.ok c.run-end.ensures.err c.run-end.ensures.time c.run-end.ensures.model c.run-end.ensures.failures
    g.met.D.SectorDevice.widens

pub returns-in-Err-end-clause-uncalled : goal.returns-in-Err-end-clause-uncalled
returns-in-Err-end-clause-uncalled g c = λ told. absurd (not_image c.in-Err-end.fault (subst IsOfImage (sym told ∙ c.from.ensures) tt))

pub returns-in-Err-end-clause-memory : goal.returns-in-Err-end-clause-memory
returns-in-Err-end-clause-memory g c = λ keeps told. c.in-Ok.ensures.opens keeps

pub returns-in-Err-end-clause-failed : goal.returns-in-Err-end-clause-failed
returns-in-Err-end-clause-failed g c = λ told. absurd (not_image c.in-Err-end.fault (subst IsOfImage (sym told ∙ c.from.ensures) tt))

pub returns-in-Err-end-clause-unfailed : goal.returns-in-Err-end-clause-unfailed
returns-in-Err-end-clause-unfailed g c = λ not_device not_input not_output.
    absurd (not_either c.in-Err-end.fault (λ is. not_input (c.from.ensures ∙ is)) (λ is. not_output (c.from.ensures ∙ is)))

pub returns-in-Err-end-clause-begins : goal.returns-in-Err-end-clause-begins
returns-in-Err-end-clause-begins g c = λ keeps not_input not_output.
    absurd (not_either c.in-Err-end.fault (λ is. not_input (c.from.ensures ∙ is)) (λ is. not_output (c.from.ensures ∙ is)))

pub returns-in-Err-end-clause-kind : goal.returns-in-Err-end-clause-kind
returns-in-Err-end-clause-kind g c = inr (inr (subst IsOfSession (sym c.from.ensures) (of_session c.in-Err-end.fault)))

pub returns-in-Err-end-clause-content : goal.returns-in-Err-end-clause-content
returns-in-Err-end-clause-content g c = λ keeps is other. absurd (not_image c.in-Err-end.fault (subst IsOfImage c.from.ensures is))
