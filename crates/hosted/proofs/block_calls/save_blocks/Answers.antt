use Rattle.std.proofs.Common.{◌≡◌, ◌∙◌, ap, inl, length, subst, sym, true}
use Rattle.std.specs.Prelude.{nat_lt}
use Rattle.std.specs.List.{list_all}
use Rattle.shadow.specs.Label.{is_known_size}
use Rattle.shadow.specs.Upgraded.{known_blocks}
use Rattle.hosted.specs.Calls.{meant_by}
use Rattle.hosted.specs.Saving.{with_blocks}
use Rattle.hosted.proofs.Counts.{saving_begins}
use Rattle.hosted.proofs.Devices.{becomes_then, untouched}
use Rattle.hosted.proofs.Stores.{held_leaves, kept_still, saved_then}
use Rattle.hosted.proofs.block_calls.save_blocks.Goals as goal

pub returns-in-Ok-save_resting-clause-saved : goal.returns-in-Ok-save_resting-clause-saved
returns-in-Ok-save_resting-clause-saved g c = λ keeps.
    let old = meant_by g.D.SectorDevice c.args.device in
    held_leaves g.D.SectorDevice c.in-Ok-save_resting.ended _ _ (with_blocks old c.args.blocks.now c.args.bytes.now)
    (c.in-Ok-save_resting.ensures.saved old (c.in-Ok-open_kept.ensures.holds keeps))

pub returns-in-Ok-save_resting-clause-stops : goal.returns-in-Ok-save_resting-clause-stops
returns-in-Ok-save_resting-clause-stops g c = λ keeps.
    let D = g.D.SectorDevice in
    let kept = c.in-Ok-open_kept.ensures in
    saved_then D c.args.device c.in-Ok-open_kept.begun _ c.args.blocks.now c.args.bytes.now kept.sectors kept.goes c.in-Ok-save_resting.ensures.goes
    (kept.stops keeps) (c.in-Ok-save_resting.ensures.stops (meant_by D c.args.device) (kept.holds keeps))

pub returns-in-Ok-save_resting-clause-begins : goal.returns-in-Ok-save_resting-clause-begins
returns-in-Ok-save_resting-clause-begins g c = λ keeps.
    let kept = c.in-Ok-open_kept.ensures in
    saving_begins g.D.SectorDevice c.args.device c.in-Ok-open_kept.begun _ (length c.args.blocks.now) kept.sectors
    (kept.begins keeps) c.in-Ok-save_resting.ensures.begins

pub returns-in-Ok-save_resting-clause-goes : goal.returns-in-Ok-save_resting-clause-goes
returns-in-Ok-save_resting-clause-goes g c =
    becomes_then g.D.SectorDevice c.args.device c.in-Ok-open_kept.begun _ g.met.D.SectorDevice.widens
    c.in-Ok-open_kept.ensures.goes c.in-Ok-save_resting.ensures.goes

pub returns-in-Err-save_resting-clause-stops : goal.returns-in-Err-save_resting-clause-stops
returns-in-Err-save_resting-clause-stops g c = λ keeps.
    let D = g.D.SectorDevice in
    let kept = c.in-Ok-open_kept.ensures in
    saved_then D c.args.device c.in-Ok-open_kept.begun _ c.args.blocks.now c.args.bytes.now kept.sectors kept.goes c.in-Err-save_resting.ensures.goes
    (kept.stops keeps) (c.in-Err-save_resting.ensures.stops (meant_by D c.args.device) (kept.holds keeps))

pub returns-in-Err-save_resting-clause-begins : goal.returns-in-Err-save_resting-clause-begins
returns-in-Err-save_resting-clause-begins g c = λ keeps.
    let kept = c.in-Ok-open_kept.ensures in
    saving_begins g.D.SectorDevice c.args.device c.in-Ok-open_kept.begun _ (length c.args.blocks.now) kept.sectors
    (kept.begins keeps) c.in-Err-save_resting.ensures.begins

pub returns-in-Err-save_resting-clause-goes : goal.returns-in-Err-save_resting-clause-goes
returns-in-Err-save_resting-clause-goes g c =
    becomes_then g.D.SectorDevice c.args.device c.in-Ok-open_kept.begun _ g.met.D.SectorDevice.widens
    c.in-Ok-open_kept.ensures.goes c.in-Err-save_resting.ensures.goes

pub returns-in-Err-save_resting-clause-content : goal.returns-in-Err-save_resting-clause-content
returns-in-Err-save_resting-clause-content g c = λ keeps other. absurd (other c.in-Err-save_resting.ensures.refusal)

pub save_resting-requires-clause-known : goal.save_resting-requires-clause-known
save_resting-requires-clause-known g c = ap is_known_size (c.in-Ok-open_kept.ensures.sectors ∙ sym c.sectors.ensures) ∙ c.in-Ok.ensures.sized

pub save_resting-requires-clause-below : goal.save_resting-requires-clause-below
save_resting-requires-clause-below g c =
    subst (λ n. list_all (λ b. nat_lt b (known_blocks n)) c.args.blocks.now ≡ true) (c.sectors.ensures ∙ sym c.in-Ok-open_kept.ensures.sectors)
    c.in-Ok.ensures.there

pub returns-in-Err-clause-stops : goal.returns-in-Err-clause-stops
returns-in-Err-clause-stops g c = λ keeps image since.
    inl (kept_still g.D.SectorDevice c.args.device (untouched g.D.SectorDevice c.args.device (g.met.D.SectorDevice.only_now c.args.device)) image since)
