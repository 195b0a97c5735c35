use Rattle.std.proofs.Common.{◌∙◌, ap, sym}
use Rattle.shadow.specs.Label.{is_known_size}
use Rattle.hosted.specs.Calls.{meant_by}
use Rattle.hosted.proofs.Devices.{becomes_then, untouched}
use Rattle.hosted.proofs.Stores.{held_leaves, kept_still, kept_then}
use Rattle.hosted.proofs.block_calls.read_block.Goals as goal

pub returns-in-Ok-read_resting-clause-bytes : goal.returns-in-Ok-read_resting-clause-bytes
returns-in-Ok-read_resting-clause-bytes g c = λ keeps.
    c.in-Ok-read_resting.ensures.bytes (meant_by g.D.SectorDevice c.args.device) (c.in-Ok-open_kept.ensures.holds keeps)

pub returns-in-Ok-read_resting-clause-same : goal.returns-in-Ok-read_resting-clause-same
returns-in-Ok-read_resting-clause-same g c = λ keeps.
    let saved = meant_by g.D.SectorDevice c.args.device in
    held_leaves g.D.SectorDevice c.in-Ok-read_resting.after _ _ saved (c.in-Ok-read_resting.ensures.holds saved (c.in-Ok-open_kept.ensures.holds keeps))

pub returns-in-Ok-read_resting-clause-stops : goal.returns-in-Ok-read_resting-clause-stops
returns-in-Ok-read_resting-clause-stops g c = λ keeps.
    let D = g.D.SectorDevice in
    let kept = c.in-Ok-open_kept.ensures in
    kept_then D c.args.device c.in-Ok-open_kept.begun _ kept.sectors kept.goes c.in-Ok-read_resting.ensures.goes
    (kept.stops keeps) (c.in-Ok-read_resting.ensures.stops (meant_by D c.args.device) (kept.holds keeps))

pub returns-in-Ok-read_resting-clause-goes : goal.returns-in-Ok-read_resting-clause-goes
returns-in-Ok-read_resting-clause-goes g c =
    becomes_then g.D.SectorDevice c.args.device c.in-Ok-open_kept.begun _ g.met.D.SectorDevice.widens
    c.in-Ok-open_kept.ensures.goes c.in-Ok-read_resting.ensures.goes

pub returns-in-Err-read_resting-clause-stops : goal.returns-in-Err-read_resting-clause-stops
returns-in-Err-read_resting-clause-stops g c = λ keeps.
    let D = g.D.SectorDevice in
    let kept = c.in-Ok-open_kept.ensures in
    kept_then D c.args.device c.in-Ok-open_kept.begun _ kept.sectors kept.goes c.in-Err-read_resting.ensures.goes
    (kept.stops keeps) (c.in-Err-read_resting.ensures.stops (meant_by D c.args.device) (kept.holds keeps))

pub returns-in-Err-read_resting-clause-goes : goal.returns-in-Err-read_resting-clause-goes
returns-in-Err-read_resting-clause-goes g c =
    becomes_then g.D.SectorDevice c.args.device c.in-Ok-open_kept.begun _ g.met.D.SectorDevice.widens
    c.in-Ok-open_kept.ensures.goes c.in-Err-read_resting.ensures.goes

pub returns-in-Err-read_resting-clause-content : goal.returns-in-Err-read_resting-clause-content
returns-in-Err-read_resting-clause-content g c = λ keeps other. absurd (other c.in-Err-read_resting.ensures.refusal)

pub read_resting-requires-clause-known : goal.read_resting-requires-clause-known
read_resting-requires-clause-known g c = ap is_known_size (c.in-Ok-open_kept.ensures.sectors ∙ sym c.sectors.ensures) ∙ c.in-Ok.ensures.sized

pub returns-in-Err-clause-stops : goal.returns-in-Err-clause-stops
returns-in-Err-clause-stops g c = λ keeps.
    kept_still g.D.SectorDevice c.args.device (untouched g.D.SectorDevice c.args.device (g.met.D.SectorDevice.only_now c.args.device))
