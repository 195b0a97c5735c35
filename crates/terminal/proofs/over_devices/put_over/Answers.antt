use Rattle.std.proofs.Common.{inl, subst, sym}
use Rattle.std.specs.Prelude.{IfErr, OnOk}
use Rattle.terminal.specs.Done.{PutsBlock}
use Rattle.terminal.specs.Failed.{FailsAfter, PutFails}
use Rattle.terminal.proofs.Ended.{put_done, put_failed}
use Rattle.terminal.proofs.over_devices.put_over.Goals as goal

pub returns-in-Ok-clause-put : goal.returns-in-Ok-clause-put
returns-in-Ok-clause-put g c =
    let G = g.D.SectorDevice in
    let done = c.put_file-outcome in
    let is_text = (g.X.World.gives c.args.world.now).is_text c.args.text.now in
    subst (λ d. OnOk done.result (PutsBlock G c.args.block is_text c.args.device d)) (sym c.into_device.ensures.device)
    (put_done G is_text done.result c.args.device c.in-Ok.store done.new.store c.args.block c.in-Ok.ensures.opened
    done.ensures.there done.ensures.continues done.ensures.some done.ensures.begins done.ensures.reads)

pub returns-in-Ok-clause-failed : goal.returns-in-Ok-clause-failed
returns-in-Ok-clause-failed g c =
    let G = g.D.SectorDevice in
    let done = c.put_file-outcome in
    let is_text = (g.X.World.gives c.args.world.now).is_text c.args.text.now in
    let unread = (g.X.World.gives c.args.world.now).is_unread c.args.text.now in
    subst (λ d. IfErr done.result (λ failure. FailsAfter G (PutFails G c.args.block is_text unread) failure c.args.device d)) (sym c.into_device.ensures.device)
    (put_failed G g.met.D.SectorDevice.only_now is_text unread done.result c.args.device c.in-Ok.store done.new.store c.args.block c.in-Ok.ensures.opened c.in-Ok.ensures.same
    done.ensures.continues done.ensures.only done.ensures.cannot done.ensures.no_block done.ensures.unread done.ensures.device done.ensures.kept done.ensures.begins done.ensures.reads)

pub returns-in-Err-clause-failed : goal.returns-in-Err-clause-failed
returns-in-Err-clause-failed g c = inl c.in-Err.ensures.kept
