use Rattle.std.proofs.Common.{ap}
use Rattle.std.proofs.lemmas.Result.{IfErr-weaker}
use Rattle.terminal.specs.Checked.{ChecksImage}
use Rattle.terminal.proofs.Ended.{device_first}
use Rattle.terminal.proofs.Unread.{check_fails, more_unprinted, never_ok}
use Rattle.terminal.proofs.checking.check_through.Goals as goal

pub returns-in-Err-clause-checks : goal.returns-in-Err-clause-checks
returns-in-Err-clause-checks g c =
    let contents = g.W.Write.contents in
    never_ok (ChecksImage g.D.SectorDevice (contents c.args.output.now) (contents c.tell_more.new.output) c.args.device.now c.tell_more.new.device)
    c.tell_more.result c.tell_more.ensures.never

pub returns-in-Err-clause-failed : goal.returns-in-Err-clause-failed
returns-in-Err-clause-failed g c =
    let W = g.W.Write in
    let looked = c.in-Err.ensures in
    let contents = W.contents in
    IfErr-weaker c.tell_more.result _ _
    (λ e told. check_fails g.D.SectorDevice (contents c.args.output.now) (contents c.check_over.new.output) (contents c.tell_more.new.output)
    c.in-Err.failure e c.args.device.now c.check_over.new.device c.tell_more.new.device
    (record {
      looks = record {
        reads = c.check_over.ensures.only_read;
        faults = record { failed = looked.device; well = looked.refused };
        told = λ keeps. device_first (looked.exact keeps);
      };
      damaged = looked.damaged;
      unprinted = λ write damaged. ap contents (looked.unprinted write damaged);
      silent = λ two other. ap contents (looked.silent two other);
    }) told)
    c.tell_more.ensures.told

pub returns-in-Err-clause-unprinted : goal.returns-in-Err-clause-unprinted
returns-in-Err-clause-unprinted g c =
    let contents = g.W.Write.contents in
    more_unprinted g.D.SectorDevice (contents c.check_over.new.output) (contents c.tell_more.new.output) c.in-Err.failure
    c.check_over.new.device c.tell_more.new.device c.args.output.now c.check_over.new.output c.tell_more.new.output c.tell_more.result
    c.tell_more.ensures.told c.tell_more.ensures.unprinted c.in-Err.ensures.unprinted
