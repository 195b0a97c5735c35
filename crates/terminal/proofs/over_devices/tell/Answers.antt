use Rattle.std.proofs.lemmas.Result.{IfErr-weaker}
use Rattle.terminal.proofs.Ended.{digests_failed}
use Rattle.terminal.proofs.over_devices.tell.Goals as goal

pub returns-in-Check-clause-told : goal.returns-in-Check-clause-told
returns-in-Check-clause-told g c = rw c.in-Check.is (c.check_through.ensures.checks)

pub returns-in-Check-clause-failed : goal.returns-in-Check-clause-failed
returns-in-Check-clause-failed g c = rw c.in-Check.is (c.check_through.ensures.failed)

pub returns-in-Check-clause-unprinted : goal.returns-in-Check-clause-unprinted
returns-in-Check-clause-unprinted g c = rw c.in-Check.is (IfErr-weaker c.check_through.result _ _ (λ e same none. same none.0 none.1 none.2) c.check_through.ensures.unprinted)

pub returns-in-Digests-clause-told : goal.returns-in-Digests-clause-told
returns-in-Digests-clause-told g c = rw c.in-Digests.is (c.digest_over.ensures.tells)

pub returns-in-Digests-clause-failed : goal.returns-in-Digests-clause-failed
returns-in-Digests-clause-failed g c = rw c.in-Digests.is (digests_failed _ _ c.digest_over.result c.args.device.now c.digest_over.new.device c.digest_over.ensures.only_read c.digest_over.ensures.device c.digest_over.ensures.refused c.digest_over.ensures.exact)

pub returns-in-Digests-clause-unprinted : goal.returns-in-Digests-clause-unprinted
returns-in-Digests-clause-unprinted g c = rw c.in-Digests.is (c.digest_over.ensures.unprinted)
