use Rattle.std.proofs.Common.{ap, refl}
use Rattle.std.proofs.lemmas.Result.{IfErr-weaker, IfOk-weaker, on_ok_weaker}
use Rattle.terminal.specs.declared.failure.Outcome.TheVariants.{Done, Stopped}
use Rattle.terminal.proofs.Outcomes.{both_err, both_ok, each_made, each_read, ended_so, failed_so, printed_only, prints_none, unprinted_so, untouched, used}
use Rattle.terminal.proofs.program.perform.Goals as goal

pub returns-in-Memory-clause-ended : goal.returns-in-Memory-clause-ended
returns-in-Memory-clause-ended g c = rw c.in-Memory.is (ended_so _ c.run_in_memory-outcome.result c.done.result c.done.ensures (on_ok_weaker c.run_in_memory-outcome.result (λ done. (refl, done)) c.run_in_memory-outcome.ensures.well))

pub returns-in-Memory-clause-failed : goal.returns-in-Memory-clause-failed
returns-in-Memory-clause-failed g c = rw c.in-Memory.is (failed_so _ c.run_in_memory-outcome.result c.done.result c.done.ensures (IfErr-weaker c.run_in_memory-outcome.result _ _ (λ e broke. (refl, broke)) c.run_in_memory-outcome.ensures.broken))

pub returns-in-Memory-clause-streams : goal.returns-in-Memory-clause-streams
returns-in-Memory-clause-streams g c = rw c.in-Memory.is (used _ _ _ refl refl)

pub returns-in-New-clause-ended : goal.returns-in-New-clause-ended
returns-in-New-clause-ended g c = rw c.in-New.is (ended_so _ c.new_image-left.result.1 c.done-in-New.result c.done-in-New.ensures (both_ok _ _ _ c.new_image-left.ensures.done c.new_image-left.ensures.well))

pub returns-in-New-clause-failed : goal.returns-in-New-clause-failed
returns-in-New-clause-failed g c = rw c.in-New.is (failed_so _ c.new_image-left.result.1 c.done-in-New.result c.done-in-New.ensures c.new_image-left.ensures.failed)

pub returns-in-New-clause-streams : goal.returns-in-New-clause-streams
returns-in-New-clause-streams g c = rw c.in-New.is (untouched _ _)

pub returns-in-Run-clause-ended : goal.returns-in-Run-clause-ended
returns-in-Run-clause-ended g c = rw c.in-Run.is (IfOk-weaker c.run_image.result.1 _ _ (elim [ Done ↦ λ ended. ended | Stopped ↦ λ ended. ended ]) c.run_image.ensures.ended)

pub returns-in-Run-clause-failed : goal.returns-in-Run-clause-failed
returns-in-Run-clause-failed g c = rw c.in-Run.is c.run_image.ensures.failed

pub returns-in-Run-clause-streams : goal.returns-in-Run-clause-streams
returns-in-Run-clause-streams g c = rw c.in-Run.is (used _ _ _ refl refl)

pub returns-in-List-clause-ended : goal.returns-in-List-clause-ended
returns-in-List-clause-ended g c = rw c.in-List.is (ended_so _ c.print_image-left.result.1 c.done-in-List.result c.done-in-List.ensures c.print_image-left.ensures.done)

pub returns-in-List-clause-failed : goal.returns-in-List-clause-failed
returns-in-List-clause-failed g c = rw c.in-List.is (failed_so _ c.print_image-left.result.1 c.done-in-List.result c.done-in-List.ensures (both_err c.print_image-left.result.1 _ _ c.print_image-left.ensures.failed (prints_none _ g.W.Write.contents c.args.streams.now.output c.print_image-left.new.output c.print_image-left.result.1 c.print_image-left.ensures.unprinted)))

pub returns-in-List-clause-streams : goal.returns-in-List-clause-streams
returns-in-List-clause-streams g c = rw c.in-List.is (printed_only _ _ _ refl refl)

pub returns-in-Put-clause-ended : goal.returns-in-Put-clause-ended
returns-in-Put-clause-ended g c = rw c.in-Put.is (ended_so _ c.write_image-left.result.1 c.done-in-Put.result c.done-in-Put.ensures c.write_image-left.ensures.done)

pub returns-in-Put-clause-failed : goal.returns-in-Put-clause-failed
returns-in-Put-clause-failed g c = rw c.in-Put.is (failed_so _ c.write_image-left.result.1 c.done-in-Put.result c.done-in-Put.ensures c.write_image-left.ensures.failed)

pub returns-in-Put-clause-streams : goal.returns-in-Put-clause-streams
returns-in-Put-clause-streams g c = rw c.in-Put.is (untouched _ _)

pub returns-in-Export-clause-ended : goal.returns-in-Export-clause-ended
returns-in-Export-clause-ended g c = rw c.in-Export.is (ended_so _ c.print_image-left-in-Export.result.1 c.done-in-Export.result c.done-in-Export.ensures c.print_image-left-in-Export.ensures.done)

pub returns-in-Export-clause-failed : goal.returns-in-Export-clause-failed
returns-in-Export-clause-failed g c = rw c.in-Export.is (failed_so _ c.print_image-left-in-Export.result.1 c.done-in-Export.result c.done-in-Export.ensures (both_err c.print_image-left-in-Export.result.1 _ _ c.print_image-left-in-Export.ensures.failed (prints_none _ g.W.Write.contents c.args.streams.now.output c.print_image-left-in-Export.new.output c.print_image-left-in-Export.result.1 c.print_image-left-in-Export.ensures.unprinted)))

pub returns-in-Export-clause-streams : goal.returns-in-Export-clause-streams
returns-in-Export-clause-streams g c = rw c.in-Export.is (printed_only _ _ _ refl refl)

pub returns-in-Import-clause-ended : goal.returns-in-Import-clause-ended
returns-in-Import-clause-ended g c = rw c.in-Import.is (ended_so _ c.write_image-left-in-Import.result.1 c.done-in-Import.result c.done-in-Import.ensures (rw c.as_slice.ensures.value at c.write_image-left-in-Import.ensures.done))

pub returns-in-Import-clause-failed : goal.returns-in-Import-clause-failed
returns-in-Import-clause-failed g c = rw c.in-Import.is (failed_so _ c.write_image-left-in-Import.result.1 c.done-in-Import.result c.done-in-Import.ensures (rw c.as_slice.ensures.value at c.write_image-left-in-Import.ensures.failed))

pub returns-in-Import-clause-streams : goal.returns-in-Import-clause-streams
returns-in-Import-clause-streams g c = rw c.in-Import.is (untouched _ _)

pub returns-in-CheckImport-clause-ended : goal.returns-in-CheckImport-clause-ended
returns-in-CheckImport-clause-ended g c = rw c.in-CheckImport.is (ended_so _ c.write_image-left-in-CheckImport.result.1 c.done-in-CheckImport.result c.done-in-CheckImport.ensures (rw c.as_slice-in-CheckImport.ensures.value at c.write_image-left-in-CheckImport.ensures.done))

pub returns-in-CheckImport-clause-failed : goal.returns-in-CheckImport-clause-failed
returns-in-CheckImport-clause-failed g c = rw c.in-CheckImport.is (failed_so _ c.write_image-left-in-CheckImport.result.1 c.done-in-CheckImport.result c.done-in-CheckImport.ensures (rw c.as_slice-in-CheckImport.ensures.value at c.write_image-left-in-CheckImport.ensures.failed))

pub returns-in-CheckImport-clause-streams : goal.returns-in-CheckImport-clause-streams
returns-in-CheckImport-clause-streams g c = rw c.in-CheckImport.is (untouched _ _)

pub returns-in-Check-clause-ended : goal.returns-in-Check-clause-ended
returns-in-Check-clause-ended g c = rw c.in-Check.is (ended_so _ c.tell_image-left.result.1 c.done-in-Check.result c.done-in-Check.ensures c.tell_image-left.ensures.done)

pub returns-in-Check-clause-failed : goal.returns-in-Check-clause-failed
returns-in-Check-clause-failed g c = rw c.in-Check.is (failed_so _ c.tell_image-left.result.1 c.done-in-Check.result c.done-in-Check.ensures (both_err c.tell_image-left.result.1 _ _ c.tell_image-left.ensures.failed (prints_none _ g.W.Write.contents c.args.streams.now.output c.tell_image-left.new.output c.tell_image-left.result.1 c.tell_image-left.ensures.unprinted)))

pub returns-in-Check-clause-streams : goal.returns-in-Check-clause-streams
returns-in-Check-clause-streams g c = rw c.in-Check.is (printed_only _ _ _ refl refl)

pub returns-in-Digests-clause-ended : goal.returns-in-Digests-clause-ended
returns-in-Digests-clause-ended g c = rw c.in-Digests.is (ended_so _ c.tell_image-left-in-Digests.result.1 c.done-in-Digests.result c.done-in-Digests.ensures c.tell_image-left-in-Digests.ensures.done)

pub returns-in-Digests-clause-failed : goal.returns-in-Digests-clause-failed
returns-in-Digests-clause-failed g c = rw c.in-Digests.is (failed_so _ c.tell_image-left-in-Digests.result.1 c.done-in-Digests.result c.done-in-Digests.ensures (both_err c.tell_image-left-in-Digests.result.1 _ _ c.tell_image-left-in-Digests.ensures.failed (prints_none _ g.W.Write.contents c.args.streams.now.output c.tell_image-left-in-Digests.new.output c.tell_image-left-in-Digests.result.1 c.tell_image-left-in-Digests.ensures.unprinted)))

pub returns-in-Digests-clause-streams : goal.returns-in-Digests-clause-streams
returns-in-Digests-clause-streams g c = rw c.in-Digests.is (printed_only _ _ _ refl refl)

pub returns-in-Diff-clause-ended : goal.returns-in-Diff-clause-ended
returns-in-Diff-clause-ended g c = rw c.in-Diff.is (ended_so _ c.compare_images-left.result.1 c.done-in-Diff.result c.done-in-Diff.ensures c.compare_images-left.ensures.done)

pub returns-in-Diff-clause-failed : goal.returns-in-Diff-clause-failed
returns-in-Diff-clause-failed g c = rw c.in-Diff.is (failed_so _ c.compare_images-left.result.1 c.done-in-Diff.result c.done-in-Diff.ensures (both_err c.compare_images-left.result.1 _ _ c.compare_images-left.ensures.failed (prints_none _ g.W.Write.contents c.args.streams.now.output c.compare_images-left.new.output c.compare_images-left.result.1 c.compare_images-left.ensures.unprinted)))

pub returns-in-Diff-clause-streams : goal.returns-in-Diff-clause-streams
returns-in-Diff-clause-streams g c = rw c.in-Diff.is (printed_only _ _ _ refl refl)

pub returns-in-Upgrade-clause-ended : goal.returns-in-Upgrade-clause-ended
returns-in-Upgrade-clause-ended g c = rw c.in-Upgrade.is (ended_so _ c.upgrade_image-left.result.1 c.done-in-Upgrade.result c.done-in-Upgrade.ensures (both_ok _ _ _ c.upgrade_image-left.ensures.done c.upgrade_image-left.ensures.well))

pub returns-in-Upgrade-clause-failed : goal.returns-in-Upgrade-clause-failed
returns-in-Upgrade-clause-failed g c = rw c.in-Upgrade.is (failed_so _ c.upgrade_image-left.result.1 c.done-in-Upgrade.result c.done-in-Upgrade.ensures c.upgrade_image-left.ensures.failed)

pub returns-in-Upgrade-clause-streams : goal.returns-in-Upgrade-clause-streams
returns-in-Upgrade-clause-streams g c = rw c.in-Upgrade.is (untouched _ _)

pub returns-in-Copy-clause-ended : goal.returns-in-Copy-clause-ended
returns-in-Copy-clause-ended g c = rw c.in-Copy.is (ended_so _ c.make_image-left.result.1 c.done-in-Copy.result c.done-in-Copy.ensures (both_ok _ _ _ c.make_image-left.ensures.done (on_ok_weaker c.make_image-left.result.1 (λ well. each_read _ _ c.make_image-left.result.0 refl well) c.make_image-left.ensures.well)))

pub returns-in-Copy-clause-failed : goal.returns-in-Copy-clause-failed
returns-in-Copy-clause-failed g c = rw c.in-Copy.is (failed_so _ c.make_image-left.result.1 c.done-in-Copy.result c.done-in-Copy.ensures c.make_image-left.ensures.failed)

pub returns-in-Copy-clause-streams : goal.returns-in-Copy-clause-streams
returns-in-Copy-clause-streams g c = rw c.in-Copy.is (unprinted_so _ _ _ refl (ap g.W.Write.contents (c.make_image-left.ensures.silent refl)))

pub returns-in-Salvage-clause-ended : goal.returns-in-Salvage-clause-ended
returns-in-Salvage-clause-ended g c = rw c.in-Salvage.is (ended_so _ c.make_image-left-in-Salvage.result.1 c.done-in-Salvage.result c.done-in-Salvage.ensures (both_ok _ _ _ c.make_image-left-in-Salvage.ensures.done (on_ok_weaker c.make_image-left-in-Salvage.result.1 (λ well. each_made _ _ c.make_image-left-in-Salvage.result.0 well) c.make_image-left-in-Salvage.ensures.well)))

pub returns-in-Salvage-clause-failed : goal.returns-in-Salvage-clause-failed
returns-in-Salvage-clause-failed g c = rw c.in-Salvage.is (failed_so _ c.make_image-left-in-Salvage.result.1 c.done-in-Salvage.result c.done-in-Salvage.ensures (both_err c.make_image-left-in-Salvage.result.1 _ _ c.make_image-left-in-Salvage.ensures.failed (prints_none _ g.W.Write.contents c.args.streams.now.output c.make_image-left-in-Salvage.new.output c.make_image-left-in-Salvage.result.1 c.make_image-left-in-Salvage.ensures.unprinted)))

pub returns-in-Salvage-clause-streams : goal.returns-in-Salvage-clause-streams
returns-in-Salvage-clause-streams g c = rw c.in-Salvage.is (printed_only _ _ _ refl refl)
