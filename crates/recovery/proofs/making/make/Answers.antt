use Rattle.std.proofs.Common.{◌∙◌, ◌+◌, ◌*◌, inl, inr, arith, refl, sym, subst}
use Rattle.std.proofs.lemmas.Result.{on_ok_weaker}
use Rattle.sector_disk.proofs.Moments.{leaves_then}
use Rattle.journal.proofs.Calls.{begins_of, proceeds}
use Rattle.journal.specs.Layouts.{label_of}
use Rattle.recovery.specs.Making.{has_label, label_told, IsUnlabelled, TakenAway, WrittenLeaves, MakingLeaves}
use Rattle.recovery.proofs.Makings.{suits_on, suits_before, suits_model, carries_then, carries_well, carries_failed, only_read_none}
use Rattle.recovery.proofs.making.make.Goals as goal

pub unlabel-requires-clause-some : goal.unlabel-requires-clause-some
unlabel-requires-clause-some g c = omega (arith, c.requires.to, has_label g.T.Target.layout c.args.blocks.number)

pub unlabel-requires-clause-told : goal.unlabel-requires-clause-told
unlabel-requires-clause-told g c = λ same. label_told g.T.Target.layout c.args.blocks.number (sym c.label-label.ensures ∙ same)

pub write_image-requires-clause-unlabelled : goal.write_image-requires-clause-unlabelled
write_image-requires-clause-unlabelled g c = λ keeps.
    let B = g.B.SectorDevice in
    let T = g.T.Target in
    let old = c.args.new.now in
    let mid = c.unlabel.new.device in
    let before = suits_before B T.layout old mid (proceeds B old mid c.unlabel.ensures.passes) keeps in
    subst (λ l. IsUnlabelled l (B.disk mid)) c.label-label.ensures (c.in-Ok.ensures.ok (suits_model B g.met.B.SectorDevice.keeps_both T.layout old before))

pub returns-in-Ok-clause-made : goal.returns-in-Ok-clause-made
returns-in-Ok-clause-made g c = λ source keeps.
    let B = g.B.SectorDevice in
    let mid = c.unlabel.new.device in
    c.write_image.ensures.made source (suits_on B g.T.Target.layout c.args.new.now mid (proceeds B c.args.new.now mid c.unlabel.ensures.passes) keeps)

pub returns-in-Ok-clause-left : goal.returns-in-Ok-clause-left
returns-in-Ok-clause-left g c = λ keeps.
    let B = g.B.SectorDevice in
    let T = g.T.Target in
    let old = c.args.new.now in
    let mid = c.unlabel.new.device in
    on_ok_weaker c.write_image.result
    (λ same k left. same k left
    ∙ c.in-Ok.ensures.others (suits_model B g.met.B.SectorDevice.keeps_both T.layout old keeps) k (g.met.T.Target.left_apart c.args.blocks.number k left))
    (c.write_image.ensures.left (suits_on B T.layout old mid (proceeds B old mid c.unlabel.ensures.passes) keeps))

pub returns-in-Ok-clause-stops : goal.returns-in-Ok-clause-stops
returns-in-Ok-clause-stops g c = λ source keeps.
    let B = g.B.SectorDevice in
    let T = g.T.Target in
    let n = c.args.blocks.number in
    let old = c.args.new.now in
    let mid = c.unlabel.new.device in
    let d = B.disk old in
    let filled = T.has_filled c.write_image.new.target n (g.S.Source.bytes_in c.args.source.now (g.A.SectorDevice.disk c.args.old.now).content) in
    leaves_then B.time B.left_since old mid c.write_image.new.new
    (TakenAway c.label-label.result d) (WrittenLeaves (label_of T.layout n) filled) (MakingLeaves (label_of T.layout n) filled d)
    c.unlabel.ensures.passes.time c.write_image.ensures.carries.passes.time
    (c.unlabel.ensures.stops (suits_model B g.met.B.SectorDevice.keeps_both T.layout old keeps))
    (c.write_image.ensures.stops source (suits_on B T.layout old mid (proceeds B old mid c.unlabel.ensures.passes) keeps))
    (λ x was. inr (subst (λ l. TakenAway l d x) c.label-label.ensures was)) (λ x is. inl is)

pub returns-in-Err-clause-stops : goal.returns-in-Err-clause-stops
returns-in-Err-clause-stops g c = λ source keeps x since.
    let B = g.B.SectorDevice in
    let old = c.args.new.now in
    inr (subst (λ l. TakenAway l (B.disk old) x) c.label-label.ensures
    (c.unlabel.ensures.stops (suits_model B g.met.B.SectorDevice.keeps_both g.T.Target.layout old keeps) x since))

pub returns-in-Ok-clause-carries : goal.returns-in-Ok-clause-carries
returns-in-Ok-clause-carries g c =
    let A = g.A.SectorDevice in
    let B = g.B.SectorDevice in
    let T = g.T.Target in
    let w = T.block_writes * c.args.blocks.number + T.first_writes + T.last_writes in
    let from = c.args.old.now in
    let mid = c.unlabel.new.device in
    let u = c.in-Ok.ensures in
    carries_then A B from from c.write_image.new.old c.args.new.now mid c.write_image.new.new g.met.A.SectorDevice.widens g.met.B.SectorDevice.widens
    1 2 1 (w + 1) 2 0 (w + 2) 4 1 (omega arith) (omega arith) (omega arith)
    (refl, u.passes.failures.stays refl)
    (carries_well A B from c.args.new.now mid (only_read_none A g.met.A.SectorDevice.only_now from) 1 2 1 refl u.passes
    (begins_of B u.costs) u.costs.few_reads (tt {0}))
    c.write_image.ensures.carries

pub returns-in-Err-clause-carries : goal.returns-in-Err-clause-carries
returns-in-Err-clause-carries g c =
    let A = g.A.SectorDevice in
    let B = g.B.SectorDevice in
    let T = g.T.Target in
    let u = c.in-Err.ensures in
    carries_failed A B c.args.old.now c.args.new.now c.unlabel.new.device (only_read_none A g.met.A.SectorDevice.only_now c.args.old.now)
    (T.block_writes * c.args.blocks.number + T.first_writes + T.last_writes + 2) 4 1 refl u.passes
    (record { few_writes = omega (arith, u.costs.few_writes); few_syncs = omega (arith, u.costs.few_syncs) }) (omega (arith, u.costs.few_reads))
