use Rattle.std.proofs.Common.{◌≢◌, ◌∙◌, ◌+◌, ◌*◌, inl, arith, refl, sym, ap, subst, IsTrue}
use Rattle.sector_disk.specs.Disk.{Disk, written, settled}
use Rattle.sector_disk.proofs.Moments.{leaves_then, sector_other}
use Rattle.journal.specs.Layouts.{label_of}
use Rattle.recovery.specs.Making.{has_label, IsMade, Sealed, WrittenLeaves}
use Rattle.recovery.proofs.Makings.{suits_on, suits_model, suits_own, made_of, sealed_leaves, carries_then, carries_well, carries_failed, only_read_none}
use Rattle.journal.proofs.Calls.{begins_of}
use Rattle.recovery.proofs.making.write_image.Goals as goal

pub seal-requires-clause-some : goal.seal-requires-clause-some
seal-requires-clause-some g c = omega (arith, c.requires.to, c.prepare.ensures.carries.passes.sectors, has_label g.T.Target.layout c.args.blocks.number)

pub seal-requires-clause-synced : goal.seal-requires-clause-synced
seal-requires-clause-synced g c = λ keeps. c.in_ok-prepare.ensures.synced (subst IsTrue c.prepare.ensures.carries.passes.model keeps)

pub returns-in-Ok-clause-made : goal.returns-in-Ok-clause-made
returns-in-Ok-clause-made g c = λ source keeps.
    let B = g.B.SectorDevice in
    let T = g.T.Target in
    let n = c.args.blocks.number in
    let mid = c.prepare.new.new in
    let e = B.disk mid in
    let suited = suits_on B T.layout c.args.new.now mid c.prepare.ensures.carries.passes keeps in
    let honest = suits_model B g.met.B.SectorDevice.keeps_both T.layout mid suited in
    let given = g.S.Source.bytes_in c.args.source.now (g.A.SectorDevice.disk c.args.old.now).content in
    let filled = T.has_filled c.prepare.new.target n given in
    subst (λ (d : Disk). IsMade (label_of T.layout n) filled d) (sym (c.in-Ok.ensures.ok honest ∙ ap (λ l. settled (written e 0 l)) c.requires.label))
    (made_of (label_of T.layout n) filled T.layout e (suits_own B g.met.B.SectorDevice.by_sectors T.layout mid suited) (g.met.B.SectorDevice.by_pages mid honest)
    (g.met.T.Target.filled_apart c.prepare.new.target n given) (c.in_ok-prepare.ensures.ready source keeps))

pub returns-in-Ok-clause-left : goal.returns-in-Ok-clause-left
returns-in-Ok-clause-left g c = λ keeps k left.
    let B = g.B.SectorDevice in
    let T = g.T.Target in
    let mid = c.prepare.new.new in
    let honest = suits_model B g.met.B.SectorDevice.keeps_both T.layout mid (suits_on B T.layout c.args.new.now mid c.prepare.ensures.carries.passes keeps) in
    ap (λ (d : Disk). d.content k) (c.in-Ok.ensures.ok honest)
    ∙ sector_other (B.disk mid).content 0 k c.args.label.now (g.met.T.Target.left_apart c.args.blocks.number k left)
    ∙ c.in_ok-prepare.ensures.left keeps k left

pub returns-in_err-prepare-clause-stops : goal.returns-in_err-prepare-clause-stops
returns-in_err-prepare-clause-stops g c = λ source keeps x since. inl (c.prepare.ensures.stops keeps x since)

pub returns-in-Ok-clause-stops : goal.returns-in-Ok-clause-stops
returns-in-Ok-clause-stops g c = λ source keeps.
    let B = g.B.SectorDevice in
    let T = g.T.Target in
    let n = c.args.blocks.number in
    let mid = c.prepare.new.new in
    let e = B.disk mid in
    let suited = suits_on B T.layout c.args.new.now mid c.prepare.ensures.carries.passes keeps in
    let honest = suits_model B g.met.B.SectorDevice.keeps_both T.layout mid suited in
    let given = g.S.Source.bytes_in c.args.source.now (g.A.SectorDevice.disk c.args.old.now).content in
    let filled = T.has_filled c.prepare.new.target n given in
    leaves_then B.time B.left_since c.args.new.now mid c.seal.new.device
    (λ x. x 0 ≢ label_of T.layout n) (Sealed c.args.label.now e) (WrittenLeaves (label_of T.layout n) filled)
    c.prepare.ensures.carries.passes.time c.seal.ensures.passes.time (c.prepare.ensures.stops keeps) (c.seal.ensures.stops honest)
    (λ x bad. inl bad)
    (λ x is. sealed_leaves (label_of T.layout n) filled T.layout e (suits_own B g.met.B.SectorDevice.by_sectors T.layout mid suited) (g.met.B.SectorDevice.by_pages mid honest)
    (g.met.T.Target.filled_apart c.prepare.new.target n given) (c.in_ok-prepare.ensures.ready source keeps) x
    (subst (λ l. Sealed l e x) c.requires.label is))

pub returns-in-Err-clause-stops : goal.returns-in-Err-clause-stops
returns-in-Err-clause-stops g c = λ source keeps.
    let B = g.B.SectorDevice in
    let T = g.T.Target in
    let n = c.args.blocks.number in
    let mid = c.prepare.new.new in
    let e = B.disk mid in
    let suited = suits_on B T.layout c.args.new.now mid c.prepare.ensures.carries.passes keeps in
    let honest = suits_model B g.met.B.SectorDevice.keeps_both T.layout mid suited in
    let given = g.S.Source.bytes_in c.args.source.now (g.A.SectorDevice.disk c.args.old.now).content in
    let filled = T.has_filled c.prepare.new.target n given in
    leaves_then B.time B.left_since c.args.new.now mid c.seal.new.device
    (λ x. x 0 ≢ label_of T.layout n) (Sealed c.args.label.now e) (WrittenLeaves (label_of T.layout n) filled)
    c.prepare.ensures.carries.passes.time c.seal.ensures.passes.time (c.prepare.ensures.stops keeps) (c.seal.ensures.stops honest)
    (λ x bad. inl bad)
    (λ x is. sealed_leaves (label_of T.layout n) filled T.layout e (suits_own B g.met.B.SectorDevice.by_sectors T.layout mid suited) (g.met.B.SectorDevice.by_pages mid honest)
    (g.met.T.Target.filled_apart c.prepare.new.target n given) (c.in_ok-prepare.ensures.ready source keeps) x
    (subst (λ l. Sealed l e x) c.requires.label is))

pub returns-in-Ok-clause-carries : goal.returns-in-Ok-clause-carries
returns-in-Ok-clause-carries g c =
    let A = g.A.SectorDevice in
    let B = g.B.SectorDevice in
    let T = g.T.Target in
    let w = T.block_writes * c.args.blocks.number + T.first_writes + T.last_writes in
    let read = c.prepare.new.old in
    let mid = c.prepare.new.new in
    let new = c.seal.new.device in
    let s = c.in-Ok.ensures in
    carries_then A B c.args.old.now read read c.args.new.now mid new g.met.A.SectorDevice.widens g.met.B.SectorDevice.widens
    w 1 0 1 1 0 (w + 1) 2 0 (omega arith) (omega arith) (omega arith)
    c.in_ok-prepare.ensures.carries.well c.in_ok-prepare.ensures.carries
    (carries_well A B read mid new (only_read_none A g.met.A.SectorDevice.only_now read) 1 1 0 refl s.passes
    (begins_of B s.costs) s.costs.few_reads tt)

pub returns-in-Err-clause-carries : goal.returns-in-Err-clause-carries
returns-in-Err-clause-carries g c =
    let A = g.A.SectorDevice in
    let B = g.B.SectorDevice in
    let T = g.T.Target in
    let w = T.block_writes * c.args.blocks.number + T.first_writes + T.last_writes in
    let read = c.prepare.new.old in
    let mid = c.prepare.new.new in
    let new = c.seal.new.device in
    let s = c.in-Err.ensures in
    carries_then A B c.args.old.now read read c.args.new.now mid new g.met.A.SectorDevice.widens g.met.B.SectorDevice.widens
    w 1 0 1 1 0 (w + 1) 2 0 (omega arith) (omega arith) (omega arith)
    c.in_ok-prepare.ensures.carries.well c.in_ok-prepare.ensures.carries
    (carries_failed A B read mid new (only_read_none A g.met.A.SectorDevice.only_now read) 1 1 0 refl s.passes
    (begins_of B s.costs) s.costs.few_reads)
