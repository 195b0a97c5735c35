use Rattle.std.proofs.Common.{◌≡◌, ◌≢◌, ◌∙◌, ℕ, refl, sym, ap, subst, arith, IsTrue, replicate}
use Rattle.std.proofs.lemmas.Result.{on_ok_weaker}
use Rattle.sector_disk.specs.Disk.{Disk, written}
use Rattle.sector_disk.proofs.Moments.{leaves_then}
use Rattle.journal.specs.Steps.{IsAsSynced}
use Rattle.journal.specs.declared.sizes.Layout.TheVariants.{Journal}
use Rattle.journal.proofs.Calls.{passes_then}
use Rattle.journal.proofs.Paging.{only_then, left_then, wider, wider_left}
use Rattle.recovery.proofs.homes.fill_head.Goals as goal

past_1 : (j : ℕ) → j ≡ 1 → j ≢ 0
past_1 j one zero = absurd (omega (arith, one, zero))

past_2 : (j : ℕ) → j ≡ 2 → j ≢ 0
past_2 j two zero = absurd (omega (arith, two, zero))

pub returns-clause-ok : goal.returns-clause-ok
returns-clause-ok g c = λ keeps.
    let D = g.D.SectorDevice in
    let both = g.met.D.SectorDevice.keeps_both in
    let mid = c.write_sector.new.device in
    let honest : IsTrue (D.keeps_sectors mid) = subst IsTrue (sym c.write_sector.ensures.passes.units) keeps in
    on_ok_weaker c.write_sector-2.result
    (λ is. is ∙ ap (λ (d : Disk). written d 2 (replicate 512 0)) (c.in_ok-write_sector.ensures.ok (both c.args.device.now keeps)))
    (c.write_sector-2.ensures.ok (both mid honest))

pub returns-in_err-write_sector-clause-only : goal.returns-in_err-write_sector-clause-only
returns-in_err-write_sector-clause-only g c = λ keeps.
    let D = g.D.SectorDevice in
    wider (λ j. j ≡ 1) (λ j. j ≢ 0) past_1 (D.disk c.args.device.now) (D.disk c.write_sector.new.device) (c.write_sector.ensures.only Journal keeps)

pub returns-in_err-write_sector-clause-stops : goal.returns-in_err-write_sector-clause-stops
returns-in_err-write_sector-clause-stops g c = λ keeps x since.
    wider_left (λ j. j ≡ 1) (λ j. j ≢ 0) past_1 (g.D.SectorDevice.disk c.args.device.now) x (c.write_sector.ensures.stops Journal keeps x since)

pub returns-clause-only : goal.returns-clause-only
returns-clause-only g c = λ keeps.
    let D = g.D.SectorDevice in
    let d = D.disk c.args.device.now in
    let e = D.disk c.write_sector.new.device in
    let f = D.disk c.write_sector-2.new.device in
    let honest : IsTrue (D.keeps_sectors c.write_sector.new.device) = subst IsTrue (sym c.write_sector.ensures.passes.units) keeps in
    only_then (λ j. j ≢ 0) d e f
    (wider (λ j. j ≡ 1) (λ j. j ≢ 0) past_1 d e (c.write_sector.ensures.only Journal keeps))
    (wider (λ j. j ≡ 2) (λ j. j ≢ 0) past_2 e f (c.write_sector-2.ensures.only Journal honest))

pub returns-clause-stops : goal.returns-clause-stops
returns-clause-stops g c = λ keeps.
    let D = g.D.SectorDevice in
    let old = c.args.device.now in
    let mid = c.write_sector.new.device in
    let d = D.disk old in
    let e = D.disk mid in
    let honest : IsTrue (D.keeps_sectors mid) = subst IsTrue (sym c.write_sector.ensures.passes.units) keeps in
    leaves_then D.time D.left_since old mid c.write_sector-2.new.device
    (IsAsSynced (λ j. j ≡ 1) d) (IsAsSynced (λ j. j ≡ 2) e) (IsAsSynced (λ j. j ≢ 0) d)
    c.write_sector.ensures.passes.time c.write_sector-2.ensures.passes.time (c.write_sector.ensures.stops Journal keeps) (c.write_sector-2.ensures.stops Journal honest)
    (λ x is. wider_left (λ j. j ≡ 1) (λ j. j ≢ 0) past_1 d x is)
    (λ x is. left_then (λ j. j ≢ 0) d e x (wider (λ j. j ≡ 1) (λ j. j ≢ 0) past_1 d e (c.write_sector.ensures.only Journal keeps))
    (wider_left (λ j. j ≡ 2) (λ j. j ≢ 0) past_2 e x is))

pub returns-clause-passes : goal.returns-clause-passes
returns-clause-passes g c =
    passes_then g.D.SectorDevice c.args.device.now c.write_sector.new.device c.write_sector-2.new.device g.met.D.SectorDevice.widens
    c.in_ok-write_sector.ensures.passes c.write_sector-2.ensures.passes refl
