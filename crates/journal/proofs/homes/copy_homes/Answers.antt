use Rattle.std.proofs.Common.{refl, arith, sym, subst, IsTrue}
use Rattle.sector_disk.proofs.Moments.{leaves_then}
use Rattle.journal.specs.Layout.{home_at, InPair, InListedHomes}
use Rattle.journal.specs.Steps.{IsAsSynced, HasCopied}
use Rattle.journal.proofs.Calls.{passes_then, passes_err}
use Rattle.journal.proofs.Copies.{only_more, copied_more, as_synced_more}
use Rattle.journal.proofs.Walks.{count_next, count_within, up_to_next}
use Rattle.journal.proofs.homes.copy_homes.Goals as goal

pub returns-in_err-copy_home-clause-costs : goal.returns-in_err-copy_home-clause-costs
returns-in_err-copy_home-clause-costs g c =
    let so_far = c.loop-b.invariant.costs in
    let step = c.copy_home.ensures.costs in
    let more = count_within c.args.bytes.now c.loop-b.b c.args.blocks.number c.loop-b-test.true (c.loop-b.invariant.here c.loop-b-test.true) in
    record {
      few_writes = omega (arith, so_far.few_writes, step.few_writes, more);
      few_syncs = omega (arith, so_far.few_syncs, step.few_syncs);
      few_reads = omega (arith, so_far.few_reads, step.few_reads, more);
    }

pub loop-b-preserved : goal.loop-b-preserved
loop-b-preserved g c =
    let D = g.D.SectorDevice in
    let inv = c.loop-b.invariant in
    let step = c.copy_home.ensures in
    let next = c.next_listed-b-in-loop-b.ensures in
    let n = c.args.blocks.number in
    let bytes = c.args.bytes.now in
    let b = c.loop-b.b in
    let below = c.loop-b-test.true in
    let here = inv.here below in
    let more = count_next bytes b n c.next_listed-b-in-loop-b.result here next in
    let d = D.disk c.args.device.now in
    let e = D.disk c.loop-b.device in
    let f = D.disk c.copy_home.new.device in
    let honest : IsTrue (D.keeps_sectors c.args.device.now) → IsTrue (D.keeps_sectors c.loop-b.device) = λ keeps. subst IsTrue (sym inv.passes.units) keeps in
    record {
      within = next.within;
      here = next.here;
      copied = λ keeps. up_to_next bytes b n c.next_listed-b-in-loop-b.result here next (λ a. HasCopied n a d.content f.content)
          (copied_more n bytes b below here d e f (inv.only keeps) (step.only (honest keeps)) (c.in_ok-copy_home.ensures.ok (honest keeps)) (inv.copied keeps));
      only = λ keeps. only_more n bytes b below here d e f (inv.only keeps) (step.only (honest keeps));
      stops = λ keeps. leaves_then D.time D.left_since c.args.device.now c.loop-b.device c.copy_home.new.device
          (IsAsSynced (InListedHomes n bytes) d) (IsAsSynced (InPair (home_at n b)) e) (IsAsSynced (InListedHomes n bytes) d)
          inv.passes.time step.passes.time (inv.stops keeps) (step.stops (honest keeps))
          (λ x is. is) (λ x is. as_synced_more n bytes b below here d e x (inv.only keeps) is);
      passes = passes_then D c.args.device.now c.loop-b.device c.copy_home.new.device g.met.D.SectorDevice.widens inv.passes c.in_ok-copy_home.ensures.passes refl;
      costs = record {
        few_writes = omega (arith, more, inv.costs.few_writes, step.costs.few_writes);
        few_syncs = omega (arith, inv.costs.few_syncs, step.costs.few_syncs);
        few_reads = omega (arith, more, inv.costs.few_reads, step.costs.few_reads);
      };
    }

pub returns-in_err-copy_home-clause-passes : goal.returns-in_err-copy_home-clause-passes
returns-in_err-copy_home-clause-passes g c =
    let D = g.D.SectorDevice in
    passes_err D c.args.device.now c.copy_home.new.device
    (passes_then D c.args.device.now c.loop-b.device c.copy_home.new.device g.met.D.SectorDevice.widens
    c.loop-b.invariant.passes c.in_err-copy_home.ensures.passes refl) refl c.from_residual.ensures.0
