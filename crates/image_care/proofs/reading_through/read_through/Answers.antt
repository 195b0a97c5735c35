use Rattle.std.proofs.Common.{◌≡◌, ◌+◌, ℕ, List, IsTrue, ap, arith, length, subst, suc, sym}
use Rattle.sector_disk.specs.Counting.{count_up_by}
use Rattle.sector_disk.specs.Disk.{Disk}
use Rattle.recovery.proofs.Makings.{only_read_none}
use Rattle.recovery.proofs.Upgrades.{only_read_then}
use Rattle.image_care.specs.Through.{WereHad}
use Rattle.image_care.proofs.Through.{next_of}
use Rattle.journal.proofs.Calls.{begins_of}
use Rattle.image_care.proofs.reading_through.read_through.Goals as goal

pub loop-k-init : goal.loop-k-init
loop-k-init g c =
    let D = g.D.SectorDevice in
    record {
      were_had = (c.new-bytes.ensures.items, c.new-unread.ensures.items);
      failed = sym (ap (λ (l : List ℕ). count_up_by (length l) (D.failures c.args.device.now)) c.new-unread.ensures.items);
      only_read = only_read_none D g.met.D.SectorDevice.only_now c.args.device.now;
      once = omega arith;
    }

pub loop-k-preserved : goal.loop-k-preserved
loop-k-preserved g c =
    let D = g.D.SectorDevice in
    let inv = c.loop-k.invariant in
    let step = c.add_next.ensures in
    let k = c.loop-k.k in
    let old = c.args.device.now in
    let now = c.loop-k.device in
    let had = c.loop-k.bytes.items in
    let unread = c.loop-k.unread.items in
    let had' = c.add_next.new.bytes.items in
    let unread' = c.add_next.new.unread.items in
    let honest : IsTrue (D.keeps_model old) → IsTrue (D.keeps_model now) = λ keeps. subst IsTrue (sym inv.only_read.passes.model) keeps in
    let one_more : suc k ≡ k + 1 = omega arith in
    let next = next_of (D.keeps_model now) (D.keeps_model old) ((D.disk now).content k) ((D.disk old).content k) k had unread had' unread'
    honest (λ keeps. ap (λ (d : Disk). d.content k) (inv.only_read.disk keeps)) c.in_ok-add_next.ensures.next in
    record {
      were_had = subst (λ (n : ℕ). WereHad (D.keeps_model old) (D.disk old).content n had' unread') one_more (had, unread, next, inv.were_had);
      failed = c.in_ok-add_next.ensures.failed (D.failures old) inv.failed;
      only_read = only_read_then D old now c.add_next.new.device g.met.D.SectorDevice.widens inv.only_read
          (record { disk = step.disk; stops = step.stops; passes = step.passes; begins = begins_of D step.costs });
      once = omega (arith, inv.once, step.costs.few_reads);
    }

pub returns-clause-were_had : goal.returns-clause-were_had
returns-clause-were_had g c =
    let D = g.D.SectorDevice in
    let old = c.args.device.now in
    let inv = c.loop-k.invariant in
    let ended : c.loop-k.k ≡ D.sector_count old = omega (arith, c.loop-k.auto.k-end, c.loop-k-test.false, c.sectors-sectors.ensures) in
    subst (λ (n : ℕ). WereHad (D.keeps_model old) (D.disk old).content n c.loop-k.bytes.items c.loop-k.unread.items) ended inv.were_had

-- There is no memory: it ends there.
pub returns-in_err-add_next-clause-only_read : goal.returns-in_err-add_next-clause-only_read
returns-in_err-add_next-clause-only_read g c =
    let inv = c.loop-k.invariant in
    let step = c.add_next.ensures in
    only_read_then g.D.SectorDevice c.args.device.now c.loop-k.device c.add_next.new.device g.met.D.SectorDevice.widens inv.only_read
    (record { disk = step.disk; stops = step.stops; passes = step.passes; begins = begins_of g.D.SectorDevice step.costs })
