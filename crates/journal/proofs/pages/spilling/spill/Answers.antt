use Rattle.std.proofs.Common.{◌≡◌, ◌∙◌, ◌+◌, ◌++◌, ℕ, List, length, take, replicate, refl, sym, ap, subst, rules}
use Rattle.std.proofs.Math.Seq.{take-append_seam}
use Rattle.sha2.proofs.Facts256.{length-sha256}
use Rattle.sector_disk.specs.Disk.{Disk, Image, MayLeave}
use Rattle.sector_disk.specs.Pages.{InPage}
use Rattle.sector_disk.proofs.Moments.{leaves_then}
use Rattle.journal.specs.Images.{pair_at}
use Rattle.journal.specs.PageLayout.{free_at, tag_in}
use Rattle.journal.specs.Steps.{IsAsSynced, WritesOnly}
use Rattle.journal.specs.Tags.{tag_of, xor_bytes}
use Rattle.journal.proofs.Calls.{keeps_on, passes_then, passes_ok, passes_err}
use Rattle.journal.proofs.Paging.{nothing_written}
use Rattle.journal.proofs.pages.spilling.spill.Goals as goal

-- the first 32 bytes, whatever follows
front_of : (front back : List ℕ) → length front ≡ 32 → take 32 (front ++ back) ≡ front
front_of front back long = ap (λ k. take k (front ++ back)) (sym long) ∙ take-append_seam front back

-- read, and then written in a page
read_then : (k j : ℕ) (d e f : Disk) → k ≡ j → e ≡ d → WritesOnly (InPage k) e f → WritesOnly (InPage j) d f
read_then k j d e f at same only = subst (λ (x : Disk). WritesOnly (InPage j) x f) same (subst (λ i. WritesOnly (InPage i) e f) at only)

left_of_read : (k j : ℕ) (d e : Disk) (c : Image) → k ≡ j → e ≡ d → IsAsSynced (InPage k) e c → IsAsSynced (InPage j) d c
left_of_read k j d e c at same is = subst (λ (x : Disk). IsAsSynced (InPage j) x c) same (subst (λ i. IsAsSynced (InPage i) e c) at is)

pub returns-clause-bytes : goal.returns-clause-bytes
returns-clause-bytes g c = λ keeps.
    let D = g.D.SectorDevice in
    let honest = keeps_on D c.args.device.now c.read_latest_tag.new.device keeps c.read_latest_tag.ensures.reads.passes in
    subst (λ j. pair_at (D.disk c.write_place.new.device).content j ≡ c.args.bytes.now) c.free_sector.ensures.place
    (c.in_ok-write_place.ensures.bytes honest)

pub returns-clause-tag : goal.returns-clause-tag
returns-clause-tag g c = λ keeps.
    let D = g.D.SectorDevice in
    let new = c.write_place.new.device in
    let honest = keeps_on D c.args.device.now c.read_latest_tag.new.device keeps c.read_latest_tag.ensures.reads.passes in
    ap (λ j. tag_in ((D.disk new).content (j + 2))) (sym c.free_sector.ensures.place)
    ∙ ap tag_in (c.in_ok-write_place.ensures.tag honest)
    ∙ ap (λ m. tag_in (m ++ replicate 480 0)) c.tag_of_bytes-new.ensures
    ∙ front_of (tag_of c.args.b c.args.bytes.now) (replicate 480 0) (length-sha256 _)

pub returns-clause-sum : goal.returns-clause-sum
returns-clause-sum g c = λ keeps.
    let taken = c.in_ok-old.ensures.bytes keeps in
    c.exchange.ensures ∙ (λ t. xor_bytes (xor_bytes c.args.sum.now (taken t)) (c.tag_of_bytes-new.ensures t))

pub returns-in_err-old-clause-only : goal.returns-in_err-old-clause-only
returns-in_err-old-clause-only g c = λ keeps.
    let d = g.D.SectorDevice.disk c.args.device.now in
    let P = InPage (free_at c.args.listing.now c.args.b) in
    subst (λ (x : Disk). WritesOnly P d x) (sym (c.read_latest_tag.ensures.reads.disk keeps)) (nothing_written P d)

pub returns-in_err-old-clause-stops : goal.returns-in_err-old-clause-stops
returns-in_err-old-clause-stops g c = λ keeps x since j out clear. c.read_latest_tag.ensures.reads.stops keeps x since j clear

pub returns-in_err-write_place-clause-only : goal.returns-in_err-write_place-clause-only
returns-in_err-write_place-clause-only g c = λ keeps.
    let D = g.D.SectorDevice in
    let old = c.args.device.now in
    let mid = c.read_latest_tag.new.device in
    let honest = keeps_on D old mid keeps c.read_latest_tag.ensures.reads.passes in
    read_then c.free_sector.result (free_at c.args.listing.now c.args.b) (D.disk old) (D.disk mid) (D.disk c.write_place.new.device)
    c.free_sector.ensures.place (c.read_latest_tag.ensures.reads.disk keeps) (c.write_place.ensures.only honest)

pub returns-clause-only : goal.returns-clause-only
returns-clause-only g c = λ keeps.
    let D = g.D.SectorDevice in
    let old = c.args.device.now in
    let mid = c.read_latest_tag.new.device in
    let honest = keeps_on D old mid keeps c.read_latest_tag.ensures.reads.passes in
    read_then c.free_sector.result (free_at c.args.listing.now c.args.b) (D.disk old) (D.disk mid) (D.disk c.write_place.new.device)
    c.free_sector.ensures.place (c.read_latest_tag.ensures.reads.disk keeps) (c.write_place.ensures.only honest)

pub returns-in_err-write_place-clause-stops : goal.returns-in_err-write_place-clause-stops
returns-in_err-write_place-clause-stops g c = λ keeps.
    let D = g.D.SectorDevice in
    let old = c.args.device.now in
    let mid = c.read_latest_tag.new.device in
    let k = c.free_sector.result in
    let at = free_at c.args.listing.now c.args.b in
    let same = c.read_latest_tag.ensures.reads.disk keeps in
    let honest = keeps_on D old mid keeps c.read_latest_tag.ensures.reads.passes in
    leaves_then D.time D.left_since old mid c.write_place.new.device
    (MayLeave (D.disk old)) (IsAsSynced (InPage k) (D.disk mid)) (IsAsSynced (InPage at) (D.disk old))
    c.read_latest_tag.ensures.reads.passes.time c.write_place.ensures.passes.time (c.read_latest_tag.ensures.reads.stops keeps) (c.write_place.ensures.stops honest)
    (λ x may j out clear. may j clear)
    (λ x is. left_of_read k at (D.disk old) (D.disk mid) x c.free_sector.ensures.place same is)

pub returns-clause-stops : goal.returns-clause-stops
returns-clause-stops g c = λ keeps.
    let D = g.D.SectorDevice in
    let old = c.args.device.now in
    let mid = c.read_latest_tag.new.device in
    let k = c.free_sector.result in
    let at = free_at c.args.listing.now c.args.b in
    let same = c.read_latest_tag.ensures.reads.disk keeps in
    let honest = keeps_on D old mid keeps c.read_latest_tag.ensures.reads.passes in
    leaves_then D.time D.left_since old mid c.write_place.new.device
    (MayLeave (D.disk old)) (IsAsSynced (InPage k) (D.disk mid)) (IsAsSynced (InPage at) (D.disk old))
    c.read_latest_tag.ensures.reads.passes.time c.write_place.ensures.passes.time (c.read_latest_tag.ensures.reads.stops keeps) (c.write_place.ensures.stops honest)
    (λ x may j out clear. may j clear)
    (λ x is. left_of_read k at (D.disk old) (D.disk mid) x c.free_sector.ensures.place same is)

pub returns-in_err-write_place-clause-passes : goal.returns-in_err-write_place-clause-passes
returns-in_err-write_place-clause-passes g c =
    let D = g.D.SectorDevice in
    passes_err D c.args.device.now c.write_place.new.device
    (passes_then D c.args.device.now c.read_latest_tag.new.device c.write_place.new.device g.met.D.SectorDevice.widens
    c.in_ok-old.ensures.reads.passes c.in_err-write_place.ensures.passes refl) refl (search rules)

pub returns-clause-passes : goal.returns-clause-passes
returns-clause-passes g c =
    let D = g.D.SectorDevice in
    passes_ok D c.args.device.now c.write_place.new.device
    (passes_then D c.args.device.now c.read_latest_tag.new.device c.write_place.new.device g.met.D.SectorDevice.widens
    c.in_ok-old.ensures.reads.passes c.in_ok-write_place.ensures.passes refl) refl refl
