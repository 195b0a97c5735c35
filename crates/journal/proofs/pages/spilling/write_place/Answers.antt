use Rattle.std.proofs.Common.{◌≡◌, ◌∙◌, inl, inr, ◌+◌, ◌++◌, ℕ, List, take, drop, refl, ap, arith, take-append-drop}
use Rattle.std.proofs.lemmas.Result.{on_ok_weaker}
use Rattle.sector_disk.specs.Disk.{Disk, written, with_sector}
use Rattle.sector_disk.specs.Pages.{InPage}
use Rattle.sector_disk.proofs.Moments.{leaves_then, sector_same, sector_other}
use Rattle.journal.specs.Images.{pair_at}
use Rattle.journal.specs.Layouts.{SpoilsPair}
use Rattle.journal.specs.Steps.{IsAsSynced, WritesOnly}
use Rattle.journal.specs.declared.sizes.Layout.TheVariants.{Pages}
use Rattle.journal.proofs.Calls.{keeps_on, passes_then}
use Rattle.journal.proofs.Paging.{only_then, left_then, wider, wider_left}
use Rattle.journal.proofs.pages.spilling.write_place.Goals as goal

-- the two halves stand there once the tag is written too
placed_pair : (k : ℕ) (bytes tag : List ℕ) (d e f : Disk) → e ≡ written (written d k (take 512 bytes)) (k + 1) (drop 512 bytes)
    → f ≡ written e (k + 2) tag → pair_at f.content k ≡ bytes
placed_pair k bytes tag d e f is then = (λ t. first t ++ second t) ∙ take-append-drop 512 bytes
  where
    first : f.content k ≡ take 512 bytes
    first =
        ap (λ (x : Disk). x.content k) then ∙ sector_other e.content (k + 2) k tag (omega arith)
        ∙ ap (λ (x : Disk). x.content k) is
        ∙ sector_other (with_sector d.content k (take 512 bytes)) (k + 1) k (drop 512 bytes) (omega arith) ∙ sector_same d.content k (take 512 bytes)

    second : f.content (k + 1) ≡ drop 512 bytes
    second =
        ap (λ (x : Disk). x.content (k + 1)) then ∙ sector_other e.content (k + 2) (k + 1) tag (omega arith)
        ∙ ap (λ (x : Disk). x.content (k + 1)) is ∙ sector_same (with_sector d.content k (take 512 bytes)) (k + 1) (drop 512 bytes)

-- the page of the tag's sector
same_page : (k : ℕ) → InPage k (k + 2) → (j : ℕ) → InPage (k + 2) j → InPage k j
same_page k page j is = is ∙ page

-- and that of both halves
pair_page : (k : ℕ) → InPage k (k + 1) → (j : ℕ) → SpoilsPair Pages k j → InPage k j
pair_page k page j (inl at) = at
pair_page k page j (inr at) = at ∙ page

pair_only : (k : ℕ) → InPage k (k + 1) → (d e : Disk) → WritesOnly (SpoilsPair Pages k) d e → WritesOnly (InPage k) d e
pair_only k page d e = wider (SpoilsPair Pages k) (InPage k) (pair_page k page) d e

pub returns-in_err-write_pair-clause-only : goal.returns-in_err-write_pair-clause-only
returns-in_err-write_pair-clause-only g c = λ keeps.
    let D = g.D.SectorDevice in
    pair_only c.args.k c.requires.pair (D.disk c.args.device.now) (D.disk c.write_pair.new.device) (c.write_pair.ensures.only Pages keeps)

pub returns-in_err-write_pair-clause-stops : goal.returns-in_err-write_pair-clause-stops
returns-in_err-write_pair-clause-stops g c = λ keeps x since.
    wider_left (SpoilsPair Pages c.args.k) (InPage c.args.k) (pair_page c.args.k c.requires.pair) (g.D.SectorDevice.disk c.args.device.now) x
    (c.write_pair.ensures.stops Pages keeps x since)

pub returns-clause-bytes : goal.returns-clause-bytes
returns-clause-bytes g c = λ keeps.
    let D = g.D.SectorDevice in
    let old = c.args.device.now in
    let mid = c.write_pair.new.device in
    let honest = keeps_on D old mid keeps c.write_pair.ensures.passes in
    on_ok_weaker c.write_sector.result
    (λ is. placed_pair c.args.k c.args.bytes.now c.tag_sector.result (D.disk old) (D.disk mid) (D.disk c.write_sector.new.device)
    (c.in_ok-write_pair.ensures.ok keeps) is)
    (c.write_sector.ensures.ok honest)

pub returns-clause-tag : goal.returns-clause-tag
returns-clause-tag g c = λ keeps.
    let D = g.D.SectorDevice in
    let old = c.args.device.now in
    let mid = c.write_pair.new.device in
    let k = c.args.k in
    let honest = keeps_on D old mid keeps c.write_pair.ensures.passes in
    on_ok_weaker c.write_sector.result
    (λ is. ap (λ (x : Disk). x.content (k + 2)) is ∙ sector_same (D.disk mid).content (k + 2) c.tag_sector.result ∙ c.tag_sector.ensures)
    (c.write_sector.ensures.ok honest)

pub returns-clause-only : goal.returns-clause-only
returns-clause-only g c = λ keeps.
    let D = g.D.SectorDevice in
    let old = c.args.device.now in
    let mid = c.write_pair.new.device in
    let new = c.write_sector.new.device in
    let k = c.args.k in
    let honest = keeps_on D old mid keeps c.write_pair.ensures.passes in
    only_then (InPage k) (D.disk old) (D.disk mid) (D.disk new) (pair_only k c.requires.pair (D.disk old) (D.disk mid) (c.write_pair.ensures.only Pages keeps))
    (wider (InPage (k + 2)) (InPage k) (same_page k c.requires.page) (D.disk mid) (D.disk new) (c.write_sector.ensures.only Pages honest))

pub returns-clause-stops : goal.returns-clause-stops
returns-clause-stops g c = λ keeps.
    let D = g.D.SectorDevice in
    let old = c.args.device.now in
    let mid = c.write_pair.new.device in
    let new = c.write_sector.new.device in
    let k = c.args.k in
    let only = pair_only k c.requires.pair (D.disk old) (D.disk mid) (c.write_pair.ensures.only Pages keeps) in
    let honest = keeps_on D old mid keeps c.write_pair.ensures.passes in
    leaves_then D.time D.left_since old mid new
    (IsAsSynced (SpoilsPair Pages k) (D.disk old)) (IsAsSynced (InPage (k + 2)) (D.disk mid)) (IsAsSynced (InPage k) (D.disk old))
    c.write_pair.ensures.passes.time c.write_sector.ensures.passes.time (c.write_pair.ensures.stops Pages keeps) (c.write_sector.ensures.stops Pages honest)
    (λ x is. wider_left (SpoilsPair Pages k) (InPage k) (pair_page k c.requires.pair) (D.disk old) x is)
    (λ x is. left_then (InPage k) (D.disk old) (D.disk mid) x only (wider_left (InPage (k + 2)) (InPage k) (same_page k c.requires.page) (D.disk mid) x is))

pub returns-clause-passes : goal.returns-clause-passes
returns-clause-passes g c =
    passes_then g.D.SectorDevice c.args.device.now c.write_pair.new.device c.write_sector.new.device g.met.D.SectorDevice.widens
    c.in_ok-write_pair.ensures.passes c.write_sector.ensures.passes refl
