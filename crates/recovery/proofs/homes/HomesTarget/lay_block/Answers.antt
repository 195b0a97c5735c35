use Rattle.std.proofs.Common.{◌≡◌, ◌≢◌, ◌+◌, ◌∙◌, ⊎_elim, ℕ, take, drop, subst, sym, arith}
use Rattle.std.proofs.lemmas.Result.{on_ok_weaker}
use Rattle.sector_disk.specs.Disk.{Disk, written}
use Rattle.journal.specs.Layout.{InPair, home_at}
use Rattle.recovery.specs.Homes.{HasHomesBelow}
use Rattle.recovery.proofs.HomesMade.{homes_more}
use Rattle.journal.proofs.Paging.{wider, wider_left}
use Rattle.journal.proofs.Calls.{begins_of}
use Rattle.journal.specs.declared.sizes.Layout.TheVariants.{Journal}
use Rattle.recovery.proofs.homes.HomesTarget.lay_block.Goals as goal

pub returns-clause-laid : goal.returns-clause-laid
returns-clause-laid g c = λ keeps given is has.
    let d = g.D.SectorDevice.disk c.args.device.now in
    let n = c.args.blocks.number in
    let b = c.args.b in
    let bytes = c.args.bytes.now in
    on_ok_weaker c.write_pair.result
    (λ done. subst (λ (e : Disk). HasHomesBelow n (b + 1) given e.content)
    (sym (done ∙ (λ t. written (written d (c.home_sector.ensures t) (take 512 bytes)) (c.home_sector.ensures t + 1) (drop 512 bytes))))
    (homes_more n b bytes d.content given is has))
    (c.write_pair.ensures.ok (g.met.D.SectorDevice.keeps_both c.args.device.now keeps))

-- a home lies apart
past : (n b k j : ℕ) → k ≡ home_at n b → InPair k j → j ≢ 0
past n b k j at pair zero = ⊎_elim (λ one. absurd (omega (arith, at, one, zero))) (λ one. absurd (omega (arith, at, one, zero))) pair

pub returns-clause-lays : goal.returns-clause-lays
returns-clause-lays g c =
    let D = g.D.SectorDevice in
    let old = c.args.device.now in
    let new = c.write_pair.new.device in
    let k = c.home_sector.result in
    let within : (j : ℕ) → InPair k j → j ≢ 0 = λ j. past c.args.blocks.number c.args.b k j c.home_sector.ensures in
    record {
      only = λ keeps. wider (InPair k) (λ j. j ≢ 0) within (D.disk old) (D.disk new) (c.write_pair.ensures.only Journal keeps);
      stops = λ keeps x since. wider_left (InPair k) (λ j. j ≢ 0) within (D.disk old) x (c.write_pair.ensures.stops Journal keeps x since);
      passes = c.write_pair.ensures.passes;
      begins = begins_of D c.write_pair.ensures.costs;
      reads = c.write_pair.ensures.costs.few_reads;
    }
