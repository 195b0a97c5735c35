use Rattle.std.proofs.Common.{◌∙◌, sym, ap, subst, refl}
use Rattle.std.proofs.lemmas.Result.{on_ok_weaker}
use Rattle.sector_disk.specs.Disk.{Disk}
use Rattle.shadow.specs.Places.{HasNamed}
use Rattle.shadow.proofs.Formats.{filled_by, record_of_parts, head_rest}
use Rattle.shadow.proofs.Makings.{lays_of}
use Rattle.journal.proofs.Calls.{begins_of}
use Rattle.shadow.proofs.places.PlacesTarget.finish.Goals as goal

pub returns-clause-filled : goal.returns-clause-filled
returns-clause-filled g c = λ keeps given has.
    let D = g.D.SectorDevice in
    let n = c.args._blocks.number in
    let listing = c.with_sum-self.result in
    let d = D.disk c.args.device.now in
    on_ok_weaker c.fill_head.result
    (λ is. subst (λ (e : Disk). HasNamed n given listing e.content) (sym is) (record {
      filled = filled_by n given listing d.content
          (record_of_parts listing _ c.with_sum-self.ensures.bits (c.with_sum-self.ensures.sum ∙ has.total)) has.places;
      named = refl;
    }))
    (c.fill_head.ensures.ok keeps)

pub returns-clause-left : goal.returns-clause-left
returns-clause-left g c = λ keeps.
    let D = g.D.SectorDevice in
    on_ok_weaker c.fill_head.result
    (λ is k left. ap (λ (d : Disk). d.content k) is ∙ head_rest c.with_sum-self.result (D.disk c.args.device.now).content k left)
    (c.fill_head.ensures.ok keeps)

pub returns-clause-lays : goal.returns-clause-lays
returns-clause-lays g c =
    let w = c.fill_head.ensures in
    lays_of g.D.SectorDevice c.args.device.now c.fill_head.new.device 3 w.spoils w.passes (begins_of g.D.SectorDevice w.costs) w.costs.few_reads
