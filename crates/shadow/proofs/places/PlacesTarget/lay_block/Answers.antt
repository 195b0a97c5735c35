use Rattle.std.proofs.Common.{◌∙◌, sym, ap, subst, add-one}
use Rattle.shadow.specs.Formatted.{HasFirst}
use Rattle.journal.specs.Tags.{tag_of, xor_bytes, sum_below}
use Rattle.shadow.proofs.Formats.{firsts_more}
use Rattle.shadow.proofs.Makings.{all_ok, lays_of}
use Rattle.journal.proofs.Calls.{begins_of}
use Rattle.shadow.proofs.places.PlacesTarget.lay_block.Goals as goal

pub returns-clause-laid : goal.returns-clause-laid
returns-clause-laid g c = λ keeps given is has.
    let D = g.D.SectorDevice in
    let b = c.args.b in
    let old = (D.disk c.args.device.now).content in
    let new = (D.disk c.write_block.new.device).content in
    let w = c.write_block.ensures in
    all_ok c.write_block.result
    (λ others here total. record {
      places = firsts_more b given old new others (subst (λ bytes. HasFirst b bytes new) is here) has.places;
      total = total ∙ (λ t. xor_bytes (has.total t) (tag_of b (is t))) ∙ ap (sum_below (λ a. tag_of a (given a))) (sym (add-one b));
    })
    (w.others keeps) (w.places keeps) w.sum

pub returns-clause-lays : goal.returns-clause-lays
returns-clause-lays g c =
    let w = c.write_block.ensures in
    lays_of g.D.SectorDevice c.args.device.now c.write_block.new.device 4 w.spoils w.passes (begins_of g.D.SectorDevice w.costs) w.costs.few_reads
