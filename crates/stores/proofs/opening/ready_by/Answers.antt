use Rattle.std.proofs.Common.{◌≡◌, ◌∙◌, ⊎_elim, inl, inr, false, Ok, Err, sym, ap, subst}
use Rattle.std.proofs.lemmas.Result.{on_ok_weaker}
use Rattle.sector_disk.specs.Disk.{Disk}
use Rattle.journal.specs.Images.{block_of}
use Rattle.journal.specs.PageImages.{meaning}
use Rattle.journal.specs.Calls.{ReadsAtMost}
use Rattle.journal.specs.declared.sizes.Layout.TheVariants.{Journal, Pages}
use Rattle.journal.proofs.Blocks.{same_below}
use Rattle.recovery.proofs.Recoveries.{clean_by, recovers_by, reads_2, whole_by}
use Rattle.stores.specs.ByLayout.{Opens}
use Rattle.stores.proofs.Damage.{passes_none, refused_some}
use Rattle.stores.proofs.Results.{either, ok_of}
use Rattle.stores.proofs.opening.ready_by.Goals as goal

pub returns-in-Ok-clause-opens : goal.returns-in-Ok-clause-opens
returns-in-Ok-clause-opens g c =
    let D = g.D.SectorDevice in
    let n = c.args.size.blocks.number in
    let many = c.args.size.blocks.many in
    let few = c.args.size.blocks.few in
    let old = c.args.device.now in
    let new = c.recover.new.device in
    let d = D.disk old in
    let r = c.in-Ok.ensures in
    subst (λ l. Opens D l n old new c.args.listing.now (Ok false)) (sym c.in-Journal.is) (record {
      ready = λ keeps. clean_by n d (D.disk new) many few (r.label keeps) (r.ok keeps).recovered;
      same = λ keeps. same_below (block_of n (D.disk new).content) (block_of n d.content) n (r.ok keeps).recovered.blocks;
      meaning = λ keeps. record { label = record { many = many; few = few; label = r.label keeps }; whole = whole_by n d.content (r.exact keeps) };
      exact = λ keeps. r.exact keeps;
      tells = record {
        sized = r.tells.sized;
        device = r.tells.device;
        refused = r.tells.refused;
        well = r.tells.well;
        content = r.tells.content;
        unwritten = r.tells.unwritten;
      };
      stops = λ keeps x since.
          recovers_by n d (g.met.D.SectorDevice.present old (g.met.D.SectorDevice.keeps_both old keeps)) many few x (r.stops keeps x since);
      passes = r.passes;
      costs = λ keeps. record { few_writes = (r.begins keeps).few_writes; few_syncs = (r.begins keeps).few_syncs; few_reads = subst (λ reads. ReadsAtMost D old new reads) (reads_2 n d.content) (r.reads keeps) };
    })

pub returns-in-Err-clause-opens : goal.returns-in-Err-clause-opens
returns-in-Err-clause-opens g c =
    let D = g.D.SectorDevice in
    let n = c.args.size.blocks.number in
    let many = c.args.size.blocks.many in
    let few = c.args.size.blocks.few in
    let old = c.args.device.now in
    let new = c.recover.new.device in
    let d = D.disk old in
    let r = c.in-Err.ensures in
    subst (λ l. Opens D l n old new c.args.listing.now (Err c.in-Err.fault)) (sym c.in-Journal.is) (record {
      ready = λ keeps. tt;
      same = λ keeps. tt;
      meaning = λ keeps. tt;
      exact = λ keeps. r.exact keeps;
      tells = record {
        sized = r.tells.sized;
        device = r.tells.device;
        refused = r.tells.refused;
        well = r.tells.well;
        content = r.tells.content;
        unwritten = r.tells.unwritten;
      };
      stops = λ keeps x since.
          recovers_by n d (g.met.D.SectorDevice.present old (g.met.D.SectorDevice.keeps_both old keeps)) many few x (r.stops keeps x since);
      passes = r.passes;
      costs = λ keeps. record {
        few_writes = (r.begins keeps).few_writes;
        few_syncs = (r.begins keeps).few_syncs;
        few_reads = subst (λ reads. ReadsAtMost D old new reads) (reads_2 n d.content) (r.reads keeps);
      };
    })

pub returns-in-Pages-clause-opens : goal.returns-in-Pages-clause-opens
returns-in-Pages-clause-opens g c =
    let D = g.D.SectorDevice in
    let n = c.args.size.blocks.number in
    let old = c.args.device.now in
    let image = (D.disk old).content in
    let r = c.survey.ensures in
    subst (λ l. Opens D l n old c.survey.new.device c.survey.new.listing c.survey.result) (sym c.in-Pages.is) (record {
      ready = r.clean;
      same = λ keeps. on_ok_weaker c.survey.result (λ synced. ap (λ (d : Disk). meaning n d.content) synced) (r.ok keeps);
      meaning = λ keeps. ok_of c.survey.result _
          (λ _ passes. record { label = record { many = c.args.size.blocks.many; few = c.args.size.blocks.few; label = passes.good }; whole = passes.whole }) (r.exact keeps);
      exact = λ keeps. either c.survey.result (λ _ passes. passes_none n image passes)
          (λ e. ⊎_elim (λ failed. inl failed) (λ refused. inr (refused_some n image e refused))) (r.exact keeps);
      tells = r.tells;
      stops = r.stops;
      passes = r.passes;
      costs = λ keeps. r.costs;
    })

pub returns-in-Pages-clause-gate : goal.returns-in-Pages-clause-gate
returns-in-Pages-clause-gate g c = λ is. absurd (let no : Pages ≡ Journal = sym c.in-Pages.is ∙ is in cc)

pub returns-in-Pages-clause-left : goal.returns-in-Pages-clause-left
returns-in-Pages-clause-left g c = λ is. absurd (let no : Pages ≡ Journal = sym c.in-Pages.is ∙ is in cc)
