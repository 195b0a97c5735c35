use Rattle.std.proofs.Common.{◌∙◌, ℕ, ap, subst, sym}
use Rattle.journal.specs.BySize.{Means}
use Rattle.stores.specs.Images.{meaning}
use Rattle.terminal.specs.Failures.{of_image}
use Rattle.terminal.proofs.Refused.{bad_size_of, device_of, refused_recovers, told_image}
use Rattle.journal.specs.Store.{blocks_of, is_pending}
use Rattle.terminal.proofs.Becoming.{none_below}
use Rattle.terminal.proofs.images.open_over.Goals as goal

pub returns-in-Ok-clause-opened : goal.returns-in-Ok-clause-opened
returns-in-Ok-clause-opened g c = record {
  recovers = record {
    goes = record { model = c.in-Ok.ensures.model; sectors = λ keeps. c.in-Ok.ensures.sectors; time = c.in-Ok.ensures.time; failures = c.in-Ok.ensures.failures };
    sectors = c.in-Ok.ensures.sectors;
    stops = λ keeps. c.in-Ok.ensures.stops keeps c.in-Ok.ensures.sized;
    begins = λ keeps. c.in-Ok.ensures.begins keeps c.in-Ok.ensures.sized;
    reads = λ keeps. c.in-Ok.ensures.reads keeps c.in-Ok.ensures.sized;
  };
  well = c.in-Ok.ensures.well;
  meant = c.in-Ok.ensures.meaning;
  size = c.in-Ok.ensures.blocks;
  stands = c.in-Ok.ensures.ok;
  pending = none_below (is_pending c.in-Ok.store) c.in-Ok.ensures.pending (blocks_of c.in-Ok.store);
  closed = c.in-Ok.ensures.closed;
}

pub returns-in-Ok-clause-same : goal.returns-in-Ok-clause-same
returns-in-Ok-clause-same g c = λ keeps image left.
    let did = c.in-Ok.ensures in
    subst (λ (n : ℕ). Means n (meaning (g.D.SectorDevice.sector_count c.args.device) (g.D.SectorDevice.disk c.args.device).content) image) (sym did.sectors)
    (did.after keeps image left)

pub returns-in-Err-clause-kept : goal.returns-in-Err-clause-kept
returns-in-Err-clause-kept g c =
    let did = c.in-Err.ensures in
    record {
      recovers = refused_recovers g.D.SectorDevice g.met.D.SectorDevice.only_now c.args.device c.in-Err.device c.in-Err.fault
          (record { model = did.model; sectors = λ keeps. did.sectors; time = did.time; failures = did.failures }) did.sectors did.bad_size did.unasked did.stops did.begins did.reads;
      told = λ keeps. told_image c.from.result c.in-Err.fault _ c.from.ensures (did.exact keeps);
      faults = record {
        failed = λ is. did.device (device_of c.in-Err.fault (sym c.from.ensures ∙ is));
        well = λ other. did.refused (λ is. other (c.from.ensures ∙ ap of_image is));
      };
      unasked = λ is. did.unasked (bad_size_of c.in-Err.fault (sym c.from.ensures ∙ is));
      unwritten = λ other. did.unwritten (λ is. other (c.from.ensures ∙ ap of_image is));
    }
