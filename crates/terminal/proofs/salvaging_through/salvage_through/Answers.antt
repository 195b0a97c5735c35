use Rattle.std.proofs.Common.{ℕ, List, inl, inr, refl}
use Rattle.std.proofs.lemmas.Result.{IfErr-weaker, on_ok_weaker}
use Rattle.terminal.specs.Failed.{ReadFails}
use Rattle.terminal.specs.Through.{SalvagesRead}
use Rattle.image_care.proofs.Through.{on_each}
use Rattle.terminal.proofs.Unread.{said_of_two}
use Rattle.terminal.proofs.salvaging_through.salvage_through.Goals as goal

pub returns-in-Ok-clause-salvages : goal.returns-in-Ok-clause-salvages
returns-in-Ok-clause-salvages g c =
    let A = g.A.SectorDevice in
    let B = g.B.SectorDevice in
    let W = g.W.Write in
    let did = c.in-Ok.ensures in
    let had = c.in-Ok.bytes.items in
    let written = W.contents c.args.output.now in
    let now = W.contents c.salvage_read.new.output in
    on_each c.salvage_read.result
    (λ salvaged well. record {
      through = c.read_through.new.device;
      had = had;
      unread = c.in-Ok.unread.items;
      read = record {
        reads = c.read_through.ensures.only_read;
        once = c.read_through.ensures.once;
        failed = did.failed;
        were_had = did.were_had;
      };
      well = well;
      salvaged = said_of_two
          (λ (n : ℕ) (l : List ℕ). SalvagesRead A B n had l written now c.read_through.new.device c.salvage_read.new.old c.args.new.now c.salvage_read.new.new)
          _ _ _ _ c.sectors-sectors.ensures c.as_slice.ensures.value salvaged;
    })
    c.salvage_read.ensures.salvages c.salvage_read.ensures.well

pub returns-in-Ok-clause-new_well : goal.returns-in-Ok-clause-new_well
returns-in-Ok-clause-new_well g c = on_ok_weaker c.salvage_read.result (λ well. well.1) c.salvage_read.ensures.well

pub returns-in-Ok-clause-failed : goal.returns-in-Ok-clause-failed
returns-in-Ok-clause-failed g c =
    let A = g.A.SectorDevice in
    let B = g.B.SectorDevice in
    let did = c.in-Ok.ensures in
    let had = c.in-Ok.bytes.items in
    IfErr-weaker c.salvage_read.result _ _
    (λ e fails. inr (
      c.read_through.new.device,
      had,
      c.in-Ok.unread.items,
      (record {
        reads = c.read_through.ensures.only_read;
        once = c.read_through.ensures.once;
        failed = did.failed;
        were_had = did.were_had;
      }),
      said_of_two
          (λ (n : ℕ) (l : List ℕ). ReadFails A B n had l e c.read_through.new.device c.salvage_read.new.old c.args.new.now c.salvage_read.new.new)
          _ _ _ _ c.sectors-sectors.ensures c.as_slice.ensures.value fails,
    ))
    c.salvage_read.ensures.failed

pub returns-in-Err-clause-failed : goal.returns-in-Err-clause-failed
returns-in-Err-clause-failed g c = inl (c.read_through.ensures.only_read, refl, refl)
