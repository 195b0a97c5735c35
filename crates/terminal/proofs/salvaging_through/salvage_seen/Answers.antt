use Rattle.std.proofs.Common.{◌≡◌, ◌∙◌, ℕ, inl, inr, ⊎_elim, sym}
use Rattle.std.proofs.KnownBytes.{Appends-trans}
use Rattle.std.proofs.lemmas.Result.{IfErr-weaker, on_ok_weaker}
use Rattle.sector_disk.specs.Disk.{Image}
use Rattle.image_care.proofs.Stills.{not_failed}
use Rattle.image_care.proofs.Through.{on_any}
use Rattle.terminal.specs.Failed.{HadInPart}
use Rattle.terminal.specs.Through.{SalvagesHad}
use Rattle.terminal.specs.declared.failure.Failure.TheVariants.{CannotWrite, Device}
use Rattle.terminal.proofs.Unread.{said_of_mended}
use Rattle.terminal.proofs.salvaging_through.salvage_seen.Goals as goal

pub returns-in-Ok-clause-had : goal.returns-in-Ok-clause-had
returns-in-Ok-clause-had g c =
    let B = g.B.SectorDevice in
    let W = g.W.Write in
    let made = c.mend-seen.ensures in
    let did = c.in-Ok.ensures.salvages in
    on_ok_weaker c.print.result
    (λ printed. said_of_mended
    (λ (n : ℕ) (seen : Image). SalvagesHad B n seen c.args.more.now (W.contents c.args.output.now) (W.contents c.print.new.output) c.args.new.now c.salvage_over.new.new)
    _ _ _ _ made.sectors made.best
    (record {
      goes = did.goes;
      stops = did.stops made.model;
      new = did.new made.model;
      told = Appends-trans _ _ _ _ _ (did.told made.model) printed;
      begins = did.begins;
      looks = did.looks;
    }))
    c.print.ensures.ok

pub returns-in-Ok-clause-well : goal.returns-in-Ok-clause-well
returns-in-Ok-clause-well g c = on_any c.print.result c.in-Ok.ensures.well.1

-- Whatever the output answered, the image is there.
pub returns-in-Ok-clause-failed : goal.returns-in-Ok-clause-failed
returns-in-Ok-clause-failed g c =
    let B = g.B.SectorDevice in
    let made = c.mend-seen.ensures in
    let did = c.in-Ok.ensures.salvages in
    IfErr-weaker c.print.result _ _
    (λ e only. said_of_mended
    (λ (n : ℕ) (seen : Image). HadInPart B n seen e c.args.new.now c.salvage_over.new.new)
    _ _ _ _ made.sectors made.best
    (record {
      goes = did.goes;
      stops = did.stops made.model;
      whole = λ suited untold. did.new made.model suited;
      begins = did.begins;
      looks = did.looks;
      failed = λ is. absurd (let no : CannotWrite ≡ Device = sym only ∙ is in cc);
      well = λ other. c.in-Ok.ensures.well.1;
      told = inr (inl (inr only));
    }))
    c.print.ensures.only

-- No read of what lies in memory has failed, so it was a call of the new device.
pub returns-in-Err-clause-failed : goal.returns-in-Err-clause-failed
returns-in-Err-clause-failed g c =
    let B = g.B.SectorDevice in
    let made = c.mend-seen.ensures in
    let did = c.in-Err.ensures.failed in
    said_of_mended
    (λ (n : ℕ) (seen : Image). HadInPart B n seen c.in-Err.failure c.args.new.now c.salvage_over.new.new)
    _ _ _ _ made.sectors made.best
    (record {
      goes = did.made.goes;
      stops = did.made.stops made.model;
      whole = did.whole made.model;
      begins = did.made.begins;
      looks = did.made.looks;
      failed = λ is. ⊎_elim
          (λ of_old. absurd (not_failed _ c.mend-seen.result c.salvage_over.new.old made.reads made.failures did.made.old of_old))
          (λ of_new. of_new) (did.failed is);
      well = λ other. (did.well other).1;
      told = did.told;
    })

pub returns-in-Ok-clause-untold : goal.returns-in-Ok-clause-untold
returns-in-Ok-clause-untold g c = IfErr-weaker c.print.result _ _ (λ e only other. absurd (other only)) c.print.ensures.only
