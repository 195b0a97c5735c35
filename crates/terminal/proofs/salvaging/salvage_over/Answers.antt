use Rattle.std.proofs.Common.{◌∙◌, ℕ, List, ⊎_elim, ap, inl, inr, subst, sym}
use Rattle.std.proofs.lemmas.Result.{IfErr-weaker, on_ok_weaker}
use Rattle.std.specs.Io.KnownBytes.{Appends}
use Rattle.recovery.specs.Label.{is_size}
use Rattle.terminal.specs.Copying.{salvage_told, standing_by}
use Rattle.terminal.proofs.Copies.{becomes, either_failed, left_after, never_memory, never_untold, no_new_device, no_old_device, told_device, told_first_or_untold, told_or_untold, told_plain, told_same, untold_only}
use Rattle.terminal.proofs.salvaging.salvage_over.Goals as goal

pub returns-in-Ok-clause-salvages : goal.returns-in-Ok-clause-salvages
returns-in-Ok-clause-salvages g c =
    let A = g.A.SectorDevice in
    let B = g.B.SectorDevice in
    let W = g.W.Write in
    let old = c.args.old.now in
    let new = c.args.new.now in
    let from = A.sector_count old in
    let did = c.in-Ok.ensures in
    let taken = c.in-Ok.taken in
    let written = W.contents c.args.output.now in
    let now = W.contents c.tell_salvage.new.output in
    on_ok_weaker c.tell_salvage.result
    (λ printed.
    let same = c.sectors.ensures ∙ did.old_stops.passes.sectors in
    let telling = subst (λ (s : ℕ). Appends written now (salvage_told s (standing_by taken))) same printed in
    record {
      old = did.old_stops;
      goes = becomes A B new c.salvage.new.new did.new_passes;
      stops = did.new_stops;
      new = λ keeps keeps'. left_after A B new c.salvage.new.new _ did.new_passes.sectors (did.after keeps keeps');
      undamaged = λ keeps keeps' whole. left_after A B new c.salvage.new.new _ did.new_passes.sectors (did.undamaged keeps keeps' whole);
      told = λ keeps. subst (λ (l : List ℕ). Appends written now l)
          (told_same from (A.disk old).content taken (did.others keeps) (did.lost keeps)) telling;
      plain = λ is. subst (λ (l : List ℕ). Appends written now l) (told_plain from (standing_by taken) is) telling;
      begins = did.new_begins;
      looks = did.new_reads;
      reads = did.old_reads;
    })
    c.tell_salvage.ensures.ok

-- Whatever the output answered, the image is there.
pub returns-in-Ok-clause-whole : goal.returns-in-Ok-clause-whole
returns-in-Ok-clause-whole g c = λ keeps keeps'.
    IfErr-weaker c.tell_salvage.result _ _ (λ e is untold. left_after g.A.SectorDevice g.B.SectorDevice c.args.new.now c.salvage.new.new _ c.in-Ok.ensures.new_passes.sectors (c.in-Ok.ensures.after keeps keeps')) c.tell_salvage.ensures.only

pub returns-in-Ok-clause-ready : goal.returns-in-Ok-clause-ready
returns-in-Ok-clause-ready g c = λ is. c.tell_salvage.ensures.ready (ap is_size (c.sectors.ensures ∙ c.in-Ok.ensures.old_stops.passes.sectors) ∙ is)

pub returns-in-Err-clause-ready : goal.returns-in-Err-clause-ready
returns-in-Err-clause-ready g c = λ is same. never_memory c.in-Err.fault (sym c.from.ensures ∙ same)

pub returns-in-Err-clause-exact : goal.returns-in-Err-clause-exact
returns-in-Err-clause-exact g c = told_first_or_untold c.from.result c.in-Err.fault _ c.from.ensures c.in-Err.ensures.exact

pub returns-in-Err-clause-device : goal.returns-in-Err-clause-device
returns-in-Err-clause-device g c = λ is.
    either_failed c.in-Err.fault (told_device c.in-Err.fault (sym c.from.ensures ∙ is)) c.in-Err.ensures.old_device c.in-Err.ensures.new_device

pub returns-in-Err-clause-refused : goal.returns-in-Err-clause-refused
returns-in-Err-clause-refused g c = λ other. (
  c.in-Err.ensures.old_well (no_old_device c.from.result c.in-Err.fault c.from.ensures other),
  c.in-Err.ensures.new_well (no_new_device c.from.result c.in-Err.fault c.from.ensures other),
)

pub returns-in-Err-clause-unasked : goal.returns-in-Err-clause-unasked
returns-in-Err-clause-unasked g c = λ other ready unwritten.
    c.in-Err.ensures.new_unasked (no_old_device c.from.result c.in-Err.fault c.from.ensures other)
    (no_new_device c.from.result c.in-Err.fault c.from.ensures other)

-- What a salvage that was told or not has made, and whether all of it is there.
pub returns-in-Ok-clause-failed : goal.returns-in-Ok-clause-failed
returns-in-Ok-clause-failed g c =
    let did = c.in-Ok.ensures in
    let A = g.A.SectorDevice in
    let B = g.B.SectorDevice in
    IfErr-weaker c.tell_salvage.result _ _
    (λ e only. record {
      made = record {
        old = did.old_stops;
        goes = becomes A B c.args.new.now c.salvage.new.new did.new_passes;
        stops = did.new_stops;
        begins = did.new_begins;
        looks = did.new_reads;
      };
      whole = λ keeps keeps' untold. left_after A B c.args.new.now c.salvage.new.new _ did.new_passes.sectors (did.after keeps keeps');
      failed = untold_only e only;
      well = λ other. did.well;
      told = inr (inl only);
    })
    c.tell_salvage.ensures.only

pub returns-in-Err-clause-failed : goal.returns-in-Err-clause-failed
returns-in-Err-clause-failed g c =
    let did = c.in-Err.ensures in
    record {
      made = record {
        old = did.old_stops;
        goes = becomes g.A.SectorDevice g.B.SectorDevice c.args.new.now c.salvage.new.new did.new_passes;
        stops = did.new_stops;
        begins = did.new_begins;
        looks = did.new_reads;
      };
      whole = λ keeps keeps' untold. absurd (never_untold c.in-Err.fault (⊎_elim (λ is. inl (sym c.from.ensures ∙ is)) (λ is. inr (sym c.from.ensures ∙ is)) untold));
      failed = λ is. either_failed c.in-Err.fault (told_device c.in-Err.fault (sym c.from.ensures ∙ is)) did.old_device did.new_device;
      well = λ other. (did.old_well (no_old_device c.from.result c.in-Err.fault c.from.ensures other), did.new_well (no_new_device c.from.result c.in-Err.fault c.from.ensures other));
      told = told_or_untold c.from.result c.in-Err.fault _ c.from.ensures did.exact;
    }
