use Rattle.std.proofs.Common.{ℕ, List, subst}
use Rattle.std.proofs.lemmas.Result.{on_ok_weaker}
use Rattle.std.specs.Io.KnownBytes.{Appends}
use Rattle.terminal.specs.Through.{unread_told}
use Rattle.terminal.proofs.unread_sectors.tell_unread.Goals as goal

pub returns-in-Ok-clause-told : goal.returns-in-Ok-clause-told
returns-in-Ok-clause-told g c =
    let D = g.D.SectorDevice in
    let W = g.W.Write in
    let did = c.in-Ok.ensures in
    let written = W.contents c.args.output.now in
    let now = W.contents c.print_unread.new.output in
    on_ok_weaker c.print_unread.result
    (λ printed. record {
      had = c.in-Ok.read.0.items;
      unread = c.in-Ok.read.1.items;
      read = record {
        reads = c.read_through.ensures.only_read;
        once = c.read_through.ensures.once;
        failed = did.failed;
        were_had = did.were_had;
      };
      told = subst (λ (l : List ℕ). Appends written now (unread_told (D.sector_count c.args.device.now) l)) c.as_slice.ensures.value
          (subst (λ (n : ℕ). Appends written now (unread_told n c.as_slice.result.now)) c.sectors-sectors.ensures printed);
    })
    c.print_unread.ensures.ok
