use Rattle.std.proofs.Common.{◌≡◌, ◌∙◌, ap, inl, inr, length, refl, sym}
use Rattle.std.proofs.lemmas.Result.{on_ok_weaker}
use Rattle.sector_disk.specs.Counting.{count_up, count_up_by}
use Rattle.image_care.proofs.Through.{on_any, on_each, one_longer}
use Rattle.image_care.proofs.reading_through.add_next.Goals as goal

pub returns-in-Ok-clause-next : goal.returns-in-Ok-clause-next
returns-in-Ok-clause-next g c =
    on_ok_weaker c.add_sector.result
    (λ added. inl (c.read_sector.new.out, c.add_sector.ensures.long, (λ keeps. c.in-Ok.ensures.bytes keeps), added, refl))
    c.add_sector.ensures.bytes

pub returns-in-Err-clause-next : goal.returns-in-Err-clause-next
returns-in-Err-clause-next g c =
    on_each c.add_unread.result (λ added listed. inr (added, listed)) c.add_unread.ensures.bytes c.add_unread.ensures.unread

pub returns-in-Ok-clause-failed : goal.returns-in-Ok-clause-failed
returns-in-Ok-clause-failed g c = λ first was. on_any c.add_sector.result (c.in-Ok.ensures.well ∙ was)

pub returns-in-Err-clause-failed : goal.returns-in-Err-clause-failed
returns-in-Err-clause-failed g c = λ first was.
    on_ok_weaker c.add_unread.result
    (λ listed. c.in-Err.ensures.failed ∙ ap count_up was
    ∙ ap (λ n. count_up_by n first) (sym (ap length listed ∙ one_longer c.args.unread.now.items c.args.k)))
    c.add_unread.ensures.unread
