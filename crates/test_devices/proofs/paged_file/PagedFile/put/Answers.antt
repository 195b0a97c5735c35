use Rattle.test_devices.proofs.Paging.{paged_spoils}
use Rattle.test_devices.proofs.paged_file.PagedFile.put.Goals as goal

pub returns-then-n-gt0-clause-spoils : goal.returns-then-n-gt0-clause-spoils
returns-then-n-gt0-clause-spoils c =
    paged_spoils _ _ _ _ _ _ _ _ _ (c.if-n-gt0.true) c.count-n.ensures.room (c.count-n.ensures.sector c.if-n-gt0.true)
    c.place.ensures.put c.place.ensures.before c.place.ensures.after c.mark.ensures.marked c.mark.ensures.others
