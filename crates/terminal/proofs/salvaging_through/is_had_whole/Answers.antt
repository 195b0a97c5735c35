use Rattle.std.proofs.Common.{inr}
use Rattle.terminal.proofs.Unread.{not_false}
use Rattle.terminal.proofs.salvaging_through.is_had_whole.Goals as goal

pub returns-in-empty-clause-less : goal.returns-in-empty-clause-less
returns-in-empty-clause-less c = λ is. inr (c.has_lost_record.ensures.lost (not_false c.has_lost_record.result is))
