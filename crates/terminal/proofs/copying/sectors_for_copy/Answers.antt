use Rattle.std.proofs.Common.{◌∙◌, ap, sym}
use Rattle.std.specs.Prelude.{option_and_then, option_map}
use Rattle.journal.specs.Layouts.{sectors_for}
use Rattle.terminal.specs.Copying.{copied_count, sectors_like}
use Rattle.terminal.proofs.Copies.{asked_sectors, unknown_count}
use Rattle.terminal.proofs.copying.sectors_for_copy.Goals as goal

pub returns-in-Some : goal.returns-in-Some
returns-in-Some c =
    let size = c.in-Some.size in
    c.sectors_by.ensures ∙ ap (option_map (sectors_for size.layout)) c.copied_count.ensures
    ∙ asked_sectors size.layout c.args.sectors size.blocks.number (λ n. copied_count n c.args.asked) c.in-Some.ensures.layout c.in-Some.ensures.some c.in-Some.ensures.count

pub returns-in-None : goal.returns-in-None
returns-in-None c =
    sym (ap (λ o. option_map (sectors_like c.args.sectors) (option_and_then (λ n. copied_count n c.args.asked) o)) (unknown_count c.args.sectors c.in-None.ensures.none))
