use Rattle.std.proofs.Common.{◌∙◌, ap, sym}
use Rattle.std.specs.Prelude.{if◌then◌else◌}
use Rattle.recovery.specs.Label.{blocks_in}
use Rattle.terminal.specs.Through.{newer_owner, older_owner}
use Rattle.terminal.proofs.unread_sectors.owner_of.Goals as goal

pub returns-in-Some : goal.returns-in-Some
returns-in-Some c =
    let sectors = c.args.sectors in
    let k = c.args.k in
    c.older_owner.ensures ∙ ap (λ n. older_owner n k) c.in-Some.ensures.count
    ∙ sym (ap (λ t. if t then older_owner (blocks_in sectors) k else newer_owner k) c.in-Some.ensures.some)

pub returns-in-None : goal.returns-in-None
returns-in-None c =
    let sectors = c.args.sectors in
    let k = c.args.k in
    c.newer_owner.ensures ∙ sym (ap (λ t. if t then older_owner (blocks_in sectors) k else newer_owner k) c.in-None.ensures.none)
