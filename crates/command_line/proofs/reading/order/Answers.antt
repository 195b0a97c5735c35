use Rattle.std.proofs.Common.{◌∙◌, List, Option, sym, subst}
use Rattle.std.proofs.lemmas.Result.{IfOk-weaker}
use Rattle.clap.specs.Words.{FailsBy, HasKind, Row, Text}
use Rattle.command_line.specs.Commands.{Orders}
use Rattle.command_line.proofs.Given.{refused_up}
use Rattle.command_line.proofs.reading.order.Goals as goal

pub returns-in_err-matches-clause-fits : goal.returns-in_err-matches-clause-fits
returns-in_err-matches-clause-fits g c =
    let same = c.in_ok-command.ensures in
    refused_up c.from_residual-in_err-matches.result c.in_err-matches.field-0.0 _ _ c.from_residual-in_err-matches.ensures.1
    (subst (λ kinds. HasKind kinds c.in_err-matches.field-0.0) same.fault (c.in_err-matches.ensures.kinds same.free))

pub returns-clause-given : goal.returns-clause-given
returns-clause-given g c =
    let same = c.in_ok-command.ensures in
    IfOk-weaker c.order_found.result _ _ (λ order orders. subst (λ (o : Option (Text × List Row)). Orders o order)
    ((c.in_ok-matches.ensures.ok.2 same.simple).1 ∙ same.subcommand) orders) c.order_found.ensures.given

pub returns-clause-fits : goal.returns-clause-fits
returns-clause-fits g c =
    let same = c.in_ok-command.ensures in
    subst (λ kinds. FailsBy kinds c.order_found.result) (sym (c.in_ok-matches.ensures.kinds same.free) ∙ same.fault) c.order_found.ensures.fits
