use Rattle.std.proofs.Common.{Some, ap, append-nil}
use Rattle.terminal.proofs.input.LedInput.replace_by.Goals as goal

pub returns : goal.returns
returns g c = ap (λ l. Some l) (append-nil c.args.text.items)
