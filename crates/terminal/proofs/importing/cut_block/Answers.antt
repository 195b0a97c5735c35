use Rattle.std.proofs.Common.{arith, sym}
use Rattle.std.proofs.lemmas.List.{drop_all, take_all}
use Rattle.terminal.proofs.importing.cut_block.Goals as goal

pub returns-then-bytes-lt-BLOCK-clause-piece : goal.returns-then-bytes-lt-BLOCK-clause-piece
returns-then-bytes-lt-BLOCK-clause-piece c = sym (take_all 1024 c.args.bytes.now (omega (arith, c.if-bytes-lt-BLOCK.true)))

pub returns-then-bytes-lt-BLOCK-clause-left : goal.returns-then-bytes-lt-BLOCK-clause-left
returns-then-bytes-lt-BLOCK-clause-left c = sym (drop_all 1024 c.args.bytes.now (omega (arith, c.if-bytes-lt-BLOCK.true)))
