use Rattle.std.proofs.Common.{◌-◌}
use Rattle.std.specs.Prelude.{vec_len}
use Rattle.std.specs.Io.KnownBytes.{Consumes}
use Rattle.terminal.proofs.importing.read_all.Given as goal

abbrev pub invariant-loop-reader : goal.invariant-loop-reader
invariant-loop-reader g l = Consumes (g.R.Read.remaining l.initial.reader) (g.R.Read.remaining l.reader) l.file.items

abbrev pub decreases-loop-reader : goal.decreases-loop-reader
decreases-loop-reader g l = 4055041 - vec_len l.file
