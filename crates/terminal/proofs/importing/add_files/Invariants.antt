use Rattle.std.proofs.Common.{length}
use Rattle.terminal.specs.Texts.{OneIsUnread}
use Rattle.terminal.proofs.ScriptLemmas.{BlocksSoFar}
use Rattle.terminal.proofs.importing.add_files.Given as goal

abbrev pub invariant-loop-rest : goal.invariant-loop-rest
invariant-loop-rest g l = record {
  blocks : BlocksSoFar (g.X.World.gives l.world).is_text l.form l.paths l.room l.initial.bytes.items l.bytes.items l.rest l.left;
  unread : OneIsUnread (g.X.World.gives l.world).is_unread l.rest
      → OneIsUnread (g.X.World.gives l.world).is_unread l.paths;
}

abbrev pub decreases-loop-rest : goal.decreases-loop-rest
decreases-loop-rest g l = length l.rest
