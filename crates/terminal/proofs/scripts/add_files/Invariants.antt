use Rattle.std.proofs.Common.{length}
use Rattle.terminal.specs.Texts.{OneIsUnread}
use Rattle.terminal.proofs.ScriptLemmas.{LinesSoFar}
use Rattle.terminal.proofs.scripts.add_files.Given as goal

abbrev pub invariant-loop-rest : goal.invariant-loop-rest
invariant-loop-rest g l = record {
  lines : LinesSoFar (g.X.World.gives l.world).is_text l.paths l.initial.text.items l.text.items l.rest;
  unread : OneIsUnread (g.X.World.gives l.world).is_unread l.rest
      → OneIsUnread (g.X.World.gives l.world).is_unread l.paths;
}

abbrev pub decreases-loop-rest : goal.decreases-loop-rest
decreases-loop-rest g l = length l.rest
