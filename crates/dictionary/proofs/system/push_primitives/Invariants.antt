use Rattle.std.proofs.Common.{◌≡◌, ◌++◌, map, take}
use Rattle.system_words.specs.Rows.{row_of}
use Rattle.dictionary.specs.System.{system_word}
use Rattle.dictionary.proofs.system.push_primitives.Given as goal

abbrev pub invariant-loop-name : goal.invariant-loop-name
invariant-loop-name l = l.words ≡ l.initial.words ++ map (λ row. system_word (row_of row.0.now row.1 row.2)) (take l.name-index l.rows)
