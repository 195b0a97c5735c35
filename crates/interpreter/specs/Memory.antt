-- The memory of a system before its first line.
use Rattle.std.specs.Prelude.{◌≡◌, replicate}
use Rattle.lexicon.specs.Language.{new_language}
use Rattle.lexicon.specs.Stands.{Stands}
use Rattle.interpreter.specs.declared.memory.Memory.{Memory}

-- data space holds zeros, and the words are those of the system
pub record IsBlank (memory : Memory) : Type 0 where
  pub zeros : memory.space ≡ replicate 65536 0
  pub words : Stands memory.lexicon new_language
