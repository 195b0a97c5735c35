-- What a command's input has left and what its output holds, where that is known.
use Rattle.std.specs.Prelude.{ℕ, List, Option}
use Rattle.terminal.specs.declared.streams.Streams.{Streams}

pub record Said : Type 0 where
  pub left : Option (List ℕ)
  pub written : Option (List ℕ)

-- what these streams say
abbrev pub said : {R W E : Type 0} (remaining : R → Option (List ℕ)) (contents : W → Option (List ℕ)) → Streams R W E → Said
said remaining contents streams = record { left = remaining streams.input; written = contents streams.output }
