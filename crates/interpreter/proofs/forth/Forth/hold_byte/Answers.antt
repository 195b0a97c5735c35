use Rattle.std.proofs.Common.{refl, arith}
use Rattle.interpreter.specs.State.{with_run}
use Rattle.interpreter.specs.Pictures.{on_picture}
use Rattle.system_words.specs.declared.words.PictureWord.TheVariants.{HoldByte}
use Rattle.interpreter.specs.Representation.{core}
use Rattle.interpreter.proofs.Altering.{refused, altered_as}
use Rattle.interpreter.proofs.Short.{popping-none, popping-one}
use Rattle.interpreter.proofs.forth.Forth.hold_byte.Goals as goal

pub returns-in-Err-clause-alters : goal.returns-in-Err-clause-alters
returns-in-Err-clause-alters g c = λ levels x stands.
    refused _ stands (core c.args.self.now) refl (λ r. popping-none (core c.args.self.now) (with_run r x) _ c.in-Err.ensures.empty) (omega arith)

pub returns-in-Ok-clause-alters : goal.returns-in-Ok-clause-alters
returns-in-Ok-clause-alters g c = λ levels x stands.
    altered_as (λ r. on_picture HoldByte (core c.args.self.now) (with_run r x)) c.args.self.now
    (λ r. popping-one (core c.args.self.now) (with_run r x) _ _ _ c.in-Ok.ensures.ok) (omega arith) (c.hold.ensures.alters levels x stands)
