use Rattle.std.proofs.Common.{◌∙◌, ap, arith}
use Rattle.std.specs.Prelude.{not}
use Rattle.interpreter.specs.Lexicon.{language_of}
use Rattle.interpreter.proofs.Entering.{may_not_zero, may_not_past, may_word}
use Rattle.interpreter.proofs.forth.Forth.may_execute.Goals as goal

pub returns-then-token-eq0 : goal.returns-then-token-eq0
returns-then-token-eq0 g c = λ x h. may_not_zero c.args.token x (omega (arith, c.if-token-eq0.true))

pub returns-then-from-len : goal.returns-then-from-len
returns-then-from-len g c = λ x h. let n = c.len.ensures.len (language_of x) h.meant in may_not_past c.args.token x (omega (arith, c.if-token-eq0.false)) (omega (arith, n, c.from.ensures, c.if-from-len.true))

pub returns : goal.returns
returns g c = λ x h. let n = c.len.ensures.len (language_of x) h.meant in ap not c.is_compile_only.ensures ∙ may_word c.args.token x (omega (arith, c.if-token-eq0.false)) (omega (arith, n, c.from.ensures, c.if-from-len.false))
