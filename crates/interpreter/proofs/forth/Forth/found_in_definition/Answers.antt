use Rattle.std.proofs.Common.{◌≡◌, true, false, Ok, sym, ap, ◌∙◌, arith}
use Rattle.cell_machine.specs.Value.{and_then}
use Rattle.dictionary.specs.Words.{entry}
use Rattle.interpreter.specs.Law.{left}
use Rattle.interpreter.specs.Lexicon.{language_of}
use Rattle.interpreter.specs.Representation.{core}
use Rattle.lexicon.specs.Kinds.{is_immediate}
use Rattle.interpreter.proofs.Treating.{branch-yes, branch-no, altered_entered, entered_as}
use Rattle.interpreter.proofs.forth.Forth.found_in_definition.Goals as goal

pub add_word-requires : goal.add_word-requires
add_word-requires g c =
    let s = c.requires.sound in
    let word = c.requires.word s.1 s.2.rests in
    record { sound = (language_of s.1, s.2.rests.meant); from = word.above; most = omega (arith, word.most, s.2.rests.meant.room) }

pub returns-then-not-is_immediate-clause-entered : goal.returns-then-not-is_immediate-clause-entered
returns-then-not-is_immediate-clause-entered g c = λ n levels x stands.
    let no : is_immediate (entry x.words c.args.token) ≡ false = sym (c.is_immediate.ensures (language_of x) stands.rests.meant) ∙ c.if-not-is_immediate.true in
    entered_as n _ c.add_word.result c.args.self.now (λ r. ap (λ o. and_then o (λ c x. left n levels c x)) (branch-no _ (core c.args.self.now) _ _ no)) (omega arith)
    (altered_entered n c.add_word.result (c.add_word.ensures.alters levels x stands))

pub returns-clause-entered : goal.returns-clause-entered
returns-clause-entered g c = λ n levels x stands.
    let yes : is_immediate (entry x.words c.args.token) ≡ true = sym (c.is_immediate.ensures (language_of x) stands.rests.meant) ∙ c.if-not-is_immediate.false in
    entered_as n _ (Ok tt) c.args.self.now (λ r. ap (λ o. and_then o (λ c x. left n levels c x)) (branch-yes _ (core c.args.self.now) _ _ yes)) (omega arith)
    (c.run_next.ensures.entered n levels x stands)
