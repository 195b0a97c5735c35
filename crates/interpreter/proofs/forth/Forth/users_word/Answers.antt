use Rattle.std.proofs.Common.{◌≡◌, ◌∙◌, true, false, refl, sym, arith}
use Rattle.dictionary.specs.Words.{entry}
use Rattle.lexicon.specs.Kinds.{is_vocabulary}
use Rattle.cell_machine.specs.Frames.{around_of}
use Rattle.interpreter.specs.State.{with_run}
use Rattle.interpreter.specs.Lexicon.{language_of, with_language}
use Rattle.interpreter.specs.Representation.{core}
use Rattle.interpreter.proofs.Altering.{refused, went, becoming}
use Rattle.interpreter.proofs.Events.{entry_outside}
use Rattle.interpreter.proofs.Wiring.{no_word, to_vocabulary, vocabulary_is_word}
use Rattle.interpreter.proofs.forth.Forth.users_word.Goals as goal

pub returns-then-not-is_vocabulary-clause-alters : goal.returns-then-not-is_vocabulary-clause-alters
returns-then-not-is_vocabulary-clause-alters g c = λ f inner levels x stands outside.
    let is : is_vocabulary (entry x.words c.args.token) ≡ false = sym (c.is_vocabulary.ensures (language_of x) stands.rests.meant) ∙ c.if-not-is_vocabulary.true in
    refused _ stands (core c.args.self.now) refl (λ r. no_word f inner c.args.token (around_of levels) (core c.args.self.now) (with_run r x) (entry x.words c.args.token) is (entry_outside _ _ outside)) (omega arith)

pub set_first-requires : goal.set_first-requires
set_first-requires g c =
    let s = c.requires.sound in
    let is : is_vocabulary (entry s.0.words c.args.token) ≡ true = sym (c.is_vocabulary.ensures s.0 s.1) ∙ c.if-not-is_vocabulary.false in
    (s.0, (s.1, vocabulary_is_word s.0 c.args.token is))

pub returns-clause-alters : goal.returns-clause-alters
returns-clause-alters g c = λ f inner levels x stands outside.
    let is : is_vocabulary (entry x.words c.args.token) ≡ true = sym (c.is_vocabulary.ensures (language_of x) stands.rests.meant) ∙ c.if-not-is_vocabulary.false in
    let m = record (language_of x) { first = c.args.token } in
    went _ (with_language m x) (becoming m stands (c.set_first.ensures (language_of x) stands.rests.meant))
    (λ r. to_vocabulary f inner c.args.token (around_of levels) (core c.args.self.now) (with_run r x) (entry x.words c.args.token) is) refl (omega arith)
