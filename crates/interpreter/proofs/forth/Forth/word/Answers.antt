use Rattle.std.proofs.Common.{refl, ℕ, List, arith}
use Rattle.data_space.specs.Space.{with_bytes}
use Rattle.cell_machine.specs.Frames.{Core}
use Rattle.cell_machine.specs.Value.{Outcome}
use Rattle.system_words.specs.declared.words.TextWord.TheVariants.{ParseWord}
use Rattle.interpreter.specs.State.{World, with_run, pushing}
use Rattle.interpreter.specs.Text.{counted, on_text}
use Rattle.interpreter.specs.Lexicon.{language_of}
use Rattle.interpreter.specs.Representation.{core}
use Rattle.interpreter.proofs.Altering.{refused}
use Rattle.interpreter.proofs.Short.{popping-none, popping-one}
use Rattle.interpreter.proofs.Called.{consulted_quiet}
use Rattle.interpreter.proofs.Consulting.{handed_altered, handed_failed, consulted_as}
use Rattle.interpreter.proofs.forth.Forth.word.Goals as goal

-- with the word taken
abbrev built : List ℕ → Core → World → Outcome World
built word c x = pushing x.here (record c { space = with_bytes c.space x.here (counted word) }) x

pub build_word-requires-clause-sound : goal.build_word-requires-clause-sound
build_word-requires-clause-sound g c =
    let s = c.requires.sound in
    let h = c.in-Ok-take_word.ensures.hands s.0 s.1 s.2 in
    (language_of h.world, h.stands.rests.meant)

pub returns-in-Ok-take_word-clause-consults : goal.returns-in-Ok-take_word-clause-consults
returns-in-Ok-take_word-clause-consults g c = λ levels x stands.
    let old = c.args.self.now in
    let h = c.in-Ok-take_word.ensures.hands levels x stands in
    consulted_as (λ r. on_text ParseWord (core old) (with_run r x)) old
    (λ r. popping-one (core old) (with_run r x) _ _ _ c.in-Ok.ensures.ok) (omega arith) refl
    (handed_altered built h c.build_word.ensures.spares.device (c.build_word.ensures.alters levels h.world h.stands))

pub returns-in-Err-take_word-clause-consults : goal.returns-in-Err-take_word-clause-consults
returns-in-Err-take_word-clause-consults g c = λ levels x stands.
    let old = c.args.self.now in
    consulted_as (λ r. on_text ParseWord (core old) (with_run r x)) old
    (λ r. popping-one (core old) (with_run r x) _ _ _ c.in-Ok.ensures.ok) (omega arith) refl
    (handed_failed built (c.in-Err-take_word.ensures.hands levels x stands))

pub returns-in-Err-clause-consults : goal.returns-in-Err-clause-consults
returns-in-Err-clause-consults g c = λ levels x stands.
    let old = c.args.self.now in
    let mid = record old { stack = c.pop.new.self } in
    consulted_quiet g.D.SectorDevice g.met.D.SectorDevice.only_now old mid stands refl
    (refused mid stands (core old) refl (λ r. popping-none (core old) (with_run r x) _ c.in-Err.ensures.empty) (omega arith))
