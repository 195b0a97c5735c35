use Rattle.std.proofs.Common.{◌≡◌, ◌∙◌, ◌+◌, true, false, take, None, refl, sym, ap, subst, arith}
use Rattle.std.specs.Prelude.{nat_le}
use Rattle.cell_machine.specs.Value.{Did}
use Rattle.interpreter.specs.State.{with_run}
use Rattle.interpreter.specs.Lexicon.{language_of}
use Rattle.interpreter.specs.Representation.{core, RepresentsIn}
use Rattle.std.proofs.lemmas.Bool.{le-leb, lt-leb}
use Rattle.std.proofs.lemmas.Grind.{common_steps}
use Rattle.data_space.specs.Space.{with_cell}
use Rattle.dictionary.specs.Words.{Created}
use Rattle.lexicon.specs.Language.{with_word}
use Rattle.interpreter.specs.Naming.{adding, allot}
use Rattle.interpreter.proofs.Altering.{refused, went, becoming}
use Rattle.interpreter.proofs.Short.{needing-no, needing-yes}
use Rattle.interpreter.proofs.Added.{new_word}
use Rattle.interpreter.proofs.forth.Forth.add_variable.Goals as goal

pub returns-then-here-clause-alters : goal.returns-then-here-clause-alters
returns-then-here-clause-alters g c = λ levels x stands.
    let at : c.here-here.result ≡ x.here = c.here-here.ensures.here _ stands.rests.meant in
    let full : nat_le (x.here + 2) 60928 ≡ false = lt-leb _ _ (omega (arith, at, c.if-here.true)) in
    refused _ stands (core c.args.self.now) refl (λ r. needing-no _ _ _ _ _ full) (omega arith)

pub returns-clause-alters : goal.returns-clause-alters
returns-clause-alters g c = λ levels x stands.
    let old = core c.args.self.now in
    let name = take c.args.count c.args.self.now.text in
    let at : x.here ≡ c.here-here.result = sym (c.here-here.ensures.here _ stands.rests.meant) in
    let room : nat_le (x.here + 2) 60928 ≡ true = le-leb _ _ (omega (arith, at, c.if-here.false)) in
    let wrote : c.set_cell.new.self ≡ with_cell old.space c.here-here.result 0 = grind (arith, common_steps, c.set_cell.ensures.after, c.set_cell.ensures.within) in
    let y = adding name (Created x.here None) x in
    let named : RepresentsIn c.create.new.self c.args.self.now.machine c.args.self.now.returns c.args.self.now.picture c.args.self.now.blocks c.args.self.now.loads levels y =
    becoming (with_word name (Created x.here None) (language_of x)) stands
    (new_word c.create.result c.args.self.now.lexicon c.create.new.self name (λ m. with_word name (Created m.here None) m) (language_of x) c.requires.fits stands.rests.meant c.create.ensures.created c.create.ensures.refused) in
    went _ (allot 2 y)
    (subst (λ h. RepresentsIn c.set_here.new.self c.args.self.now.machine c.args.self.now.returns c.args.self.now.picture c.args.self.now.blocks c.args.self.now.loads levels (record y { here = h + 2 })) (sym at) (becoming _ named (c.set_here.ensures (language_of y) named.rests.meant)))
    (λ r. needing-yes _ _ _ _ _ room
    ∙ ap (λ s. Did (record old { space = s }) (with_run r (allot 2 y))) (ap (λ a. with_cell old.space a 0) at ∙ sym wrote))
    refl (omega arith)

pub set_here-requires : goal.set_here-requires
set_here-requires g c = let at = c.here-here.ensures.in_space c.requires.sound in record { from = omega (arith, at.from); most = omega (arith, c.if-here.false) }
