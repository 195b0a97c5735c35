use Rattle.std.proofs.Common.{◌≡◌, ◌-◌, ◌∷◌, Ok, Err, drop, length, refl, ap, sym, subst, ◌∙◌, arith}
use Rattle.std.specs.Prelude.{nat_le}
use Rattle.std.proofs.lemmas.Bool.{le-leb}
use Rattle.cell_machine.specs.Fault.{StackEmpty}
use Rattle.system_words.specs.declared.words.PictureWord.TheVariants.{FinishPicture}
use Rattle.cell_machine.specs.Value.{Did}
use Rattle.interpreter.specs.State.{with_run}
use Rattle.interpreter.specs.Pictures.{on_picture}
use Rattle.interpreter.specs.Representation.{core}
use Rattle.interpreter.specs.ServiceContract.{Altered}
use Rattle.interpreter.specs.declared.fault.Fault.{Fault}
use Rattle.interpreter.specs.declared.forth.Forth.{Forth}
use Rattle.interpreter.proofs.Altering.{refused, went}
use Rattle.interpreter.proofs.Popping.{stands_popped}
use Rattle.interpreter.proofs.Short.{few-args, needing-yes}
use Rattle.interpreter.proofs.forth.Forth.end_picture.Goals as goal

pub returns-in-Ok-clause-alters : goal.returns-in-Ok-clause-alters
returns-in-Ok-clause-alters g c = λ levels x stands.
    let old = c.args.self.now in
    let mid = c.pop_two.new.self in
    let rest = c.in-Ok.ensures.rest in
    let all = c.in-Ok.ensures.popped in
    let held : c.from-held.result ≡ x.held = c.from-held.ensures ∙ ap (λ (f : Forth g.row.D.Denot g.D.SectorDevice). f.picture.held) rest ∙ sym stands.rests.held in
    let at : c.saturating_sub.result ≡ x.held_end - x.held = omega (arith, c.saturating_sub.ensures, held, stands.rests.held_end, ap (λ (f : Forth g.row.D.Denot g.D.SectorDevice). f.picture.end) rest) in
    let left : c.leave-in-Ok.new.self ≡ record old { stack = x.held ∷ (x.held_end - x.held) ∷ mid.stack } =
    c.leave-in-Ok.ensures.left
    ∙ ap (λ (f : Forth g.row.D.Denot g.D.SectorDevice). record f { stack = c.from-held.result ∷ f.stack }) c.leave.ensures.left
    ∙ ap (λ (f : Forth g.row.D.Denot g.D.SectorDevice). record f { stack = c.from-held.result ∷ c.saturating_sub.result ∷ mid.stack }) rest
    ∙ (λ t. record old { stack = held t ∷ at t ∷ mid.stack }) in
    subst (λ (n : Forth g.row.D.Denot g.D.SectorDevice). Altered (λ r. on_picture FinishPicture (core old) (with_run r x)) (Ok tt) old n levels x) (sym left)
    (went (record old { stack = x.held ∷ (x.held_end - x.held) ∷ mid.stack }) x stands
    (λ r. needing-yes (nat_le 2 (length old.stack)) StackEmpty (core old) (with_run r x) _ (le-leb 2 (length old.stack) (omega (arith, ap length all)))
    ∙ ap (λ l. Did (record (core old) { stack = x.held ∷ (x.held_end - x.held) ∷ drop 2 l }) (with_run r x)) all)
    refl (omega arith))

pub returns-in-Err-clause-alters : goal.returns-in-Err-clause-alters
returns-in-Err-clause-alters g c = λ levels x stands.
    let old = c.args.self.now in
    let mid = c.pop_two.new.self in
    let rest = c.in-Err.ensures.rest in
    subst (λ (f : Fault). Altered (λ r. on_picture FinishPicture (core old) (with_run r x)) (Err f) old mid levels x) (sym c.in-Err.ensures.fault)
    (refused mid (stands_popped old mid rest stands) (core old) (sym (ap (λ (f : Forth g.row.D.Denot g.D.SectorDevice). f.space) rest))
    (λ r. few-args 2 (core old) (with_run r x) _ c.in-Err.ensures.few)
    (omega (arith, ap (λ (f : Forth g.row.D.Denot g.D.SectorDevice). f.steps) rest)))
