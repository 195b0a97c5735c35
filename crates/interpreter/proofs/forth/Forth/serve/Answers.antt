use Rattle.std.proofs.Common.{suc, subst}
use Rattle.cell_machine.specs.declared.event.Op.TheVariants as op
use Rattle.interpreter.specs.Lexicon.{language_of, IsDue}
use Rattle.interpreter.proofs.Wiring.{pred_of, ran_round, quiet_round}
use Rattle.interpreter.proofs.forth.Forth.serve.Goals as goal

pub returns-in-Word-clause-round : goal.returns-in-Word-clause-round
returns-in-Word-clause-round g c = λ n levels x due less stands is.
    let q = pred_of _ n less in
    let k : IsDue c.args.self.now.lexicon (language_of x) (op.Word c.in-Word.token) due = subst (λ o. IsDue c.args.self.now.lexicon (language_of x) o due) c.in-Word.is is in
    rw q.1.0 (rw k.0 (c.do_word.ensures.round q.0 levels x q.1.1 stands k.1))

pub returns-in-Text-clause-round : goal.returns-in-Text-clause-round
returns-in-Text-clause-round g c = λ n levels x due less stands is.
    let q = pred_of _ n less in
    let k : IsDue c.args.self.now.lexicon (language_of x) (op.Text c.in-Text.place) due = subst (λ o. IsDue c.args.self.now.lexicon (language_of x) o due) c.in-Text.is is in
    rw q.1.0 (rw k.1.1
    (ran_round g.D.SectorDevice g.T.Terminal (suc q.0) levels c.args.self.now _ c.args.terminal.now _ c.goes_on.ensures (c.print_text_at.ensures.serves k.0 k.1.0 levels x stands)))

pub returns-in-AbortText-clause-round : goal.returns-in-AbortText-clause-round
returns-in-AbortText-clause-round g c = λ n levels x due less stands is.
    let q = pred_of _ n less in
    let k : IsDue c.args.self.now.lexicon (language_of x) (op.AbortText c.in-AbortText.place) due = subst (λ o. IsDue c.args.self.now.lexicon (language_of x) o due) c.in-AbortText.is is in
    rw q.1.0 (rw k.1.1
    (ran_round g.D.SectorDevice g.T.Terminal (suc q.0) levels c.args.self.now _ c.args.terminal.now _ c.goes_on-in-AbortText.ensures (c.abort_with.ensures.serves k.0 k.1.0 levels x stands)))

pub returns-in-Compile-clause-round : goal.returns-in-Compile-clause-round
returns-in-Compile-clause-round g c = λ n levels x due less stands is.
    let q = pred_of _ n less in
    let k : IsDue c.args.self.now.lexicon (language_of x) (op.Compile c.in-Compile.token) due = subst (λ o. IsDue c.args.self.now.lexicon (language_of x) o due) c.in-Compile.is is in
    rw q.1.0 (rw k.1
    (quiet_round g.D.SectorDevice g.T.Terminal (suc q.0) levels g.met.D.SectorDevice.only_now c.args.self.now _ c.args.terminal.now c.goes_on_quietly.ensures stands c.add_word.ensures.spares (c.add_word.ensures.alters levels x stands)))

pub returns-in-Does-clause-round : goal.returns-in-Does-clause-round
returns-in-Does-clause-round g c = λ n levels x due less stands is.
    let q = pred_of _ n less in
    let k : IsDue c.args.self.now.lexicon (language_of x) (op.Does c.in-Does.place) due = subst (λ o. IsDue c.args.self.now.lexicon (language_of x) o due) c.in-Does.is is in
    rw q.1.0 (rw k.2.1
    (quiet_round g.D.SectorDevice g.T.Terminal (suc q.0) levels g.met.D.SectorDevice.only_now c.args.self.now _ c.args.terminal.now c.goes_on_quietly-in-Does.ensures stands c.give_part.ensures.spares (c.give_part.ensures.alters k.0 k.1 levels x stands k.2.0)))
