use Rattle.interpreter.specs.Lexicon.{language_of}
use Rattle.interpreter.proofs.forth.Forth.close.Goals as goal

pub returns-clause-closes : goal.returns-clause-closes
returns-clause-closes g c = λ x h.
    let b = c.abandon.ensures (language_of x) h.meant in
    record { meant = b.stands; held_end = h.held_end; held = h.held; buffers = h.buffers; loads = h.loads; maps = h.maps }
