use Rattle.std.proofs.Common.{◌∙◌, ap, sym}
use Rattle.block_words.specs.Words.{has_unsaved}
use Rattle.interpreter.proofs.forth.ForthLines.has_unsaved.Goals as goal

pub returns : goal.returns
returns g c = λ state is is_open.
    let rests = is.represents.rests in
    c.has_unsaved.ensures state.world.maps (rests.maps is.model) is_open ∙ ap (λ b. has_unsaved b state.world.maps) (sym rests.buffers)
