use Rattle.std.proofs.Common.{◌∙◌, ◌||◌, ap, sym}
use Rattle.std.specs.Prelude.{length, nat_lt}
use Rattle.block_buffers.specs.Buffers.{updated_ones}
use Rattle.block_words.proofs.Worn.{pending_same}
use Rattle.block_words.proofs.buffered_blocks.Blocks.has_unsaved.Goals as goal

pub returns-then-has_pending : goal.returns-then-has_pending
returns-then-has_pending g c = λ m stands is_open.
    let pending = sym c.if-has_pending.true ∙ c.has_pending.ensures ∙ ap (λ n. nat_lt 0 n) (sym (pending_same c.args.self.now.store m stands (sym stands.closed ∙ is_open))) in
    ap (λ t. t || nat_lt 0 (length (updated_ones c.args.self.now.buffers))) pending

pub returns : goal.returns
returns g c = λ m stands is_open.
    let pending = sym c.if-has_pending.false ∙ c.has_pending.ensures ∙ ap (λ n. nat_lt 0 n) (sym (pending_same c.args.self.now.store m stands (sym stands.closed ∙ is_open))) in
    c.has_updated.ensures ∙ ap (λ t. t || nat_lt 0 (length (updated_ones c.args.self.now.buffers))) pending
