-- A line at its text: the next word of the stream, or the end of the text.
use Rattle.std.proofs.Common.{◌≡◌, ℕ, zero, suc, ◌-◌, ◌≤◌, Bool, true, false, List, [], ◌∷◌, length, drop, refl, sym, ap, ◌∙◌}
use Rattle.std.proofs.Math.Path.{fun_ext}
use Rattle.std.specs.Prelude.{nat_le}
use Rattle.number_io.specs.Taking.{word_of, after_word}
use Rattle.block_words.specs.Words.{BlockOutcome, Gives, Fails, source}
use Rattle.cell_machine.specs.Frames.{Core, Around, Level, Frame, Once, Load, charge, paid, around_of}
use Rattle.cell_machine.specs.Value.{Outcome, Did, Ends, and_then}
use Rattle.cell_machine.proofs.Turns.{and_then_assoc}
use Rattle.interpreter.specs.State.{World, system_cell, set_cell, to_in_cell, blk_cell, block_state, blocks_done}
use Rattle.interpreter.specs.Streams.{stream_of, known}
use Rattle.interpreter.specs.Text.{text, serve, next_word, treat}
use Rattle.interpreter.specs.Law.{left}
use Rattle.interpreter.specs.RoundContract.{IsAtText}
use Rattle.interpreter.specs.TextRounds.{after_text, word_round}
use Rattle.interpreter.proofs.Enter.{text_goes_on}

and_then_did : (o : Outcome World) → o ≡ and_then o (λ c x. Did c x)
and_then_did (Did c x) = refl
and_then_did (Ends e c x) = refl

blocks_on : {A : Type 0} (o : BlockOutcome A) (c : Core) (x : World) (go : A → Core → World → Outcome World) (k : Core → World → Outcome World) → and_then (blocks_done o c x go) k ≡ blocks_done o c x (λ v c x. and_then (go v c x) k)
blocks_on (Gives v s) c x go k = refl
blocks_on (Fails f s) c x go k = refl

stream_on : (b : ℕ) (c : Core) (x : World) (go : List ℕ → Core → World → Outcome World) (k : Core → World → Outcome World) → and_then (stream_of b c x go) k ≡ stream_of b c x (λ t c x. and_then (go t c x) k)
stream_on zero c x go k = refl
stream_on (suc b) c x go k = blocks_on (source (suc b) (block_state c x)) c x go k

paid_on : (b : Bool) (n : ℕ) (c : Core) (x : World) (go : Core → Outcome World) (k : Core → World → Outcome World) → and_then (paid b n c (λ e c. Ends e c x) go) k ≡ paid b n c (λ e c. Ends e c x) (λ c. and_then (go c) k)
paid_on true n c x go k = refl
paid_on false n c x go k = refl

-- >IN stands behind the taking
abbrev pub moved_to : (text rest : List ℕ) → Core → Core
moved_to text rest c = set_cell to_in_cell (length text - length rest) c

abbrev pub read_round : ℕ → List Level → List ℕ → Core → World → Outcome World
read_round n levels text c x =
    let rest = drop (system_cell to_in_cell c) text in
    word_round n levels (word_of 32 rest) (λ c. moved_to text (after_word 32 rest) c) c x

module _ (m : ℕ) where
  abbrev value : Around → Core → World → Outcome World
  value a c x = text (suc m) (λ a due c x. serve (suc m) a due c x) (suc m) a c x

  at_text : (levels : List Level) (c : Core) (x : World) → IsAtText levels → left (suc m) levels c x ≡ and_then (value (around_of levels) c x) (λ c x. after_text (suc m) levels c x)
  at_text [] c x h = and_then_did (value (around_of []) c x)
  at_text (Load blk to_in ∷ levels) c x h = refl
  at_text (Frame owner trees loops later own ∷ levels) c x h = absurd h
  at_text (Once w ∷ levels) c x h = absurd h

  word_on : (levels : List Level) → IsAtText levels → (word : List ℕ) (moved : Core → Core) (c : Core) (x : World)
      → and_then (next_word (suc m) (λ a due c x. serve (suc m) a due c x) word moved (around_of levels) c x (λ c x. value (around_of levels) c x)) (λ c x. after_text (suc m) levels c x) ≡ word_round (suc m) levels word moved c x
  word_on levels h [] moved c x = refl
  word_on levels h (b ∷ word) moved c x =
      paid_on (nat_le 1 c.steps) 1 c x _ (λ c x. after_text (suc m) levels c x)
      ∙ ap (λ (go : Core → Outcome World). charge 1 c (λ e c. Ends e c x) go)
      (fun_ext (λ d. and_then_assoc (treat (suc m) (λ a due c x. serve (suc m) a due c x) (known x (b ∷ word)) (b ∷ word) (around_of levels) (moved d) x) _ _
      ∙ ap (λ (go : Core → World → Outcome World). and_then (treat (suc m) (λ a due c x. serve (suc m) a due c x) (known x (b ∷ word)) (b ∷ word) (around_of levels) (moved d) x) go)
      (fun_ext (λ e. fun_ext (λ y. sym (at_text levels e y h))))))

  pub reads_on : (levels : List Level) (c : Core) (x : World) → IsAtText levels → c.steps ≤ m
      → left (suc m) levels c x ≡ stream_of (system_cell blk_cell c) c x (λ text c x. read_round (suc m) levels text c x)
  reads_on levels c x h less =
      at_text levels c x h
      ∙ ap (λ o. and_then o (λ c x. after_text (suc m) levels c x)) (text_goes_on m (around_of levels) c x less)
      ∙ stream_on (system_cell blk_cell c) c x _ (λ c x. after_text (suc m) levels c x)
      ∙ ap (λ (go : List ℕ → Core → World → Outcome World). stream_of (system_cell blk_cell c) c x go)
      (fun_ext (λ t. fun_ext (λ d. fun_ext (λ y. word_on levels h (word_of 32 (drop (system_cell to_in_cell d) t)) (λ c. moved_to t (after_word 32 (drop (system_cell to_in_cell d) t)) c) d y))))
