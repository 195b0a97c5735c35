use Rattle.std.proofs.Common.{◌≡◌, ◌∙◌, Some, sym, ap, inl, inr, ⊎_elim}
use Rattle.terminal.specs.Screen.{screen_of}
use Rattle.journal.specs.Store.{closed_of}
use Rattle.std.proofs.lemmas.Bool.{false_from_ne_true}
use Rattle.terminal.proofs.ScreenLemmas.{screen_whole}
use Rattle.terminal.proofs.images.put_text.Goals as goal

pub returns-in-Ok-put_block-clause-some : goal.returns-in-Ok-put_block-clause-some
returns-in-Ok-put_block-clause-some g c =
    let said : screen_of c.in-Ok.text.items ≡ Some c.as_slice-in-Some.result.now =
    ap screen_of (sym c.as_slice.ensures.value) ∙ sym c.in-Some.ensures ∙ ap (λ l. Some l) (sym c.as_slice-in-Some.ensures.value) in
    let whole = screen_whole (g.R.Read.remaining c.args.text.now) (g.R.Read.remaining c.read_text.new.reader) c.in-Ok.text.items c.as_slice-in-Some.result.now
    c.in-Ok.ensures.given c.in-Ok.ensures.whole said in
    record {
      saved = λ m stands.
          let live = stands.closed ∙ false_from_ne_true (closed_of c.args.store.now) (λ is. let no = c.in-Ok-put_block.ensures.closed.1 is in cc) in (
            c.in-Ok.text.items,
            whole,
            c.as_slice-in-Some.result.now,
            said,
            c.in-Ok-put_block.ensures.ok m stands,
            record { stops = c.in-Ok-put_block.ensures.stops m stands live; after = c.in-Ok-put_block.ensures.after m stands },
          );
    }

pub returns-in-Ok-put_block-clause-kept : goal.returns-in-Ok-put_block-clause-kept
returns-in-Ok-put_block-clause-kept g c =
    let said : screen_of c.in-Ok.text.items ≡ Some c.as_slice-in-Some.result.now =
    ap screen_of (sym c.as_slice.ensures.value) ∙ sym c.in-Some.ensures ∙ ap (λ l. Some l) (sym c.as_slice-in-Some.ensures.value) in
    let whole = screen_whole (g.R.Read.remaining c.args.text.now) (g.R.Read.remaining c.read_text.new.reader) c.in-Ok.text.items c.as_slice-in-Some.result.now
    c.in-Ok.ensures.given c.in-Ok.ensures.whole said in
    record {
      left = λ m stands live image left.
          ⊎_elim (λ old. inl old) (λ new. inr (c.in-Ok.text.items, whole, c.as_slice-in-Some.result.now, said, new)) (c.in-Ok-put_block.ensures.stops m stands live image left);
    }

pub returns-in-Err-put_block-clause-kept : goal.returns-in-Err-put_block-clause-kept
returns-in-Err-put_block-clause-kept g c =
    let said : screen_of c.in-Ok.text.items ≡ Some c.as_slice-in-Some.result.now =
    ap screen_of (sym c.as_slice.ensures.value) ∙ sym c.in-Some.ensures ∙ ap (λ l. Some l) (sym c.as_slice-in-Some.ensures.value) in
    let whole = screen_whole (g.R.Read.remaining c.args.text.now) (g.R.Read.remaining c.read_text.new.reader) c.in-Ok.text.items c.as_slice-in-Some.result.now
    c.in-Ok.ensures.given c.in-Ok.ensures.whole said in
    record {
      left = λ m stands live image left.
          ⊎_elim (λ old. inl old) (λ new. inr (c.in-Ok.text.items, whole, c.as_slice-in-Some.result.now, said, new)) (c.in-Err-put_block.ensures.stops m stands live image left);
    }
