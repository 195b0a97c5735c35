use Rattle.std.proofs.Common.{◌≡◌, ◌∙◌, ◌++◌, ℕ, suc, None, ap, map, option_map, rules}
use Rattle.std.specs.Io.BufRead.{strip_last}
use Rattle.number_io.specs.Taking.{up_to, after_text}
use Rattle.sessions.specs.Cut.{blank_for_tab}
use Rattle.terminal.specs.Screen.{rows, row, texts_of}
use Rattle.terminal.proofs.ScreenLemmas.{screen_step, screen_stop}
use Rattle.terminal.proofs.screen.take_row.Goals as goal

pub returns-clause-some : goal.returns-clause-some
returns-clause-some c =
    let is : c.text.result.now ≡ strip_last 13 (up_to 10 c.args.bytes.now) = c.text.ensures ∙ ap (strip_last 13) c.take_text-length.ensures.word in
    let rest : c.split_at.result.1.now ≡ after_text 10 c.args.bytes.now = c.split_at.ensures.back ∙ c.take_text-length.ensures.rest in
    λ n. ap (λ items. option_map (λ b. items ++ b) (rows n (texts_of c.split_at.result.1.now))) c.in_ok-add_row.ensures.some
    ∙ ap (λ r. option_map (λ b. (c.args.block.now.items ++ row (map blank_for_tab c.text.result.now)) ++ b) (rows n (texts_of r))) rest
    ∙ screen_step n c.args.block.now.items c.args.bytes.now c.text.result.now is c.in_ok-add_row.ensures.short

pub returns-in_err-add_row-clause-none : goal.returns-in_err-add_row-clause-none
returns-in_err-add_row-clause-none c =
    let is : c.text.result.now ≡ strip_last 13 (up_to 10 c.args.bytes.now) = c.text.ensures ∙ ap (strip_last 13) c.take_text-length.ensures.word in
    let stop : (n : ℕ) → rows (suc n) (texts_of c.args.bytes.now) ≡ None = λ n. screen_stop n c.args.bytes.now c.text.result.now is c.in_err-add_row.ensures.none in
    search (stop, rules)
