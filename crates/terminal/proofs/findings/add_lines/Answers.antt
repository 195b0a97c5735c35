use Rattle.std.proofs.Common.{◌≡◌, ◌∙◌, ◌+◌, ◌++◌, ◌∷◌, ◌<◌, suc, ap, ap₂, arith, length, map, subst, sym}
use Rattle.std.proofs.lemmas.Grind.{common_steps}
use Rattle.std.specs.Io.BufRead.{strip_last}
use Rattle.number_io.specs.Taking.{after_text, up_to}
use Rattle.sessions.specs.Cut.{blank_for_tab}
use Rattle.terminal.specs.Findings.{findings, row_findings}
use Rattle.terminal.specs.Screen.{row, texts_of}
use Rattle.terminal.proofs.ScreenLemmas.{after_shorter, texts_cut}
use Rattle.terminal.proofs.Telling.{rows_more, told_more}
use Rattle.terminal.proofs.findings.add_lines.Goals as goal

pub loop-rest-preserved : goal.loop-rest-preserved
loop-rest-preserved c =
    let inv = c.loop-rest.invariant in
    let n = c.loop-rest.number in
    let file = c.loop-rest.rest.now in
    let rest = c.split_at.result.1.now in
    let line = map blank_for_tab c.text.result.now in
    let some : 0 < length file = grind (arith, common_steps) in
    let is : c.text.result.now ≡ strip_last 13 (up_to 10 file) = c.text.ensures ∙ ap (strip_last 13) c.take_text-length.ensures.word in
    let below : rest ≡ after_text 10 file = c.split_at.ensures.back ∙ c.take_text-length.ensures.rest in
    let cut : texts_of file ≡ line ∷ texts_of rest = texts_cut file c.text.result.now some is ∙ ap (λ r. line ∷ texts_of r) (sym below) in
    let shorter : length rest < length file = subst (λ r. length r < length file) (sym below) (after_shorter file some) in
    let next : suc n ≡ n + 1 = omega arith in
    let step = ap (λ f. row_findings n c.loop-rest.below_full (row line) ++ f)
    (ap₂ (λ k full. findings k full (texts_of rest)) next (sym c.in_ok-below_full.ensures.full)) in
    record {
      rows = rows_more c.loop-rest.bytes.items c.add_line.new.bytes.items line file rest _ c.in_ok-below_full.ensures.bytes cut inv.rows;
      told = told_more n c.loop-rest.below_full c.in_ok-below_full.below_full c.loop-rest.found.items c.add_line.new.found.items _ line file rest
          c.in_ok-below_full.ensures.found cut step inv.told;
      fits = omega (arith, inv.fits, shorter);
    }
