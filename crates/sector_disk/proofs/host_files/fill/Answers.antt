use Rattle.std.proofs.Common.{◌≡◌, ◌∙◌, ℕ, ◌≤◌, List, length, slice_index, IsTrue, sym, ap, subst, rules}
use Rattle.std.proofs.lemmas.List.{places}
use Rattle.sector_disk.proofs.FileCalls.{keeps_going, zero_taken, zeros_then}
use Rattle.sector_disk.proofs.host_files.fill.Goals as goal

pub loop-at-preserved : goal.loop-at-preserved
loop-at-preserved g c =
    let H = g.H.HostFile in
    let inv = c.loop-at.invariant in
    let n = c.min-n.result in
    let f = H.bytes c.loop-at.file in
    let h = H.bytes c.write_whole.new.file in
    let piece = c.split_at.result.0.now in
    let long : length piece ≡ n = search (rules, places) in
    let few : n ≤ 65536 = search rules in
    record {
      within = search rules;
      zeros = λ keeps.
          zeros_then c.loop-at.at n piece f h long (λ i below. ap (λ (l : List ℕ). slice_index l i) c.split_at.ensures.front ∙ zero_taken n 65536 i below few) (inv.zeros keeps)
          (c.in_ok-write_whole.ensures.puts (subst IsTrue (sym inv.goes.model) keeps));
      goes = keeps_going H c.args.file.now c.loop-at.file c.write_whole.new.file (g.met.H.HostFile.widens c.write_whole.new.file) inv.goes c.write_whole.ensures.goes;
    }
