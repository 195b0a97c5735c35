use Rattle.std.proofs.Common.{◌≡◌, ◌+◌, ◌-◌, ◌≤◌, length, slice_range, IsTrue, sym, subst, arith, rules}
use Rattle.std.proofs.lemmas.List.{places}
use Rattle.sector_disk.proofs.FileCalls.{spoils_then, puts_then, writes_then}
use Rattle.sector_disk.proofs.whole.write_whole.Goals as goal

pub returns-in_err-done-clause-spoils : goal.returns-in_err-done-clause-spoils
returns-in_err-done-clause-spoils g c =
    let rest = slice_range c.args.bytes.now c.loop.done (length c.args.bytes.now) in
    let long : length rest ≡ length c.args.bytes.now - c.loop.done = search (rules, places) in
    spoils_then c.args.at (length c.args.bytes.now) (c.args.at + c.loop.done) (length rest) _ (g.H.HostFile.bytes c.loop.file) _ (omega arith) (omega (arith, long, c.loop.invariant.within))
    c.loop.invariant.spoils c.write_some.ensures.spoils

pub returns-in_err-done-clause-goes : goal.returns-in_err-done-clause-goes
returns-in_err-done-clause-goes g c =
    writes_then g.H.HostFile c.args.file.now c.loop.file c.write_some.new.file _ _ (g.met.H.HostFile.widens c.write_some.new.file)
    c.write_some.ensures.spoils c.loop.invariant.goes c.write_some.ensures.goes

pub loop-preserved : goal.loop-preserved
loop-preserved g c =
    let inv = c.loop.invariant in
    let bytes = c.args.bytes.now in
    let done = c.loop.done in
    let n = c.in_ok-done.field-0 in
    let rest = slice_range bytes done (length bytes) in
    let long : length rest ≡ length bytes - done = search (rules, places) in
    let few : n ≤ length rest = c.in_ok-done.ensures.count in
    let f = g.H.HostFile.bytes c.args.file.now in
    let h = g.H.HostFile.bytes c.loop.file in
    let i = g.H.HostFile.bytes c.write_some.new.file in
    record {
      within = omega (arith, long, few, inv.within);
      puts = λ keeps.
          puts_then c.args.at bytes done rest n (length rest) f h i (λ j below. search (rules, places))
          inv.spoils.unit (inv.puts keeps) c.write_some.ensures.spoils (c.in_ok-done.ensures.puts (subst IsTrue (sym inv.goes.model) keeps));
      spoils = spoils_then c.args.at (length bytes) (c.args.at + done) (length rest) f h i (omega arith) (omega (arith, long, inv.within))
          inv.spoils c.write_some.ensures.spoils;
      goes = writes_then g.H.HostFile c.args.file.now c.loop.file c.write_some.new.file _ _ (g.met.H.HostFile.widens c.write_some.new.file)
          c.write_some.ensures.spoils inv.goes c.write_some.ensures.goes;
    }
