use Rattle.std.proofs.Common.{◌≡◌, arith, subst}
use Rattle.journal.specs.Layout.{count_below}
use Rattle.journal.specs.PageLayout.{bit_differs, bits_apart}
use Rattle.journal.proofs.pages.layout.bits_apart.Goals as goal

pub returns : goal.returns
unfolding bits_apart
returns c =
    let ended : c.loop-i.i ≡ 64 = omega (arith, c.loop-i.auto.i-end, c.loop-i-test.false) in
    subst (λ n. c.loop-i.apart ≡ count_below (bit_differs c.args.gate.now c.args.word.now) n) ended c.loop-i.invariant.counted
