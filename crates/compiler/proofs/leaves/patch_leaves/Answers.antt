use Rattle.std.proofs.Common.{◌≡◌, ◌≢◌, ◌<◌, ◌≤◌, ℕ, List, [], ◌∷◌, sym, subst, arith, inl, inr, refl}
use Rattle.std.specs.Prelude.{slice_index}
use Rattle.cell_machine.specs.Layout.{IsIn}
use Rattle.compiler.specs.Represents.{Chain, Patched}
use Rattle.compiler.proofs.Chains.{chain_unique, chain_from, chain_past, chain_below, patched_more}
use Rattle.compiler.proofs.leaves.patch_leaves.Goals as goal

pub loop-at-init : goal.loop-at-init
loop-at-init c =
    record {
      left = c.requires;
      goes = λ ls ws final h k p.
          subst (λ l. Patched c.args.code.now l c.args.to final) (chain_unique c.args.code.now ws ls c.args.last k h) p;
    }

-- a cell that waits lies in the store
pub cell-before-requires : goal.cell-before-requires
cell-before-requires c =
    let left = c.loop-at.invariant.left in
    let from = chain_from c.loop-at.code left.0 c.loop-at.at c.loop-at-test.true left.1.0 in
    left.1.1 c.loop-at.at (subst (λ l. IsIn c.loop-at.at l) (sym from.1.0) (inl refl))

pub set-requires : goal.set-requires
set-requires c =
    let left = c.loop-at.invariant.left in
    let from = chain_from c.loop-at.code left.0 c.loop-at.at c.loop-at-test.true left.1.0 in
    left.1.1 c.loop-at.at (subst (λ l. IsIn c.loop-at.at l) (sym from.1.0) (inl refl))

pub loop-at-smaller : goal.loop-at-smaller
loop-at-smaller c =
    let left = c.loop-at.invariant.left in
    let from = chain_from c.loop-at.code left.0 c.loop-at.at c.loop-at-test.true left.1.0 in
    let down : slice_index c.loop-at.code c.loop-at.at < c.loop-at.at = from.1.1 in
    let is : c.cell-before.result ≡ slice_index c.loop-at.code c.loop-at.at = c.cell-before.ensures in
    omega arith

pub loop-at-preserved : goal.loop-at-preserved
loop-at-preserved c =
    let old = c.loop-at.code in
    let at = c.loop-at.at in
    let new = c.set.new.self in
    let left = c.loop-at.invariant.left in
    let from = chain_from old left.0 at c.loop-at-test.true left.1.0 in
    let down : slice_index old at < at = from.1.1 in
    let is : c.cell-before.result ≡ slice_index old at = c.cell-before.ensures in
    let before : c.cell-before.result < at = omega arith in
    let rest : Chain old from.0 c.cell-before.result = subst (λ n. Chain old from.0 n) (sym is) from.1.2 in
    record {
      left = (from.0, (chain_past old new from.0 c.cell-before.result at before c.set.ensures.others rest, λ y i. left.1.1 y (subst (λ l. IsIn y l) (sym from.1.0) (inr i))));
      goes = λ ls ws final h k p.
          let same : (y : ℕ) → y ≢ at → slice_index old y ≡ slice_index new y = λ y n. sym (c.set.ensures.others y n) in
          let back : Chain old ws c.cell-before.result = chain_past new old ws c.cell-before.result at before same k in
          let below : (y : ℕ) → IsIn y ws → y < at = λ y i. let b : y ≤ c.cell-before.result = chain_below old ws c.cell-before.result back y i in omega arith in
          c.loop-at.invariant.goes ls (at ∷ ws) final h (refl, down, subst (λ n. Chain old ws n) is back)
          (patched_more old new final at c.args.to ws below c.set.ensures.stored c.set.ensures.others p);
    }

done : (old now : List ℕ) (to last at : ℕ) → ((ls ws final : List ℕ) → Chain old ls last → Chain now ws at → Patched now ws to final → Patched old ls to final) → at ≡ 0 → (ls : List ℕ) → Chain old ls last → Patched old ls to now
done old now to last at goes z ls h =
    goes ls [] now h z (record { there = λ y i. absurd i; others = λ y n. refl })

pub returns : goal.returns
returns c =
    done c.args.code.now c.loop-at.code c.args.to c.args.last c.loop-at.at c.loop-at.invariant.goes c.loop-at-test.false
