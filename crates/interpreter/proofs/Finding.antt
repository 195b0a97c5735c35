-- What is asked of a word.
use Rattle.std.proofs.Common.{◌≡◌, ℕ, suc, ◌+◌, ◌-◌, List, take, drop, Option, Some, None, sym, ap, ◌∙◌, arith}
use Rattle.cell_machine.specs.Fault.{Faults, Token}
use Rattle.cell_machine.specs.Frames.{Core}
use Rattle.cell_machine.specs.Value.{Ends}
use Rattle.interpreter.specs.State.{World, pushing}
use Rattle.interpreter.specs.Naming.{data_or_token}

-- a name that is counted
pub counted : (bytes space : List ℕ) (s s' b n : ℕ) → s' ≡ s → b ≡ n → bytes ≡ space → take (s' + 1 + b - (s' + 1)) (drop (s' + 1) bytes) ≡ take n (drop (suc s) space)
counted bytes space s s' b n is is' same =
    let size : (s' + 1 + b - (s' + 1)) ≡ n = omega (arith, is') in
    let from : s' + 1 ≡ suc s = omega (arith, is) in
    ap (λ k. take k (drop (s' + 1) bytes)) size ∙ ap (λ k. take n (drop k bytes)) from ∙ ap (λ l. take n (drop (suc s) l)) same

-- ---- the data field

pub has_field : (o : Option ℕ) (a : ℕ) (c : Core) (x : World) → Some a ≡ o → data_or_token o c x ≡ pushing a c x
has_field o a c x is = ap (λ o. data_or_token o c x) (sym is)

pub no_field : (o : Option ℕ) (c : Core) (x : World) → None ≡ o → data_or_token o c x ≡ Ends (Faults Token) c x
no_field o c x is = ap (λ o. data_or_token o c x) (sym is)
