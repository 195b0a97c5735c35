use Rattle.std.proofs.Common.{◌≡◌, ◌++◌, ap, ◌∙◌, refl, arith, rules, length, ◌≤◌, ◌+◌}
use Rattle.compiler.proofs.Ends.{opens_new, ok_holds}
use Rattle.compiler.proofs.definition.Compiler.begin.Goals as goal

pub returns-clause-opened : goal.returns-clause-opened
returns-clause-opened c =
    let e = c.try_extend_from_slice.ensures in
    let cleared : length c.clear.new.self.items ≡ 0 = ap length c.clear.ensures in
    let fits : length c.clear.new.self.items + length c.args.name.now ≤ 31 = omega arith in
    let named = ok_holds c.try_extend_from_slice.result (e.variant.1 fits) e.ok in
    opens_new c.args.self.now _ c.args.name.now (search rules) refl (named ∙ ap (λ l. l ++ c.args.name.now) c.clear.ensures) refl refl refl refl refl c.clear-2.ensures
