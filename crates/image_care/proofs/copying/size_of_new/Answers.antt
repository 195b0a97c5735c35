use Rattle.std.proofs.Common.{◌≡◌, ◌∙◌, ◌<◌, ◌≤◌, true, sym, ap, arith}
use Rattle.journal.specs.Layouts.{sectors_for}
use Rattle.image_care.specs.Copied.{is_size_like}
use Rattle.image_care.proofs.Copies.{grows, like_layout, new_smaller, new_unlike, sizes_good}
use Rattle.image_care.proofs.copying.size_of_new.Goals as goal

pub returns-in_default-clause-exact : goal.returns-in_default-clause-exact
returns-in_default-clause-exact c =
    new_unlike c.args.old c.args.new c.requires.known (sym (like_layout c.args.from.layout c.args.old c.args.new c.requires.layout) ∙ c.in_default.ensures.none)

pub returns-then-new-old-clause-exact : goal.returns-then-new-old-clause-exact
returns-then-new-old-clause-exact c =
    let like : is_size_like c.args.old c.args.new ≡ true = sym (like_layout c.args.from.layout c.args.old c.args.new c.requires.layout) ∙ c.in-Some.ensures.some in
    let smaller : c.args.new < c.args.old = omega (arith, c.if-new-old.true) in
    new_smaller c.args.old c.args.new c.requires.known like smaller

pub returns-else-new-old-clause-exact : goal.returns-else-new-old-clause-exact
returns-else-new-old-clause-exact c =
    let like : is_size_like c.args.old c.args.new ≡ true = sym (like_layout c.args.from.layout c.args.old c.args.new c.requires.layout) ∙ c.in-Some.ensures.some in
    let larger : c.args.old ≤ c.args.new = omega (arith, c.if-new-old.false) in
    sizes_good c.args.old c.args.new c.requires.known like larger

pub returns-else-new-old-clause-new : goal.returns-else-new-old-clause-new
returns-else-new-old-clause-new c =
    c.in-Some.ensures.sectors ∙ sym (ap (λ l. sectors_for l c.in-Some.to.blocks.number) c.in-Some.ensures.layout)

pub returns-else-new-old-clause-grows : goal.returns-else-new-old-clause-grows
returns-else-new-old-clause-grows c =
    let larger : c.args.old ≤ c.args.new = omega (arith, c.if-new-old.false) in
    let more : c.args.from.blocks.number ≤ c.in-Some.to.blocks.number =
    grows c.args.from.layout c.args.from.blocks.number c.in-Some.to.blocks.number c.args.old c.args.new c.requires.sectors c.in-Some.ensures.sectors larger in
    omega (arith, more, c.requires.count, c.in-Some.ensures.count)
