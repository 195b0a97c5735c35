use Rattle.std.proofs.Common.{◌≡◌, ◌∙◌, ℕ, List, true, false, sym, subst}
use Rattle.std.specs.Prelude.{OnOk}
use Rattle.std.specs.Io.KnownBytes.{Appends}
use Rattle.terminal.specs.Copying.{standing_by}
use Rattle.terminal.proofs.Copies.{told_pages, told_plain}
use Rattle.terminal.proofs.salvaging.tell_salvage.Goals as goal

pub returns-in-Some-clause-ok : goal.returns-in-Some-clause-ok
returns-in-Some-clause-ok g c =
    let W = g.W.Write in
    subst (λ (l : List ℕ). OnOk c.tell_plain.result (Appends (W.contents c.args.output.now) (W.contents c.tell_plain.new.output) l))
    (sym (told_plain c.args.sectors (standing_by c.args.taken.now) c.in-Some.ensures.some)) c.tell_plain.ensures.ok

pub returns-in-None-clause-ok : goal.returns-in-None-clause-ok
returns-in-None-clause-ok g c =
    let W = g.W.Write in
    subst (λ (l : List ℕ). OnOk c.tell_damaged.result (Appends (W.contents c.args.output.now) (W.contents c.tell_damaged.new.output) l))
    (sym (told_pages c.args.sectors (standing_by c.args.taken.now) c.in-None.ensures.none)) c.tell_damaged.ensures.ok

pub returns-in-None-clause-ready : goal.returns-in-None-clause-ready
returns-in-None-clause-ready g c = λ is. absurd (let no : true ≡ false = sym is ∙ c.in-None.ensures.none in cc)
