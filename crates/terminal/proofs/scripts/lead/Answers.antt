use Rattle.std.proofs.Common.{◌≡◌, ◌⊎◌, ℕ, List, inr, subst}
use Rattle.std.specs.Borrow.{Bor}
use Rattle.std.proofs.lemmas.Result.{IfErr-weaker}
use Rattle.terminal.specs.Scripts.{load_line}
use Rattle.terminal.specs.Texts.{OneIsUnread}
use Rattle.terminal.specs.declared.failure.Failure.TheVariants.{CannotRead, NoMemory}
use Rattle.terminal.proofs.ScriptLemmas.{led_by}
use Rattle.terminal.proofs.scripts.lead.Goals as goal

pub returns-in-Ok-add_files-clause-led : goal.returns-in-Ok-add_files-clause-led
returns-in-Ok-add_files-clause-led g c =
    led_by (g.X.World.gives c.args.world.now).is_text (load_line c.args.script.now.load) c.args.script.now.files.items c.as_slice.result.now c.args.script.now.goes_on _ _ _ _ c.lead_by.result
    c.as_slice.ensures.value c.in-Ok.ensures c.in-Ok-add_files.ensures.added c.lead_by.ensures.led

pub returns-in-Ok-add_files-clause-only : goal.returns-in-Ok-add_files-clause-only
returns-in-Ok-add_files-clause-only g c = IfErr-weaker c.lead_by.result _ _ (λ e is. inr is) c.lead_by.ensures.only

pub returns-in-Err-add_files-clause-only : goal.returns-in-Err-add_files-clause-only
returns-in-Err-add_files-clause-only g c =
    subst (λ (paths : List (Bor (List ℕ))). ((c.in-Err-add_files.failure ≡ CannotRead)
    × OneIsUnread (g.X.World.gives c.args.world.now).is_unread paths) ⊎ (c.in-Err-add_files.failure ≡ NoMemory))
    c.as_slice.ensures.value c.in-Err-add_files.ensures.only
