use Rattle.std.proofs.Common.{◌≡◌, ◌∙◌, ℕ, List, inl, inr, map, refl, sym}
use Rattle.std.specs.Borrow.{Bor}
use Rattle.std.specs.Prelude.{IfSome}
use Rattle.clap.specs.Words.{fault_of}
use Rattle.command_line.specs.Commands.{forth83}
use Rattle.terminal.proofs.Outcomes.{ended_as, ends_as, failed_as, failed_or_unnamed, has_name, is_named, no_memory, not_help, prints_same, said_same}
use Rattle.terminal.specs.OrderDone.{made_of, new_name}
use Rattle.terminal.specs.declared.failure.Outcome.TheVariants.{Done, Stopped}
use Rattle.terminal.proofs.program.command_over.Goals as goal

pub returns-in-Ok-clause-done : goal.returns-in-Ok-clause-done
returns-in-Ok-clause-done g c = λ fits is. (
  c.in-Ok.asked,
  c.in-Ok.ensures.given,
  c.perform-left.ensures.streams,
  ended_as _ c.perform-left.result.1 Done
      (ended_as _ c.name_made-ended.result Done (c.told.ensures.done is) c.name_made-ended.ensures.kept) c.perform-left.ensures.ended,
  λ whole. has_name (λ (path : Bor (List ℕ)). path.now) c.new_name-new.result (new_name c.in-Ok.asked) c.new_name-new.ensures (λ path. IfSome (made_of c.perform-left.result.0) ((g.X.World.gives c.args.world.now).named path))
      (c.name_made-ended.ensures.named (c.told.ensures.done is)),
)

pub returns-in-Ok-clause-stopped : goal.returns-in-Ok-clause-stopped
returns-in-Ok-clause-stopped g c = λ fits is. (
  c.in-Ok.asked,
  c.in-Ok.ensures.given,
  c.perform-left.ensures.streams,
  ended_as _ c.perform-left.result.1 Stopped
      (ended_as _ c.name_made-ended.result Stopped (c.told.ensures.stopped is) c.name_made-ended.ensures.kept) c.perform-left.ensures.ended,
  λ whole. absurd (let no : Stopped ≡ Done = whole in cc),
)

pub returns-in-Ok-clause-failed : goal.returns-in-Ok-clause-failed
returns-in-Ok-clause-failed g c = λ fits other another.
    let done = c.perform-left in
    let ended = c.name_made-ended in
    let so =
    failed_as _ ended.result c.told.result (c.told.ensures.others other another) c.told.ensures.failed
    (failed_or_unnamed _ _ _ _ _ done.result.1 ended.result
    (is_named (λ (path : Bor (List ℕ)). path.now) c.new_name-new.result (new_name c.in-Ok.asked) c.new_name-new.ensures)
    ended.ensures.failed done.ensures.failed done.ensures.ended) in
    inr (c.in-Ok.asked, c.in-Ok.ensures.given, done.ensures.streams, so.0, so.1, so.2)

pub returns-in-Ok-clause-refused : goal.returns-in-Ok-clause-refused
returns-in-Ok-clause-refused g c = λ refused. absurd (refused c.in-Ok.ensures.fits)

pub returns-in-Err-clause-done : goal.returns-in-Err-clause-done
returns-in-Err-clause-done g c = λ fits is.
    let told = c.explain-status.ensures.memory (no_memory c.in-Err.error c.in-Err.ensures.fits fits) in absurd (let no : 0 ≡ 5 = sym is ∙ told in cc)

pub returns-in-Err-clause-stopped : goal.returns-in-Err-clause-stopped
returns-in-Err-clause-stopped g c = λ fits is.
    let told = c.explain-status.ensures.memory (no_memory c.in-Err.error c.in-Err.ensures.fits fits) in absurd (let no : 1 ≡ 5 = sym is ∙ told in cc)

pub returns-in-Err-clause-failed : goal.returns-in-Err-clause-failed
returns-in-Err-clause-failed g c = λ fits other another.
    let memory = no_memory c.in-Err.error c.in-Err.ensures.fits fits in
    inl (record {
      memory = c.explain-status.ensures.memory memory;
      unopened = refl;
      same = said_same _ g.W.Write.contents _ _ (not_help c.in-Err.error memory c.explain-status.ensures.unwritten);
    })

pub returns-in-Err-clause-refused : goal.returns-in-Err-clause-refused
returns-in-Err-clause-refused g c = λ refused.
    let kinds = fault_of forth83 (map g.S.AsStr.text c.args.words.now) in
    record {
      unopened = refl;
      unread = refl;
      unwritten = prints_same kinds g.W.Write.contents c.in-Err.error c.in-Err.ensures.fits c.explain-status.ensures.unwritten;
      told = ends_as kinds c.in-Err.error c.explain-status.result c.in-Err.ensures.fits c.explain-status.ensures.refused;
    }
