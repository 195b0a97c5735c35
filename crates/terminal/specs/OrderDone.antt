-- What is left where an order was done, and where it failed, of what a system gave under the names in it.
use Rattle.std.specs.Prelude.{◌≡◌, ◌≢◌, ◌⊎◌, ⊤, ℕ, Bool, false, true, List, Option, Some, None, IfSome, is_some}
use Rattle.clap.specs.Words.{Kinds, Text}
use Rattle.command_line.specs.Commands.{IsOrderOf}
use Rattle.command_line.specs.declared.orders.Order.{Order}
use Rattle.command_line.specs.declared.orders.Order.TheVariants.{Memory, New, Run, List as ListBlock, Put, Export, Import, CheckImport, Check, Digests, Diff, Upgrade, Copy, Salvage}
use Rattle.sector_disk.specs.declared.device.SectorDevice.{Ghosts}
use Rattle.shadow.specs.Label.{is_known_size}
use Rattle.terminal.specs.Care.{PrintDone}
use Rattle.terminal.specs.Done.{DoneOn, EachLeft, ImportsBlocks, LooksAt, PutsBlock}
use Rattle.terminal.specs.Failed.{DiffFailed, FailsAfter, FailsOn, ImportFails, LooksInVain, NewFailed, NotTold, PrintFailed, PrintsNone, PutFails, ScriptFailed, TellsNone}
use Rattle.terminal.specs.Failures.{status_of}
use Rattle.terminal.specs.Given.{Given}
use Rattle.terminal.specs.InMemory.{AsksForHelp, CompletesInMemory, EndsHelp, FailsInMemory}
use Rattle.terminal.specs.Layout3.{MakesBlankBy, sectors_by}
use Rattle.terminal.specs.Said.{Said}
use Rattle.terminal.specs.Scripts.{RunsScript, StopsScript}
use Rattle.terminal.specs.Shapes.{DiffDone, MakeDone, MakeFailed, Tells, UpgradeDone, UpgradeFailed}
use Rattle.terminal.specs.Texts.{AreTexts, OneIsUnread}
use Rattle.terminal.specs.Unopened.{IsUnmade}
use Rattle.terminal.specs.declared.deeds.Looking.TheVariants as looking
use Rattle.terminal.specs.declared.deeds.Making.TheVariants as making
use Rattle.terminal.specs.declared.deeds.Printing.TheVariants as printing
use Rattle.terminal.specs.declared.failure.Failure.{Failure}
use Rattle.terminal.specs.declared.failure.Failure.TheVariants.{CannotWrite, NoMemory}
use Rattle.terminal.specs.declared.failure.Outcome.{Outcome}
use Rattle.terminal.specs.declared.failure.Outcome.TheVariants.{Done, Stopped}
use Rattle.terminal.specs.declared.left.Left.{Left}
use Rattle.terminal.specs.declared.left.Left.TheVariants.{Nothing, Opened, Made, Looked, Upgraded, Copied}

-- There was no memory for the order of the words: nothing was opened, read or printed.
pub record NotOrdered {D E : Type 0} (before after : Said) (status : ℕ) (ends : Left D E) : Type 0 where
  pub memory : status ≡ status_of NoMemory
  pub unopened : ends ≡ Nothing
  pub same : after ≡ before

-- The words were refused for these reasons: nothing was opened or read, and nothing was printed where help wasn't asked for. The status
-- is 2, or 5 where there was no memory; or help was asked for, and it was shown or couldn't be.
pub record IsRefused {D E : Type 0} (kinds : Kinds) (before after : Said) (status : ℕ) (ends : Left D E) : Type 0 where
  pub unopened : ends ≡ Nothing
  pub unread : after.left ≡ before.left
  pub unwritten : AsksForHelp kinds ⊎ (after.written ≡ before.written)
  pub told : (status ≡ 2) ⊎ (status ≡ 5) ⊎ (AsksForHelp kinds × EndsHelp status)

-- ---- the input and the output

-- whether the order reads the input: it does where it is a session
abbrev pub reads_input : Order → Bool
reads_input Memory = true
reads_input (Run path n script) = true
reads_input order = false

-- whether the order prints
abbrev pub prints : Order → Bool
prints (New path n layout) = false
prints (Put path b text) = false
prints (Import path first sources form) = false
prints (CheckImport path first sources form) = false
prints (Upgrade old new layout) = false
prints (Copy old new asked) = false
prints order = true

-- ---- the image that it makes

-- the name that it is to have, if the order makes one
abbrev pub new_name : Order → Option (List ℕ)
new_name (New path n layout) = Some path.now
new_name (Upgrade old new layout) = Some new.now
new_name (Copy old new asked) = Some new.now
new_name (Salvage old new asked) = Some new.now
new_name order = None

-- the device that was made, if one was
abbrev pub made_of : {D E : Type 0} → Left D E → Option D
made_of (Made device) = Some device
made_of (Upgraded old new) = Some new
made_of (Copied old new) = Some new
made_of ends = None

-- Where the order reads no input, it is as it was, and so is the output where the order doesn't print.
pub record KeepsStreams (order : Order) (before after : Said) : Type 0 where
  pub unread : reads_input order ≡ false → after.left ≡ before.left
  pub unwritten : prints order ≡ false → after.written ≡ before.written

-- Where a failure is such a one, nothing was printed.
abbrev pub PrintsNothing : (silent : Failure → Type 0) → Failure → (before after : Said) → Type 0
PrintsNothing silent failure before after = silent failure → after.written ≡ before.written

-- ---- what is left: G is of the devices that are opened for writing too or made, L of those that are opened for reading alone

-- No call of the device failed.
abbrev pub HasNone : {D : Type 0} (G : Ghosts D) → D → Type 0
HasNone G device = G.failures device ≡ 0

-- M is of blocks in memory.
module _ {D E B : Type 0} (G : Ghosts D) (L : Ghosts E) (M : Ghosts B) (given : Given D E) where
  -- The order was done, on what was given, and this is left of it.
  abbrev pub IsDone : Order → (before after : Said) → Left D E → Type 0
  IsDone Memory before after ends = (ends ≡ Nothing) × CompletesInMemory M before.left after.left before.written after.written
  IsDone (New path n layout) before after ends =
      DoneOn G Made (given.made path.now (sectors_by layout n)) (MakesBlankBy G layout n) ends × EachLeft (HasNone G) (λ look. ⊤) ends
  IsDone (Run path n script) before after ends =
      DoneOn G Opened (given.opened path.now) (RunsScript G given.is_text n script before.left after.left before.written after.written) ends
  IsDone (ListBlock path b) before after ends =
      PrintDone G L (given.opened path.now) (given.looked path.now) (printing.List b) before.written after.written ends
  IsDone (Put path b text) before after ends = DoneOn G Opened (given.opened path.now) (PutsBlock G b (given.is_text text.now)) ends
  IsDone (Export path first last form) before after ends =
      PrintDone G L (given.opened path.now) (given.looked path.now) (printing.Export first last form) before.written after.written ends
  IsDone (Import path first sources form) before after ends =
      DoneOn G Opened (given.opened path.now) (ImportsBlocks G form first (AreTexts given.is_text sources.items)) ends
  IsDone (CheckImport path first sources form) before after ends =
      DoneOn G Opened (given.opened path.now) (LooksAt G form first (AreTexts given.is_text sources.items)) ends
  IsDone (Check path) before after ends = DoneOn L Looked (given.looked path.now) (Tells L looking.Check before.written after.written) ends
  IsDone (Digests path) before after ends = DoneOn L Looked (given.looked path.now) (Tells L looking.Digests before.written after.written) ends
  IsDone (Diff old new) before after ends = DiffDone L (given.looked old.now) (given.looked new.now) before.written after.written ends
  IsDone (Upgrade old new layout) before after ends =
      UpgradeDone G (given.opened old.now) (given.made new.now) layout ends × EachLeft (HasNone G) (λ look. ⊤) ends
  IsDone (Copy old new asked) before after ends =
      MakeDone L G (given.looked old.now) (given.made new.now) making.Copy asked before.written after.written ends
      × EachLeft (HasNone G) (HasNone L) ends
  IsDone (Salvage old new asked) before after ends =
      MakeDone L G (given.held old.now) (given.made new.now) making.Salvage asked before.written after.written ends
      × EachLeft (HasNone G) (λ look. ⊤) ends

  -- A session that the order begins was stopped, and this is left of it. No other order can be stopped.
  abbrev pub IsStopped : Order → (before after : Said) → Left D E → Type 0
  IsStopped (Run path n script) before after ends =
      DoneOn G Opened (given.opened path.now) (StopsScript G given.is_text n script before.left after.left before.written after.written) ends
  IsStopped order before after ends = ⊥

  -- The order ended so.
  abbrev pub IsEnded : Outcome → Order → (before after : Said) → Left D E → Type 0
  IsEnded Done = IsDone
  IsEnded Stopped = IsStopped

  -- The order failed, and this is left of it.
  abbrev pub IsFailed : Order → (before after : Said) → Failure → Left D E → Type 0
  IsFailed Memory before after failure ends = (ends ≡ Nothing) × FailsInMemory M failure before.left after.left before.written after.written
  IsFailed (New path n layout) before after failure ends = NewFailed G (given.made path.now) (given.begun path.now) n layout failure ends
  IsFailed (Run path n script) before after failure ends = ScriptFailed G (given.opened path.now) given.is_text given.is_unread n script
      before.left after.left before.written after.written failure ends
  IsFailed (ListBlock path b) before after failure ends = PrintFailed G L (given.opened path.now) (given.looked path.now) (printing.List b) failure ends
      × PrintsNothing (PrintsNone (printing.List b)) failure before after
  IsFailed (Put path b text) before after failure ends = FailsOn G Opened (given.opened path.now)
      (FailsAfter G (PutFails G b (given.is_text text.now) (given.is_unread text.now))) failure ends
  IsFailed (Export path first last form) before after failure ends =
      PrintFailed G L (given.opened path.now) (given.looked path.now) (printing.Export first last form) failure ends
      × PrintsNothing (PrintsNone (printing.Export first last form)) failure before after
  IsFailed (Import path first sources form) before after failure ends = FailsOn G Opened (given.opened path.now)
      (FailsAfter G (ImportFails G form first (AreTexts given.is_text sources.items) (OneIsUnread given.is_unread sources.items))) failure ends
  IsFailed (CheckImport path first sources form) before after failure ends = FailsOn G Opened (given.opened path.now)
      (LooksInVain (λ device. is_known_size (G.sector_count device)) (OneIsUnread given.is_unread sources.items)) failure ends
  IsFailed (Check path) before after failure ends =
      FailsOn L Looked (given.looked path.now) (NotTold L looking.Check before.written after.written) failure ends
      × PrintsNothing (TellsNone looking.Check) failure before after
  IsFailed (Digests path) before after failure ends =
      FailsOn L Looked (given.looked path.now) (NotTold L looking.Digests before.written after.written) failure ends
      × PrintsNothing (TellsNone looking.Digests) failure before after
  IsFailed (Diff old new) before after failure ends = DiffFailed L (given.looked old.now) (given.looked new.now) failure ends
      × PrintsNothing (λ e. e ≢ CannotWrite) failure before after
  IsFailed (Upgrade old new layout) before after failure ends =
      UpgradeFailed G (given.opened old.now) (given.made new.now) (given.begun new.now) layout failure ends
  IsFailed (Copy old new asked) before after failure ends =
      MakeFailed L G (given.looked old.now) (given.made new.now) (given.begun new.now) making.Copy asked failure ends
  IsFailed (Salvage old new asked) before after failure ends =
      MakeFailed L G (given.held old.now) (given.made new.now) (given.begun new.now) making.Salvage asked failure ends
      × PrintsNothing (λ e. e ≢ CannotWrite) failure before after

  -- ---- its name

  -- The image that the order makes was given its name when it was as it is left.
  abbrev pub HasName : Order → Left D E → Type 0
  HasName order ends = IfSome (new_name order) (λ path. IfSome (made_of ends) (given.named path))

  -- The image was made whole, and not given its name: something else has got that, or the system refused.
  abbrev pub IsUnnamed : Order → (before after : Said) → Failure → Left D E → Type 0
  IsUnnamed order before after failure ends =
      (is_some (new_name order) ≡ true) × IsUnmade failure × IsDone order before after ends

  -- ---- what the words order

  -- It was done, and an image that it makes has its name; or its session was stopped.
  abbrev pub OrderIsEnded : Outcome → (words : List Text) → (before after : Said) → Left D E → Type 0
  OrderIsEnded outcome words before after ends =
      (order : Order) × IsOrderOf words order × KeepsStreams order before after × IsEnded outcome order before after ends
      × (outcome ≡ Done → HasName order ends)

  -- It failed, or what it made has no name, with this exit status.
  abbrev pub OrderIsFailed : (words : List Text) → (before after : Said) → (status : ℕ) → Left D E → Type 0
  OrderIsFailed words before after status ends =
      (order : Order) × IsOrderOf words order × KeepsStreams order before after
      × (failure : Failure) × (status ≡ status_of failure)
      × (IsFailed order before after failure ends ⊎ IsUnnamed order before after failure ends)
