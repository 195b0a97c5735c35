-- What a command makes of a device, of what its store makes of it; and how many blocks an image on a device has.
use Rattle.std.proofs.Common.{◌≡◌, ◌∙◌, ◌+◌, ◌-◌, ◌*◌, ◌<◌, ◌≤◌, ℕ, zero, suc, Bool, false, List, length, Option, IsTrue, refl, cond, sym, subst, arith}
use Rattle.std.specs.Io.KnownBytes.{Appends}
use Rattle.sector_disk.specs.declared.device.SectorDevice.{Ghosts}
use Rattle.journal.specs.declared.store.Store.{Store}
use Rattle.journal.specs.Calls.{Proceeds, StopsLeave}
use Rattle.journal.specs.Images.{meaning}
use Rattle.journal.specs.Layout.{count_below, sectors_for}
use Rattle.journal.specs.Maps.{Maps, contents}
use Rattle.journal.specs.Store.{Continues, DeviceBegins, DeviceReads, KeepsSaved, StandsFor, blocks_of, device_of, pending_count}
use Rattle.recovery.specs.Formatted.{MakingLeaves}
use Rattle.recovery.specs.Label.{blocks_in}
use Rattle.journal.specs.BySize.{Means}
use Rattle.journal.proofs.Suited.{stays}
use Rattle.recovery.specs.Upgraded.{OldLeaves}
use Rattle.terminal.specs.Done.{Exports, ImportsBlocks, ListsBlock, PutsBlock, Upgrades, blocks_on, maps_on, meant_by}
use Rattle.sessions.specs.Devices.{Becomes}
use Rattle.terminal.specs.Files.{OpensAs}
use Rattle.terminal.specs.Findings.{AreSound, blocks_for, said_all}
use Rattle.terminal.specs.Layout2 as older
use Rattle.terminal.specs.Imported.{ImportsSome}
use Rattle.terminal.specs.Putting.{PutsSome}
use Rattle.terminal.specs.Screen.{listing}
use Rattle.terminal.specs.Transfer.{ReadsStore, exports}
use Rattle.command_line.specs.declared.orders.Form.{Form}
use Rattle.terminal.proofs.Saving.{length_blocks}

module _ {D : Type 0} (G : Ghosts D) where
  pub continued : (old new : Store D G) → Continues old new → Becomes G (device_of old) (device_of new)
  continued old new on = record { model = on.model; sectors = λ keeps. on.sectors; time = on.time; failures = on.failures }

  there_on : (device : D) (store : Store D G) (b : ℕ) → OpensAs G device store → b < blocks_of store → b < blocks_on G device
  there_on device store b opens below = subst (λ (n : ℕ). b < n) opens.size below

  -- A block of a store that was opened on a device was listed.
  pub lists : (device : D) (old new : Store D G) (b : ℕ) (written written' : Option (List ℕ)) → OpensAs G device old
      → b < blocks_of old → Continues old new
      → ((m : Maps) → StandsFor old m → Appends written written' (listing (contents m b)))
      → ((m : Maps) → StandsFor old m → StandsFor new m) → KeepsSaved old new → DeviceBegins old new 0 0 → DeviceReads old new 2
      → ListsBlock G b written written' device (device_of new)
  lists device old new b written written' opens below on listed state stops few reads = record {
    begun = device_of old;
    recovers = opens.recovers;
    well = opens.well;
    meant = opens.meant;
    goes = continued old new on;
    there = there_on device old b opens below;
    listed = λ keeps. listed (maps_on G device) (opens.stands keeps);
    stops = λ keeps image since.
        subst (λ n. Means n (meant_by G device) image) opens.recovers.sectors (stops (maps_on G device) (opens.stands keeps) refl image since);
    same = λ keeps. let now = state (maps_on G device) (opens.stands keeps) in now.left (sym now.closed);
    begins = few;
    reads = reads;
  }

  -- Blocks of a store that was opened on a device were exported.
  pub exported : (device : D) (old new : Store D G) (form : Form) (first last : ℕ) (written written' : Option (List ℕ)) → OpensAs G device old
      → first ≤ last → last < blocks_of old
      → ((m : Maps) → StandsFor old m → Appends written written' (exports form m first (last + 1 - first)))
      → ReadsStore old new (2 * (last + 1 - first)) → Exports G form first last written written' device (device_of new)
  exported device old new form first last written written' opens ordered below printed read = record {
    begun = device_of old;
    recovers = opens.recovers;
    well = opens.well;
    meant = opens.meant;
    goes = continued old new read.continues;
    ordered = ordered;
    there = there_on device old last opens below;
    printed = λ keeps. printed (maps_on G device) (opens.stands keeps);
    stops = λ keeps image since.
        subst (λ n. Means n (meant_by G device) image) opens.recovers.sectors (read.stops (maps_on G device) (opens.stands keeps) refl image since);
    same = λ keeps. let now = read.state (maps_on G device) (opens.stands keeps) in now.left (sym now.closed);
    begins = read.begins;
    reads = read.reads;
  }

  -- Blocks were imported into a store that was opened on a device.
  pub imported : (device : D) (old new : Store D G) (form : Form) (first : ℕ) (are_texts : List (List ℕ) → Type 0) → OpensAs G device old → Continues old new
      → ImportsSome form first are_texts old new → ImportsBlocks G form first are_texts device (device_of new)
  imported device old new form first are_texts opens on some =
      let many = length_blocks (said_all form some.files) in
      record {
        begun = device_of old;
        recovers = opens.recovers;
        well = opens.well;
        meant = opens.meant;
        goes = continued old new on;
        files = some.files;
        each = some.each;
        sound = subst (λ (n : ℕ). AreSound form (n - first) some.files) opens.size some.sound;
        below = subst (λ (n : ℕ). first < n) opens.size some.below;
        there = subst (λ (n : ℕ). first + blocks_for (length (said_all form some.files)) ≤ n) opens.size some.there;
        saves = λ keeps. (some.imports.saved (maps_on G device) (opens.stands keeps)).1;
        begins = record { few_writes = omega (arith, opens.pending, many, some.imports.begins.few_writes); few_syncs = some.imports.begins.few_syncs };
        reads = omega (arith, opens.pending, many, some.imports.reads);
      }

  -- A block was put into a store that was opened on a device.
  pub puts : (is_text : List ℕ → Type 0) (device : D) (old new : Store D G) (b : ℕ) → OpensAs G device old → b < blocks_of old → Continues old new
      → PutsSome is_text old new b → DeviceBegins old new (2 * pending_count old + 7) 4 → DeviceReads old new (4 * pending_count old + 4)
      → PutsBlock G b is_text device (device_of new)
  puts is_text device old new b opens below on some few reads = record {
    begun = device_of old;
    recovers = opens.recovers;
    well = opens.well;
    meant = opens.meant;
    goes = continued old new on;
    there = there_on device old b opens below;
    saves = λ keeps. let saved = some.saved (maps_on G device) (opens.stands keeps) in (saved.0, saved.1, saved.2, saved.3, saved.5);
    begins = record { few_writes = omega (arith, opens.pending, few.few_writes); few_syncs = few.few_syncs };
    reads = omega (arith, opens.pending, reads);
  }

  pub proceeded : (old new : D) → Proceeds G old new → Becomes G old new
  proceeded old new on = record { model = stays G old new on.sectors on.model on.units; sectors = λ keeps. on.sectors; time = on.time; failures = on.failures }

  -- The image on the first device was upgraded onto the second one.
  pub upgrades : (source source' device after : D) (n : ℕ) → n ≡ older.blocks_on G source → G.sector_count source ≡ sectors_for n
      → G.sector_count device ≡ G.sector_count source → Proceeds G source source' → Proceeds G device after
      → (IsTrue (G.keeps_sectors source) → (n : ℕ) → G.sector_count source ≡ sectors_for n
      → StopsLeave G source source' (OldLeaves n (G.disk source)))
      → (IsTrue (G.keeps_sectors source) → IsTrue (G.keeps_sectors device) → (n : ℕ) → G.sector_count device ≡ sectors_for n
      → StopsLeave G device after (MakingLeaves n (meaning n (G.disk source).content) (G.disk device)))
      → (IsTrue (G.keeps_sectors source) → IsTrue (G.keeps_sectors device) → (n : ℕ) → G.sector_count device ≡ sectors_for n
      → older.LeavesBlocks G after (meaning n (G.disk source).content))
      → Upgrades G source source' device after
  upgrades source source' device after n are size same reads goes old stops new =
      let sized : G.sector_count source ≡ sectors_for (older.blocks_on G source) =
      subst (λ (m : ℕ). G.sector_count source ≡ sectors_for m) are size in
      record {
        reads = proceeded source source' reads;
        old = λ keeps. old keeps (older.blocks_on G source) sized;
        goes = proceeded device after goes;
        stops = λ keeps keeps'. stops keeps keeps' (older.blocks_on G source) (same ∙ sized);
        new = λ keeps keeps'. new keeps keeps' (older.blocks_on G source) (same ∙ sized);
      }

pub blocks_are : (sectors n : ℕ) → sectors ≡ sectors_for n → n ≡ blocks_in sectors
blocks_are sectors n e = omega (arith, e)

pub none_below : (p : ℕ → Bool) → ((b : ℕ) → p b ≡ false) → (n : ℕ) → count_below p n ≡ 0
none_below p none zero = refl
none_below p none (suc n) = subst (λ s. cond s (count_below p n + 1) (count_below p n) ≡ 0) (sym (none n)) (none_below p none n)
