-- What a call makes of a device, through a store that was opened on it.
use Rattle.std.proofs.Common.{◌≡◌, ◌⊎◌, ℕ, Bool, List, false, sym, subst, inl, inr, ⊎_elim, ◌∙◌, arith}
use Rattle.sector_disk.specs.declared.device.SectorDevice.{Ghosts}
use Rattle.sector_disk.proofs.Moments.{elapses_then, leaves_then}
use Rattle.journal.specs.declared.store.Store.{Store}
use Rattle.journal.specs.Calls.{StopsLeave}
use Rattle.journal.specs.BySize.{Means}
use Rattle.journal.specs.Maps.{Maps, fresh, latest}
use Rattle.journal.specs.Store.{Continues, KeepsSaved, MeansBy, SavesAllOrNone, StandsFor, closed_of, device_of}
use Rattle.sessions.specs.Devices.{Becomes}
use Rattle.hosted.specs.Calls.{AllOrNone, KeepsBlocks, LeavesBlocks, MayRecover, MeansOn, meant_by}
use Rattle.hosted.specs.Keeping.{HoldsOpen, SavesOpen}
use Rattle.hosted.specs.Saving.{with_blocks}
use Rattle.hosted.specs.Spilling.{all_spilled}
use Rattle.hosted.proofs.Devices.{Widens}
use Rattle.hosted.proofs.Spills.{closed_same, saved_same}

module _ {D : Type 0} (G : Ghosts D) where
  pub continued : (old new : Store D G) → Continues old new → Becomes G (device_of old) (device_of new)
  continued old new on = record { model = on.model; sectors = λ keeps. on.sectors; time = on.time; failures = on.failures }

  pub continues_then : (a b d : Store D G) → Widens G → Continues a b → Continues b d → Continues a d
  continues_then a b d widens one two = record {
    blocks = two.blocks ∙ one.blocks;
    sectors = two.sectors ∙ one.sectors;
    model = two.model ∙ one.model;
    time = elapses_then G.time G.left_since (device_of a) (device_of b) (device_of d) (widens (device_of d)) one.time two.time;
    failures = omega (arith, one.failures, two.failures);
  }

  -- Calls that keep the saved blocks, and then one more.
  pub keeps_then : (a b d : Store D G) (m now : Maps) → Continues a b → Continues b d → KeepsSaved a b → KeepsSaved b d
      → StandsFor a m → m.closed ≡ false → StandsFor b now → now.saved ≡ m.saved → now.closed ≡ m.closed
      → StopsLeave G (device_of a) (device_of d) (MeansBy a m.saved)
  keeps_then a b d m now one two first then stands live later saved closed =
      leaves_then G.time G.left_since (device_of a) (device_of b) (device_of d) (MeansBy a m.saved) (MeansBy b m.saved) (MeansBy a m.saved) one.time two.time
      (first m stands live)
      (subst (λ blocks. StopsLeave G (device_of b) (device_of d) (MeansBy b blocks)) saved (then now later (closed ∙ live)))
      (λ image means. means) (λ image means. subst (λ n. Means n m.saved image) one.sectors means)

  -- Spills, and then a commit of all of them.
  pub commits_then : (a b d : Store D G) (after : D) (m : Maps) (blocks bytes : List ℕ) → after ≡ device_of d → Continues a b → Continues b d
      → KeepsSaved a b → SavesAllOrNone b d → StandsFor a m → closed_of a ≡ false → StandsFor b (all_spilled m blocks bytes)
      → StopsLeave G (device_of a) after (λ image. MeansBy a m.saved image ⊎ MeansBy a (latest (all_spilled m blocks bytes)) image)
  commits_then a b d after m blocks bytes is one two first then stands live later =
      let spilled = all_spilled m blocks bytes in
      let same = saved_same m blocks bytes in
      let open_still = closed_same m blocks bytes ∙ stands.closed ∙ live in
      subst (λ new. StopsLeave G (device_of a) new (λ image. MeansBy a m.saved image ⊎ MeansBy a (latest spilled) image)) (sym is)
      (leaves_then G.time G.left_since (device_of a) (device_of b) (device_of d) (MeansBy a m.saved)
      (λ image. MeansBy b spilled.saved image ⊎ MeansBy b (latest spilled) image)
      (λ image. MeansBy a m.saved image ⊎ MeansBy a (latest spilled) image) one.time two.time
      (first m stands (stands.closed ∙ live))
      (then spilled later open_still)
      (λ image means. inl means)
      (λ image either. subst (λ n. Means n m.saved image ⊎ Means n (latest spilled) image) one.sectors
      (⊎_elim (λ old. inl (subst (λ saved. MeansBy b saved image) same old)) (λ new. inr new) either)))

  -- What an open store leaves.
  pub leaves : (store : Store D G) (after : D) (m : Maps) → after ≡ device_of store → closed_of store ≡ false → StandsFor store m
      → LeavesBlocks G after m.saved
  leaves store after m is live stands = subst (λ d. LeavesBlocks G d m.saved) (sym is) (stands.left live)

  -- A recovery, and then a call that keeps the blocks.
  pub kept_then : (device begun after : D) → G.sector_count begun ≡ G.sector_count device → Becomes G device begun → Becomes G begun after
      → StopsLeave G device begun (MayRecover G device) → StopsLeave G begun after (MeansOn G begun (meant_by G device))
      → StopsLeave G device after (KeepsBlocks G device)
  kept_then device begun after size one two first then =
      leaves_then G.time G.left_since device begun after (MayRecover G device) (MeansOn G begun (meant_by G device)) (KeepsBlocks G device) one.time two.time
      first then (λ image may. inl may) (λ image means. inr (subst (λ n. Means n (meant_by G device) image) size means))

  -- A recovery, and then a save to the store that rests.
  pub saved_then : (device begun after : D) (blocks bytes : List ℕ) → G.sector_count begun ≡ G.sector_count device → Becomes G device begun → Becomes G begun after
      → StopsLeave G device begun (MayRecover G device) → StopsLeave G begun after (SavesOpen G begun (meant_by G device) blocks bytes)
      → StopsLeave G device after (AllOrNone G device blocks bytes)
  saved_then device begun after blocks bytes size one two first then =
      leaves_then G.time G.left_since device begun after (MayRecover G device) (SavesOpen G begun (meant_by G device) blocks bytes)
      (AllOrNone G device blocks bytes) one.time two.time first then
      (λ image may. inl (inl may))
      (λ image either. ⊎_elim (λ old. inl (inr (subst (λ n. Means n (meant_by G device) image) size old)))
      (λ new. inr (subst (λ n. Means n (with_blocks (meant_by G device) blocks bytes) image) size new)) either)

  -- What an open store leaves that rests.
  pub held_leaves : (device : D) (is_open : Bool) (listing : List ℕ) (saved : List (List ℕ)) → HoldsOpen G device is_open listing saved
      → LeavesBlocks G device saved
  held_leaves device is_open listing saved holds =
      leaves holds.store device (fresh saved) (sym holds.rests.on) holds.rests.open_still holds.stands

  -- Refused arguments leave the device uncalled, so a stop leaves what it left.
  pub kept_still : (device : D) → StopsLeave G device device (MayRecover G device) → StopsLeave G device device (KeepsBlocks G device)
  kept_still device stops image since = inl (stops image since)
