-- Blocks that are imported one after another.
use Rattle.std.proofs.Common.{◌≡◌, ◌∙◌, ◌⊎◌, ◌+◌, ◌≤◌, ◌<◌, ℕ, zero, suc, false, List, [], ◌∷◌, ◌++◌, drop, length, refl, sym, ap, subst, arith, true, inl, inr, length-append, append-nil, add-zero}
use Rattle.std.proofs.lemmas.List.{length-drop}
use Rattle.sector_disk.specs.Counting.{count_up}
use Rattle.sector_disk.specs.Disk.{Image, MayLeave}
use Rattle.sector_disk.specs.declared.device.SectorDevice.{Ghosts}
use Rattle.sector_disk.proofs.Moments.{leaves_then}
use Rattle.journal.specs.declared.store.Store.{Store}
use Rattle.journal.specs.declared.store.StoreFault.{StoreFault}
use Rattle.journal.specs.declared.store.StoreFault.TheVariants.{Closed, Device}
use Rattle.journal.specs.Calls.{StopsLeave}
use Rattle.journal.specs.BySize.{Means}
use Rattle.journal.specs.Maps.{Maps, latest, spilled}
use Rattle.journal.specs.Store.{KeepsSaved, MeansBy, SavesAllOrNone, Continues, DeviceFailed, StandsFor, closed_of, device_of}
use Rattle.terminal.specs.Findings.{blocks_for}
use Rattle.terminal.specs.Transfer.{as_blocks, block_of, cut, spilled_from}

pub none_left : {X : Type 0} (list : List X) → length list ≡ 0 → list ≡ []
none_left [] none = refl
none_left (x ∷ list) none = absurd (omega (arith, none))

pub one_block_more : (bytes : List ℕ) → 0 < length bytes → blocks_for (length bytes) ≡ suc (blocks_for (length (drop 1024 bytes)))
one_block_more bytes some = omega (arith, some, length-drop 1024 bytes)

pub blocks_next : (bytes : List ℕ) → 0 < length bytes → as_blocks bytes ≡ block_of bytes ∷ as_blocks (drop 1024 bytes)
blocks_next bytes some = ap (λ n. cut n bytes) (one_block_more bytes some)

pub length_cut : (n : ℕ) (bytes : List ℕ) → length (cut n bytes) ≡ n
length_cut zero bytes = refl
length_cut (suc n) bytes = ap suc (length_cut n (drop 1024 bytes))

pub length_blocks : (bytes : List ℕ) → length (as_blocks bytes) ≡ blocks_for (length bytes)
length_blocks bytes = length_cut (blocks_for (length bytes)) bytes

-- as many blocks as bytes make are all of them
pub blocks_done : (done : List (List ℕ)) (left bytes : List ℕ) → done ++ as_blocks left ≡ as_blocks bytes → blocks_for (length bytes) ≤ length done
    → done ≡ as_blocks bytes
blocks_done done left bytes is many =
    let total : length done + length (as_blocks left) ≡ blocks_for (length bytes) = sym (length-append done (as_blocks left)) ∙ ap length is ∙ length_blocks bytes in
    let none : as_blocks left ≡ [] = none_left (as_blocks left) (omega (arith, total, many)) in
    sym (append-nil done) ∙ ap (λ l. done ++ l) (sym none) ∙ is

-- those that are done, and those that are left
pub blocks_so_far : (done : List (List ℕ)) (left bytes : List ℕ) → done ++ as_blocks left ≡ as_blocks bytes
    → length done + blocks_for (length left) ≡ blocks_for (length bytes)
blocks_so_far done left bytes is =
    ap (λ n. length done + n) (sym (length_blocks left)) ∙ sym (length-append done (as_blocks left)) ∙ ap length is ∙ length_blocks bytes

-- one block more
pub spilled_more : (m : Maps) (b : ℕ) (blocks : List (List ℕ)) (block : List ℕ)
    → spilled_from m b (blocks ++ block ∷ []) ≡ spilled (spilled_from m b blocks) (b + length blocks) block
spilled_more m b [] block = rw add-zero refl
spilled_more m b (bytes ∷ blocks) block =
    let next : suc b + length blocks ≡ b + suc (length blocks) = omega arith in
    spilled_more (spilled m b bytes) (suc b) blocks block ∙ ap (λ k. spilled (spilled_from (spilled m b bytes) (suc b) blocks) k block) next

pub spilled_saved : (m : Maps) (b : ℕ) (blocks : List (List ℕ)) → (spilled_from m b blocks).saved ≡ m.saved
spilled_saved m b [] = refl
spilled_saved m b (bytes ∷ blocks) = spilled_saved (spilled m b bytes) (suc b) blocks

pub spilled_closed : (m : Maps) (b : ℕ) (blocks : List (List ℕ)) → (spilled_from m b blocks).closed ≡ m.closed
spilled_closed m b [] = refl
spilled_closed m b (bytes ∷ blocks) = spilled_closed (spilled m b bytes) (suc b) blocks

module _ {D : Type 0} {G : Ghosts D} where
  pub keeps_none : (only_now : (d : D) (c : Image) → G.left_since d (G.time d) c → MayLeave (G.disk d) c) (store : Store D G) → KeepsSaved store store
  keeps_none only_now store m stands live image left = stands.left (sym stands.closed ∙ live) image (only_now (device_of store) image left)

  -- a spill after others
  pub keeps_then : (old mid new : Store D G) (b : ℕ) (blocks : List (List ℕ)) → Continues old mid → Continues mid new
      → ((m : Maps) → StandsFor old m → StandsFor mid (spilled_from m b blocks)) → KeepsSaved old mid → KeepsSaved mid new → KeepsSaved old new
  keeps_then old mid new b blocks first then stands p q = λ m from live.
      leaves_then G.time G.left_since (device_of old) (device_of mid) (device_of new) (MeansBy old m.saved) (MeansBy mid m.saved) (MeansBy old m.saved)
      first.time then.time (p m from live)
      (subst (λ l. StopsLeave G (device_of mid) (device_of new) (MeansBy mid l)) (spilled_saved m b blocks) (q (spilled_from m b blocks) (stands m from) (spilled_closed m b blocks ∙ live)))
      (λ x means. means) (λ x means. subst (λ n. Means n m.saved x) first.sectors means)

  -- a commit after spills
  pub saves_then : (old mid new : Store D G) (b : ℕ) (blocks : List (List ℕ)) → Continues old mid → Continues mid new
      → ((m : Maps) → StandsFor old m → StandsFor mid (spilled_from m b blocks)) → KeepsSaved old mid → SavesAllOrNone mid new
      → (m : Maps) → StandsFor old m → m.closed ≡ false
      → StopsLeave G (device_of old) (device_of new) (λ image. MeansBy old m.saved image ⊎ MeansBy old (latest (spilled_from m b blocks)) image)
  saves_then old mid new b blocks first then stands p q m from live =
      let all = spilled_from m b blocks in
      leaves_then G.time G.left_since (device_of old) (device_of mid) (device_of new) (MeansBy old m.saved)
      (λ x. MeansBy mid m.saved x ⊎ MeansBy mid (latest all) x)
      (λ x. MeansBy old m.saved x ⊎ MeansBy old (latest all) x) first.time then.time (p m from live)
      (subst (λ l. StopsLeave G (device_of mid) (device_of new) (λ x. MeansBy mid l x ⊎ MeansBy mid (latest all) x)) (spilled_saved m b blocks)
      (q all (stands m from) (spilled_closed m b blocks ∙ live)))
      (λ x means. inl means) (λ x means. subst (λ n. Means n m.saved x ⊎ Means n (latest all) x) first.sectors means)

  -- a commit that fails after spills
  pub fails_then : (old mid new : Store D G) (fault : StoreFault) → closed_of mid ≡ closed_of old → G.failures (device_of mid) ≡ G.failures (device_of old)
      → (fault ≡ Closed → closed_of mid ≡ true) → (fault ≡ Device → DeviceFailed mid new) → (closed_of old ≡ true) ⊎ DeviceFailed old new
  fails_then old mid new Closed shuts well closed device = inl (sym shuts ∙ closed refl)
  fails_then old mid new Device shuts well closed device = inr (device refl ∙ ap count_up well)
