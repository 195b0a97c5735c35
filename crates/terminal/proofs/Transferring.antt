-- Blocks that are exported one after another.
use Rattle.std.proofs.Common.{◌≡◌, ◌∙◌, ◌+◌, ◌-◌, ◌≤◌, ℕ, zero, suc, List, [], ◌∷◌, ◌++◌, Option, map, take, drop, refl, sym, ap, subst, arith, append-nil, append_assoc, add-zero}
use Rattle.std.proofs.lemmas.Grind.{common_steps}
use Rattle.std.specs.Io.KnownBytes.{Appends}
use Rattle.std.proofs.KnownBytes.{Appends-trans}
use Rattle.sector_disk.specs.Disk.{Image, MayLeave}
use Rattle.sector_disk.specs.declared.device.SectorDevice.{Ghosts}
use Rattle.sector_disk.proofs.Moments.{elapses_refl, leaves_then}
use Rattle.journal.specs.declared.store.Store.{Store}
use Rattle.journal.specs.BySize.{Means}
use Rattle.journal.specs.Store.{MeansBy, device_of}
use Rattle.journal.specs.Maps.{Maps, contents}
use Rattle.block_words.proofs.Saves.{continues_then}
use Rattle.command_line.specs.declared.orders.Form.{Form}
use Rattle.terminal.specs.Screen.{shown}
use Rattle.terminal.specs.Transfer.{ReadsStore, exported, exported_text, exports, unpadded}

-- one row more is exported
pub exported_step : (n m : ℕ) (lines new bytes : List ℕ) → m ≡ suc n → new ≡ lines ++ map shown (unpadded (take 64 bytes)) ++ 10 ∷ []
    → new ++ exported_text n (drop 64 bytes) ≡ lines ++ exported_text m bytes
exported_step n m lines new bytes is e = rw (is, e) (search (common_steps))

-- one block more is exported
pub exports_more : (form : Form) (m : Maps) (b n : ℕ) → exports form m b (suc n) ≡ exports form m b n ++ exported form (contents m (b + n))
exports_more form m b zero = rw add-zero (append-nil (exported form (contents m b)))
exports_more form m b (suc n) =
    let next : suc b + n ≡ b + suc n = omega arith in
    ap (λ l. exported form (contents m b) ++ l) (exports_more form m (suc b) n)
    ∙ sym (append_assoc (exported form (contents m b)) (exports form m (suc b) n) (exported form (contents m (suc b + n))))
    ∙ ap (λ k. exports form m b (suc n) ++ exported form (contents m k)) next

-- the blocks up to a block, and this one
pub exported_more : (form : Form) (m : Maps) (first b : ℕ) (a c d : Option (List ℕ)) → first ≤ b → Appends a c (exports form m first (b - first))
    → Appends c d (exported form (contents m b)) → Appends a d (exports form m first (b + 1 - first))
exported_more form m first b a c d le before this =
    let count : b + 1 - first ≡ suc (b - first) = omega (arith, le) in
    let place : first + (b - first) ≡ b = omega (arith, le) in
    subst (λ l. Appends a d l)
    (sym (ap (exports form m first) count ∙ exports_more form m first (b - first)
    ∙ ap (λ k. exports form m first (b - first) ++ exported form (contents m k)) place))
    (Appends-trans a c d (exports form m first (b - first)) (exported form (contents m b)) before this)

module _ {D : Type 0} {G : Ghosts D} where
  -- no call reads nothing
  pub reads_none : (only_now : (d : D) (c : Image) → G.left_since d (G.time d) c → MayLeave (G.disk d) c) (store : Store D G) → ReadsStore store store 0
  reads_none only_now store = record {
    state = λ m stands. stands;
    shuts = refl;
    stops = λ m stands live image left. stands.left (sym stands.closed ∙ live) image (only_now (device_of store) image left);
    continues = record { blocks = refl; sectors = refl; model = refl; time = elapses_refl G.time G.left_since (device_of store); failures = omega arith };
    begins = record { few_writes = omega arith; few_syncs = omega arith };
    reads = omega arith;
  }

  -- two readings, one after the other
  pub reads_then : (a b d : Store D G) (x y z : ℕ) → ((s t : ℕ) (c : Image) → s ≤ t → G.left_since (device_of d) t c → G.left_since (device_of d) s c)
      → ReadsStore a b x → ReadsStore b d y → x + y ≤ z → ReadsStore a d z
  reads_then a b d x y z widens first then few = record {
    state = λ m stands. then.state m (first.state m stands);
    shuts = then.shuts ∙ first.shuts;
    stops = λ m stands live. leaves_then G.time G.left_since (device_of a) (device_of b) (device_of d) (MeansBy a m.saved) (MeansBy b m.saved) (MeansBy a m.saved)
        first.continues.time then.continues.time (first.stops m stands live) (then.stops m (first.state m stands) live)
        (λ c is. is) (λ c is. subst (λ n. Means n m.saved c) first.continues.sectors is);
    continues = continues_then a b d widens first.continues then.continues;
    begins = record {
      few_writes = omega (arith, first.begins.few_writes, then.begins.few_writes);
      few_syncs = omega (arith, first.begins.few_syncs, then.begins.few_syncs);
    };
    reads = omega (arith, first.reads, then.reads, few);
  }
