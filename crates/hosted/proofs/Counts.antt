-- How many calls a save begins: spills, and then a commit of what is pending.
use Rattle.std.proofs.Common.{◌≡◌, ◌≤◌, ◌<◌, ◌+◌, ◌*◌, ℕ, zero, suc, Bool, true, false, cond, refl, sym, ◌∙◌, ap, subst, arith}
use Rattle.std.specs.Prelude.{◌||◌, ◌==◌}
use Rattle.std.proofs.lemmas.Bool.{eqb-true}
use Rattle.sector_disk.specs.declared.device.SectorDevice.{Ghosts}
use Rattle.journal.specs.Layout.{count_below}
use Rattle.recovery.specs.Label.{is_size}
use Rattle.journal.specs.declared.store.Store.{Store}
use Rattle.journal.specs.Costs.{each_reads, each_writes, more_writes, save_syncs, spill_reads, spill_writes}
use Rattle.journal.specs.Store.{Continues, DeviceBegins, DeviceReads, by_older, device_of, pending_count}
use Rattle.block_words.specs.Calls.{WearsAtMost, reads_of, writes_of}
use Rattle.block_words.specs.Words.{Wear}
use Rattle.hosted.specs.Costs.{Begins, OpeningBegins, SavesAtMost, SavingBegins, SessionBegins, reads_to_save, syncs_to_save, writes_to_save}

apart : (n b : ℕ) → n < b → (n == b) ≡ false
apart n b less = pick (n == b) refl
  where
    pick : (t : Bool) → (n == b) ≡ t → t ≡ false
    pick true is = absurd (let same : n ≡ b = eqb-true n b is in omega (arith, less, same))
    pick false is = refl

count_same : (p q : ℕ → Bool) (b n : ℕ) → n ≤ b → ((a : ℕ) → q a ≡ ((a == b) || p a)) → count_below q n ≡ count_below p n
count_same p q b zero le is = refl
count_same p q b (suc n) le is =
    let here : q n ≡ p n = is n ∙ ap (λ t. t || p n) (apart n b (omega (arith, le))) in
    ap (λ t. cond t (count_below q n + 1) (count_below q n)) here
    ∙ ap (λ k. cond (p n) (k + 1) k) (count_same p q b n (omega (arith, le)) is)

one : (s t : Bool) (x y : ℕ) → x ≡ y → cond s (x + 1) x ≤ cond t (y + 1) y + 1
one true true x y same = omega (arith, same)
one true false x y same = omega (arith, same)
one false true x y same = omega (arith, same)
one false false x y same = omega (arith, same)

both : (t : Bool) (x y : ℕ) → x ≤ y + 1 → cond t (x + 1) x ≤ cond t (y + 1) y + 1
both true x y le = omega (arith, le)
both false x y le = le

-- where one number more passes a test
pub count_one : (p q : ℕ → Bool) (b n : ℕ) → ((a : ℕ) → q a ≡ ((a == b) || p a)) → count_below q n ≤ count_below p n + 1
count_one p q b zero is = omega arith
count_one p q b (suc n) is = pick (n == b) refl (is n) (count_one p q b n is)
  where
    pick : (t : Bool) → (n == b) ≡ t → q n ≡ (t || p n) → count_below q n ≤ count_below p n + 1
        → cond (q n) (count_below q n + 1) (count_below q n) ≤ cond (p n) (count_below p n + 1) (count_below p n) + 1
    pick true at now few = one (q n) (p n) (count_below q n) (count_below p n) (count_same p q b n (let same : n ≡ b = eqb-true n b at in omega (arith, same)) is)
    pick false at now few =
        subst (λ t. cond t (count_below q n + 1) (count_below q n) ≤ cond (p n) (count_below p n + 1) (count_below p n) + 1) (sym now)
        (both (p n) (count_below q n) (count_below p n) few)

-- and where none does
pub count_none : (p : ℕ → Bool) (n : ℕ) → ((b : ℕ) → p b ≡ false) → count_below p n ≡ 0
count_none p zero none = refl
count_none p (suc n) none = ap (λ t. cond t (count_below p n + 1) (count_below p n)) (none n) ∙ count_none p n none

-- spills, and then a commit
module _ {D : Type 0} (G : Ghosts D) (old mid new : Store D G) (count : ℕ) (on : Continues old mid) (few : pending_count mid ≤ count) where
  pub saves_at_most : DeviceBegins old mid (spill_writes (by_older old) * count) 0 → DeviceReads old mid (spill_reads (by_older old) * count)
      → DeviceBegins mid new (each_writes (by_older mid) * pending_count mid + more_writes (by_older mid)) (save_syncs (by_older mid))
      → DeviceReads mid new (each_reads (by_older mid) * pending_count mid)
      → SavesAtMost G (device_of old) (device_of new) count
  saves_at_most first first_reads then then_reads =
      by (by_older old) first first_reads
      (subst (λ t. DeviceBegins mid new (each_writes t * pending_count mid + more_writes t) (save_syncs t)) (ap is_size on.sectors) then)
      (subst (λ t. DeviceReads mid new (each_reads t * pending_count mid)) (ap is_size on.sectors) then_reads)
    where
      by : (t : Bool) → DeviceBegins old mid (spill_writes t * count) 0 → DeviceReads old mid (spill_reads t * count)
          → DeviceBegins mid new (each_writes t * pending_count mid + more_writes t) (save_syncs t)
          → DeviceReads mid new (each_reads t * pending_count mid)
          → Begins G (device_of old) (device_of new) (spill_writes t * count + (each_writes t * count + more_writes t)) (save_syncs t)
          (spill_reads t * count + each_reads t * count)
      by true spills before begins reads = record {
        begins = record { few_writes = omega (arith, spills.few_writes, begins.few_writes, few); few_syncs = omega (arith, spills.few_syncs, begins.few_syncs) };
        reading = omega (arith, before, reads, few);
      }
      by false spills before begins reads = record {
        begins = record { few_writes = omega (arith, spills.few_writes, begins.few_writes, few); few_syncs = omega (arith, spills.few_syncs, begins.few_syncs) };
        reading = omega (arith, before, reads, few);
      }

-- an opening, and then a save
module _ {D : Type 0} (G : Ghosts D) where
  sum_of : (a b d : D) (w s r x y z : ℕ) → Begins G a b (w + 0) (s + 0) (r + 0) → Begins G b d x y z → Begins G a d (w + x) (s + y) (r + z)
  sum_of a b d w s r x y z one two = record {
    begins = record {
      few_writes = omega (arith, one.begins.few_writes, two.begins.few_writes);
      few_syncs = omega (arith, one.begins.few_syncs, two.begins.few_syncs);
    };
    reading = omega (arith, one.reading, two.reading);
  }

  pub saving_begins : (a b d : D) (count : ℕ) → G.sector_count b ≡ G.sector_count a → OpeningBegins G a b → SavesAtMost G b d count → SavingBegins G a d count
  saving_begins a b d count same one two =
      let n = G.sector_count a in
      sum_of a b d _ _ _ (writes_to_save n count) (syncs_to_save n) (reads_to_save n count) one
      (subst (λ m. Begins G b d (writes_to_save m count) (syncs_to_save m) (reads_to_save m count)) same two)

  -- and the block words of a session
  pub session_begins : (a b d : D) (wear : Wear) → G.sector_count b ≡ G.sector_count a → OpeningBegins G a b → WearsAtMost G b d wear → SessionBegins G a d wear
  session_begins a b d wear same one two =
      let older = is_size (G.sector_count a) in
      sum_of a b d _ _ _ (writes_of older wear) (save_syncs older * wear.commits) (reads_of older wear) one
      (subst (λ n. Begins G b d (writes_of (is_size n) wear) (save_syncs (is_size n) * wear.commits) (reads_of (is_size n) wear)) same
      (record { begins = two.begins; reading = two.reads }))
