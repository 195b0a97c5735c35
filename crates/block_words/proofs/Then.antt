-- One call after another.
use Rattle.std.proofs.Common.{◌≡◌, ℕ, ◌≤◌, Bool, true, false, List, [], ◌∷◌, ◌++◌, Result, Ok, refl, sym, ◌∙◌, ap, subst, ⊎_elim, arith, append_assoc}
use Rattle.std.proofs.lemmas.List.{append-nil}
use Rattle.sector_disk.specs.Disk.{Image, MayLeave}
use Rattle.sector_disk.specs.Moments.{Elapses}
use Rattle.sector_disk.specs.declared.device.SectorDevice.{Ghosts}
use Rattle.journal.specs.declared.store.Store.{Store}
use Rattle.journal.specs.BySize.{Means}
use Rattle.journal.specs.Maps.{Maps}
use Rattle.journal.specs.Store.{Continues, device_of}
use Rattle.block_buffers.specs.Buffers.{Buffers}
use Rattle.block_words.specs.declared.buffered_blocks.BlockFault.{BlockFault}
use Rattle.block_words.specs.Words.{Save, Wear, add_wear, Blocks, BlockOutcome}
use Rattle.block_words.specs.Kept.{KeptFrom, last_map}
use Rattle.block_words.specs.Calls.{state, ended, failures_after, and_then, WordRuns, CallKeeps, CallLeaves, CallRuns}
use Rattle.block_words.proofs.Worn.{wear_assoc, wears_then}
use Rattle.block_words.proofs.KeptOn.{kept_open, kept_closed}

last_append : (map : List (List ℕ)) (made more : List Save) → last_map map (made ++ more) ≡ last_map (last_map map made) more
last_append map [] more = refl
last_append map (s ∷ made) more = last_append s.map made more

pub words_then : {A B : Type 0} (w : Blocks → BlockOutcome A) (v : A) (next : A → Blocks → BlockOutcome B) (r : Result B BlockFault) (wear later : Wear) (made more : List Save)
    (m m' m'' : Maps) (b b' b'' : Buffers) (sp sp' sp'' : List ℕ)
    → WordRuns w (Ok v) wear made m m' b b' sp sp' → WordRuns (next v) r later more m' m'' b' b'' sp' sp'' → WordRuns (λ s. and_then (w s) next) r (add_wear wear later) (made ++ more) m m'' b b'' sp sp''
words_then w v next r wear later made more m m' m'' b b' b'' sp sp' sp'' first then = record {
  answers = first.answers ++ then.answers;
  same = λ rest f was sv.
      ap (λ a. and_then (w (state m b sp a f was sv)) next) (append_assoc first.answers then.answers rest)
      ∙ ap (λ o. and_then o next) (first.same (then.answers ++ rest) f was sv)
      ∙ then.same rest f (add_wear was wear) (sv ++ made)
      ∙ (λ t. ended r (state m'' b'' sp'' rest (failures_after r f) (wear_assoc was wear later t) (append_assoc sv made more t)));
}

module _ {D : Type 0} (G : Ghosts D) (counts_now : (d : D) (t : ℕ) (c : Image) → t ≤ G.time d → MayLeave (G.disk d) c → G.left_since d t c)
    (widens : (d : D) (s t : ℕ) (c : Image) → s ≤ t → G.left_since d t c → G.left_since d s c)
    (only_now : (d : D) (c : Image) → G.left_since d (G.time d) c → MayLeave (G.disk d) c) where
  abbrev MeansOn : D → Image → List (List ℕ) → Type 0
  MeansOn d image map = Means (G.sector_count d) map image

  leaves_both : (x y : Bool) (old mid new : D) (map saved : List (List ℕ)) (made more : List Save)
      → Elapses G.time G.left_since old mid → Elapses G.time G.left_since mid new
      → (x ≡ true → y ≡ true) → (y ≡ false → saved ≡ last_map map made) → (y ≡ true → more ≡ []) → G.sector_count mid ≡ G.sector_count old
      → CallLeaves G x old mid map made → CallLeaves G y mid new saved more → CallLeaves G x old new map (made ++ more)
  leaves_both false false old mid new map saved made more first then shuts last none same p q =
      kept_open (MeansOn old) (G.left_since mid) (G.left_since new) (G.time mid) (G.time new) then.later then.only map made more (G.time old) first.later p
      (subst (λ l. KeptFrom (MeansOn old) (G.left_since new) (G.time new) l more (G.time mid)) (last refl)
      (subst (λ n. KeptFrom (λ image map. Means n map image) (G.left_since new) (G.time new) saved more (G.time mid)) same q))
  leaves_both false true old mid new map saved made more first then shuts last none same p q =
      subst (λ l. KeptFrom (MeansOn old) (G.left_since new) (G.time new) map l (G.time old)) (sym (append-nil made) ∙ ap (λ l. made ++ l) (sym (none refl)))
      (kept_closed (MeansOn old) (G.left_since mid) (G.left_since new) (G.time mid) (G.time new) then.later then.only
      (λ c since. counts_now mid (G.time mid) c (omega arith) (q c since)) (λ t c le since. widens mid t (G.time mid) c le since) map made (G.time old) first.later p)
  leaves_both true true old mid new map saved made more first then shuts last none same p q =
      λ c since. ⊎_elim (λ before. p c before) (λ now. p c (counts_now mid (G.time old) c first.later (q c now))) (then.only (G.time old) c first.later since)
  leaves_both true false old mid new map saved made more first then shuts last none same p q = absurd (let no : false ≡ true = shuts refl in cc)

  pub keeps_then : (x y : Bool) (old mid new : D) (map saved : List (List ℕ)) (made more : List Save)
      → Elapses G.time G.left_since old mid → Elapses G.time G.left_since mid new
      → (x ≡ true → y ≡ true) → (y ≡ false → saved ≡ last_map map made) → (y ≡ true → more ≡ [])
      → CallKeeps G x old mid map made → CallKeeps G y mid new saved more → CallKeeps G x old new map (made ++ more)
  keeps_then x y old mid new map saved made more first then shuts last none p q = record {
    sectors = q.sectors ∙ p.sectors;
    leaves = leaves_both x y old mid new map saved made more first then shuts last none p.sectors p.leaves q.leaves;
  }

  -- Two calls, the second on what the first left, are one call of the two words.
  pub calls_then : {A B : Type 0} (w : Blocks → BlockOutcome A) (v : A) (next : A → Blocks → BlockOutcome B) (r : Result B BlockFault) (made more : List Save) (m : Maps)
      (old mid new : Store D G) (b b' b'' : Buffers) (sp sp' sp'' : List ℕ)
      → Continues old mid → Continues mid new
      → (first : CallRuns G w (Ok v) made m old mid b b' sp sp')
      → (first.maps.closed ≡ true → more ≡ [])
      → CallRuns G (next v) r more first.maps mid new b' b'' sp' sp''
      → CallRuns G (λ s. and_then (w s) next) r (made ++ more) m old new b b'' sp sp''
  calls_then w v next r made more m old mid new b b' b'' sp sp' sp'' on on_then first none then = record {
    maps = then.maps;
    wear = add_wear first.wear then.wear;
    runs = words_then w v next r first.wear then.wear made more m first.maps then.maps b b' b'' sp sp' sp'' first.runs then.runs;
    stands = then.stands;
    kept = keeps_then m.closed first.maps.closed (device_of old) (device_of mid) (device_of new) m.saved first.maps.saved made more on.time on_then.time first.shuts first.last none
        first.kept then.kept;
    wears = wears_then G (device_of old) (device_of mid) (device_of new) first.wear then.wear first.wears then.wears;
    shuts = λ h. then.shuts (first.shuts h);
    last = λ h. then.last h ∙ after first.maps.closed refl h;
  }
    where
      after : (t : Bool) → first.maps.closed ≡ t → then.maps.closed ≡ false → last_map first.maps.saved more ≡ last_map m.saved (made ++ more)
      after true is h = absurd (let no : true ≡ false = sym (then.shuts is) ∙ h in cc)
      after false is h = ap (λ l. last_map l more) (first.last is) ∙ sym (last_append m.saved made more)
