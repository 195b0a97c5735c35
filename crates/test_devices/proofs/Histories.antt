-- One more moment of a recorded disk.
use Rattle.std.proofs.Common.{◌≡◌, ◌⊎◌, ℕ, ◌≤◌, List, [], ◌∷◌, ◌++◌, length, drop, inl, inr, ⊎_elim, arith, sym, ap, subst, length-append}
use Rattle.std.proofs.lemmas.List.{drop-append-le}
use Rattle.sector_disk.specs.Disk.{Image, Disk, MayLeave}
use Rattle.sector_disk.specs.MemoryDisk.{held}
use Rattle.sector_disk.specs.Moments.{Elapses}
use Rattle.test_devices.specs.Recorded.{SomeLeaves, LeftSince, AddsMoment}
use Rattle.test_devices.specs.Laws.{now_alone}
use Rattle.sector_disk.specs.declared.memory_disk.MemoryDisk.{MemoryDisk}
use Rattle.test_devices.specs.declared.recorded.Recorded.{Recorded}

in_either : (xs ys : List MemoryDisk) (c : Image) → SomeLeaves (xs ++ ys) c → SomeLeaves xs c ⊎ SomeLeaves ys c
in_either [] ys c some = inr some
in_either (x ∷ xs) ys c (inl may) = inl (inl may)
in_either (x ∷ xs) ys c (inr some) = ⊎_elim (λ left. inl (inr left)) (λ right. inr right) (in_either xs ys c some)

in_front : (xs ys : List MemoryDisk) (c : Image) → SomeLeaves xs c → SomeLeaves (xs ++ ys) c
in_front [] ys c some = absurd some
in_front (x ∷ xs) ys c (inl may) = inl may
in_front (x ∷ xs) ys c (inr some) = inr (in_front xs ys c some)

at_end : (xs ys : List MemoryDisk) (c : Image) → SomeLeaves ys c → SomeLeaves (xs ++ ys) c
at_end [] ys c some = some
at_end (x ∷ xs) ys c some = inr (at_end xs ys c some)

module _ (past : List MemoryDisk) (now : Disk) (copy : MemoryDisk) (same : held copy ≡ now) where
  -- what counts with one more moment counted before, or at that moment
  some_before : (t : ℕ) (c : Image) → t ≤ length past → SomeLeaves (drop t (past ++ copy ∷ [])) c → LeftSince past now t c
  some_before t c le some =
      let parts : SomeLeaves (drop t past ++ copy ∷ []) c = subst (λ xs. SomeLeaves xs c) (drop-append-le t past (copy ∷ []) le) some in
      ⊎_elim (λ left. inl left) (λ last. ⊎_elim (λ may. inr (subst (λ disk. MayLeave disk c) same may)) (λ none. absurd none) last) (in_either (drop t past) (copy ∷ []) c parts)

  -- and what counted before still counts
  some_still : (s : ℕ) (c : Image) → s ≤ length past → LeftSince past now s c → SomeLeaves (drop s (past ++ copy ∷ [])) c
  some_still s c le since =
      let back : drop s past ++ copy ∷ [] ≡ drop s (past ++ copy ∷ []) = sym (drop-append-le s past (copy ∷ []) le) in
      subst (λ xs. SomeLeaves xs c) back
      (⊎_elim (λ left. in_front (drop s past) (copy ∷ []) c left) (λ may. at_end (drop s past) (copy ∷ []) c (inl (subst (λ disk. MayLeave disk c) (sym same) may))) since)

-- a call that added a moment is a passage of time
pub goes_on : (old new : Recorded) → AddsMoment old.past.items (held old.device) new.past.items
    → Elapses (λ d. length d.past.items) (λ d. LeftSince d.past.items (held d.device)) old new
goes_on old new adds = record {
  later = omega (arith, ap length adds.after, length-append old.past.items (adds.copy ∷ []));
  only = λ t c le since.
      ⊎_elim
      (λ some. inl (some_before old.past.items (held old.device) adds.copy adds.same t c le (subst (λ xs. SomeLeaves (drop t xs) c) adds.after some)))
      (λ may. inr (inr may))
      since;
  still = λ t s c le below since was.
      inl (subst (λ xs. SomeLeaves (drop s xs) c) (sym adds.after) (some_still old.past.items (held old.device) adds.copy adds.same s c below was));
}

-- since the call began, a stop might have left what one before it or after it may leave
pub in_call : (old : Recorded) (past : List MemoryDisk) (next : Disk) → AddsMoment old.past.items (held old.device) past
    → (c : Image) → LeftSince past next (length old.past.items) c → MayLeave (held old.device) c ⊎ MayLeave next c
in_call old past next adds c since =
    ⊎_elim
    (λ some. inl (now_alone old.past.items (held old.device) c
    (some_before old.past.items (held old.device) adds.copy adds.same (length old.past.items) c (omega arith) (subst (λ xs. SomeLeaves (drop (length old.past.items) xs) c) adds.after some))))
    (λ may. inr may)
    since
