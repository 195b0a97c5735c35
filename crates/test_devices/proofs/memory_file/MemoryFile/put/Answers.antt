use Rattle.std.proofs.Common.{◌≡◌, ◌⊎◌, inl, inr, ⊎_elim, ℕ, true, refl, sym, ◌∙◌, ap, subst, arith, rules}
use Rattle.std.proofs.lemmas.Grind.{common_steps}
use Rattle.std.proofs.lemmas.List.{places}
use Rattle.sector_disk.specs.FileBytes.{FileBytes, Misses, SameSector, Spoils}
use Rattle.test_devices.proofs.memory_file.MemoryFile.put.Goals as goal

-- where a sector is a unit of its own
by_own : (at n : ℕ) (f g : FileBytes) → ((k : ℕ) → f.unit k ≡ k) → g.synced ≡ f.synced → g.unit ≡ f.unit
    → ((k : ℕ) → SameSector k f g ⊎ (g.unsynced k ≡ true)) → ((k : ℕ) → Misses at n k → SameSector k f g) → Spoils at n f g
by_own at n f g own synced unit touched missed = record {
  synced = synced;
  unit = unit;
  touched = λ k.
      ⊎_elim
      (λ same. inl (λ j is. subst (λ i. SameSector i f g) (sym (one j k is)) same))
      (λ marked. inr (λ j is. ap g.unsynced (one j k is) ∙ marked))
      (touched k);
  missed = λ k out. (missed k out).bytes;
  apart = λ k out. (missed k (out k refl)).unsynced;
}
  where
    one : (j k : ℕ) → f.unit j ≡ f.unit k → j ≡ k
    one j k is = sym (own j) ∙ is ∙ own k

pub returns-then-n-gt0-clause-spoils : goal.returns-then-n-gt0-clause-spoils
returns-then-n-gt0-clause-spoils c = by_own _ _ _ _ (λ k. refl) refl refl (λ k. search rules) (λ k out. record {
  bytes = λ i below. ⊎_elim (λ low. grind (arith, common_steps, places)) (λ high. grind (arith, common_steps, places)) out;
  unsynced = ⊎_elim (λ low. grind (arith, common_steps, places)) (λ high. grind (arith, common_steps, places)) out;
})
