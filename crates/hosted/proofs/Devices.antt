-- What a call makes of a device, of what its parts make of it.
use Rattle.std.proofs.Common.{◌≡◌, ◌≢◌, ℕ, ◌≤◌, Bool, true, false, IsTrue, refl, sym, subst, inl, ◌∙◌, arith}
use Rattle.std.specs.Prelude.{MatchBool}
use Rattle.sector_disk.specs.Disk.{Image, MayLeave}
use Rattle.sector_disk.specs.declared.device.SectorDevice.{Ghosts}
use Rattle.sector_disk.proofs.Moments.{elapses_refl, elapses_then}
use Rattle.journal.specs.Calls.{StopsLeave}
use Rattle.recovery.specs.Label as older
use Rattle.recovery.specs.Opened.{RecoveryLeaves}
use Rattle.recovery.specs.declared.fault.OpenFault.{OpenFault}
use Rattle.recovery.specs.declared.fault.OpenFault.TheVariants.{BadSize}
use Rattle.shadow.specs.Label.{is_known_size}
use Rattle.journal.specs.Suits.{suits}
use Rattle.journal.proofs.Suited.{newer_suits, older_suits}
use Rattle.sessions.specs.Devices.{Becomes}
use Rattle.hosted.specs.Calls.{MayRecover}

module _ {D : Type 0} (G : Ghosts D) where
  abbrev pub Widens : Type 0
  Widens = (d : D) (s t : ℕ) (c : Image) → s ≤ t → G.left_since d t c → G.left_since d s c

  pub becomes_same : (d : D) → Becomes G d d
  becomes_same d = record { model = refl; sectors = λ keeps. refl; time = elapses_refl G.time G.left_since d; failures = omega arith }

  pub becomes_then : (a b d : D) → Widens → Becomes G a b → Becomes G b d → Becomes G a d
  becomes_then a b d widens one two = record {
    model = two.model ∙ one.model;
    sectors = λ keeps. two.sectors (subst IsTrue (sym one.model) keeps) ∙ one.sectors keeps;
    time = elapses_then G.time G.left_since a b d (widens d) one.time two.time;
    failures = omega (arith, one.failures, two.failures);
  }

  -- a device that wasn't called
  pub untouched : (d : D) → ((c : Image) → G.left_since d (G.time d) c → MayLeave (G.disk d) c) → StopsLeave G d d (MayRecover G d)
  untouched d only_now c since = by_layout (older.is_size (G.sector_count d))
    where
      by_layout : (b : Bool) → MatchBool b (RecoveryLeaves (older.blocks_in (G.sector_count d)) (G.disk d) c) (MayLeave (G.disk d) c)
      by_layout true = record { from = c; may = only_now c since; follows = inl (λ k. refl) }
      by_layout false = only_now c since

  -- A refusal to open: of a size that no image has, before the device is called, or after an opening was begun.
  pub refused_leaves : (old new : D) (fault : OpenFault)
      → MatchBool (is_known_size (G.sector_count old)) (fault ≢ BadSize) (fault ≡ BadSize)
      → (fault ≡ BadSize → new ≡ old)
      → (is_known_size (G.sector_count old) ≡ true → StopsLeave G old new (MayRecover G old))
      → ((c : Image) → G.left_since old (G.time old) c → MayLeave (G.disk old) c)
      → StopsLeave G old new (MayRecover G old)
  refused_leaves old new fault which same stops only_now = by_size (is_known_size (G.sector_count old)) refl which
    where
      by_size : (b : Bool) → is_known_size (G.sector_count old) ≡ b → MatchBool b (fault ≢ BadSize) (fault ≡ BadSize)
          → StopsLeave G old new (MayRecover G old)
      by_size true is other = stops is
      by_size false is bad = subst (λ d. StopsLeave G old d (MayRecover G old)) (sym (same bad)) (untouched old only_now)
