-- An image that was refused: what an opening of it may have left, and what is told.
use Rattle.std.proofs.Common.{◌≡◌, ◌≢◌, ◌⊎◌, ◌∙◌, ◌+◌, ◌≤◌, ℕ, Bool, true, false, Option, Some, IsTrue, ap, inl, inr, refl, subst, sym, arith}
use Rattle.std.specs.Prelude.{◌||◌, MatchBool, option_map}
use Rattle.sector_disk.specs.Disk.{Image, MayLeave}
use Rattle.sector_disk.specs.declared.device.SectorDevice.{Ghosts}
use Rattle.sector_disk.proofs.Moments.{elapses_refl}
use Rattle.journal.specs.Calls.{BeginsAtMost, ReadsAtMost, StopsLeave}
use Rattle.journal.specs.Suits.{suits}
use Rattle.recovery.specs.Label as older_label
use Rattle.recovery.specs.Opened.{RecoveryLeaves}
use Rattle.recovery.specs.declared.fault.OpenFault.{OpenFault}
use Rattle.recovery.specs.declared.fault.OpenFault.TheVariants as fault
use Rattle.shadow.specs.Label.{is_known_size}
use Rattle.shadow.specs.Label as newer_label
use Rattle.recovery.specs.Steps.{OnlyRead}
use Rattle.stores.specs.Opened.{OpeningLeaves, reads_for, syncs_for, writes_for}
use Rattle.sessions.specs.Devices.{Becomes}
use Rattle.terminal.specs.Done.{Recovers}
use Rattle.terminal.specs.Failures.{of_image}
use Rattle.terminal.specs.declared.failure.Failure.{Failure}
use Rattle.terminal.specs.declared.failure.Failure.TheVariants.{BadSize, Device}

-- a failure that is told as a bad size is one
pub bad_size_of : (e : OpenFault) → of_image e ≡ BadSize → e ≡ fault.BadSize
bad_size_of fault.BadSize is = refl
bad_size_of fault.NoLabel is = absurd cc
bad_size_of fault.OtherVersion is = absurd cc
bad_size_of fault.WrongCount is = absurd cc
bad_size_of fault.Damaged is = absurd cc
bad_size_of fault.Device is = absurd cc

-- and one that is told as a fault of the device
pub device_of : (e : OpenFault) → of_image e ≡ Device → e ≡ fault.Device
device_of fault.BadSize is = absurd cc
device_of fault.NoLabel is = absurd cc
device_of fault.OtherVersion is = absurd cc
device_of fault.WrongCount is = absurd cc
device_of fault.Damaged is = absurd cc
device_of fault.Device is = refl

pub told_image : (failure : Failure) (e : OpenFault) (refusal : Option OpenFault) → failure ≡ of_image e → (e ≡ fault.Device) ⊎ (refusal ≡ Some e)
    → (failure ≡ Device) ⊎ (Some failure ≡ option_map of_image refusal)
told_image failure e refusal is (inl device) = inl (is ∙ ap of_image device)
told_image failure e refusal is (inr told) = inr (ap (λ f. Some f) is ∙ sym (ap (λ r. option_map of_image r) told))

second_false : (a b : Bool) → (a || b) ≡ false → b ≡ false
second_false true b is = absurd cc
second_false false b is = is

-- of no known size is of none of layout 2
not_older : (sectors : ℕ) → is_known_size sectors ≡ false → older_label.is_size sectors ≡ false
not_older sectors isnt = second_false (newer_label.is_size sectors) (older_label.is_size sectors) isnt

module _ {D : Type 0} (G : Ghosts D) (only_now : (d : D) (c : Image) → G.left_since d (G.time d) c → MayLeave (G.disk d) c) where
  -- An opening that was refused is a recovery as far as it went: of no known size no call was made.
  pub refused_recovers : (device after : D) (e : OpenFault) → Becomes G device after → G.sector_count after ≡ G.sector_count device
      → MatchBool (is_known_size (G.sector_count device)) (e ≢ fault.BadSize) (e ≡ fault.BadSize) → (e ≡ fault.BadSize → after ≡ device)
      → (IsTrue (suits G device) → is_known_size (G.sector_count device) ≡ true
      → StopsLeave G device after (OpeningLeaves (G.sector_count device) (G.disk device)))
      → (IsTrue (suits G device) → is_known_size (G.sector_count device) ≡ true → BeginsAtMost G device after
      (writes_for (G.sector_count device) (G.disk device).content) (syncs_for (G.sector_count device) (G.disk device).content))
      → (IsTrue (suits G device) → is_known_size (G.sector_count device) ≡ true
      → ReadsAtMost G device after (reads_for (G.sector_count device) (G.disk device).content))
      → Recovers G device after
  refused_recovers device after e goes sectors sized unasked stops begins reads =
      go (is_known_size (G.sector_count device)) refl sized
    where
      go : (t : Bool) → is_known_size (G.sector_count device) ≡ t → MatchBool t (e ≢ fault.BadSize) (e ≡ fault.BadSize) → Recovers G device after
      go true known other = record {
        goes = goes;
        sectors = sectors;
        stops = λ keeps. stops keeps known;
        begins = λ keeps. begins keeps known;
        reads = λ keeps. reads keeps known;
      }
      go false unknown is =
          let same : after ≡ device = unasked is in
          record {
            goes = goes;
            sectors = sectors;
            stops = λ keeps image since. subst (λ (t : Bool). MatchBool t (RecoveryLeaves (older_label.blocks_in (G.sector_count device)) (G.disk device) image) (MayLeave (G.disk device) image)) (sym (not_older (G.sector_count device) unknown))
                (only_now device image (subst (λ (d : D). G.left_since d (G.time device) image) same since));
            begins = λ keeps. record {
              few_writes = subst (λ (d : D). (G.counts d).writes ≤ (G.counts device).writes + writes_for (G.sector_count device) (G.disk device).content) (sym same) (omega arith);
              few_syncs = subst (λ (d : D). (G.counts d).syncs ≤ (G.counts device).syncs + syncs_for (G.sector_count device) (G.disk device).content) (sym same) (omega arith);
            };
            reads = λ keeps. subst (λ (d : D). (G.counts d).reads ≤ (G.counts device).reads + reads_for (G.sector_count device) (G.disk device).content) (sym same) (omega arith);
          }

  -- A device of which no call was made was only read.
  pub unread : (device : D) → OnlyRead G device device
  unread device = record {
    disk = λ keeps. refl;
    stops = λ keeps image since. only_now device image since;
    passes = record {
      sectors = refl;
      model = refl;
      units = refl;
      unit = λ keeps. refl;
      time = elapses_refl G.time G.left_since device;
      failures = omega arith;
    };
    begins = record { few_writes = omega arith; few_syncs = omega arith };
  }
