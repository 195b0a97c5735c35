-- Blocks that are printed from where they stand, after a call of the device failed.
use Rattle.std.proofs.Common.{◌≡◌, ◌≢◌, ◌⊎◌, ◌∙◌, ⊎_elim, ℕ, ◌+◌, ◌-◌, ◌*◌, ◌<◌, ◌≤◌, ◌&&◌, Bool, true, false, List, Option, None, Some, Result, Ok, Err, IsTrue, ap, arith, inl, inr, refl, subst, sym}
use Rattle.std.proofs.lemmas.Bool.{cases_eq, le-ltb}
use Rattle.std.specs.Prelude.{nat_le, nat_lt, IfErr, MatchBool, MatchResult, OnOk}
use Rattle.std.specs.Io.KnownBytes.{Appends}
use Rattle.sector_disk.specs.Counting.{count_up}
use Rattle.sector_disk.specs.Disk.{Disk, Image}
use Rattle.sector_disk.specs.declared.device.SectorDevice.{Ghosts}
use Rattle.journal.specs.Calls.{ReadsAtMost}
use Rattle.journal.specs.Maps.{block_in, contents, fresh}
use Rattle.recovery.specs.Steps.{OnlyRead}
use Rattle.recovery.specs.declared.fault.OpenFault.{OpenFault}
use Rattle.recovery.specs.declared.fault.OpenFault.TheVariants as by
use Rattle.shadow.specs.Label.{blocks_in, is_size}
use Rattle.stores.specs.Images.{meaning}
use Rattle.stores.specs.Opened.{image_refusal}
use Rattle.image_care.specs.Standing.{stands_whole}
use Rattle.command_line.specs.declared.orders.Form.{Form}
use Rattle.terminal.specs.Care.{IsShown}
use Rattle.terminal.specs.Done.{maps_on, meant_by}
use Rattle.terminal.specs.Failed.{CallFailed, FailsToPrint, FoundFails, IsUnprinted, ListShowingFails, NotHad, NotHadOf, NotStanding, ReadingFails, RefusesImage, ShowingFails, StandingFails}
use Rattle.terminal.specs.Screen.{listing}
use Rattle.terminal.specs.Shown.{block_refusal}
use Rattle.terminal.specs.Standing.{AllStand, ExportsStanding, OneIsDamaged, ShowsStanding, has_pages}
use Rattle.terminal.specs.Transfer.{exports}
use Rattle.terminal.specs.declared.failure.Failure.{Failure}
use Rattle.terminal.specs.declared.failure.Failure.TheVariants.{CannotWrite, Device}
use Rattle.terminal.proofs.BlockShown.{contents_meant}

-- ---- which blocks are there

pub no_such_size : (first last sectors : ℕ) → is_size sectors ≡ false → has_pages first last sectors ≡ false
no_such_size first last sectors isnt = ap (λ t. t && (nat_le first last && nat_lt last (blocks_in sectors))) isnt

and_false : (t : Bool) → (t && false) ≡ false
and_false true = refl
and_false false = refl

-- Where those of so many blocks aren't there, those of the image aren't.
pub no_such_blocks : (first last blocks sectors : ℕ) → blocks_in sectors ≡ blocks → (nat_le first last && nat_lt last blocks) ≡ false
    → has_pages first last sectors ≡ false
no_such_blocks first last blocks sectors count none =
    ap (λ n. is_size sectors && (nat_le first last && nat_lt last n)) count ∙ ap (λ t. is_size sectors && t) none ∙ and_false (is_size sectors)

pub no_such_block : (b sectors : ℕ) → blocks_in sectors ≤ b → has_pages b b sectors ≡ false
no_such_block b sectors above =
    ap (λ t. is_size sectors && (nat_le b b && t)) (le-ltb b (blocks_in sectors) above)
    ∙ ap (λ t. is_size sectors && t) (and_false (nat_le b b)) ∙ and_false (is_size sectors)

-- One block more stands.
pub one_more : (image : Image) (first block : ℕ) → AllStand first block image → stands_whole image block ≡ true → AllStand first (block + 1) image
one_more image first block before here b from below = elim (cases_eq b block) [
  | inl is ↦ ap (stands_whole image) is ∙ here
  | inr other ↦ before b from (omega arith)
]

-- ---- which failures these are

-- What holds where all went well, of two things that do.
pub ok_both : {T E : Type 0} (r : Result T E) {P Q R : Type 0} → (P → Q → R) → OnOk r P → OnOk r Q → OnOk r R
ok_both (Ok t) f p q = f p q
ok_both (Err e) f p q = tt

module _ {D : Type 0} (G : Ghosts D) where
  -- Maps of a device that was only read are those that they were.
  pub same_maps : (device now : D) → G.sector_count now ≡ G.sector_count device → G.disk now ≡ G.disk device → maps_on G now ≡ maps_on G device
  same_maps device now sectors disk =
      ap (λ (d : Disk). fresh (meaning (G.sector_count now) d.content)) disk
      ∙ ap (λ n. fresh (meaning n (G.disk device).content)) sectors

  -- ---- what was printed

  pub shows_standing : (device after : D) (b : ℕ) (bytes : List ℕ) (written written' : Option (List ℕ)) → OnlyRead G device after
      → G.failures after ≡ G.failures device → is_size (G.sector_count device) ≡ true → b < blocks_in (G.sector_count device)
      → (IsTrue (G.keeps_model device) → stands_whole (G.disk device).content b ≡ true)
      → (IsTrue (G.keeps_model device) → bytes ≡ block_in (meant_by G device) b)
      → ReadsAtMost G device after 5 → Appends written written' (listing bytes) → ShowsStanding G b written written' device after
  shows_standing device after b bytes written written' read well sized below whole meant few printed = record {
    only_read = read;
    well = well;
    sized = sized;
    there = below;
    whole = whole;
    listed = λ keeps.
        subst (λ (l : List ℕ). Appends written written' (listing l)) (meant keeps ∙ sym (contents_meant (meant_by G device) b)) printed;
    reads = few;
  }

  pub exports_standing : {T E : Type 0} (r : Result T E) (device after : D) (form : Form) (first last : ℕ) (written written' : Option (List ℕ))
      → OnlyRead G device after → OnOk r (G.failures after ≡ G.failures device) → OnOk r (is_size (G.sector_count device) ≡ true)
      → OnOk r (first ≤ last) → OnOk r (last < blocks_in (G.sector_count device))
      → (IsTrue (G.keeps_model device) → OnOk r (AllStand first (last + 1) (G.disk device).content))
      → (IsTrue (G.keeps_model device) → OnOk r (Appends written written' (exports form (maps_on G device) first (last + 1 - first))))
      → ReadsAtMost G device after (5 * (last + 1 - first)) → OnOk r (ExportsStanding G form first last written written' device after)
  exports_standing (Ok t) device after form first last written written' read well sized ordered below whole printed few = record {
    only_read = read;
    well = well;
    sized = sized;
    ordered = ordered;
    there = below;
    whole = whole;
    printed = printed;
    reads = few;
  }
  exports_standing (Err e) device after form first last written written' read well sized ordered below whole printed few = tt

  -- ---- what wasn't

  -- What was had couldn't be printed.
  pub unwritten : {T : Type 0} (r : Result T Failure) (device after : D) (first last : ℕ) → OnlyRead G device after
      → G.failures after ≡ G.failures device → IfErr r (λ e. e ≡ CannotWrite) → IfErr r (λ e. StandingFails G first last e device after)
  unwritten (Ok t) device after first last read well is = tt
  unwritten (Err e) device after first last read well is = record {
    reads = read;
    told = inr is;
    unhad = λ fault. absurd (let no : Device ≡ CannotWrite = sym fault ∙ is in cc);
    well = λ other. well;
  }

  -- A block isn't there.
  pub missing : (device after : D) (b : ℕ) → OnlyRead G device after → blocks_in (G.sector_count device) ≤ b → after ≡ device
      → StandingFails G b b Device device after
  missing device after b read above same = record {
    reads = read;
    told = inl refl;
    unhad = λ is. inl (no_such_block b (G.sector_count device) above, same);
    well = λ other. absurd (other refl);
  }

  -- It was refused.
  pub refused : (e : OpenFault) (device after : D) (b : ℕ) → OnlyRead G device after
      → MatchBool (is_size (G.sector_count device)) ((e ≡ by.Device) ⊎ (e ≡ by.Damaged)) (e ≡ by.BadSize) → (e ≡ by.BadSize → after ≡ device)
      → (IsTrue (G.keeps_model device) → e ≡ by.Damaged → stands_whole (G.disk device).content b ≡ false)
      → (e ≡ by.Device → CallFailed G device after) → (e ≢ by.Device → G.failures after ≡ G.failures device)
      → StandingFails G b b Device device after
  refused e device after b read sized unasked damaged failed well = record {
    reads = read;
    told = inl refl;
    unhad = λ is. why (is_size (G.sector_count device)) refl sized;
    well = λ other. absurd (other refl);
  }
    where
      why : (t : Bool) → is_size (G.sector_count device) ≡ t → MatchBool t ((e ≡ by.Device) ⊎ (e ≡ by.Damaged)) (e ≡ by.BadSize)
          → NotHadOf G b b device after
      why true is (inl device) = inr (inl (failed device))
      why true is (inr harm) = inr (inr (
        well (λ is. let no : by.Device ≡ by.Damaged = sym is ∙ harm in absurd cc),
        λ keeps. (b, omega arith, omega arith, damaged keeps harm),
      ))
      why false isnt is = inl (no_such_size b b (G.sector_count device) isnt, unasked is)

  -- The same of a block that is known to be there.
  pub not_had : (e : OpenFault) (device after : D) (b : ℕ) → is_size (G.sector_count device) ≡ true
      → MatchBool (is_size (G.sector_count device)) ((e ≡ by.Device) ⊎ (e ≡ by.Damaged)) (e ≡ by.BadSize)
      → (IsTrue (G.keeps_model device) → e ≡ by.Damaged → stands_whole (G.disk device).content b ≡ false)
      → (e ≡ by.Device → CallFailed G device after) → (e ≢ by.Device → G.failures after ≡ G.failures device)
      → NotHad G (λ image. stands_whole image b ≡ false) device after
  not_had e device after b there sized damaged failed well = why (is_size (G.sector_count device)) there sized
    where
      why : (t : Bool) → t ≡ true → MatchBool t ((e ≡ by.Device) ⊎ (e ≡ by.Damaged)) (e ≡ by.BadSize)
          → NotHad G (λ image. stands_whole image b ≡ false) device after
      why true is (inl device) = inl (failed device)
      why true is (inr harm) =
          inr (well (λ is. let no : by.Device ≡ by.Damaged = sym is ∙ harm in absurd cc), λ keeps. damaged keeps harm)
      why false is one = absurd cc

  -- One of several wasn't had.
  pub one_unhad : (first block past : ℕ) (device now after : D) → first ≤ block → block < past → G.failures now ≡ G.failures device
      → OnlyRead G device now → NotHad G (λ image. stands_whole image block ≡ false) now after → NotHad G (OneIsDamaged first past) device after
  one_unhad first block past device now after from below well read (inl failed) = inl (failed ∙ ap count_up well)
  one_unhad first block past device now after from below well read (inr (same, why)) = inr (
    same ∙ well,
    λ keeps. (
      block,
      from,
      below,
      subst (λ (d : Disk). stands_whole d.content block ≡ false) (read.disk keeps)
          (why (subst IsTrue (sym read.passes.model) keeps)),
    ),
  )

  -- Blocks weren't printed.
  pub standing_fails : {T : Type 0} (r : Result T Failure) (device after : D) (first last : ℕ) → OnlyRead G device after
      → IfErr r (λ e. (e ≡ Device) ⊎ (e ≡ CannotWrite)) → IfErr r (λ e. e ≡ Device → NotHadOf G first last device after)
      → IfErr r (λ e. e ≢ Device → G.failures after ≡ G.failures device) → IfErr r (λ e. StandingFails G first last e device after)
  standing_fails (Ok t) device after first last read told unhad well = tt
  standing_fails (Err e) device after first last read told unhad well =
      record { reads = read; told = told; unhad = unhad; well = well }

  -- ---- after what failed first

  -- An opening.
  pub not_printed : (first last : ℕ) (P : Failure → (device begun after : D) → Type 0) (before failure : Failure) (device looked after : D)
      → RefusesImage G before device looked → NotStanding G first last before failure looked after → FailsToPrint G first last P failure device after
  not_printed first last P before failure device looked after refuses (inl (other, same, still)) = inl (
    (λ is. other (sym same ∙ is)),
    subst (λ (f : Failure). RefusesImage G f device after) (sym same) (subst (λ (d : D). RefusesImage G before device d) (sym still) refuses),
  )
  not_printed first last P before failure device looked after refuses (inr (is, fails)) =
      inr (inl (looked, subst (λ (f : Failure). RefusesImage G f device looked) is refuses, fails))

  -- A block that was printed from where it stands, after a look that failed by its device and printed nothing.
  pub shown_after : {W : Type 0} (contents : W → Option (List ℕ)) (b : ℕ) (before : Failure) (old mid new : W) (device looked after : D)
      → OnlyRead G device looked → (before ≡ Device → CallFailed G device looked) → (before ≢ CannotWrite → mid ≡ old)
      → before ≡ Device → ShowsStanding G b (contents mid) (contents new) looked after
      → IsShown G b (contents old) (contents new) device after
  shown_after {W} contents b before old mid new device looked after reads failed was is shown = inr (
    looked,
    record { reads = reads; failed = failed is },
    subst (λ (w : W). ShowsStanding G b (contents w) (contents new) looked after)
        (was (λ other. let both : Device ≡ CannotWrite = sym is ∙ other in absurd cc)) shown,
  )

  -- A look for one block.
  pub not_listed : (b : ℕ) (before failure : Failure) (device looked after : D)
      → OnlyRead G device looked → (before ≡ Device → CallFailed G device looked) → (before ≢ Device → G.failures looked ≡ G.failures device)
      → (IsTrue (G.keeps_model device) → (before ≡ Device) ⊎ (before ≡ CannotWrite)
      ⊎ (block_refusal b (G.sector_count device) (G.disk device).content ≡ Some before))
      → NotStanding G b b before failure looked after → ListShowingFails G b failure device after
  not_listed b before failure device looked after reads failed well told (inl (other, same, still)) = inl (
    (λ is. other (sym same ∙ is)),
    subst (λ (f : Failure). ReadingFails G IsUnprinted (block_refusal b) f device after) (sym same)
        (subst (λ (d : D). ReadingFails G IsUnprinted (block_refusal b) before device d) (sym still)
        (record { reads = reads; faults = record { failed = failed; well = well }; told = told })),
  )
  not_listed b before failure device looked after reads failed well told (inr (is, fails)) =
      inr (looked, record { reads = reads; failed = failed is }, fails)

  -- A look.
  pub not_shown : (refusal : (sectors : ℕ) → Image → Option Failure) (first last : ℕ) (before failure : Failure) (device looked after : D)
      → OnlyRead G device looked → (before ≡ Device → CallFailed G device looked) → (before ≢ Device → G.failures looked ≡ G.failures device)
      → (IsTrue (G.keeps_model device) → (before ≡ Device) ⊎ (before ≡ CannotWrite)
      ⊎ (refusal (G.sector_count device) (G.disk device).content ≡ Some before))
      → NotStanding G first last before failure looked after → ShowingFails G refusal first last failure device after
  not_shown refusal first last before failure device looked after reads failed well told (inl (other, same, still)) = inl
      (subst (λ (f : Failure). FoundFails G refusal f device after) (sym same) (subst (λ (d : D). FoundFails G refusal before device d) (sym still)
      (record {
        reading = record { reads = reads; faults = record { failed = failed; well = well }; told = told };
        found = λ keeps is. absurd (other is);
      })))
  not_shown refusal first last before failure device looked after reads failed well told (inr (is, fails)) =
      inr (looked, record { reads = reads; failed = failed is }, fails)

  -- What a look found.
  pub found_fails : {T : Type 0} (refusal : (sectors : ℕ) → Image → Option Failure) (first last : ℕ) (A : T → Type 0) (r : Result T Failure)
      (device after : D) → OnlyRead G device after → IfErr r (λ e. e ≡ Device → CallFailed G device after)
      → IfErr r (λ e. e ≢ Device → G.failures after ≡ G.failures device)
      → (IsTrue (G.keeps_model device) → MatchResult r A (λ e. (e ≡ Device) ⊎ (e ≡ CannotWrite)
      ⊎ (refusal (G.sector_count device) (G.disk device).content ≡ Some e)))
      → (IsTrue (G.keeps_model device) → image_refusal (G.sector_count device) (G.disk device).content ≡ None)
      → IfErr r (λ failure. ShowingFails G refusal first last failure device after)
  found_fails refusal first last A (Ok t) device after reads failed well told none = tt
  found_fails refusal first last A (Err e) device after reads failed well told none = inl (record {
    reading = record { reads = reads; faults = record { failed = failed; well = well }; told = told };
    found = λ keeps is. none keeps;
  })

  -- Nothing was printed before, and nothing after, but where the output failed.
  pub still_unprinted : {T W : Type 0} (first last : ℕ) (before : Failure) (looked after : D) (old mid new : W) (r : Result T Failure)
      → IfErr r (λ e. NotStanding G first last before e looked after) → IfErr r (λ e. e ≢ CannotWrite → new ≡ mid)
      → (before ≢ CannotWrite → mid ≡ old) → IfErr r (λ e. e ≢ CannotWrite → new ≡ old)
  still_unprinted first last before looked after old mid new (Ok t) told same was = tt
  still_unprinted first last before looked after old mid new (Err e) told same was = λ other.
      same other
      ∙ was (λ is. ⊎_elim (λ kept. other (kept.1 ∙ is)) (λ asked. let both : Device ≡ CannotWrite = sym asked.0 ∙ is in absurd cc) told)
