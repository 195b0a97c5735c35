-- What one command has left is what the next one opens.
use Rattle.std.proofs.Common.{◌≡◌, ◌⊎◌, ◌∙◌, ◌+◌, ◌-◌, ◌*◌, ◌/◌, ◌%◌, ◌≤◌, ℕ, Bool, true, false, List, [], ◌∷◌, ⊎_elim, IsTrue, ap, inl, inr, refl, subst, sym, length, arith}
use Rattle.std.specs.Prelude.{if◌then◌else◌, MatchBool}
use Rattle.std.specs.Io.KnownBytes.{Appends}
use Rattle.sector_disk.specs.Disk.{Disk, Image, MayLeave}
use Rattle.sector_disk.specs.declared.device.SectorDevice.{Ghosts}
use Rattle.journal.specs.BySize.{Means}
use Rattle.journal.specs.Chain as older_chain
use Rattle.journal.specs.Chain.{Follows, Redoes}
use Rattle.journal.specs.Images as older_images
use Rattle.journal.specs.Layout.{fewest_blocks, label_by, most_blocks}
use Rattle.journal.specs.Maps.{fresh, latest, spilled}
use Rattle.journal.specs.PageImages as newer_images
use Rattle.journal.specs.Sizes.{is_size}
use Rattle.journal.specs.Suits.{suits}
use Rattle.journal.proofs.Choices.{at_false, at_true}
use Rattle.journal.proofs.Meaning.{chain_means}
use Rattle.journal.proofs.KnownSizes.{size_newer, size_older}
use Rattle.journal.proofs.Suited.{stays, suits_keeps, suits_newer, suits_older}
use Rattle.block_words.specs.Kept.{KeptFrom, MeansOneOf}
use Rattle.block_words.specs.Words.{Save}
use Rattle.recovery.specs.Formatted.{blank_blocks}
use Rattle.recovery.specs.Label as older
use Rattle.recovery.specs.Label.{number_at}
use Rattle.recovery.specs.Opened.{RecoveryLeaves}
use Rattle.shadow.specs.Label as newer
use Rattle.shadow.specs.Opened as newer_opened
use Rattle.stores.specs.Images.{HasMeaning, meaning}
use Rattle.stores.specs.Opened.{OpeningLeaves}
use Rattle.sessions.specs.Devices.{Becomes}
use Rattle.command_line.specs.declared.orders.Layout.{Layout}
use Rattle.command_line.specs.declared.orders.Layout.TheVariants.{Two, Three}
use Rattle.terminal.specs.Again.{AnyMomentImportThenRun, AnyMomentPutThenRun, AnyMomentThenRun, BrokenRunThenRun, Chain, EndedIsFound, ExportsFrom, FaultThenRun, GivesBlocks, ImportThenRun, ImportsOver, IsFoundAgain, IsFoundAsItEnded, MakesBy, NewThenImport, PutThenRun, RunThenExport, RunThenRun, RunsOver, StoppedImportThenRun, StoppedIsFound, StoppedPutThenRun, StoppedRecovery, StoppedRunThenRun, with_files}
use Rattle.terminal.specs.Done.{LeavesBlocks, MeansOn, Recovers, RunsFrom, maps_on, meant_by, new_system}
use Rattle.terminal.specs.Findings.{said_all}
use Rattle.terminal.specs.Transfer.{as_blocks, exports as exported, spilled_from}

-- a number of blocks in two bytes
whole : (n : ℕ) → n ≤ 3840 → n % 256 + 256 * (n / 256 % 256) ≡ n
whole n few = omega (arith, few)

-- The label of an image tells how many blocks it has.
pub one_count : (version n m : ℕ) → n ≤ 3840 → m ≤ 3840 → label_by version n ≡ label_by version m → n ≡ m
one_count version n m few few' same =
    let told : n % 256 + 256 * (n / 256 % 256) ≡ m % 256 + 256 * (m / 256 % 256) = ap (λ (label : List ℕ). number_at label 10) same in
    sym (whole n few) ∙ told ∙ whole m few'

-- Blocks that an image means are those that it is read as, where it has a meaning.
pub is_meant : (sectors : ℕ) (blocks : List (List ℕ)) (image : Image) → HasMeaning sectors image → Means sectors blocks image
    → meaning sectors image ≡ blocks
is_meant sectors blocks image has means = go (is_size sectors) has means
  where
    go : (t : Bool) → MatchBool t (older_chain.HasMeaning (older.blocks_in sectors) image) (newer_opened.HasMeaning (newer.blocks_in sectors) image)
        → MatchBool t (older_images.Means blocks image) (newer_images.Means blocks image)
        → (if t then older_images.meaning (older.blocks_in sectors) image else newer_images.meaning (newer.blocks_in sectors) image) ≡ blocks
    go true has means =
        let count : older.blocks_in sectors ≡ length blocks =
        one_count 2 (older.blocks_in sectors) (length blocks) has.label.few means.label.few (sym has.label.label ∙ means.label.label) in
        ap (λ n. older_images.meaning n image) count ∙ means.meant
    go false has means =
        let count : newer.blocks_in sectors ≡ length blocks =
        one_count 3 (newer.blocks_in sectors) (length blocks) has.label.few means.label.few (sym has.label.label ∙ means.label.label) in
        ap (λ n. newer_images.meaning n image) count ∙ means.meant

-- An image of layout 2 that follows one in a recovery means what that one means.
follows_means : (n : ℕ) (blocks : List (List ℕ)) (from image : Image) → older_images.Means blocks from → Follows n from image
    → older_images.Means blocks image
follows_means n blocks from image means follows = (chain_means blocks from (image ∷ []) means (counted follows, tt)).0
  where
    counted : Follows n from image → Follows (length blocks) from image
    counted (inl same) = inl same
    counted (inr redoes) =
        let count : n ≡ length blocks = one_count 2 n (length blocks) redoes.0.label.few means.label.few (sym redoes.0.label.label ∙ means.label.label) in
        inr (subst (λ (m : ℕ). older_chain.HasMeaning m from × Redoes m from image) count redoes)

-- A stop within an opening leaves the blocks that a stop could leave before.
opening_means : (sectors : ℕ) (disk : Disk) (blocks : List (List ℕ)) (image : Image)
    → ((from : Image) → MayLeave disk from → Means sectors blocks from) → OpeningLeaves sectors disk image → Means sectors blocks image
opening_means sectors disk blocks image before leaves = go (is_size sectors) before leaves
  where
    go : (t : Bool) → ((from : Image) → MayLeave disk from → MatchBool t (older_images.Means blocks from) (newer_images.Means blocks from))
        → MatchBool t (RecoveryLeaves (older.blocks_in sectors) disk image) (MayLeave disk image)
        → MatchBool t (older_images.Means blocks image) (newer_images.Means blocks image)
    go true before leaves = follows_means (older.blocks_in sectors) blocks leaves.from image (before leaves.from leaves.may) leaves.follows
    go false before leaves = before image leaves

module _ {D : Type 0} (G : Ghosts D) (present : (d : D) → IsTrue (G.keeps_model d) → MayLeave (G.disk d) (G.disk d).content)
    (keeps_both : (d : D) → IsTrue (G.keeps_sectors d) → IsTrue (G.keeps_model d))
    (only_now : (d : D) (c : Image) → G.left_since d (G.time d) c → MayLeave (G.disk d) c) where
  -- ---- what is found

  -- It suits a store as the device did that was left.
  still : (since : ℕ) (left next : D) → IsFoundAgain G since left next → IsTrue (suits G left) → IsTrue (suits G next)
  still since left next found keeps = subst IsTrue (sym (stays G left next found.sectors found.model found.units)) keeps

  -- A device that a command has become suits one as the first did.
  suits_after : (device begun after : D) → Becomes G device begun → Becomes G begun after → IsTrue (suits G device) → IsTrue (suits G after)
  suits_after device begun after one two keeps = subst IsTrue (sym (two.model ∙ one.model)) keeps

  suits_begun : (device begun : D) → Becomes G device begun → IsTrue (suits G device) → IsTrue (suits G begun)
  suits_begun device begun goes keeps = subst IsTrue (sym goes.model) keeps

  pub stopped : StoppedIsFound G
  stopped since left next found keeps =
      found.stopped (G.disk next).content (present next (suits_keeps G keeps_both next (still since left next found keeps)))

  -- Blocks that are found, by the size that a device had.
  gives : (since n : ℕ) (left next : D) (blocks : List (List ℕ)) → IsFoundAgain G since left next → G.sector_count left ≡ n
      → Means n blocks (G.disk next).content → GivesBlocks G next blocks
  gives since n left next blocks found sized means = λ has.
      is_meant (G.sector_count next) blocks (G.disk next).content has
      (subst (λ (m : ℕ). Means m blocks (G.disk next).content) (sym (found.sectors ∙ sized)) means)

  pub ended : EndedIsFound G
  ended left next blocks leaves found keeps = (
    gives (G.time left) (G.sector_count left) left next blocks found refl
        (leaves (G.disk next).content (only_now left (G.disk next).content (stopped (G.time left) left next found keeps))),
    λ image may. subst (λ (n : ℕ). Means n blocks image) (sym found.sectors) (leaves image (only_now left image (found.stopped image may))),
  )

  pub stopped_recovery : StoppedRecovery G
  stopped_recovery device begun next blocks leaves recovers found keeps =
      let since = stopped (G.time device) begun next found (suits_begun device begun recovers.goes keeps) in
      gives (G.time device) (G.sector_count device) begun next blocks found recovers.sectors
      (opening_means (G.sector_count device) (G.disk device) blocks (G.disk next).content leaves (recovers.stops keeps (G.disk next).content since))

  -- A stop at any moment of a command came in its recovery, which leaves the blocks of an image that was left before, or after that.
  since_before : (device begun after : D) → Recovers G device begun → Becomes G begun after → IsTrue (suits G device)
      → (blocks : List (List ℕ)) → LeavesBlocks G device blocks → (image : Image) → G.left_since after (G.time device) image
      → Means (G.sector_count begun) blocks image ⊎ G.left_since after (G.time begun) image
  since_before device begun after recovers goes keeps blocks leaves image since =
      ⊎_elim
      (λ past. inl (subst (λ (n : ℕ). Means n blocks image) (sym recovers.sectors)
      (opening_means (G.sector_count device) (G.disk device) blocks image leaves (recovers.stops keeps image past))))
      (λ later. inr later) (goes.time.only (G.time device) image recovers.goes.time.later since)

  -- ---- what a command does over blocks that it finds

  runs_over : (next : D) (blocks : List (List ℕ)) → IsTrue (suits G next) → GivesBlocks G next blocks → RunsOver G next blocks
  runs_over next blocks keeps given = λ allowed left left' written written' after ran. (
    ran.begun,
    subst (λ (blocks : List (List ℕ)). RunsFrom G (new_system allowed (fresh blocks)) left left' written written' ran.begun after)
        (given (ran.meant keeps)) (ran.runs keeps),
  )

  exports_from : (next : D) (blocks : List (List ℕ)) → IsTrue (suits G next) → GivesBlocks G next blocks → ExportsFrom G next blocks
  exports_from next blocks keeps given = λ form first last written written' after exports.
      subst (λ (blocks : List (List ℕ)). Appends written written' (exported form (fresh blocks) first (last + 1 - first)))
      (given (exports.meant keeps)) (exports.printed keeps)

  imports_over : (is_text : (path text : List ℕ) → Type 0) (next : D) (blocks : List (List ℕ)) → IsTrue (suits G next) → GivesBlocks G next blocks
      → ImportsOver G is_text next blocks
  imports_over is_text next blocks keeps given = λ form first sources after imports.
      subst (λ (blocks : List (List ℕ)). LeavesBlocks G after (latest (spilled_from (fresh blocks) first (as_blocks (said_all form imports.files)))))
      (given (imports.meant keeps)) (imports.saves keeps).after

  -- `run` over what a command left when it ended
  then_runs : (left next : D) (blocks : List (List ℕ)) → LeavesBlocks G left blocks → IsFoundAsItEnded G left next → IsTrue (suits G left)
      → RunsOver G next blocks
  then_runs left next blocks leaves found keeps =
      runs_over next blocks (still (G.time left) left next found keeps) (ended left next blocks leaves found keeps).0

  -- ---- the laws

  new_blocks : (layout : Layout) (n : ℕ) (device after : D) → fewest_blocks ≤ n → n ≤ most_blocks → MakesBy G layout n device after
      → IsTrue (suits G device) → LeavesBlocks G after (blank_blocks n)
  new_blocks Two n device after many few made keeps =
      let is : is_size (G.sector_count device) ≡ true = size_older n (G.sector_count device) many few made.0 in
      λ image may. at_true (is_size (G.sector_count after)) (older_images.Means (blank_blocks n) image) (newer_images.Means (blank_blocks n) image)
      (ap is_size (made.1.goes.sectors keeps) ∙ is) (made.1.blank (suits_older G device is keeps) image may)
  new_blocks Three n device after many few made keeps =
      let isnt : is_size (G.sector_count device) ≡ false = size_newer n (G.sector_count device) made.0 in
      λ image may. at_false (is_size (G.sector_count after)) (older_images.Means (blank_blocks n) image) (newer_images.Means (blank_blocks n) image)
      (ap is_size (made.1.goes.sectors keeps) ∙ isnt) (made.1.blank (suits_newer G device isnt keeps) image may)

  new_suits : (layout : Layout) (n : ℕ) (device after : D) → MakesBy G layout n device after → IsTrue (suits G device) → IsTrue (suits G after)
  new_suits Two n device after made keeps = suits_begun device after made.1.goes keeps
  new_suits Three n device after made keeps = suits_begun device after made.1.goes keeps

  pub new_then_import : (is_text : (path text : List ℕ) → Type 0) → NewThenImport G is_text
  new_then_import is_text layout n device after next many few made found keeps =
      let now = new_suits layout n device after made keeps in
      imports_over is_text next (blank_blocks n) (still (G.time after) after next found now)
      (ended after next (blank_blocks n) (new_blocks layout n device after many few made keeps) found now).0

  pub import_then_run : (is_text : (path text : List ℕ) → Type 0) → ImportThenRun G is_text
  import_then_run is_text form first sources device after next imports found keeps =
      then_runs after next (with_files (meant_by G device) form first imports.files) (imports.saves keeps).after found
      (suits_after device imports.begun after imports.recovers.goes imports.goes keeps)

  pub put_then_run : (is_text : (path text : List ℕ) → Type 0) → PutThenRun G is_text
  put_then_run is_text b path device after next put found keeps =
      let saves = put.saves keeps in (
        saves.0,
        saves.1,
        saves.2,
        saves.3,
        then_runs after next (latest (spilled (maps_on G device) b saves.2)) saves.4.after found
            (suits_after device put.begun after put.recovers.goes put.goes keeps),
      )

  pub stopped_put_then_run : (is_text : (path text : List ℕ) → Type 0) → StoppedPutThenRun G is_text
  stopped_put_then_run is_text b path device after next put found keeps =
      let saves = put.saves keeps in
      let now = suits_after device put.begun after put.recovers.goes put.goes keeps in
      let sized = put.goes.sectors (suits_begun device put.begun put.recovers.goes keeps) in
      let runs : (blocks : List (List ℕ)) → MeansOn G put.begun blocks (G.disk next).content → RunsOver G next blocks =
      λ blocks means. runs_over next blocks (still (G.time put.begun) after next found now)
      (gives (G.time put.begun) (G.sector_count put.begun) after next blocks found sized means) in (
        saves.0,
        saves.1,
        saves.2,
        saves.3,
        ⊎_elim (λ old. inl (runs (meant_by G device) old)) (λ new. inr (runs (latest (spilled (maps_on G device) b saves.2)) new))
            (saves.4.stops (G.disk next).content (stopped (G.time put.begun) after next found now)),
      )

  pub run_then_run : RunThenRun G
  run_then_run allowed left left' written written' device after next ran found keeps live =
      then_runs after next (ran.runs keeps).closing.world.maps.saved ((ran.runs keeps).saved live) found
      (suits_after device ran.begun after ran.recovers.goes ran.goes keeps)

  pub run_then_export : RunThenExport G
  run_then_export allowed left left' written written' device after next ran found keeps live =
      let now = suits_after device ran.begun after ran.recovers.goes ran.goes keeps in
      exports_from next (ran.runs keeps).closing.world.maps.saved (still (G.time after) after next found now)
      (ended after next (ran.runs keeps).closing.world.maps.saved ((ran.runs keeps).saved live) found now).0

  -- What a stop leaves of some maps and saves, by the size of the first device, is what is found.
  module _ (begun after : D) (now : IsTrue (suits G after)) (sized : G.sector_count after ≡ G.sector_count begun) where
    -- the blocks of an image, by the size of that device
    abbrev MeansThen : Image → List (List ℕ) → Type 0
    MeansThen image map = Means (G.sector_count begun) map image

    found_runs : (since : ℕ) (next : D) (map : List (List ℕ)) → IsFoundAgain G since after next → MeansThen (G.disk next).content map
        → RunsOver G next map
    found_runs since next map found means =
        runs_over next map (still since after next found now) (gives since (G.sector_count begun) after next map found sized means)

    one_of : (since : ℕ) (next : D) → IsFoundAgain G since after next → (map : List (List ℕ)) (saves : List Save)
        → MeansOneOf MeansThen map saves (G.disk next).content → MeansOneOf (RunsOver G) map saves next
    one_of since next found map [] means = found_runs since next map found means
    one_of since next found map (save ∷ saves) (inl means) = inl (found_runs since next map found means)
    one_of since next found map (save ∷ saves) (inr means) = inr (one_of since next found save.map saves means)

    kept_runs : (map : List (List ℕ)) (saves : List Save) (t : ℕ) → KeptFrom MeansThen (G.left_since after) (G.time after) map saves t
        → KeptFrom (RunsOver G) (λ since next. IsFoundAgain G since after next) (G.time after) map saves t
    kept_runs map [] t kept = λ next found. found_runs t next map found (kept (G.disk next).content (stopped t after next found now))
    kept_runs map (save ∷ saves) t kept = (
      λ next found. one_of t next found map (save ∷ saves) (kept.0 (G.disk next).content (stopped t after next found now)),
      λ returned. let later = kept.1 returned in (later.0, later.1, later.2, kept_runs save.map saves later.0 later.3),
    )

    -- What is said of stops since a time holds since an earlier one, if each stop between them leaves the blocks from before the saves.
    earlier : (map : List (List ℕ)) (saves : List Save) (s t : ℕ) → s ≤ t
        → ((image : Image) → G.left_since after s image → MeansThen image map ⊎ G.left_since after t image)
        → KeptFrom MeansThen (G.left_since after) (G.time after) map saves t → KeptFrom MeansThen (G.left_since after) (G.time after) map saves s
    earlier map [] s t le split kept = λ image since. ⊎_elim (λ means. means) (λ later. kept image later) (split image since)
    earlier map (save ∷ saves) s t le split kept = (
      λ image since. ⊎_elim (λ means. inl means) (λ later. kept.0 image later) (split image since),
      λ returned. let later = kept.1 returned in (later.0, omega (arith, later.1, le), later.2, later.3),
    )

  pub stopped_import_then_run : (is_text : (path text : List ℕ) → Type 0) → StoppedImportThenRun G is_text
  stopped_import_then_run is_text form first sources device after next imports found keeps =
      let now = suits_after device imports.begun after imports.recovers.goes imports.goes keeps in
      let sized = imports.goes.sectors (suits_begun device imports.begun imports.recovers.goes keeps) in
      let since = stopped (G.time imports.begun) after next found now in
      ⊎_elim (λ old. inl (found_runs imports.begun after now sized (G.time imports.begun) next (meant_by G device) found old))
      (λ new. inr (found_runs imports.begun after now sized (G.time imports.begun) next (with_files (meant_by G device) form first imports.files) found new))
      ((imports.saves keeps).stops refl (G.disk next).content since)

  pub stopped_run_then_run : StoppedRunThenRun G
  stopped_run_then_run allowed left left' written written' device after ran keeps =
      kept_runs ran.begun after (suits_after device ran.begun after ran.recovers.goes ran.goes keeps)
      (ran.goes.sectors (suits_begun device ran.begun ran.recovers.goes keeps))
      (meant_by G device) (ran.runs keeps).made (G.time ran.begun) (ran.runs keeps).keeps.kept.leaves

  pub any_moment_then_run : AnyMomentThenRun G
  any_moment_then_run allowed left left' written written' device after ran keeps leaves =
      let now = suits_after device ran.begun after ran.recovers.goes ran.goes keeps in
      let sized = ran.goes.sectors (suits_begun device ran.begun ran.recovers.goes keeps) in
      kept_runs ran.begun after now sized (meant_by G device) (ran.runs keeps).made (G.time device)
      (earlier ran.begun after now sized (meant_by G device) (ran.runs keeps).made (G.time device) (G.time ran.begun) ran.recovers.goes.time.later
      (since_before device ran.begun after ran.recovers ran.goes keeps (meant_by G device) leaves) (ran.runs keeps).keeps.kept.leaves)

  pub any_moment_import_then_run : (is_text : (path text : List ℕ) → Type 0) → AnyMomentImportThenRun G is_text
  any_moment_import_then_run is_text form first sources device after next imports leaves found keeps =
      let now = suits_after device imports.begun after imports.recovers.goes imports.goes keeps in
      let sized = imports.goes.sectors (suits_begun device imports.begun imports.recovers.goes keeps) in
      let all = with_files (meant_by G device) form first imports.files in
      let old : MeansOn G imports.begun (meant_by G device) (G.disk next).content → RunsOver G next (meant_by G device) ⊎ RunsOver G next all =
      λ means. inl (found_runs imports.begun after now sized (G.time device) next (meant_by G device) found means) in
      ⊎_elim old
      (λ later. ⊎_elim old (λ new. inr (found_runs imports.begun after now sized (G.time device) next all found new))
      ((imports.saves keeps).stops refl (G.disk next).content later))
      (since_before device imports.begun after imports.recovers imports.goes keeps (meant_by G device) leaves (G.disk next).content
      (stopped (G.time device) after next found now))

  pub any_moment_put_then_run : (is_text : (path text : List ℕ) → Type 0) → AnyMomentPutThenRun G is_text
  any_moment_put_then_run is_text b path device after next put leaves found keeps =
      let saves = put.saves keeps in
      let now = suits_after device put.begun after put.recovers.goes put.goes keeps in
      let sized = put.goes.sectors (suits_begun device put.begun put.recovers.goes keeps) in
      let with_text = latest (spilled (maps_on G device) b saves.2) in
      let old : MeansOn G put.begun (meant_by G device) (G.disk next).content → RunsOver G next (meant_by G device) ⊎ RunsOver G next with_text =
      λ means. inl (found_runs put.begun after now sized (G.time device) next (meant_by G device) found means) in (
        saves.0,
        saves.1,
        saves.2,
        saves.3,
        ⊎_elim old
            (λ later. ⊎_elim old (λ new. inr (found_runs put.begun after now sized (G.time device) next with_text found new))
            (saves.4.stops (G.disk next).content later))
            (since_before device put.begun after put.recovers put.goes keeps (meant_by G device) leaves (G.disk next).content
            (stopped (G.time device) after next found now)),
      )

  pub broken_then_run : BrokenRunThenRun G
  broken_then_run allowed strictness left left' written written' failure device after broke keeps =
      let now = suits_after device broke.begun after broke.recovers.goes broke.goes keeps in (
        λ next found live. then_runs after next (broke.done.breaks keeps).closing.world.maps.saved ((broke.done.breaks keeps).saved live) found now,
        kept_runs broke.begun after now (broke.goes.sectors (suits_begun device broke.begun broke.recovers.goes keeps))
            (meant_by G device) (broke.done.breaks keeps).made (G.time broke.begun) (broke.done.breaks keeps).keeps.kept.leaves,
      )

  pub fault_then_run : (is_text : (path text : List ℕ) → Type 0) → FaultThenRun G is_text
  fault_then_run is_text steps script left left' written written' device after ran keeps =
      let now = suits_after device ran.begun after ran.recovers.goes ran.goes keeps in (
        λ next found live. then_runs after next (ran.stops keeps).closing.world.maps.saved ((ran.stops keeps).saved live) found now,
        kept_runs ran.begun after now (ran.goes.sectors (suits_begun device ran.begun ran.recovers.goes keeps))
            (meant_by G device) (ran.stops keeps).made (G.time ran.begun) (ran.stops keeps).keeps.kept.leaves,
      )

  pub chain : (is_text : (path text : List ℕ) → Type 0) → Chain G is_text
  chain is_text layout n first sources form file made image filled opened saved again stopped_run later done last many few makes suited found_image imports found_opened one keeps live found_again two keeps' found_later three keeps'' live' found_last =
      let image_suits = still (G.time made) made image found_image (new_suits layout n file made makes suited) in
      let files_in = new_then_import is_text layout n file made image many few makes found_image suited form first sources filled imports in
      let filled_suits = suits_after image imports.begun filled imports.recovers.goes imports.goes image_suits in
      let saved_suits = suits_after opened one.session.begun saved one.session.recovers.goes one.session.goes keeps in
      let kept = (one.session.runs keeps).closing.world.maps.saved in
      let found_kept = ended saved again kept ((one.session.runs keeps).saved live) found_again saved_suits in
      let same = found_kept.0 (two.session.meant keeps') in
      let leaves = subst (λ (blocks : List (List ℕ)). LeavesBlocks G again blocks) (sym same) found_kept.1 in (
        then_runs filled opened (with_files (blank_blocks n) form first imports.files) files_in found_opened filled_suits,
        run_then_run one.allowed one.input one.input_after one.output one.output_after opened saved again one.session found_again keeps live,
        subst (λ (blocks : List (List ℕ)). KeptFrom (RunsOver G) (λ since next. IsFoundAgain G since stopped_run next) (G.time stopped_run)
            blocks (two.session.runs keeps').made (G.time again))
            same
            (any_moment_then_run two.allowed two.input two.input_after two.output two.output_after again stopped_run two.session keeps' leaves),
        run_then_export three.allowed three.input three.input_after three.output three.output_after later done last three.session found_last keeps'' live',
      )
