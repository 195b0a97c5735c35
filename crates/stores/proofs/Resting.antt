-- A store of either layout that goes on where another one rested.
use Rattle.std.proofs.Common.{◌≡◌, ◌∙◌, ℕ, Bool, true, false, List, refl, sym, subst, ap}
use Rattle.sector_disk.specs.declared.device.SectorDevice.{Ghosts}
use Rattle.journal.specs.Resting as one
use Rattle.journal.specs.Store.{technique_of}
use Rattle.journal.specs.Technique.{is_journal, sectors_for}
use Rattle.journal.specs.declared.store.Store.{Store}
use Rattle.journal.specs.declared.technique.NamedRecord.{NamedRecord}
use Rattle.journal.specs.declared.technique.Technique.{Technique}
use Rattle.journal.specs.declared.technique.Technique.TheVariants.{Journal, Pages}
use Rattle.journal.proofs.Stores.{told_by}
use Rattle.recovery.specs.Label.{is_size}
use Rattle.shadow.specs.Upgraded.{known_blocks}
use Rattle.stores.specs.Resting.{HasRested, Names, Rests, StandsAsRested}
use Rattle.journal.proofs.KnownSizes.{newer_blocks, older_blocks}

by_journal : (t : Technique) → is_journal t ≡ true → t ≡ Journal
by_journal Journal is = refl
by_journal (Pages named) is = cc

by_pages : (t : Technique) (is_open : Bool) (listing : List ℕ) → is_journal t ≡ false → Names t is_open listing
    → t ≡ Pages (record { is_open = is_open; listing = listing })
by_pages Journal is_open listing isnt names = cc
by_pages (Pages named) is_open listing isnt names = λ i. Pages (record { is_open = names.0 i; listing = names.1 i })

module _ {D : Type 0} (G : Ghosts D) (device : D) (is_open : Bool) (listing : List ℕ) (n : ℕ) (count : n ≡ known_blocks (G.sector_count device)) where
  older_rests : is_size (G.sector_count device) ≡ true → (store : Store D G) → Rests G device is_open listing store → one.Rests G device n Journal store
  older_rests is store rests =
      let how : technique_of store ≡ Journal = by_journal store.technique (sym (told_by store) ∙ ap (λ d. is_size (G.sector_count d)) rests.on ∙ is) in
      record {
        on = rests.on;
        count = older_blocks store.blocks.number (G.sector_count device) is
            (ap G.sector_count (sym rests.on) ∙ store.size ∙ ap (λ t. sectors_for t store.blocks.number) how) ∙ sym count;
        how = how;
        open_still = rests.open_still;
        none = rests.none;
      }

  newer_rests : is_size (G.sector_count device) ≡ false → (store : Store D G) → Rests G device is_open listing store
      → one.Rests G device n (Pages (record { is_open = is_open; listing = listing })) store
  newer_rests isnt store rests =
      let how : technique_of store ≡ Pages (record { is_open = is_open; listing = listing }) =
      by_pages store.technique is_open listing (sym (told_by store) ∙ ap (λ d. is_size (G.sector_count d)) rests.on ∙ isnt) rests.names in
      record {
        on = rests.on;
        count = newer_blocks store.blocks.number (G.sector_count device) isnt
            (ap G.sector_count (sym rests.on) ∙ store.size ∙ ap (λ t. sectors_for t store.blocks.number) how) ∙ sym count;
        how = how;
        open_still = rests.open_still;
        none = rests.none;
      }

  pub older_rested : is_size (G.sector_count device) ≡ true → HasRested G device is_open listing → one.HasRested G device n Journal
  older_rested is rested = (rested.0, older_rests is rested.0 rested.1)

  pub newer_rested : is_size (G.sector_count device) ≡ false → HasRested G device is_open listing
      → one.HasRested G device n (Pages (record { is_open = is_open; listing = listing }))
  newer_rested isnt rested = (rested.0, newer_rests isnt rested.0 rested.1)

  pub older_goes_on : is_size (G.sector_count device) ≡ true → (new : Store D G) → one.StandsAsRested G device n Journal new
      → StandsAsRested G device is_open listing new
  older_goes_on is new state store rests m stands = state store (older_rests is store rests) m stands

  pub newer_goes_on : is_size (G.sector_count device) ≡ false → (new : Store D G)
      → one.StandsAsRested G device n (Pages (record { is_open = is_open; listing = listing })) new → StandsAsRested G device is_open listing new
  newer_goes_on isnt new state store rests m stands = state store (newer_rests isnt store rests) m stands
