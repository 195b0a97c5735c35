-- Where the blocks of an image stand, by the record that tells it.
use Rattle.std.specs.Prelude.{◌≡◌, ℕ, Bool, true, false, List, Option, None}
use Rattle.sector_disk.specs.Disk.{Image}
use Rattle.journal.specs.Images.{pair_at}
use Rattle.journal.specs.Layout as journal
use Rattle.journal.specs.PageImages.{record_of}
use Rattle.journal.specs.PageLayout as pages
use Rattle.journal.specs.PageLayout.{current_at, gate_at, gate_open, is_gate_of}
use Rattle.recovery.specs.Found.{place_in}
use Rattle.image_care.specs.Examined.{count_in, record_in}
use Rattle.image_care.specs.declared.view.Listing.{Listing}
use Rattle.image_care.specs.declared.view.Listing.TheVariants.{Journal, Pages}
use Rattle.image_care.specs.declared.view.View.{View}

-- whether the image is one of layout 2
abbrev pub is_journal : Listing → Bool
is_journal (Journal listing) = true
is_journal (Pages named) = false

-- how many sectors an image of n blocks has
abbrev pub sectors_for : Listing → ℕ → ℕ
sectors_for (Journal listing) n = journal.sectors_for n
sectors_for (Pages named) n = pages.sectors_for n

-- the first of the two sectors that hold block b of n
abbrev pub place_by : Listing → ℕ → ℕ → ℕ
place_by (Journal listing) n b = place_in n listing b
place_by (Pages named) n b = current_at named.listing b

-- how many of the first n blocks a save has that is under way, where one is: by layout 3 none ever waits to be finished
abbrev pub save_by : Listing → ℕ → Option ℕ
save_by (Journal listing) n = count_in n listing
save_by (Pages named) n = None

-- whether the gate is of the record: by layout 2 it names none
abbrev pub fits_by : Listing → Image → Bool
fits_by (Journal listing) image = true
fits_by (Pages named) image = is_gate_of (image gate_at) named.listing

-- The record is that of the image: of layout 2 the one of a save that is under way, of layout 3 the one that the gate names.
abbrev pub IsOf : Listing → Image → Type 0
IsOf (Journal listing) image = listing ≡ record_in image
IsOf (Pages named) image = (gate_open (image gate_at) ≡ named.is_open) × (record_of image ≡ named.listing)

-- how many sectors the image has, and the bytes of its block b
abbrev pub sectors_of : View → ℕ
sectors_of view = sectors_for view.listing view.blocks.number

abbrev pub found_by : View → Image → ℕ → List ℕ
found_by view image b = pair_at image (place_by view.listing view.blocks.number b)
