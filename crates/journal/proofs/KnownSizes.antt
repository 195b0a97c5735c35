-- How many sectors images of each layout have.
use Rattle.std.proofs.Common.{◌≡◌, ◌<◌, ◌≤◌, ℕ, Bool, true, false, refl, sym, ◌∙◌, ap, arith}
use Rattle.std.specs.Prelude.{◌&&◌, ◌||◌, ◌==◌, nat_le, if◌then◌else◌}
use Rattle.std.proofs.lemmas.Bool.{eq-eqb}
use Rattle.std.proofs.lemmas.Bool.Decides.{nat_tests}
use Rattle.journal.specs.Layout as older_layout
use Rattle.journal.specs.Layout.{fewest_blocks, most_blocks}
use Rattle.journal.specs.Layouts.{sectors_for}
use Rattle.journal.specs.PageLayout as newer_layout
use Rattle.journal.specs.Sizes.{blocks_in, is_known_size, is_pages_size, is_size, known_blocks, pages_blocks_in}
use Rattle.journal.specs.declared.sizes.Layout.{Layout}
use Rattle.journal.specs.declared.sizes.Layout.TheVariants.{Journal, Pages}

pub older_sectors : (sectors : ℕ) → is_size sectors ≡ true → sectors ≡ older_layout.sectors_for (blocks_in sectors)
older_sectors sectors is = grind (arith, nat_tests, is)

pub older_count : (n sectors : ℕ) → sectors ≡ older_layout.sectors_for n → blocks_in sectors ≡ n
older_count n sectors size = omega (arith, size)

-- the size of an image of n blocks by layout 2, and by layout 3
pub size_older : (n sectors : ℕ) → fewest_blocks ≤ n → n ≤ most_blocks → sectors ≡ older_layout.sectors_for n → is_size sectors ≡ true
size_older n sectors many few size =
    ap (λ m. (nat_le 32 m && nat_le m 3840) && (sectors == older_layout.sectors_for m)) (older_count n sectors size)
    ∙ (λ i. (le_test 32 n many i && le_test n 3840 few i) && eq-eqb sectors (older_layout.sectors_for n) size i)
  where
    le_test : (a b : ℕ) → a ≤ b → nat_le a b ≡ true
    le_test a b le = grind (arith, nat_tests)

pub size_newer : (n sectors : ℕ) → sectors ≡ newer_layout.sectors_for n → is_size sectors ≡ false
size_newer n sectors size = pick (is_size sectors) refl
  where
    pick : (b : Bool) → is_size sectors ≡ b → is_size sectors ≡ false
    pick true is = absurd (omega (arith, older_sectors sectors is, size))
    pick false isnt = isnt

pub newer_sectors : (sectors : ℕ) → is_pages_size sectors ≡ true → sectors ≡ newer_layout.sectors_for (pages_blocks_in sectors)
newer_sectors sectors is = grind (arith, nat_tests, is)

pub newer_count : (n sectors : ℕ) → sectors ≡ newer_layout.sectors_for n → pages_blocks_in sectors ≡ n
newer_count n sectors size = omega (arith, size)

-- No image has no sectors.
pub positive : (layout : Layout) (n sectors : ℕ) → sectors ≡ sectors_for layout n → 0 < sectors
positive Journal n sectors size = omega (arith, size)
positive Pages n sectors size = omega (arith, size)

first_true : (a b : Bool) → b ≡ false → (a || b) ≡ true → a ≡ true
first_true true b isnt known = refl
first_true false b isnt known = cc

or_true : (a b : Bool) → b ≡ true → (a || b) ≡ true
or_true true b is = refl
or_true false b is = is

-- A size of layout 2 is a known one, and any other known one is that of layout 3.
pub older_known : (sectors : ℕ) → is_size sectors ≡ true → is_known_size sectors ≡ true
older_known sectors is = or_true (is_pages_size sectors) (is_size sectors) is

pub newer_known : (sectors : ℕ) → is_pages_size sectors ≡ true → is_known_size sectors ≡ true
newer_known sectors is = ap (λ b. b || is_size sectors) is

pub neither_known : (sectors : ℕ) → is_pages_size sectors ≡ false → is_size sectors ≡ false → is_known_size sectors ≡ false
neither_known sectors isnt other = (λ t. isnt t || other t)

pub known_newer : (sectors : ℕ) → is_size sectors ≡ false → is_known_size sectors ≡ true
    → sectors ≡ newer_layout.sectors_for (pages_blocks_in sectors)
known_newer sectors isnt known = newer_sectors sectors (first_true (is_pages_size sectors) (is_size sectors) isnt known)

pub older_blocks : (n sectors : ℕ) → is_size sectors ≡ true → sectors ≡ older_layout.sectors_for n → n ≡ known_blocks sectors
older_blocks n sectors is size =
    sym (older_count n sectors size)
    ∙ sym (ap (λ b. if b then blocks_in sectors else pages_blocks_in sectors) is)

pub newer_blocks : (n sectors : ℕ) → is_size sectors ≡ false → sectors ≡ newer_layout.sectors_for n → n ≡ known_blocks sectors
newer_blocks n sectors isnt size =
    sym (newer_count n sectors size)
    ∙ sym (ap (λ b. if b then blocks_in sectors else pages_blocks_in sectors) isnt)

-- How many blocks an image has tells its size.
pub size_of_older : (n sectors : ℕ) → is_size sectors ≡ true → n ≡ known_blocks sectors → sectors ≡ older_layout.sectors_for n
size_of_older n sectors is count =
    older_sectors sectors is
    ∙ ap older_layout.sectors_for (sym (count ∙ ap (λ b. if b then blocks_in sectors else pages_blocks_in sectors) is))

pub size_of_newer : (n sectors : ℕ) → is_size sectors ≡ false → is_known_size sectors ≡ true → n ≡ known_blocks sectors
    → sectors ≡ newer_layout.sectors_for n
size_of_newer n sectors isnt known count =
    known_newer sectors isnt known
    ∙ ap newer_layout.sectors_for (sym (count ∙ ap (λ b. if b then blocks_in sectors else pages_blocks_in sectors) isnt))
