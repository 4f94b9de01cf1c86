-- The sorted list: what each interval has, in order of retirement, and the flat state at each cut of it.
use Rattle.std.specs.Prelude.{◌≡◌, ◌≢◌, ℕ, zero, suc, ◌<◌, if◌then◌else◌, List, [], ◌∷◌, ◌++◌, ◌==◌, nat_lt, true, false}
use Rattle.sn_base.specs.Image.{ImageData}
use Rattle.sn_consistency.specs.Words.{block}
use Rattle.sn_consistency.specs.Entries.{Entry, Places, Legal, Good, is_writer, touches, run}

-- the part below interval k
unfoldable pub below : {A : Type 0} → (ℕ → List A) → ℕ → List A
below f zero = []
below f (suc k) = below f k ++ f k

-- the flat state after the part below interval k
unfoldable pub at_cut : ImageData → Places → (ℕ → List Entry) → ℕ → Places
at_cut image F f zero = F
at_cut image F f (suc k) = run image (at_cut image F f k) (f k)

-- each interval's entries are good from the cut before them
abbrev pub GoodList : ImageData → ℕ → Places → (ℕ → List Entry) → Type 0
GoodList image N F f = (k : ℕ) → Good image N (at_cut image F f k) (f k)

-- interval x has one more at its end
abbrev pub retire : (ℕ → List Entry) → ℕ → Entry → ℕ → List Entry
retire f x e j = if j == x then f j ++ e ∷ [] else f j

-- a recovery to k drops the intervals at and above it
abbrev pub entries_below_cut : (ℕ → List Entry) → ℕ → ℕ → List Entry
entries_below_cut f k j = if nat_lt j k then f j else []

-- y may stand above the interval at whose end e is put: it is another core's, it writes no block that e reads or
-- writes, and it neither reads nor writes a block that e writes
pub record LetsPass (image : ImageData) (e y : Entry) : Type 0 where
  pub cores : e.did.core ≢ y.did.core
  pub no_later_write : touches image e ≡ true → block image e.found ≡ block image y.found → is_writer image y ≡ false
  pub no_later_access : is_writer image e ≡ true → block image e.found ≡ block image y.found → touches image y ≡ false

abbrev pub AllPass : ImageData → Entry → List Entry → Type 0
AllPass image e [] = Unit {0}
AllPass image e (y ∷ ys) = LetsPass image e y × AllPass image e ys

-- e may retire at the end of interval x: it is legal there, where an SC that is done has its reservation, and all that
-- stands above lets it pass
pub record MayRetire (image : ImageData) (N : ℕ) (F : Places) (f : ℕ → List Entry) (x : ℕ) (e : Entry) : Type 0 where
  pub legal : Legal image N (at_cut image F f (suc x)) e
  pub above : (j : ℕ) → x < j → AllPass image e (f j)
