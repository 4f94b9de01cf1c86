-- Where a reservation stands, as a place in the list says it.
use Rattle.std.specs.Prelude.{◌≡◌, ◌≢◌, ℕ, true, false, List, [], ◌∷◌, ◌++◌}
use Rattle.sn_base.specs.Image.{ImageData}
use Rattle.sn_consistency.specs.Words.{kind, block, is_lr, is_sc}
use Rattle.sn_consistency.specs.Entries.{Entry, is_writer}

-- an entry that leaves core n's reservation of block b: no LR or SC of n, and no other core's write of b
pub record Leaves (image : ImageData) (n b : ℕ) (e : Entry) : Type 0 where
  pub own : e.did.core ≡ n → (is_lr (kind image e.found) ≡ false) × (is_sc (kind image e.found) ≡ false)
  pub others : e.did.core ≢ n → is_writer image e ≡ true → block image e.found ≢ b

abbrev pub AllLeave : ImageData → ℕ → ℕ → List Entry → Type 0
AllLeave image n b [] = Unit {0}
AllLeave image n b (e ∷ es) = Leaves image n b e × AllLeave image n b es

-- the entry is an LR of block b by core n
pub record Reserves (image : ImageData) (n b : ℕ) (e : Entry) : Type 0 where
  pub core : e.did.core ≡ n
  pub lr : is_lr (kind image e.found) ≡ true
  pub same : block image e.found ≡ b

-- an LR of block b by core n stands in the list, and all after it leave the reservation
pub record ReservedSince (image : ImageData) (n b : ℕ) (es : List Entry) : Type 0 where
  pub before : List Entry
  pub entry : Entry
  pub after : List Entry
  pub is : es ≡ before ++ entry ∷ after
  pub reserves : Reserves image n b entry
  pub leave : AllLeave image n b after
