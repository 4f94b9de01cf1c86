-- The rows of a home send seventeen messages at most: an Inv to each sharer, and one more.
use Rattle.std.proofs.Common.{◌≡◌, ℕ, suc, ◌+◌, ◌≤◌, Bool, true, false, List, [], ◌∷◌, length, length-set, arith, Option, Some, None}
use Rattle.sn_model.specs.declared.rows.HomeRow.{HomeRow}
use Rattle.sn_model.specs.declared.rows.HomeRow.TheVariants as row
use Rattle.sn_model.specs.Homes.{Transaction}
use Rattle.sn_model.specs.HomeRows.{LoggedEntry, others, invalidations, unblock, home_reply}
use Rattle.fabric_bounds.specs.Counts.{most_sent}

few_invalidations : (node r : ℕ) (marks : List Bool) → length (invalidations node marks r) ≤ length marks
few_invalidations node r [] = omega arith
few_invalidations node r (true ∷ marks) = omega (arith, few_invalidations (node + 1) r marks)
few_invalidations node r (false ∷ marks) = omega (arith, few_invalidations (node + 1) r marks)

module _ (at : LoggedEntry) (sixteen : length at.entry.sharers ≡ 16) (r : ℕ) where
  few_others : suc (length (invalidations 0 (others at.entry.sharers r) r)) ≤ most_sent
  few_others = omega (arith, few_invalidations 0 r (others at.entry.sharers r), length-set at.entry.sharers r false)

  unblock_few : (block fixed : ℕ) (open_one : Option Transaction) → length (unblock at block fixed open_one).sends ≤ most_sent
  unblock_few block fixed None = omega arith
  unblock_few block fixed (Some transaction) = omega arith

  pub row_few : (block now tag : ℕ) (taken : HomeRow) → length (home_reply at block now tag r taken).sends ≤ most_sent
  row_few block now tag (row.ReadAtHome content) = omega arith
  row_few block now tag (row.ReadAtOwner owner) = omega arith
  row_few block now tag (row.Take content) = few_others
  row_few block now tag (row.MoveOwnership owner) = few_others
  row_few block now tag row.Upgrade = few_others
  row_few block now tag (row.Unblock fixed) = unblock_few block fixed at.entry.transaction
  row_few block now tag row.PutBegins = omega arith
  row_few block now tag row.PutIsStale = omega arith
  row_few block now tag (row.PutData content) = omega arith
  row_few block now tag (row.GrantExclusive content) = omega arith
