-- What the records of a block tell of the fabric at every moment.
use Rattle.std.specs.Prelude.{◌≡◌, ◌≢◌, ℕ, ◌+◌, ◌<◌, ◌≤◌, true, false, length}
use Rattle.sn_model.specs.Fabric.{Fabric, node_at, home_of, line_of_node}
use Rattle.sn_model.specs.PointEvents.{fabric_restored_to}
use Rattle.sn_model.specs.Caches.{is_present, is_writable_state, misses_on}
use Rattle.sn_model.specs.Cuts.{names_at, transaction_before}
use Rattle.sn_model.specs.RecoveryPoint.{HasOneHolderWith, IsOwned}
use Rattle.sn_coherence.specs.Records.{Records}
use Rattle.fabric_coherence.specs.Events.{CanUse}

pub record Tells (s : Fabric) (b : ℕ) (r : Records) : Type 0 where
  -- each copy is what all accesses left
  pub copies : (n : ℕ) → n < length s.nodes → is_present (line_of_node s n b).state ≡ true → (line_of_node s n b).content ≡ r.value
  -- a copy that is read in its node's interval is what the last write up to that interval left, and no write lies above it
  pub read : (n : ℕ) → n < length s.nodes → is_present (line_of_node s n b).state ≡ true →
      ((line_of_node s n b).content ≡ r.below ((node_at s n).now + 1)) × (r.last_write ≤ (node_at s n).now + 1)
  -- a write comes after every access
  pub write : (n : ℕ) → CanUse s n b → is_writable_state (line_of_node s n b).state ≡ true →
      (x : ℕ) → r.last_access x ≤ (node_at s n).now + 1
  -- a reservation is on a copy, and nobody else has written since; beside a writer nobody has one
  pub reserved : (n : ℕ) → n < length s.nodes → r.reserved n ≡ true → (is_present (line_of_node s n b).state ≡ true) × (r.alone n ≡ true)
  pub alone : (n x : ℕ) → n < length s.nodes → is_writable_state (line_of_node s n b).state ≡ true →
      misses_on (node_at s n).cache.miss b ≡ false → x ≢ n → r.reserved x ≡ false
  -- at a cut from the point on below which the home has begun nothing that is open there is one holder, with what the
  -- accesses below the cut leave; the point is such a cut
  pub held : (k : ℕ) → s.point ≤ k → transaction_before (home_of s b).transaction k ≡ false →
      HasOneHolderWith s b k (r.below k) (names_at s b k)
  pub point : HasOneHolderWith s b s.point (r.below s.point) (names_at s b s.point)
  -- so that is what a recovery to the point leaves at the one owner
  pub restored_to : IsOwned (fabric_restored_to s s.point) b (r.below s.point) (home_of (fabric_restored_to s s.point) b).holder
