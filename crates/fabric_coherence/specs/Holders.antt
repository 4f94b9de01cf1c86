-- Who holds a block, in the words of the fabric's definitions: one writer now, and one holder at each cut where its home has nothing open.
use Rattle.std.specs.Prelude.{◌≡◌, ◌≢◌, ℕ, ◌<◌, ◌≤◌, true, false, List, length}
use Rattle.sn_model.specs.declared.cache.LineState.TheVariants.{Absent}
use Rattle.sn_model.specs.Caches.{line_of, is_writable_state, misses_on}
use Rattle.sn_model.specs.Cuts.{names_at, transaction_before}
use Rattle.sn_model.specs.RecoveryPoint.{HasOneHolderWith}
use Rattle.sn_model.specs.Fabric.{Fabric, node_at, home_of}

-- a cache that may write a block, with no miss open on it, has the only copy
abbrev pub HasOneWriter : Fabric → ℕ → Type 0
HasOneWriter s b =
    (n m : ℕ) → n < length s.nodes → m < length s.nodes → n ≢ m →
    is_writable_state (line_of (node_at s n).cache b).state ≡ true → misses_on (node_at s n).cache.miss b ≡ false →
    (line_of (node_at s m).cache b).state ≡ Absent

-- at checkpoint k the block has one holder, whom its home names, with some content
abbrev pub HasHolder : Fabric → ℕ → ℕ → Type 0
HasHolder s b k = (content : List ℕ) × HasOneHolderWith s b k content (names_at s b k)

-- who holds a block of the fabric
pub record IsCoherent (s : Fabric) (b : ℕ) : Type 0 where
  pub writer : HasOneWriter s b
  pub holder : (k : ℕ) → s.point ≤ k → transaction_before (home_of s b).transaction k ≡ false → HasHolder s b k
