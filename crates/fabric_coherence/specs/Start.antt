-- What stands beside the fabric at its start, and where it goes on from a recovery point.
use Rattle.std.specs.Prelude.{ℕ, Bool, true, false, List, Option, Some, None}
use Rattle.sn_coherence.specs.Block.{Asked}
use Rattle.sn_coherence.specs.OtherEvents.{owns}
use Rattle.sn_saved.specs.Saved.{owner_in}
use Rattle.fabric_coherence.specs.View.{GhostState}

abbrev pub first_ghost : GhostState
first_ghost = record { stage = λ b. Asked; at = λ b. 0; waited = λ b n. false; framed = λ b n j. false }

-- whether the home owns a block, and else the node whose cache does
abbrev pub is_home_owned : Option ℕ → Bool
is_home_owned None = true
is_home_owned (Some owner) = false

abbrev pub owner_or_zero : Option ℕ → ℕ
owner_or_zero None = 0
owner_or_zero (Some owner) = owner

-- what a cache owns had a frame at the edge to the recovery point
abbrev pub resumed_beside : List (ℕ × ℕ) → GhostState
resumed_beside owners = record {
  stage = λ b. Asked;
  at = λ b. 0;
  waited = λ b n. false;
  framed = λ b n j. owns (is_home_owned (owner_in owners b)) (owner_or_zero (owner_in owners b)) n;
}
