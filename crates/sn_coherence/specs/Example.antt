-- Two short runs of two nodes, node 0 being the block's home. Messages are numbered from 1 as they are sent.
use Rattle.std.specs.Prelude.{◌≡◌, true, false, List, [], ◌∷◌, ◌++◌}
use Rattle.sn_coherence.specs.Block.{Block, Modified, NoLine}
use Rattle.sn_coherence.specs.OtherEvents.{start}
use Rattle.sn_coherence.specs.Events.{Event, BeginWriteMiss, Takes, DataModified, Unblocks, Store, BeginReadMiss, ReadAtOwner, ForwardRead}
use Rattle.sn_coherence.specs.Events.{DataShared, Load, Edge, MovesOwnership, ForwardWrite, Lose, Report, DeliverReady, Validate, Recover}

-- the home has the content 5
abbrev pub example_start : Block
example_start = start 0 (5 ∷ [])

-- Node 1 gets the block to write, and makes it 7; node 0 reads it there.
abbrev pub written_and_read : List Event
written_and_read =
    BeginWriteMiss 1 ∷ Takes 1 (λ k. 0) 0 ∷ DataModified 2 ∷ Unblocks 3 ∷ Store 1 (7 ∷ []) ∷
    BeginReadMiss 0 ∷ ReadAtOwner 4 ∷ ForwardRead 5 ∷ DataShared 6 ∷ Unblocks 7 ∷ Load 0 ∷ []

-- Then node 0 gets it to write, and makes it 9. Node 1's clock ticked before it gave the block away, so the data can't
-- come to node 0 before node 0's clock has ticked too.
abbrev pub hand_over : List Event
hand_over =
    Edge 1 ∷ BeginWriteMiss 0 ∷ MovesOwnership 8 (λ k. 0) 0 ∷ ForwardWrite 9 ∷ Edge 0 ∷ DataModified 10 ∷ Unblocks 11 ∷ Store 0 (9 ∷ [])
    ∷ []

abbrev pub handed_over : List Event
handed_over = written_and_read ++ hand_over

-- Or both clocks tick, node 0 asks for the block to write, and the data is lost. Both nodes are ready for checkpoint 1 all
-- the same, which is validated, and the machine recovers to it.
abbrev pub lose_and_recover : List Event
lose_and_recover =
    Edge 1 ∷ Edge 0 ∷ BeginWriteMiss 0 ∷ MovesOwnership 8 (λ k. 0) 0 ∷ ForwardWrite 9 ∷ Lose 10 ∷
    Report 0 1 ∷ Report 1 1 ∷ DeliverReady 11 ∷ DeliverReady 12 ∷ Validate ∷ Recover ∷ []

abbrev pub events_with_recovery : List Event
events_with_recovery = written_and_read ++ lose_and_recover

-- After the first run node 0 owns the block. At cut 0 the home has what it began with; at cut 1 node 1 has what it wrote;
-- above, node 0 has what it wrote.
pub record EndsHandedOver (b : Block) : Type 0 where
  pub line : (b.line 0 ≡ Modified) × (b.line 1 ≡ NoLine)
  pub owner : (b.at_home ≡ false) × (b.owner ≡ 0)
  pub first : (b.named_home 0 ≡ true) × (b.home_held 0 ≡ 5 ∷ []) × (b.holds 0 0 ≡ false) × (b.holds 1 0 ≡ false)
  pub second : (b.named_home 1 ≡ false) × (b.named 1 ≡ 1) × (b.holds 1 1 ≡ true) × (b.held 1 1 ≡ 7 ∷ []) × (b.holds 0 1 ≡ false)
  pub third : (b.named_home 2 ≡ false) × (b.named 2 ≡ 0) × (b.holds 0 2 ≡ true) × (b.held 0 2 ≡ 9 ∷ []) × (b.holds 1 2 ≡ false)

-- After the second, node 1 has what it wrote, as at checkpoint 1, and nobody else has the block.
pub record EndsRecovered (b : Block) : Type 0 where
  pub point : b.point ≡ 1
  pub line : (b.line 0 ≡ NoLine) × (b.line 1 ≡ Modified) × (b.content 1 ≡ 7 ∷ [])
  pub owner : (b.at_home ≡ false) × (b.owner ≡ 1)
