-- Whole runs of one block.
use Rattle.std.specs.Prelude.{◌≡◌, ◌≢◌, ℕ, ◌≤◌, true, false, List, [], ◌∷◌, ⊤}
use Rattle.sn_coherence.specs.Block.{Block, NoLine, is_writable, is_here}
use Rattle.sn_coherence.specs.Events.{Event, NothingUnfinished, after}
use Rattle.sn_coherence.specs.Records.{Records, records_after_event, MayHappen}
use Rattle.sn_coherence.specs.Consequences.{MeetsRows, MeetsNotes, HasOneHolder, HasContent, NoneBegun, IsLegal}

-- each event of the list can happen when its turn comes
abbrev pub CanRun : ℕ → Block → Records → List Event → Type 0
CanRun N b r [] = ⊤
CanRun N b r (e ∷ es) = MayHappen N b r e × CanRun N (after N b e) (records_after_event N b r e) es

-- the block and its records after the list
abbrev pub block_after : ℕ → Block → List Event → Block
block_after N b [] = b
block_after N b (e ∷ es) = block_after N (after N b e) es

abbrev pub records_after : ℕ → Block → Records → List Event → Records
records_after N b r [] = r
records_after N b r (e ∷ es) = records_after N (after N b e) (records_after_event N b r e) es

-- What holds of a block at every moment.
pub record IsCoherent (N : ℕ) (b : Block) (r : Records) : Type 0 where
  -- each message in flight meets its row, and each note is of an interval that may be noted
  pub rows : MeetsRows b
  pub notes : MeetsNotes b
  -- who may write, with no miss open on the block, has the only copy
  pub writer : (n m : ℕ) → is_writable (b.line n) ≡ true → is_here (b.miss n).want ≡ false → n ≢ m → b.line m ≡ NoLine
  -- each copy has the content that all accesses leave
  pub copies : (n : ℕ) → b.line n ≢ NoLine → b.content n ≡ r.value
  -- every access that can be made is legal
  pub accesses : IsLegal N b r
  -- each cut from the point on below which no transaction was begun has one holder, with the right content
  pub holder : (j : ℕ) → b.point ≤ j → NoneBegun b j → HasOneHolder N b j
  pub content : (j : ℕ) → b.point ≤ j → HasContent b r j
  -- the point is such a cut, and nothing that was begun below it is unfinished
  pub finished : NothingUnfinished N b b.point
  pub point : HasOneHolder N b b.point
