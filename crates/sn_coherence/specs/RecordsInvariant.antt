-- What every event keeps of the records of accesses, beside what it keeps of the block.
use Rattle.std.specs.Prelude.{◌≡◌, ◌≢◌, ◌⊎◌, ℕ, ◌+◌, ◌<◌, ◌≤◌, true, false}
use Rattle.sn_coherence.specs.Block.{Block, NoLine, Reads, Read, Take, Given, InvAck, Ready, is_owned, is_writable, is_here, hands_over}
use Rattle.sn_coherence.specs.Block.{brings_to_cache, is_get, has_content}
use Rattle.sn_coherence.specs.Events.{IsReady}
use Rattle.sn_coherence.specs.Records.{Records}

-- Reports. No node has promised more than its ready number.
pub record Reports (b : Block) (r : Records) : Type 0 where
  -- what the controller keeps of a node is at most its ready number, and so is what is on its way
  pub reported : (n : ℕ) → IsReady b n (r.reported n)
  pub message : (i : ℕ) → (b.net i).body ≡ Ready → IsReady b (b.net i).from (b.net i).number

-- Contents. All copies are what the whole sorted list leaves.
pub record Contents (b : Block) (r : Records) : Type 0 where
  -- where no write lies at or above j, the list below j leaves what all of it leaves
  pub unwritten : (j : ℕ) → r.last_write ≤ j → r.below j ≡ r.value
  -- a line, a home that owns, and a message with a content have what the whole list leaves
  pub of_line : (n : ℕ) → b.line n ≢ NoLine → b.content n ≡ r.value
  pub of_home : b.at_home ≡ true → b.home_content ≡ r.value
  pub of_message : (i : ℕ) → has_content (b.net i).body ≡ true → (b.net i).content ≡ r.value
  -- above its newest entry a side says the content of now
  pub held_now : (n j : ℕ) → b.last n ≤ j → is_owned (b.line n) ≡ true → b.held n j ≡ b.content n
  pub home_held_now : (j : ℕ) → b.home_last ≤ j → b.at_home ≡ true → b.home_held j ≡ b.home_content
  -- a reservation is on a line, and nobody else wrote since the LR
  pub reserved_line : (n : ℕ) → r.reserved n ≡ true → b.line n ≢ NoLine
  pub reserved_alone : (n : ℕ) → r.reserved n ≡ true → r.alone n ≡ true

-- Accesses. In which intervals they may lie.
pub record Accesses (b : Block) (r : Records) : Type 0 where
  -- a node's accesses lie at or below its now
  pub own : (n : ℕ) → r.last_access n ≤ b.now n + 1
  -- no write lies above the now of a node with a line, nor of a home that owns,
  pub write_line : (n : ℕ) → b.line n ≢ NoLine → r.last_write ≤ b.now n + 1
  pub write_home : b.at_home ≡ true → r.last_write ≤ b.now b.home + 1
  -- nor above the interval of atomicity where a Read, Take, Move or Put is given
  pub write_read : b.kind ≡ Read → b.stage ≡ Given → r.last_write ≤ b.at + 1
  pub write_given : hands_over b.kind ≡ true → b.stage ≡ Given → r.last_write ≤ b.at + 1
  -- no access lies above the now of a node that may write and has no miss open on the block
  pub writer : (n x : ℕ) → is_writable (b.line n) ≡ true → is_here (b.miss n).want ≡ false → r.last_access x ≤ b.now n + 1
  -- nor above the interval of atomicity of a Take that is given to a reader
  pub alone : (x : ℕ) → b.kind ≡ Take → b.stage ≡ Given → (b.miss b.requester).want ≡ Reads → r.last_access x ≤ b.at + 1
  -- an access above the now of the owner, a cache or the home, or above the interval of atomicity where the block is on
  -- its way, is by a node that is listed or waited for, or it lies at or below the now of the requester of a Take or Move
  pub owner : (n x : ℕ) → is_owned (b.line n) ≡ true → b.now n + 1 < r.last_access x →
      (b.sharers x ≡ true) ⊎ (b.waited x ≡ true) ⊎ ((brings_to_cache b.kind ≡ true) × (r.last_access x ≤ b.now b.requester + 1))
  pub home : (x : ℕ) → b.at_home ≡ true → b.now b.home + 1 < r.last_access x →
      (b.sharers x ≡ true) ⊎ (b.waited x ≡ true) ⊎ ((brings_to_cache b.kind ≡ true) × (r.last_access x ≤ b.now b.requester + 1))
  pub given : (x : ℕ) → hands_over b.kind ≡ true → b.stage ≡ Given → b.at + 1 < r.last_access x →
      (b.sharers x ≡ true) ⊎ (b.waited x ≡ true) ⊎ ((brings_to_cache b.kind ≡ true) × (r.last_access x ≤ b.now b.requester + 1))
  -- no access of the sender of a request or an InvAck lies above its tag
  pub request : (i : ℕ) → is_get (b.net i).body ≡ true → r.last_access (b.net i).from ≤ (b.net i).tag + 1
  pub inv_ack : (i : ℕ) → (b.net i).body ≡ InvAck → r.last_access (b.net i).from ≤ (b.net i).tag + 1

-- Contents at the cuts from the point on.
pub record CutContents (b : Block) (r : Records) : Type 0 where
  -- who holds at a cut, and a home that names itself, has what the list below the cut leaves
  pub held : (n j : ℕ) → b.point ≤ j → b.holds n j ≡ true → b.held n j ≡ r.below j
  pub home_held : (j : ℕ) → b.point ≤ j → b.named_home j ≡ true → b.home_held j ≡ r.below j

-- All of it.
pub record RecordsInvariant (b : Block) (r : Records) : Type 0 where
  pub reports : Reports b r
  pub contents : Contents b r
  pub accesses : Accesses b r
  pub cut_contents : CutContents b r
