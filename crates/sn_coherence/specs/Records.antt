-- Beside the block, what the records of accesses say of it, and what each event makes of that.
-- The sorted list is the accesses of the block in order of intervals, and in each interval in order of retirement.
use Rattle.std.specs.Prelude.{◌≡◌, ℕ, ◌+◌, ◌<◌, Bool, true, false, ◌==◌, ◌&&◌, nat_lt, nat_le, max, min, cond}
use Rattle.sn_coherence.specs.Block.{Block, Content, set, above}
use Rattle.sn_coherence.specs.Events.{Event, ForwardWrite, Invalidate, PutGoes, DeliverReady, Load, LoadReserved, Store}
use Rattle.sn_coherence.specs.Events.{StoreConditionalDone, StoreConditionalUndone, EvictShared, Edge, Validate, Recover, Allows}

pub record Records : Type 0 where
  -- bounds: no write of the sorted list lies in an interval of this number or above, and no access of node n
  pub last_write : ℕ
  pub last_access : ℕ → ℕ
  -- the content after the part of the sorted list in intervals below j, and after all of it
  pub below : ℕ → Content
  pub value : Content
  -- the core of node n has its reservation on the block, and no other node has written the block since that core's last LR of it
  pub reserved : ℕ → Bool
  pub alone : ℕ → Bool
  -- the number that the controller keeps as reported by node n
  pub reported : ℕ → ℕ

-- node n reads in interval x
abbrev pub loads : Records → ℕ → ℕ → Records
loads r n x = record r { last_access = set r.last_access n (max (r.last_access n) (x + 1)) }

-- by an LR
abbrev pub loads_reserved : Records → ℕ → ℕ → Records
loads_reserved r n x = record (loads r n x) { reserved = set r.reserved n true; alone = set r.alone n true }

-- node n writes in interval x, and the block is v then
abbrev pub stores : Records → ℕ → ℕ → Content → Records
stores r n x v =
    record r {
      last_write = max r.last_write (x + 1);
      last_access = set r.last_access n (max (r.last_access n) (x + 1));
      below = above r.below x v;
      value = v;
      alone = λ m. (m == n) && r.alone m;
    }

-- node n's reservation on the block is gone
abbrev pub unreserves : Records → ℕ → Records
unreserves r n = record r { reserved = set r.reserved n false }

-- by an SC that is done
abbrev pub stores_conditional : Records → ℕ → ℕ → Content → Records
stores_conditional r n x v = record (stores r n x v) { reserved = set r.reserved n false }

-- the controller hears k from node n
abbrev pub hears : Records → ℕ → ℕ → Records
hears r n k = record r { reported = set r.reported n (max (r.reported n) k) }

-- a recovery to k leaves the records of intervals below k
abbrev pub rolls_back : Records → ℕ → ℕ → Records
rolls_back r N k =
    record {
      last_write = min r.last_write k;
      last_access = λ n. min (r.last_access n) k;
      below = λ j. cond (nat_le j k) (r.below j) (r.below k);
      value = r.below k;
      reserved = λ n. false;
      alone = λ n. false;
      reported = λ n. cond (nat_lt n N) k (r.reported n);
    }

-- at the start nothing was accessed
abbrev pub no_records : Content → Records
no_records v =
    record { last_write = 0; last_access = λ n. 0; below = λ j. v; value = v; reserved = λ n. false; alone = λ n. false; reported = λ n. 0 }

-- where a machine goes on, all accesses lie in interval 0, and where the recovery point is 0 there are none
abbrev pub resting_records : ℕ → ℕ → Content → Records
resting_records N point v =
    record {
      last_write = min point 1;
      last_access = λ n. min point 1;
      below = λ j. v;
      value = v;
      reserved = λ n. false;
      alone = λ n. false;
      reported = λ n. cond (nat_lt n N) point 0;
    }

-- the records after an event
abbrev pub records_after_event : ℕ → Block → Records → Event → Records
records_after_event N b r (ForwardWrite i) = unreserves r (b.net i).to
records_after_event N b r (Invalidate i) = unreserves r (b.net i).to
records_after_event N b r (PutGoes i) = unreserves r (b.net i).to
records_after_event N b r (DeliverReady i) = hears r (b.net i).from (b.net i).number
records_after_event N b r (Load n) = loads r n (b.now n)
records_after_event N b r (LoadReserved n) = loads_reserved r n (b.now n)
records_after_event N b r (Store n v) = stores r n (b.now n) v
records_after_event N b r (StoreConditionalDone n v) = stores_conditional r n (b.now n) v
records_after_event N b r (StoreConditionalUndone n) = unreserves r n
records_after_event N b r (EvictShared n) = unreserves r n
records_after_event N b r (Edge n) = unreserves r n
records_after_event N b r Recover = rolls_back r N b.point
records_after_event N b r e = r

-- when the machine does an event: an SC is done where the block is reserved, and a checkpoint is validated where every
-- node has reported a number above the point
abbrev pub MayHappen : ℕ → Block → Records → Event → Type 0
MayHappen N b r (StoreConditionalDone n v) = Allows N b (StoreConditionalDone n v) × (r.reserved n ≡ true)
MayHappen N b r Validate = (n : ℕ) → n < N → b.point < r.reported n
MayHappen N b r e = Allows N b e
