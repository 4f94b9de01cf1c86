-- How many blocks the nodes' caches own, and which lines an event may have touched.
use Rattle.std.specs.Prelude.{◌≡◌, ℕ, zero, suc, ◌+◌, ◌<◌, ◌^◌, Bool, true, false, not, ◌&&◌, nat_eq, nat_lt, nat_le, if◌then◌else◌}
use Rattle.std.specs.Prelude.{List, length, slice_index, Option, Some, None, is_some, ⊤}
use Rattle.sn_base.specs.declared.event.Event.{Event}
use Rattle.sn_base.specs.declared.event.Event.TheVariants.{Step, Evict, Edge, Deliver, Recover}
use Rattle.sn_base.specs.declared.log.LogEntry.{LogEntry}
use Rattle.sn_base.specs.declared.log.Old.{Old}
use Rattle.sn_base.specs.declared.log.Old.TheVariants.{Owned}
use Rattle.sn_msg.specs.declared.Message.{Message}
use Rattle.log_buffer.specs.Log.{is_home_side}
use Rattle.sn_model.specs.Caches.{Miss, block_count, is_owned}
use Rattle.sn_model.specs.Cuts.{holds_at}
use Rattle.sn_model.specs.Fabric.{Fabric, Flight, node_at, line_of_node}
use Rattle.sn_model.specs.Net.{flight_of, is_there}
use Rattle.run_statistics.specs.declared.owned.TouchedLines.{TouchedLines}
use Rattle.run_statistics.specs.declared.reach.Reach.{Reach}
use Rattle.run_statistics.specs.declared.reach.Reach.TheVariants.{Nobody, One, Everybody}
use Rattle.run_statistics.specs.Numbers.{with_change, with_greatest_below, no_numbers}

-- how many of the numbers below one pass a test
abbrev pub one_if : Bool → ℕ
one_if test = if test then 1 else 0

unfoldable pub count_below : (ℕ → Bool) → ℕ → ℕ
count_below test zero = 0
count_below test (suc n) = count_below test n + one_if (test n)

-- whether a node's cache owns a block: its line is Owned, Modified or Exclusive
abbrev pub owns : Fabric → ℕ → ℕ → Bool
owns s n block = is_owned (line_of_node s n block).state

-- how many blocks a node's cache owns
abbrev pub owned_blocks : Fabric → ℕ → ℕ
owned_blocks s n = count_below (owns s n) block_count

-- whether a node's cache owned a block at a checkpoint, and how many it owned then
abbrev pub owns_at : Fabric → ℕ → ℕ → ℕ → Bool
owns_at s k n b = is_some (holds_at s n b k)

abbrev pub owned_blocks_at : Fabric → ℕ → ℕ → ℕ
owned_blocks_at s k n = count_below (owns_at s k n) block_count

-- so many of each node, which are those that it owns after a recovery to the recovery point
abbrev pub owned_at_point : ℕ → Fabric → List ℕ
owned_at_point nodes s = with_greatest_below (owned_blocks_at s s.point) nodes no_numbers

-- whether an entry of a log says what a cache owned at a checkpoint: it is of the cache's side, and not below the checkpoint
abbrev pub is_undone : ℕ → LogEntry → Bool
is_undone k e = not (is_home_side e.old) && nat_le k e.interval

-- whether what an entry keeps is a block that the cache owned
abbrev pub was_owned : Old → Bool
was_owned (Owned content) = true
was_owned _ = false

-- whether a node's cache owned an entry's block behind the entry's interval
abbrev pub owned_behind : Fabric → ℕ → LogEntry → Bool
owned_behind s n e = if nat_lt (e.interval + 1) (2 ^ 32) then owns_at s (e.interval + 1) n e.block else owns s n e.block

-- the block of an open miss, and another where none is open
abbrev pub missed_block : Option Miss → ℕ → ℕ
missed_block None other = other
missed_block (Some miss) other = miss.block

-- a message may touch, of its receiver's cache, the line of its block, and that of the block of the open miss, which may complete
abbrev pub lines_at : Fabric → Message → TouchedLines
lines_at s m = record { node = m.to; block = m.block; missed = missed_block (node_at s m.to).cache.miss m.block }

-- where it is delivered: it stands in a switch of its receiver
abbrev pub lines_of_flight : Fabric → Option Flight → Option TouchedLines
lines_of_flight s None = None
lines_of_flight s (Some f) = if is_there f then Some (lines_at s f.message) else None

-- the lines by which an event that isn't a recovery may change what a cache owns
abbrev pub touched_lines : Fabric → Event → Option TouchedLines
touched_lines s (Deliver id) = lines_of_flight s (flight_of s.net.flights id)
touched_lines s _ = None

-- how many of these lines own their blocks; one line is counted once
abbrev pub owned_among : Fabric → Option TouchedLines → ℕ
owned_among s None = 0
owned_among s (Some l) = one_if (owns s l.node l.block) + (if nat_eq l.missed l.block then 0 else one_if (owns s l.node l.missed))

-- they are lines of one of so many nodes, and of blocks of memory
abbrev pub AreThere : ℕ → Option TouchedLines → Type 0
AreThere nodes None = ⊤
AreThere nodes (Some l) = (l.node < nodes) × (l.block < block_count) × (l.missed < block_count)

-- numbers by node, once of these lines so many own their blocks where so many did
abbrev pub with_lines : List ℕ → Option TouchedLines → ℕ → ℕ → List ℕ
with_lines numbers None had has = numbers
with_lines numbers (Some l) had has = with_change numbers l.node has had

-- the nodes whose log, clocks or lines an event may change
abbrev pub reach_of_lines : Option TouchedLines → Reach
reach_of_lines None = Nobody
reach_of_lines (Some l) = One l.node

abbrev pub reach_of : Fabric → Event → Reach
reach_of s (Step n) = One n
reach_of s (Evict n block) = One n
reach_of s (Edge n) = One n
reach_of s (Deliver id) = reach_of_lines (touched_lines s (Deliver id))
reach_of s Recover = Everybody
reach_of s _ = Nobody

abbrev pub is_reached : Reach → ℕ → Bool
is_reached Nobody n = false
is_reached (One k) n = nat_eq k n
is_reached Everybody n = true

abbrev pub ReachesNodes : ℕ → Reach → Type 0
ReachesNodes nodes Nobody = ⊤
ReachesNodes nodes (One n) = n < nodes
ReachesNodes nodes Everybody = ⊤

abbrev pub is_recovery : Event → Bool
is_recovery Recover = true
is_recovery _ = false

-- these numbers are how many blocks the caches of so many nodes own
pub record AreOwned (nodes : ℕ) (s : Fabric) (numbers : List ℕ) : Type 0 where
  pub places : length numbers ≡ 32
  pub owned : (n : ℕ) → n < nodes → slice_index numbers n ≡ owned_blocks s n
