-- How far the fabric's numbers have come.
use Rattle.std.specs.Prelude.{◌≡◌, ℕ, ◌+◌, ◌*◌, ◌<◌, ◌≤◌, length}
use Rattle.sn_model.specs.Fabric.{Fabric, FabricStep, node_at}

-- how many messages an event sends at most: one to each node, and one more
abbrev pub most_sent : ℕ
most_sent = 17

-- an event sends no more than that, and each message takes the next number
pub record SendsFew (s : Fabric) (moved : FabricStep) : Type 0 where
  pub few : length moved.sent ≤ most_sent
  pub numbers : moved.fabric.net.next_id ≡ s.net.next_id + length moved.sent

-- after so many events no number is above what they can have made of it
pub record CountsTo (events : ℕ) (s : Fabric) : Type 0 where
  pub numbers : s.net.next_id ≤ most_sent * events + 1
  pub nows : (n : ℕ) → n < length s.nodes → (node_at s n).now ≤ events
  pub point : s.point ≤ events
