-- What an event of the machine's parts relies on, in the words of the state alone.
use Rattle.std.specs.Prelude.{◌≡◌, ℕ, ◌+◌, ◌<◌, ◌≤◌, ◌^◌, length, None}
use Rattle.std.specs.List.{All}
use Rattle.sn_model.specs.Fabric.{node_at}
use Rattle.sn_model.specs.Machine.{State}
use Rattle.sn_model.specs.MachineEvents.{unready_node}
use Rattle.consistent_cuts.specs.Coherent.{Keeps, NothingUnfinished, IsInTime}
use Rattle.consistent_cuts.specs.Outlines.{IsRestShaped}

-- numbers that don't run out; all sentences of coherence; a processor for each node, with the register checkpoints from the
-- point that its node knows on, and the clocks in order; what waits is of no interval below the recovery point; and where every
-- node has reported, nothing before the next checkpoint is unfinished
pub record IsSound (s : State) : Type 0 where
  pub numbers : s.fabric.net.next_id ≤ 2 ^ 63
  pub nows : (n : ℕ) → n < length s.fabric.nodes → (node_at s.fabric n).now + 1 < 2 ^ 32
  pub keeps : Keeps s.fabric
  pub shape : IsRestShaped s
  pub times : (n : ℕ) → n < length s.fabric.nodes → IsInTime s.fabric n
  pub pending : All (λ r. s.fabric.point ≤ r.interval) s.pending
  pub held : All (λ b. s.fabric.point ≤ b.interval) s.held
  pub finished : unready_node s ≡ None → NothingUnfinished s.fabric (s.fabric.point + 1)
