-- The parts in which a state is told: each node, each block's home, the network, and the service controller with what it
-- commits. A part is always told whole.
use Rattle.std.specs.Prelude.{ℕ, nat_eq, List, length, filter}
use Rattle.sn_model.specs.Fabric.{Node, node_at}
use Rattle.sn_model.specs.Machine.{State, Processor, Retirement, HeldByte, processor_at}
use Rattle.sn_model.specs.Instructions.{taken_by}

-- what belongs to a node: its half of the fabric, its processor, its records that wait for a validation, and how many bytes of
-- its input it has taken
pub record NodePart : Type 0 where
  pub node : Node
  pub processor : Processor
  pub waiting : List Retirement
  pub taken : ℕ

-- the records of a node among those that wait
abbrev pub waiting_of : ℕ → List Retirement → List Retirement
waiting_of n pending = filter (λ r. nat_eq r.did.core n) pending

abbrev pub node_part : State → ℕ → NodePart
node_part s n = record {
  node = node_at s.fabric n;
  processor = processor_at s n;
  waiting = waiting_of n s.pending;
  taken = taken_by s n;
}

-- what belongs to the controller: the recovery point, what each node reported, the bytes that are held, and how many records
-- are committed and bytes released
pub record ControllerPart : Type 0 where
  pub point : ℕ
  pub reported : List ℕ
  pub held : List HeldByte
  pub committed : ℕ
  pub released : ℕ

abbrev pub controller_part : State → ControllerPart
controller_part s = record {
  point = s.fabric.point;
  reported = s.reported;
  held = s.held;
  committed = length s.committed;
  released = length s.released;
}
