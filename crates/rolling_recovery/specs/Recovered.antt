-- What is promised of a recovery node by node, whatever calls lead it.
use Rattle.std.specs.Prelude.{◌≡◌, ℕ, ◌<◌, Bool, true, false, ◌||◌, nat_eq, if◌then◌else◌, List, [], ◌∷◌, Option, Some, None, is_some}
use Rattle.std.specs.Option.{option_or}
use Rattle.sn_base.specs.declared.event.Event.TheVariants.{Recover}
use Rattle.sn_model.specs.Caches.{block_count, line_of}
use Rattle.sn_model.specs.Cuts.{owned_content}
use Rattle.sn_model.specs.Fabric.{Fabric, node_at, home_of, home_node}
use Rattle.sn_model.specs.Homes.{Holder, Itself, OfCache}
use Rattle.sn_model.specs.Machine.{State, processor_at}
use Rattle.sn_machine.specs.Machine.{next_of}
use Rattle.rolling_recovery.specs.declared.controls.Control.{Control}
use Rattle.rolling_recovery.specs.declared.controls.Control.TheVariants.{Deliver}
use Rattle.rolling_recovery.specs.declared.messages.ControlMessage.{ControlMessage}
use Rattle.rolling_recovery.specs.declared.messages.ControlMessage.TheVariants.{Order, Done}
use Rattle.rolling_recovery.specs.Rolling.{RollingData, rolling_start, has_part, is_noted, core_in_part, block_in_part, message_of, finish_fault}
use Rattle.rolling_recovery.specs.Rolling.{after_control}

-- whether one of these calls delivers an order to node n
abbrev pub is_order_to : ℕ → Option ControlMessage → Bool
is_order_to n None = false
is_order_to n (Some (Order node)) = nat_eq node n
is_order_to n (Some (Done node)) = false

abbrev pub delivers_order : RollingData → ℕ → Control → Bool
delivers_order r n (Deliver id) = is_order_to n (message_of r id)
delivers_order r n _ = false

abbrev pub was_ordered : RollingData → ℕ → List Control → Bool
was_ordered r n [] = false
was_ordered r n (call ∷ calls) = delivers_order r n call || was_ordered (after_control r call) n calls

-- what a node owns of a block: what its cache owns, or else what its home does
abbrev pub home_owns : Fabric → ℕ → ℕ → Holder → Option (List ℕ)
home_owns s n block (Itself content) = if nat_eq (home_node s block) n then Some content else None
home_owns s n block (OfCache owner) = None

abbrev pub owned_by : Fabric → ℕ → ℕ → Option (List ℕ)
owned_by s n block = let line = line_of (node_at s n).cache block in
    option_or (owned_content line line.state) (home_owns s n block (home_of s block).holder)

-- a machine is made of the parts that the nodes have
pub record IsMadeOfParts (r : RollingData) (s : State) : Type 0 where
  -- each block is in one of them
  pub blocks : (block : ℕ) → block < block_count → (n : ℕ) × (n < r.machine.config.nodes) × (is_some (block_in_part r n block) ≡ true)
  -- each node's core is that of its part, and it owns just the blocks of its part, with their content there
  pub cores : (n : ℕ) → n < r.machine.config.nodes → core_in_part r n ≡ Some (processor_at s n).core
  pub owned : (n block : ℕ) → n < r.machine.config.nodes → block < block_count → owned_by s.fabric n block ≡ block_in_part r n block

-- after these calls
pub record IsLedTo (r : RollingData) (calls : List Control) : Type 0 where
  -- a node has a part exactly where an order to it was delivered
  pub parts : (n : ℕ) → has_part r n ≡ was_ordered (rolling_start r.machine) n calls
  -- a node is noted only where it has a part
  pub noted : (n : ℕ) → is_noted r n ≡ true → has_part r n ≡ true
  -- each block is in at most one part
  pub apart : (a b block : ℕ) → is_some (block_in_part r a block) ≡ true → is_some (block_in_part r b block) ≡ true → a ≡ b
  -- where nothing is in the finish's way, the state of the definitions' recovery is made of the parts
  pub whole : finish_fault r ≡ None → IsMadeOfParts r (next_of r.machine Recover).state
