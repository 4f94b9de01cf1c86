-- Which events a machine of so many nodes takes.
use Rattle.std.specs.Prelude.{ℕ, ◌*◌, Bool, true, nat_lt}
use Rattle.sn_base.specs.declared.event.Event.{Event}
use Rattle.sn_base.specs.declared.event.Event.TheVariants.{Step, Evict, Edge, Hop, Deliver, Lose, Kill, Report, Validate, Recover, Input}
use Rattle.sn_base.specs.declared.limits.TheConstants.{BLOCKS}

-- its nodes are below the number of nodes, its switch below twice that
abbrev pub event_fits : ℕ → Event → Bool
event_fits nodes (Step node) = nat_lt node nodes
event_fits nodes (Evict node block) = nat_lt node nodes
event_fits nodes (Edge node) = nat_lt node nodes
event_fits nodes (Hop message) = true
event_fits nodes (Deliver message) = true
event_fits nodes (Lose message) = true
event_fits nodes (Kill switch) = nat_lt switch (2 * nodes)
event_fits nodes (Report node) = nat_lt node nodes
event_fits nodes Validate = true
event_fits nodes Recover = true
event_fits nodes (Input node byte) = nat_lt node nodes

-- the block of an eviction is one of memory
abbrev pub block_fits : Event → Bool
block_fits (Evict node block) = nat_lt block BLOCKS
block_fits _ = true
