-- The events of the machine that are those of the fabric alone, and what each call asks.
use Rattle.std.specs.Prelude.{◌≡◌, ℕ, ◌+◌, ◌*◌, ◌<◌, ◌^◌, length, ⊤}
use Rattle.sn_base.specs.declared.event.Event.{Event}
use Rattle.sn_base.specs.declared.event.Event.TheVariants as event
use Rattle.sn_model.specs.Fabric.{Fabric, node_at}
use Rattle.sn_model.specs.FabricEvents.{FabricEvent, Evict, Edge, Hop, Deliver, Lose, Kill, Report, Advance, Recover}
use Rattle.fabric_bounds.specs.Coherent.{NothingUnfinished}

-- the event of the fabric; Step and Input, which it doesn't know, are taken for a report of nobody
abbrev pub fabric_event : Event → ℕ → FabricEvent
fabric_event (event.Evict n block) k = Evict n block
fabric_event (event.Edge n) k = Edge n
fabric_event (event.Hop id) k = Hop id
fabric_event (event.Deliver id) k = Deliver id
fabric_event (event.Lose id) k = Lose id
fabric_event (event.Kill switch) k = Kill switch
fabric_event (event.Report n) k = Report n
fabric_event event.Validate k = Advance k
fabric_event event.Recover k = Recover k
fabric_event (event.Step n) k = Report n
fabric_event (event.Input n byte) k = Report n

-- the conditions of the event's call, but for those on numbers of messages, which an answer doesn't depend on
abbrev pub IsForeseeable : Fabric → Event → ℕ → Type 0
IsForeseeable s (event.Evict n block) k = n < length s.nodes
IsForeseeable s (event.Edge n) k = (n < length s.nodes) × ((node_at s n).now + 1 < 2 ^ 32)
IsForeseeable s (event.Hop id) k = ⊤
IsForeseeable s (event.Deliver id) k = ⊤
IsForeseeable s (event.Lose id) k = ⊤
IsForeseeable s (event.Kill switch) k = switch < 2 * length s.nodes
IsForeseeable s (event.Report n) k = n < length s.nodes
IsForeseeable s event.Validate k = (k ≡ s.point + 1) × NothingUnfinished s k
IsForeseeable s event.Recover k = k ≡ s.point
IsForeseeable s (event.Step n) k = ⊥
IsForeseeable s (event.Input n byte) k = ⊥
