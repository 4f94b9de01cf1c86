-- What the network does with messages: it sends, carries and loses them.
use Rattle.std.specs.Prelude.{ℕ, ◌+◌, Bool, not, nat_eq, nat_lt, if◌then◌else◌, List, [], ◌∷◌, ◌++◌, length, filter, find, map, Option}
use Rattle.std.specs.Prelude.{Some, None}
use Rattle.sn_base.specs.declared.event.Answer.{Answer}
use Rattle.sn_base.specs.declared.limits.TheConstants.{MESSAGES}
use Rattle.sn_msg.specs.declared.Message.{Message}
use Rattle.route_plan.specs.Grid.{node_of}
use Rattle.route_plan.specs.Distances.{Switches, is_dead}
use Rattle.route_plan.specs.Routes.{enter_of, next_of}
use Rattle.sn_model.specs.declared.cache.Out.{Out}
use Rattle.sn_model.specs.declared.net.Sent.{Sent}
use Rattle.sn_model.specs.Fabric.{Fabric, Net, Flight, FabricStep, node_at}

-- how many messages may be in flight
abbrev pub net_limit : ℕ
net_limit = MESSAGES

-- the switches as they were when the routes were made
abbrev pub routes_of : Fabric → Switches
routes_of s = record { nodes = length s.nodes; dead = s.net.planned }

-- a message from a node, in its interval, about a block
abbrev pub message_of : Net → ℕ → ℕ → ℕ → Out → Message
message_of net from tag block out = record { id = net.next_id; from = from; to = out.to; tag = tag; block = block; body = out.body }

-- the switch in which a message enters
abbrev pub entry_of : Switches → Message → ℕ
entry_of routes m = enter_of routes m.from m.to

abbrev pub is_lost : Switches → Net → Message → Bool
is_lost routes net m = is_dead net.dead (entry_of routes m)

-- the message takes its number, and stands in its entry switch unless that is dead
abbrev pub net_after_send : Switches → Net → Message → Net
net_after_send routes net m = record net {
  flights = (if is_lost routes net m then net.flights else net.flights ++ record { message = m; place = entry_of routes m } ∷ []);
  next_id = net.next_id + 1;
}

-- the network after these messages from a node, in order
abbrev pub net_after_sends : Switches → Net → ℕ → ℕ → ℕ → List Out → Net
net_after_sends routes net from tag block [] = net
net_after_sends routes net from tag block (out ∷ outs) = net_after_sends routes (net_after_send routes net (message_of net from tag block out)) from tag block outs

-- them as they were sent
abbrev pub sent_by : Switches → Net → ℕ → ℕ → ℕ → List Out → List Sent
sent_by routes net from tag block [] = []
sent_by routes net from tag block (out ∷ outs) =
    record { message = message_of net from tag block out; lost = is_lost routes net (message_of net from tag block out) }
    ∷ sent_by routes (net_after_send routes net (message_of net from tag block out)) from tag block outs

-- the message of a number, where it is in flight
abbrev pub flight_of : List Flight → ℕ → Option Flight
flight_of flights id = find (λ f. nat_eq f.message.id id) flights

-- the messages but the one of a number
abbrev pub without_flight : Net → ℕ → Net
without_flight net id = record net { flights = filter (λ f. not (nat_eq f.message.id id)) net.flights }

-- whether a message stands in a switch of its receiver
abbrev pub is_there : Flight → Bool
is_there f = nat_eq (node_of f.place) f.message.to

-- the switch that it goes on to; its own where there is none nearer
abbrev pub or_own : Option ℕ → ℕ → ℕ
or_own None own = own
or_own (Some next) own = next

abbrev pub next_switch : Switches → Flight → ℕ
next_switch routes f = or_own (next_of routes f.message.to f.place) f.place

-- a message in another switch, where it has the number
abbrev pub flight_in_switch : ℕ → ℕ → Flight → Flight
flight_in_switch id place f = if nat_eq f.message.id id then record f { place = place } else f

-- the message of a number in another switch
abbrev pub net_with_flight_in : Net → ℕ → ℕ → Net
net_with_flight_in net id place = record net { flights = map (flight_in_switch id place) net.flights }

-- an event by which a node sends messages about a block, in its interval
abbrev pub sending : Fabric → ℕ → ℕ → List Out → Answer → FabricStep
sending s from block outs answer = record {
  fabric = record s { net = net_after_sends (routes_of s) s.net from (node_at s from).now block outs };
  answer = answer;
  sent = sent_by (routes_of s) s.net from (node_at s from).now block outs;
  told = None;
}

-- whether so many more messages would be too many
abbrev pub is_full : Fabric → ℕ → Bool
is_full s more = nat_lt net_limit (length s.net.flights + more)
