-- The network: messages in flight, each in a switch, in order of their numbers.
use Rattle.std.specs.Prelude.{◌≡◌, ℕ, ◌+◌, ◌<◌, ◌≤◌, Bool, true, not, ◌==◌, if◌then◌else◌, Option, Some, None, Result, Ok, Err, List, []}
use Rattle.std.specs.Prelude.{◌∷◌, ◌++◌, length}
use Rattle.std.specs.List.{All, filter, find}
use Rattle.sn_msg.specs.declared.Message.{Message}
use Rattle.route_plan.specs.Grid.{node_of}
use Rattle.route_plan.specs.Distances.{Switches, is_dead, is_living}
use Rattle.route_plan.specs.Routes.{next_of, enter_of, first_cut_off}
use Rattle.switch_net.specs.declared.flight.Flight.{Flight}
use Rattle.switch_net.specs.declared.answers.HopAnswer.{HopAnswer}
use Rattle.switch_net.specs.declared.answers.HopAnswer.TheVariants.{Hopped, LostInDead, Arrived, NoMessage}
use Rattle.switch_net.specs.declared.answers.TakeFault.{TakeFault}
use Rattle.switch_net.specs.declared.answers.TakeFault.TheVariants as fault

-- how many nodes there are and which switches were dead when the routes were made, which are dead now, the number of the next
-- message, and the messages in flight
pub record NetData : Type 0 where
  pub routes : Switches
  pub dead : List Bool
  pub next : ℕ
  pub flights : List Flight

-- a network in which nothing is in flight, and whose routes go round the dead switches
abbrev pub without_messages : ℕ → List Bool → ℕ → NetData
without_messages nodes dead next =
    record { routes = record { nodes = nodes; dead = dead }; dead = dead; next = next; flights = [] }

-- the message of this number, with its place
abbrev pub find_flight : List Flight → ℕ → Option Flight
find_flight flights id = find (λ f. f.message.id == id) flights

-- the others
abbrev pub without : List Flight → ℕ → List Flight
without flights id = filter (λ f. not (f.message.id == id)) flights

-- those that don't stand in this switch
abbrev pub outside : List Flight → ℕ → List Flight
outside flights switch = filter (λ f. not (f.at == switch)) flights

-- the same messages, that of this number in another switch
abbrev pub flights_with_move : List Flight → ℕ → ℕ → List Flight
flights_with_move [] id at = []
flights_with_move (f ∷ flights) id at = if f.message.id == id then record f { at = at } ∷ flights else f ∷ flights_with_move flights id at

-- whether it stands in a switch of its receiver
abbrev pub has_arrived : Flight → Bool
has_arrived f = node_of f.at == f.message.to

abbrev pub or_else : Option ℕ → ℕ → ℕ
or_else None other = other
or_else (Some x) other = x

-- the switch that it goes on to; its own where it has arrived
abbrev pub next_switch : Switches → Flight → ℕ
next_switch routes f = or_else (next_of routes f.message.to f.at) f.at

-- a message is sent: it takes the next number, and is lost at once where it would enter at a dead switch
abbrev pub entry_of : NetData → Message → ℕ
entry_of n message = enter_of n.routes message.from message.to

abbrev pub after_send : NetData → Message → NetData
after_send n message = record n {
  next = n.next + 1;
  flights =
      if is_dead n.dead (entry_of n message) then n.flights else n.flights ++ record { message = message; at = entry_of n message } ∷ [];
}

-- a message hops
abbrev pub hop_answer : NetData → Option Flight → HopAnswer
hop_answer n None = NoMessage
hop_answer n (Some f) = if has_arrived f then Arrived else if is_dead n.dead (next_switch n.routes f) then LostInDead else Hopped

abbrev pub after_hop : NetData → ℕ → Option Flight → NetData
after_hop n id None = n
after_hop n id (Some f) =
    if has_arrived f then n
    else if is_dead n.dead (next_switch n.routes f) then record n { flights = without n.flights id }
    else record n { flights = flights_with_move n.flights id (next_switch n.routes f) }

-- a message is taken
abbrev pub take_answer : Option Flight → Result Message TakeFault
take_answer None = Err fault.NoMessage
take_answer (Some f) = if has_arrived f then Ok f.message else Err fault.NotArrived

-- where a recovery would go through: the switches that live now
abbrev pub living_now : NetData → Switches
living_now n = record n.routes { dead = n.dead }

-- the numbers ascend, from a least one on, below a bound
abbrev pub AreNumbered : ℕ → List Flight → ℕ → Type 0
AreNumbered least [] bound = least ≤ bound
AreNumbered least (f ∷ flights) bound = (least ≤ f.message.id) × AreNumbered (f.message.id + 1) flights bound

-- a message between nodes that are there, in a switch from which the routes lead to its receiver
pub record IsPlaced (routes : Switches) (f : Flight) : Type 0 where
  pub from : f.message.from < routes.nodes
  pub to : f.message.to < routes.nodes
  pub living : is_living routes f.at ≡ true

-- what every network keeps
pub record IsNet (n : NetData) : Type 0 where
  pub some : 1 ≤ n.routes.nodes
  pub few : n.routes.nodes ≤ 16
  pub joined : first_cut_off n.routes ≡ None
  pub room : length n.flights ≤ 1024
  pub numbered : AreNumbered 1 n.flights n.next
  pub placed : All (IsPlaced n.routes) n.flights
