-- The node that a message has come to, and the network without the message.
use Rattle.std.proofs.Common.{◌≡◌, ℕ, ◌+◌, ◌<◌, ◌≤◌, false, List, length, get_or, sym, ap, ◌∙◌, subst, arith}
use Rattle.std.specs.Prelude.{nat_lt}
use Rattle.std.proofs.lemmas.List.{length-map}
use Rattle.std.proofs.lemmas.Bool.Decides.{nat_tests}
use Rattle.sn_base.specs.declared.config.Config.{Config}
use Rattle.sn_base.specs.declared.log.LogEntry.{LogEntry}
use Rattle.sn_msg.specs.declared.Message.{Message}
use Rattle.switch_net.specs.Net.{NetData, without}
use Rattle.sn_model.specs.declared.cache.Out.{Out}
use Rattle.sn_model.specs.Fabric as model
use Rattle.sn_model.specs.Fabric.{Fabric, Node, node_at}
use Rattle.sn_model.specs.Net.{without_flight}
use Rattle.fabric_bounds.specs.Steps.{IsInFlight}
use Rattle.sn_fabric.specs.declared.node.NodeUnit.{NodeUnit}
use Rattle.sn_fabric.specs.Deliveries.{HasCome, GoTo}
use Rattle.sn_fabric.specs.Nets.{flight_as, net_as}
use Rattle.sn_fabric.specs.Parts.{Parts, fabric_as, node_as, unit_at, IsUnit, AreParts}
use Rattle.sn_fabric.specs.Plans.{HasRoomFor}
use Rattle.sn_fabric.proofs.Come.{come-in-flight, fewer-without}
use Rattle.sn_fabric.proofs.Nets.{without-as}
use Rattle.sn_fabric.proofs.Parts.{node-at, count-nodes, unit-read}

-- the network without a message
abbrev pub taken : Parts → ℕ → NetData
taken p id = record p.net { flights = without p.net.flights id }

pub taken-as : (p : Parts) (id : ℕ) → net_as (taken p id) ≡ without_flight (net_as p.net) id
taken-as p id = ap (λ (fs : List model.Flight). record (net_as p.net) { flights = fs }) (without-as p.net.flights id)

-- it has the room for what was foreseen to be sent
pub taken-room : (config : Config) (p : Parts) (m : Message) (log : List LogEntry) (sends outs : List Out) (net : NetData) →
    HasCome (fabric_as p) m → HasRoomFor config (fabric_as p) log sends → outs ≡ sends → net ≡ taken p m.id →
    length net.flights + length outs ≤ 1024
taken-room config p m log sends outs net h r eo en =
    let k : length (without p.net.flights m.id) + 1 ≤ length p.net.flights = fewer-without p m h in
    let f : length (fabric_as p).net.flights ≡ length p.net.flights = length-map p.net.flights flight_as in
    let g : nat_lt 1025 (length (fabric_as p).net.flights + length sends) ≡ false = r.messages in
    let b : length (fabric_as p).net.flights + length sends ≤ 1025 = grind (arith, nat_tests, g) in
    let c : length net.flights ≡ length (without p.net.flights m.id) = ap (λ (x : NetData). length x.flights) en in
    let d : length outs ≡ length sends = ap (λ (xs : List Out). length xs) eo in
    omega arith

module _ (config : Config) (p : Parts) (a : AreParts config p) (m : Message) (h : HasCome (fabric_as p) m) where
  pub in-flight : IsInFlight (fabric_as p) m
  in-flight = come-in-flight (fabric_as p) m (a.keeps.0, a.keeps.1) h

  pub inside : m.to < length p.units
  inside = subst (λ (k : ℕ). m.to < k) (count-nodes p) in-flight.to

  pub to-there : m.to < p.net.routes.nodes
  to-there = subst (λ (k : ℕ). m.to < k) (a.whole.count ∙ sym a.whole.count_routes) inside

  pub goes-there : (outs sends : List Out) (net : NetData) → GoTo sends (length (fabric_as p).nodes) → outs ≡ sends → net ≡ taken p m.id →
      GoTo outs net.routes.nodes
  goes-there outs sends net g eo en =
      let e : length (fabric_as p).nodes ≡ net.routes.nodes = count-nodes p ∙ a.whole.count ∙ sym a.whole.count_routes
      ∙ sym (ap (λ (x : NetData). x.routes.nodes) en) in
      subst (λ (xs : List Out). GoTo xs net.routes.nodes) (sym eo) (subst (GoTo sends) e g)

  module _ (place : ℕ) (x : NodeUnit) (ep : place ≡ m.to) (ex : x ≡ get_or p.units place x) where
    pub unit-is : x ≡ unit_at p.units m.to
    unit-is = unit-read p m.to place x in-flight.to ep ex

    pub node-read : node_at (fabric_as p) m.to ≡ node_as x
    node-read = node-at p m.to inside ∙ ap node_as (sym unit-is)

    pub serves : IsUnit config m.to x
    serves = subst (IsUnit config m.to) (sym unit-is) (a.whole.units m.to (subst (λ (k : ℕ). m.to < k) a.whole.count inside))
