-- What the calls that send nothing come to.
use Rattle.std.proofs.Common.{◌≡◌, ℕ, ◌+◌, ◌<◌, Bool, true, false, cond, not, Option, Some, None, List, [], length, get_or, set, refl, sym}
use Rattle.std.proofs.Common.{ap, ◌∙◌, subst}
use Rattle.std.specs.Prelude.{is_some}
use Rattle.sn_base.specs.declared.config.Config.{Config}
use Rattle.sn_base.specs.declared.event.Answer.{Answer}
use Rattle.sn_base.specs.declared.event.Answer.TheVariants.{Edged}
use Rattle.ckpt_clock.specs.Clock.{ClockData}
use Rattle.switch_net.specs.declared.flight.Flight.{Flight as Carried}
use Rattle.switch_net.specs.declared.answers.HopAnswer.{HopAnswer}
use Rattle.switch_net.specs.Net.{NetData, find_flight, without, outside, flights_with_move, hop_answer, after_hop, has_arrived, next_switch}
use Rattle.route_plan.specs.Distances.{Switches, is_dead}
use Rattle.sn_model.specs.declared.net.Sent.{Sent}
use Rattle.sn_model.specs.Fabric.{Fabric, node_at, step_with_answer}
use Rattle.sn_model.specs.FabricEvents.{moved_by, Hop, Lose, Kill, Edge}
use Rattle.sn_model.specs.NetEvents.{step_of_hop, step_of_loss, step_of_kill}
use Rattle.std.proofs.lemmas.List.{set-get_or}
use Rattle.sn_model.specs.NodeEvents as model
use Rattle.fabric_bounds.specs.Flights.{Rising}
use Rattle.sn_fabric.specs.declared.node.NodeUnit.{NodeUnit}
use Rattle.sn_fabric.specs.Nets.{hop_as, loss_as, kill_as}
use Rattle.sn_fabric.specs.Parts.{Parts, fabric_as, node_as, unit_at, no_unit, IsUnit, AreParts}
use Rattle.sn_fabric.specs.Units as unit
use Rattle.sn_fabric.proofs.Nets.{hop-is, loss-is, kill-is}
use Rattle.sn_fabric.proofs.Parts.{node-at, count-nodes, routes-as, fabric-unit, whole-unit, whole-net, Comes, comes-as, unit-read}

pub rising : (config : Config) (p : Parts) → AreParts config p → Rising (fabric_as p).net.flights
rising config p k = k.keeps.1.shape.rising

-- a hop

there_routes : (n : NetData) (id : ℕ) (f : Carried) (a d : Bool) →
    (cond a n (cond d (record n { flights = without n.flights id })
    (record n { flights = flights_with_move n.flights id (next_switch n.routes f) }))).routes ≡ n.routes
there_routes n id f true d = refl
there_routes n id f false true = refl
there_routes n id f false false = refl

hop_routes : (n : NetData) (id : ℕ) (o : Option Carried) → (after_hop n id o).routes ≡ n.routes
hop_routes n id None = refl
hop_routes n id (Some f) = there_routes n id f (has_arrived f) (is_dead n.dead (next_switch n.routes f))

hop_is_moved : (config : Config) (s : Fabric) (id : ℕ) → moved_by config s (Hop id) ≡ step_of_hop s id
unfolding moved_by
hop_is_moved config s id = refl

pub hop-comes : (config : Config) (p : Parts) (id : ℕ) (net : NetData) (r : HopAnswer) (said : Answer) (sends : List Sent) →
    AreParts config p →
    net ≡ after_hop p.net id (find_flight p.net.flights id) → r ≡ hop_answer p.net (find_flight p.net.flights id) → said ≡ hop_as r →
    sends ≡ [] →
    Comes config p (record p { net = net }) sends said (step_of_hop (fabric_as p) id)
hop-comes config p id net r said sends k n a s e =
    comes-as config p (record p { net = net }) sends said None (Hop id) (step_of_hop (fabric_as p) id) k tt tt
    (hop_is_moved config (fabric_as p) id)
    (whole-net config p net k.whole
    (ap (λ (x : NetData). x.routes.nodes) n ∙ ap (λ (x : Switches). x.nodes) (hop_routes p.net id (find_flight p.net.flights id))))
    (rw (n, s, a, e) (hop-is p id (routes-as config p k.whole) (rising config p k)))

-- a loss

loss_is_moved : (config : Config) (s : Fabric) (id : ℕ) → moved_by config s (Lose id) ≡ step_of_loss s id
unfolding moved_by
loss_is_moved config s id = refl

pub loss-comes : (config : Config) (p : Parts) (id : ℕ) (net : NetData) (b : Bool) (said : Answer) (sends : List Sent) → AreParts config p →
    b ≡ is_some (find_flight p.net.flights id) → net ≡ record p.net { flights = without p.net.flights id } → (b ≡ false → net ≡ p.net) →
    said ≡ loss_as b → sends ≡ [] →
    Comes config p (record p { net = net }) sends said (step_of_loss (fabric_as p) id)
loss-comes config p id net b said sends k there after absent s e =
    comes-as config p (record p { net = net }) sends said None (Lose id) (step_of_loss (fabric_as p) id) k tt tt
    (loss_is_moved config (fabric_as p) id)
    (whole-net config p net k.whole (ap (λ (x : NetData). x.routes.nodes) after))
    (rw (s, e) (loss-is p id net b there after absent))

-- a switch that dies

kill_is_moved : (config : Config) (s : Fabric) (switch : ℕ) → moved_by config s (Kill switch) ≡ step_of_kill s switch
unfolding moved_by
kill_is_moved config s switch = refl

kill_routes : (n m : NetData) (switch : ℕ) (b : Bool) →
    (b ≡ true → m ≡ record n { dead = set n.dead switch true; flights = outside n.flights switch }) → (b ≡ false → m ≡ n) →
    m.routes.nodes ≡ n.routes.nodes
kill_routes n m switch true after already = ap (λ (x : NetData). x.routes.nodes) (after refl)
kill_routes n m switch false after already = ap (λ (x : NetData). x.routes.nodes) (already refl)

pub kill-comes : (config : Config) (p : Parts) (switch : ℕ) (net : NetData) (b : Bool) (said : Answer) (sends : List Sent) →
    AreParts config p →
    b ≡ not (is_dead p.net.dead switch) →
    (b ≡ true → net ≡ record p.net { dead = set p.net.dead switch true; flights = outside p.net.flights switch }) →
    (b ≡ false → net ≡ p.net) →
    said ≡ kill_as b → sends ≡ [] → Comes config p (record p { net = net }) sends said (step_of_kill (fabric_as p) switch)
kill-comes config p switch net b said sends k there after already s e =
    comes-as config p (record p { net = net }) sends said None (Kill switch) (step_of_kill (fabric_as p) switch) k tt tt
    (kill_is_moved config (fabric_as p) switch)
    (whole-net config p net k.whole (kill_routes p.net net switch b after already))
    (rw (s, e) (kill-is p switch net b there after already))

-- a clock edge

edge_is_moved : (config : Config) (s : Fabric) (n : ℕ) → moved_by config s (Edge n) ≡ model.step_of_edge s n
unfolding moved_by
edge_is_moved config s n = refl

edge_step : (p : Parts) (n : ℕ) (b : Bool) → unit.is_full (unit_at p.units n).clock ≡ b →
    node_at (fabric_as p) n ≡ node_as (unit_at p.units n) →
    model.step_of_edge (fabric_as p) n
    ≡ step_with_answer (fabric_as (record p {
      units = set p.units n
          (record (unit_at p.units n) { clock = unit.clock_after_edge (unit_at p.units n).clock });
    })) (unit.edge_answer (unit_at p.units n).clock)
edge_step p n true e a = rw (a, e, set-get_or p.units n no_unit) refl
edge_step p n false e a =
    rw (a, e) (ap (λ (s : Fabric). step_with_answer s (Edged ((unit_at p.units n).clock.interval + 1)))
    (sym (fabric-unit p n (record
    (unit_at p.units n) { clock = record (unit_at p.units n).clock { interval = (unit_at p.units n).clock.interval + 1 } }))))

same_unit : (config : Config) (n : ℕ) (x : NodeUnit) (clock : ClockData) → IsUnit config n x → IsUnit config n (record x { clock = clock })
same_unit config n x clock i = record { node = i.node; nodes = i.nodes; sets = i.sets; ways = i.ways; limit = i.limit }

pub edge-comes : (config : Config) (p : Parts) (n place : ℕ) (x : NodeUnit) (clock : ClockData) (said : Answer) (sends : List Sent) →
    AreParts config p →
    n < length (fabric_as p).nodes → place ≡ n → x ≡ get_or p.units place x → clock ≡ unit.clock_after_edge x.clock → said ≡ unit.edge_answer x.clock →
    sends ≡ [] →
    Comes config p (record p { units = set p.units place (record x { clock = clock }) }) sends said (model.step_of_edge (fabric_as p) n)
edge-comes config p n place x clock said sends k l ep ex ec es e =
    let h : n < length p.units = subst (λ (k : ℕ). n < k) (count-nodes p) l in
    rw (ec, es, unit-read p n place x l ep ex, ep, e)
    (comes-as config p (record p { units = set p.units n (record (unit_at p.units n) { clock = unit.clock_after_edge (unit_at p.units n).clock }) }) []
    (unit.edge_answer (unit_at p.units n).clock) None
    (Edge n) (model.step_of_edge (fabric_as p) n) k l tt (edge_is_moved config (fabric_as p) n)
    (whole-unit config p n (record (unit_at p.units n) { clock = unit.clock_after_edge (unit_at p.units n).clock }) k.whole h
    (same_unit config n (unit_at p.units n) (unit.clock_after_edge (unit_at p.units n).clock)
    (k.whole.units n (subst (λ (k : ℕ). n < k) k.whole.count h))))
    (edge_step p n (unit.is_full (unit_at p.units n).clock) refl (node-at p n h)))
