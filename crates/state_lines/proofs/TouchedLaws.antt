-- What a delivery touches, by what the network's look says; and all nodes in order.
use Rattle.std.proofs.Common.{◌≡◌, ℕ, zero, suc, ◌<◌, Bool, true, false, not, cond, List, [], ◌∷◌, ◌++◌, Option, Some, None, Ok, Err, All}
use Rattle.std.proofs.Common.{refl, ap, sym, subst, ◌∙◌}
use Rattle.std.specs.Prelude.{if◌then◌else◌, nat_eq, map, Result}
use Rattle.std.specs.Option.{option_map}
use Rattle.std.proofs.lemmas.List.{map-append}
use Rattle.std.proofs.lemmas.List.Elements.{All-head, All-tail}
use Rattle.sn_base.specs.declared.config.Config.{Config}
use Rattle.sn_base.specs.declared.event.Event.TheVariants.{Deliver}
use Rattle.sn_base.specs.declared.event.Answer.TheVariants.{NotArrived}
use Rattle.sn_msg.specs.declared.Message.{Message}
use Rattle.switch_net.specs.declared.flight.Flight.{Flight as Carried}
use Rattle.switch_net.specs.declared.answers.TakeFault.{TakeFault}
use Rattle.switch_net.specs.declared.answers.TakeFault.TheVariants as fault
use Rattle.switch_net.specs.Net.{NetData, IsPlaced, find_flight, take_answer, has_arrived}
use Rattle.route_plan.specs.Distances.{Switches}
use Rattle.sn_base.specs.Image.{ImageData}
use Rattle.sn_model.specs.Fabric.{Fabric, Flight, FabricStep, Net, step_refused}
use Rattle.sn_model.specs.Net.{flight_of}
use Rattle.sn_model.specs.NetEvents.{delivers_flight}
use Rattle.sn_model.specs.Machine.{State}
use Rattle.sn_model.specs.Refusals.{is_refusal}
use Rattle.sn_model.specs.Step.{step_of}
use Rattle.sn_fabric.specs.Nets.{flight_as, net_as}
use Rattle.sn_fabric.proofs.Nets.{found-as}
use Rattle.state_parts.specs.Parts.{node_part}
use Rattle.state_parts.specs.Touched.{touched_by_message, touched_by_delivery, numbers_below}
use Rattle.state_json.specs.Json.{array}
use Rattle.state_json.specs.Parts.{node_text, node_texts}
use Rattle.state_lines.specs.declared.touched.TouchedNodes.{TouchedNodes}
use Rattle.state_lines.specs.declared.touched.TouchedNodes.TheVariants.{EveryNode}
use Rattle.state_lines.specs.Touched.{nodes_as}

-- a message that may be taken

taken-step : (b : Bool) (f : Carried) (m : Message) → (if b then Ok f.message else Err fault.NotArrived) ≡ Ok m → f.message ≡ m
taken-step true f m e = cc
taken-step false f m e = absurd cc

taken-touches : (o : Option Carried) (m : Message) → take_answer o ≡ Ok m →
    touched_by_delivery (option_map flight_as o) ≡ touched_by_message m m.body
taken-touches None m e = absurd cc
taken-touches (Some f) m e = ap (λ (t : Message). touched_by_message t t.body) (taken-step (has_arrived f) f m e)

module _ (net : NetData) (fabric : Net) (id : ℕ) (carried : net_as net ≡ fabric) where
  found-is : flight_of fabric.flights id ≡ option_map flight_as (find_flight net.flights id)
  found-is = ap (λ (t : Net). flight_of t.flights id) (sym carried) ∙ found-as net.flights id

  pub taken-parts : (m : Message) → take_answer (find_flight net.flights id) ≡ Ok m →
      touched_by_message m m.body ≡ touched_by_delivery (flight_of fabric.flights id)
  taken-parts m e = sym (ap touched_by_delivery found-is ∙ taken-touches (find_flight net.flights id) m e)

-- its receiver is a node

found-placed : (routes : Switches) (b : Bool) (f x : Carried) (rest : Option Carried) → cond b (Some f) rest ≡ Some x → IsPlaced routes f →
    (rest ≡ Some x → IsPlaced routes x) → IsPlaced routes x
found-placed routes true f x rest e h more = subst (IsPlaced routes) (let same : f ≡ x = cc in same) h
found-placed routes false f x rest e h more = more e

placed : (routes : Switches) (flights : List Carried) (id : ℕ) (x : Carried) → find_flight flights id ≡ Some x → All (IsPlaced routes) flights →
    IsPlaced routes x
placed routes [] id x e h = absurd cc
placed routes (f ∷ flights) id x e h =
    found-placed routes (nat_eq f.message.id id) f x (find_flight flights id) e (All-head (IsPlaced routes) f flights h)
    (λ rest. placed routes flights id x rest (All-tail (IsPlaced routes) f flights h))

placed-message : (routes : Switches) (o : Option Carried) (m : Message) → take_answer o ≡ Ok m → ((x : Carried) → o ≡ Some x → IsPlaced routes x) →
    m.to < routes.nodes
placed-message routes None m e h = absurd cc
placed-message routes (Some f) m e h = subst (λ (t : Message). t.to < routes.nodes) (taken-step (has_arrived f) f m e) (h f refl).to

pub receiver-there : (net : NetData) (id : ℕ) (m : Message) → take_answer (find_flight net.flights id) ≡ Ok m →
    All (IsPlaced net.routes) net.flights → m.to < net.routes.nodes
receiver-there net id m e h = placed-message net.routes (find_flight net.flights id) m e (λ x is. placed net.routes net.flights id x is h)

-- where there is nothing to take, the delivery is refused

refused-by : (s : Fabric) (f : Carried) (b : Bool) (x : FabricStep) (why : TakeFault) → (if b then Ok f.message else Err fault.NotArrived) ≡ Err why →
    is_refusal (if not b then step_refused s NotArrived else x).answer ≡ true
refused-by s f true x why e = absurd cc
refused-by s f false x why e = refl

refused-step : (config : Config) (s : Fabric) (o : Option Carried) (why : TakeFault) → take_answer o ≡ Err why →
    is_refusal (delivers_flight config s (option_map flight_as o)).answer ≡ true
refused-step config s None why e = refl
refused-step config s (Some f) why e = refused-by s f (has_arrived f) _ why e

module _ (image : ImageData) (config : Config) (s : State) (net : NetData) (id : ℕ) (carried : net_as net ≡ s.fabric.net) where
  pub nothing-taken : (why : TakeFault) → take_answer (find_flight net.flights id) ≡ Err why →
      is_refusal (step_of image config s (Deliver id)).answer ≡ false → ⊥
  unfolding step_of
  nothing-taken why e taken =
      let refused = ap (λ (o : Option Flight). is_refusal (delivers_flight config s.fabric o).answer) (found-is net s.fabric.net id carried)
      ∙ refused-step config s.fabric (find_flight net.flights id) why e in
      cc

-- all nodes

pub all-nodes : (n : ℕ) (s : State) → map (λ i. node_text i (node_part s i)) (numbers_below n) ≡ node_texts n s
all-nodes zero s = refl
all-nodes (suc n) s =
    map-append (λ i. node_text i (node_part s i)) (numbers_below n) (n ∷ [])
    ∙ ap (λ t. t ++ node_text n (node_part s n) ∷ []) (all-nodes n s)

pub every-node : (s : State) (count : ℕ) (nodes : TouchedNodes) (start new : List ℕ) → nodes ≡ EveryNode →
    new ≡ start ++ array (node_texts count s) → new ≡ start ++ array (map (λ n. node_text n (node_part s n)) (nodes_as count nodes))
every-node s count nodes start new is put = rw is (put ∙ ap (λ t. start ++ array t) (sym (all-nodes count s)))
