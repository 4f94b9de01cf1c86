-- Which lines a delivery touches, by what the network's look says; and that its receiver is a node.
use Rattle.std.proofs.Common.{◌≡◌, ℕ, ◌<◌, Bool, true, false, cond, List, [], ◌∷◌, Option, Some, None, Ok, Err, All, refl, ap, sym, subst, ◌∙◌}
use Rattle.std.specs.Prelude.{if◌then◌else◌}
use Rattle.std.specs.List.{find}
use Rattle.std.specs.Option.{option_map}
use Rattle.std.proofs.lemmas.List.Elements.{All-head, All-tail}
use Rattle.sn_msg.specs.declared.Message.{Message}
use Rattle.switch_net.specs.declared.flight.Flight.{Flight as Carried}
use Rattle.switch_net.specs.declared.answers.TakeFault.{TakeFault}
use Rattle.switch_net.specs.declared.answers.TakeFault.TheVariants as fault
use Rattle.switch_net.specs.Net.{NetData, IsPlaced, find_flight, take_answer, has_arrived}
use Rattle.route_plan.specs.Distances.{Switches}
use Rattle.sn_model.specs.Fabric.{Fabric, Net}
use Rattle.sn_model.specs.Net.{flight_of}
use Rattle.sn_fabric.specs.Nets.{flight_as, net_as}
use Rattle.sn_fabric.proofs.Nets.{found-as}
use Rattle.run_statistics.specs.declared.owned.TouchedLines.{TouchedLines}
use Rattle.run_statistics.specs.Owned.{lines_at, lines_of_flight}

-- what holds of all elements holds of the one that is found
find_step : {X : Type 0} (P : X → Type 0) (test : Bool) (x y : X) (rest : Option X) → cond test (Some x) rest ≡ Some y → P x →
    (rest ≡ Some y → P y) → P y
find_step P true x y rest e holds more = subst P (let same : x ≡ y = cc in same) holds
find_step P false x y rest e holds more = more e

find_holds : {X : Type 0} (P : X → Type 0) (test : X → Bool) (xs : List X) (y : X) → find test xs ≡ Some y → All P xs → P y
find_holds P test [] y e all = absurd cc
find_holds P test (x ∷ xs) y e all =
    find_step P (test x) x y (find test xs) e (All-head P x xs all) (λ rest. find_holds P test xs y rest (All-tail P x xs all))

taken_is : (test : Bool) (f : Carried) (m : Message) → (if test then Ok f.message else Err fault.NotArrived) ≡ Ok m → f.message ≡ m
taken_is true f m e = cc
taken_is false f m e = absurd cc

receiver_of : (routes : Switches) (o : Option Carried) (m : Message) → take_answer o ≡ Ok m → ((f : Carried) → o ≡ Some f → IsPlaced routes f) →
    m.to < routes.nodes
receiver_of routes None m e placed = absurd cc
receiver_of routes (Some f) m e placed =
    subst (λ (t : Message). t.to < routes.nodes) (taken_is (has_arrived f) f m e) (placed f refl).to

pub receiver-there : (net : NetData) (id : ℕ) (m : Message) → take_answer (find_flight net.flights id) ≡ Ok m →
    All (IsPlaced net.routes) net.flights → m.to < net.routes.nodes
receiver-there net id m e placed =
    receiver_of net.routes (find_flight net.flights id) m e (λ f is. find_holds (IsPlaced net.routes) _ net.flights f is placed)

module _ (s : Fabric) where
  taken_step : (test : Bool) (f : Carried) (m : Message) → (if test then Ok f.message else Err fault.NotArrived) ≡ Ok m →
      (if test then Some (lines_at s f.message) else None) ≡ Some (lines_at s m)
  taken_step true f m e = ap (λ (t : Message). Some (lines_at s t)) (taken_is true f m e)
  taken_step false f m e = absurd cc

  taken : (o : Option Carried) (m : Message) → take_answer o ≡ Ok m → lines_of_flight s (option_map flight_as o) ≡ Some (lines_at s m)
  taken None m e = absurd cc
  taken (Some f) m e = taken_step (has_arrived f) f m e

  left_step : (test : Bool) (f : Carried) (why : TakeFault) → (if test then Ok f.message else Err fault.NotArrived) ≡ Err why →
      (if test then Some (lines_at s f.message) else None) ≡ None
  left_step true f why e = absurd cc
  left_step false f why e = refl

  left : (o : Option Carried) (why : TakeFault) → take_answer o ≡ Err why → lines_of_flight s (option_map flight_as o) ≡ None
  left None why e = refl
  left (Some f) why e = left_step (has_arrived f) f why e

  module _ (net : NetData) (id : ℕ) (carried : net_as net ≡ s.net) where
    found_is : flight_of s.net.flights id ≡ option_map flight_as (find_flight net.flights id)
    found_is = ap (λ (t : Net). flight_of t.flights id) (sym carried) ∙ found-as net.flights id

    pub lines-taken : (m : Message) (l : TouchedLines) → take_answer (find_flight net.flights id) ≡ Ok m → l ≡ lines_at s m →
        Some l ≡ lines_of_flight s (flight_of s.net.flights id)
    lines-taken m l e is =
        ap (λ (t : TouchedLines). Some t) is ∙ sym (ap (lines_of_flight s) found_is ∙ taken (find_flight net.flights id) m e)

    pub lines-left : (why : TakeFault) → take_answer (find_flight net.flights id) ≡ Err why →
        None ≡ lines_of_flight s (flight_of s.net.flights id)
    lines-left why e = sym (ap (lines_of_flight s) found_is ∙ left (find_flight net.flights id) why e)
