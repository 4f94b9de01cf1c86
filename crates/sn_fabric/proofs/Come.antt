-- A message that is looked up has come, and what its delivery comes to.
use Rattle.std.proofs.Common.{◌≡◌, ℕ, ◌+◌, ◌≤◌, Bool, true, false, not, cond, List, [], ◌∷◌, length, Option, Some, None, Ok, Err, refl, sym}
use Rattle.std.proofs.Common.{ap, ◌∙◌, subst, arith}
use Rattle.std.specs.Prelude.{nat_lt, nat_eq, if◌then◌else◌, filter, map}
use Rattle.std.specs.Option.{option_map}
use Rattle.std.proofs.lemmas.List.{length-map}
use Rattle.sn_base.specs.declared.config.Config.{Config}
use Rattle.sn_base.specs.declared.event.Answer.TheVariants.{Held, NotArrived}
use Rattle.sn_msg.specs.declared.Message.{Message}
use Rattle.switch_net.specs.declared.flight.Flight.{Flight as Carried}
use Rattle.switch_net.specs.declared.answers.TakeFault.{TakeFault}
use Rattle.switch_net.specs.declared.answers.TakeFault.TheVariants as fault
use Rattle.switch_net.specs.Net.{find_flight, take_answer, has_arrived, without}
use Rattle.sn_model.specs.Fabric.{Fabric, Flight, node_at, step_refused}
use Rattle.sn_model.specs.FabricEvents.{moved_by, Deliver}
use Rattle.sn_model.specs.Net.{flight_of}
use Rattle.sn_model.specs.NetEvents.{outcome_of, delivers, delivers_flight, step_of_delivery}
use Rattle.fabric_bounds.specs.Coherent.{Keeps}
use Rattle.fabric_bounds.specs.Steps.{IsInFlight}
use Rattle.fabric_bounds.proofs.InFlight.{in_flight}
use Rattle.sn_fabric.specs.Deliveries.{HasCome, fault_as}
use Rattle.sn_fabric.specs.Nets.{flight_as}
use Rattle.sn_fabric.specs.Parts.{Parts, fabric_as}
use Rattle.sn_fabric.proofs.Nets.{found-as, number-found, without-as}

-- the message under a number has come, and has that number

shown_test : (p : Parts) (id : ℕ) (m : Message) (f : Carried) (b : Bool) → has_arrived f ≡ b → find_flight p.net.flights id ≡ Some f →
    (if b then Ok f.message else Err fault.NotArrived) ≡ Ok m → HasCome (fabric_as p) m × (m.id ≡ id)
shown_test p id m f false a h e = absurd (cc)
shown_test p id m f true a h e =
    let number : f.message.id ≡ id = number-found p.net.flights id f h in
    let same : f.message ≡ m = cc in
    subst (λ (x : Message). HasCome (fabric_as p) x × (x.id ≡ id)) same (
      record {
        place = f.at;
        found = ap (flight_of (map flight_as p.net.flights)) number ∙ found-as p.net.flights id ∙ ap (option_map flight_as) h;
        there = a;
      },
      number,
    )

shown_step : (p : Parts) (id : ℕ) (m : Message) (o : Option Carried) → find_flight p.net.flights id ≡ o → take_answer o ≡ Ok m →
    HasCome (fabric_as p) m × (m.id ≡ id)
shown_step p id m None h e = absurd (cc)
shown_step p id m (Some f) h e = shown_test p id m f (has_arrived f) refl h e

pub come-shown : (p : Parts) (id : ℕ) (m : Message) → take_answer (find_flight p.net.flights id) ≡ Ok m →
    HasCome (fabric_as p) m × (m.id ≡ id)
come-shown p id m e = shown_step p id m (find_flight p.net.flights id) refl e

-- where there is none, a delivery says so

fault_test : (config : Config) (s : Fabric) (f : Carried) (why : TakeFault) (b : Bool) → has_arrived f ≡ b →
    (if b then Ok f.message else Err fault.NotArrived) ≡ Err why →
    delivers_flight config s (Some (flight_as f)) ≡ step_refused s (fault_as why)
fault_test config s f why true a e = absurd (cc)
fault_test config s f why false a e =
    let same : fault.NotArrived ≡ why = cc in
    ap (λ (b : Bool). if not b then step_refused s NotArrived else if nat_lt (node_at s f.message.to).now f.message.tag then step_refused s Held
    else delivers config s f.message (outcome_of s f.message f.message.body)) a
    ∙ ap (λ (x : TakeFault). step_refused s (fault_as x)) same

fault_step : (config : Config) (s : Fabric) (why : TakeFault) (o : Option Carried) → take_answer o ≡ Err why →
    delivers_flight config s (option_map flight_as o) ≡ step_refused s (fault_as why)
fault_step config s why None e = let same : fault.NoMessage ≡ why = cc in ap (λ (x : TakeFault). step_refused s (fault_as x)) same
fault_step config s why (Some f) e = fault_test config s f why (has_arrived f) refl e

pub fault-shown : (config : Config) (p : Parts) (id : ℕ) (why : TakeFault) → take_answer (find_flight p.net.flights id) ≡ Err why →
    step_of_delivery config (fabric_as p) id ≡ step_refused (fabric_as p) (fault_as why)
fault-shown config p id why e =
    ap (delivers_flight config (fabric_as p)) (found-as p.net.flights id)
    ∙ fault_step config (fabric_as p) why (find_flight p.net.flights id) e

-- what the delivery of a message that has come comes to

module _ (config : Config) (s : Fabric) (m : Message) (h : HasCome s m) where
  come_to : step_of_delivery config s m.id
      ≡ (if nat_lt (node_at s m.to).now m.tag then step_refused s Held else delivers config s m (outcome_of s m m.body))
  come_to =
      ap (delivers_flight config s) h.found
      ∙ ap (λ (b : Bool). if not b then step_refused s NotArrived else if nat_lt (node_at s m.to).now m.tag then step_refused s Held
      else delivers config s m (outcome_of s m m.body)) h.there

  pub come-held : nat_lt (node_at s m.to).now m.tag ≡ true → step_of_delivery config s m.id ≡ step_refused s Held
  come-held e = come_to ∙ ap (λ (b : Bool). if b then step_refused s Held else delivers config s m (outcome_of s m m.body)) e

  pub come-reached : nat_lt (node_at s m.to).now m.tag ≡ false → step_of_delivery config s m.id ≡ delivers config s m (outcome_of s m m.body)
  come-reached e = come_to ∙ ap (λ (b : Bool). if b then step_refused s Held else delivers config s m (outcome_of s m m.body)) e

pub come-in-flight : (s : Fabric) (m : Message) → Keeps s → HasCome s m → IsInFlight s m
come-in-flight s m k h = in_flight s m.id (record { message = m; place = h.place }) k.1.shape h.found

pub deliver_is_moved : (config : Config) (s : Fabric) (id : ℕ) → moved_by config s (Deliver id) ≡ step_of_delivery config s id
unfolding moved_by
deliver_is_moved config s id = refl

-- without it fewer messages are in flight

abbrev others : List Flight → ℕ → List Flight
others fs id = filter (λ f. not (nat_eq f.message.id id)) fs

fewer_step : (f : Flight) (fs rest : List Flight) (b : Bool) → length rest ≤ length fs →
    length (cond (not b) (f ∷ rest) rest) ≤ length (f ∷ fs)
fewer_step f fs rest true h = omega arith
fewer_step f fs rest false h = omega arith

filtered_fewer : (fs : List Flight) (id : ℕ) → length (others fs id) ≤ length fs
filtered_fewer [] id = omega arith
filtered_fewer (f ∷ fs) id = fewer_step f fs (others fs id) (nat_eq f.message.id id) (filtered_fewer fs id)

taken_step : (g f : Flight) (fs rest : List Flight) (o : Option Flight) (b : Bool) → length rest ≤ length fs →
    (o ≡ Some f → length rest + 1 ≤ length fs) → cond b (Some g) o ≡ Some f →
    length (cond (not b) (g ∷ rest) rest) + 1 ≤ length (g ∷ fs)
taken_step g f fs rest o true h k e = omega arith
taken_step g f fs rest o false h k e = let j : length rest + 1 ≤ length fs = k e in omega arith

taken-fewer : (fs : List Flight) (id : ℕ) (f : Flight) → flight_of fs id ≡ Some f → length (others fs id) + 1 ≤ length fs
taken-fewer [] id f e = absurd (cc)
taken-fewer (g ∷ fs) id f e =
    taken_step g f fs (others fs id) (flight_of fs id) (nat_eq g.message.id id) (filtered_fewer fs id) (taken-fewer fs id f) e

pub fewer-without : (p : Parts) (m : Message) → HasCome (fabric_as p) m → length (without p.net.flights m.id) + 1 ≤ length p.net.flights
fewer-without p m h =
    let k = taken-fewer (map flight_as p.net.flights) m.id (record { message = m; place = h.place }) h.found in
    let a : length (map flight_as p.net.flights) ≡ length p.net.flights = length-map p.net.flights flight_as in
    let b : length (others (map flight_as p.net.flights) m.id) ≡ length (without p.net.flights m.id) =
    sym (ap (λ (fs : List Flight). length fs) (without-as p.net.flights m.id)) ∙ length-map (without p.net.flights m.id) flight_as in
    omega arith
