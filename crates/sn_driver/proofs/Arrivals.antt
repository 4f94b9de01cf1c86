-- A message that stands elsewhere isn't delivered, since no other has its number.
use Rattle.std.proofs.Common.{◌≡◌, ℕ, ◌+◌, ◌<◌, ◌≤◌, zero, suc, Bool, true, false, ◌&&◌, cond, nat_eq, List, [], ◌∷◌, length, map, get_or, slice_get, IfSome, subst}
use Rattle.std.proofs.Common.{Option, Some, None, refl, ap, ◌∙◌, arith}
use Rattle.std.specs.List.{All}
use Rattle.std.proofs.lemmas.Bool.Decides.{nat_tests}
use Rattle.std.proofs.lemmas.List.Elements.{All-map, All-head, All-tail}
use Rattle.switch_net.specs.declared.flight.Flight.{Flight as Carried}
use Rattle.switch_net.specs.Net.{NetData, IsNet, AreNumbered}
use Rattle.sn_base.specs.Image.{ImageData}
use Rattle.sn_base.specs.declared.config.Config.{Config}
use Rattle.sn_base.specs.declared.event.Event.{Event}
use Rattle.sn_base.specs.declared.event.Event.TheVariants.{Deliver}
use Rattle.route_plan.specs.Grid.{node_of}
use Rattle.sn_model.specs.Fabric.{Flight}
use Rattle.sn_model.specs.Machine.{State}
use Rattle.sn_model.specs.Net.{flight_of, is_there}
use Rattle.sn_model.specs.Step.{step_of}
use Rattle.sn_model.specs.Fabric.{FabricStep, Net, node_at, step_refused}
use Rattle.sn_model.specs.NetEvents.{delivers, delivers_flight, outcome_of}
use Rattle.sn_base.specs.declared.event.Answer.TheVariants.{NotArrived, Held}
use Rattle.std.specs.Prelude.{if◌then◌else◌, not, nat_lt}
use Rattle.due_events.specs.Nets.{flight_as, net_as}
use Rattle.due_events.specs.Lists.{answer_foreseen, is_delivered, delivery, event_if}
use Rattle.sn_driver.specs.Overview.{stands_at}

-- in a list whose numbers ascend a number leads to the message that has it

least_number : (least bound : ℕ) (fs : List Carried) → AreNumbered least fs bound → (k : ℕ) (d : Carried) → k < length fs → least ≤ (get_or fs k d).message.id
least_number least bound [] h k d l = absurd (omega (arith, l))
least_number least bound (f ∷ fs) h zero d l = h.0
least_number least bound (f ∷ fs) h (suc k) d l =
    let m = least_number (f.message.id + 1) bound fs h.1 k d (omega (arith, l)) in let n : least ≤ f.message.id = h.0 in omega (arith, m, n)

here_is : (a : ℕ) → nat_eq a a ≡ true
here_is a = grind (arith, nat_tests)

others_differ : (a b : ℕ) → a < b → nat_eq a b ≡ false
others_differ a b l = grind (arith, nat_tests)

pub own_flight : (least bound : ℕ) (fs : List Carried) → AreNumbered least fs bound → (k : ℕ) (d : Carried) → k < length fs →
    flight_of (map flight_as fs) (get_or fs k d).message.id ≡ Some (flight_as (get_or fs k d))
own_flight least bound [] h k d l = absurd (omega (arith, l))
own_flight least bound (f ∷ fs) h zero d l =
    ap (λ b. cond b (Some (flight_as f)) (flight_of (map flight_as fs) f.message.id)) (here_is f.message.id)
own_flight least bound (f ∷ fs) h (suc k) d l =
    let g = get_or fs k d in
    let m = least_number (f.message.id + 1) bound fs h.1 k d (omega (arith, l)) in
    ap (λ b. cond b (Some (flight_as f)) (flight_of (map flight_as fs) g.message.id)) (others_differ f.message.id g.message.id (omega (arith, m)))
    ∙ own_flight (f.message.id + 1) bound fs h.1 k d (omega (arith, l))

pub own_flights : (least bound : ℕ) (fs : List Carried) → AreNumbered least fs bound →
    All (λ f. flight_of (map flight_as fs) f.message.id ≡ Some f) (map flight_as fs)
own_flights least bound fs h = All-map (λ f. flight_of (map flight_as fs) f.message.id ≡ Some f) flight_as fs (own_flight least bound fs h)

-- what follows of each message from what holds of it and of the place where it stands
pub at_place : (P Q : Flight → Type 0) (R : Carried → Type 0) (fs : List Carried) (place : ℕ) → All P (map flight_as fs) → IfSome (slice_get fs place) R →
    ((g : Carried) → P (flight_as g) → R g → Q (flight_as g)) → IfSome (slice_get (map flight_as fs) place) Q
at_place P Q R [] place all h step = tt
at_place P Q R (f ∷ fs) zero all h step = step f (All-head P (flight_as f) (map flight_as fs) all) h
at_place P Q R (f ∷ fs) (suc k) all h step = at_place P Q R fs k (All-tail P (flight_as f) (map flight_as fs) all) h step

-- what hasn't arrived isn't delivered

module _ (image : ImageData) (config : Config) (s : State) where
  waits : (f : Flight) → flight_of s.fabric.net.flights f.message.id ≡ Some f → is_there f ≡ false →
      is_delivered (answer_foreseen image config s (Deliver f.message.id)) ≡ false
  unfolding step_of
  waits f at away =
      ap (λ o. is_delivered (delivers_flight config s.fabric o).answer) at
      ∙ ap (λ b. is_delivered (if not b then step_refused s.fabric NotArrived else arrived f).answer) away
    where
      arrived : Flight → FabricStep
      arrived g =
          if nat_lt (node_at s.fabric g.message.to).now g.message.tag then step_refused s.fabric Held
          else delivers config s.fabric g.message (outcome_of s.fabric g.message g.message.body)

  by_receiver : (b : Bool) (n : ℕ) (f : Flight) → nat_eq f.message.to n ≡ b → flight_of s.fabric.net.flights f.message.id ≡ Some f → stands_at n f ≡ false →
      b && is_delivered (answer_foreseen image config s (Deliver f.message.id)) ≡ false
  by_receiver false n f e at away = refl
  by_receiver true n f e at away = waits f at (elsewhere (node_of f.place) f.message.to n e away)
    where
      elsewhere : (a b c : ℕ) → nat_eq b c ≡ true → nat_eq a c ≡ false → nat_eq a b ≡ false
      elsewhere a b c e h = grind (arith, nat_tests)

  pub of_another : (n : ℕ) (f : Flight) → nat_eq f.message.to n ≡ false → delivery image config s n f ≡ None
  of_another n f away = ap (λ b. event_if (b && is_delivered (answer_foreseen image config s (Deliver f.message.id))) (Deliver f.message.id)) away

  pub taken_here : (n : ℕ) (f : Flight) → nat_eq f.message.to n ≡ true → is_delivered (answer_foreseen image config s (Deliver f.message.id)) ≡ true →
      delivery image config s n f ≡ Some (Deliver f.message.id)
  taken_here n f here held = ap (λ b. event_if (b && is_delivered (answer_foreseen image config s (Deliver f.message.id))) (Deliver f.message.id)) here
      ∙ ap (λ b. event_if b (Deliver f.message.id)) held

  and_false : (b : Bool) → b && false ≡ false
  and_false false = refl
  and_false true = refl

  pub held_here : (n : ℕ) (f : Flight) → is_delivered (answer_foreseen image config s (Deliver f.message.id)) ≡ false → delivery image config s n f ≡ None
  held_here n f held = ap (λ b. event_if (nat_eq f.message.to n && b) (Deliver f.message.id)) held
      ∙ ap (λ b. event_if b (Deliver f.message.id)) (and_false (nat_eq f.message.to n))

  pub not_delivered : (n : ℕ) (f : Flight) → flight_of s.fabric.net.flights f.message.id ≡ Some f → stands_at n f ≡ false → delivery image config s n f ≡ None
  not_delivered n f at away = ap (λ b. event_if b (Deliver f.message.id)) (by_receiver (nat_eq f.message.to n) n f refl at away)

  pub own_in_flight : (net : NetData) → net_as net ≡ s.fabric.net → IsNet net → All (λ f. flight_of s.fabric.net.flights f.message.id ≡ Some f) (map flight_as net.flights)
  own_in_flight net carried sound =
      let same : map flight_as net.flights ≡ s.fabric.net.flights = ap (λ (x : Net). x.flights) carried in
      subst (λ flights. All (λ f. flight_of flights f.message.id ≡ Some f) (map flight_as net.flights)) same (own_flights 1 net.next net.flights sound.numbered)

  -- what is said of the message at a place of the network's code, of which its number tells more
  pub at_place_of : (net : NetData) → net_as net ≡ s.fabric.net → IsNet net → (n place : ℕ) (R : Carried → Type 0) (event : Option Event) →
      IfSome (slice_get net.flights place) R →
      ((g : Carried) → flight_of s.fabric.net.flights g.message.id ≡ Some (flight_as g) → R g → event ≡ delivery image config s n (flight_as g)) →
      IfSome (slice_get s.fabric.net.flights place) (λ f. event ≡ delivery image config s n f)
  at_place_of net carried sound n place R event there step =
      let same : map flight_as net.flights ≡ s.fabric.net.flights = ap (λ (x : Net). x.flights) carried in
      subst (λ flights. IfSome (slice_get flights place) (λ f. event ≡ delivery image config s n f)) same
      (at_place (λ f. flight_of s.fabric.net.flights f.message.id ≡ Some f) (λ f. event ≡ delivery image config s n f) R
      net.flights place (own_in_flight net carried sound) there step)
