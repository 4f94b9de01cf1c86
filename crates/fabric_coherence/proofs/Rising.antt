-- The numbers in flight stay in order, whatever the network does.
use Rattle.std.proofs.Common.{◌≡◌, ℕ, ◌+◌, ◌≤◌, Bool, true, false, List, [], ◌∷◌, ◌++◌, sym, subst, arith, if◌then◌else◌, filter, map}
use Rattle.std.proofs.lemmas.Bool.Decides.{nat_tests}
use Rattle.sn_msg.specs.declared.Message.{Message as Sent}
use Rattle.route_plan.specs.Distances.{Switches}
use Rattle.sn_model.specs.Fabric.{Flight, Net}
use Rattle.sn_model.specs.Net.{net_after_send, is_lost, entry_of, flight_in_switch}
use Rattle.fabric_coherence.specs.Flights.{From, Rising}
use Rattle.fabric_coherence.specs.Steps.{Below}

from_one : (pass : Bool) (f : Flight) (fs : List Flight) (n : ℕ) → n ≤ f.message.id → From fs n → From (if pass then f ∷ fs else fs) n
from_one true f fs n l h = (l, h)
from_one false f fs n l h = h

from-filter : (p : Flight → Bool) (fs : List Flight) (n : ℕ) → From fs n → From (filter p fs) n
from-filter p [] n l = tt
from-filter p (f ∷ fs) n l = from_one (p f) f (filter p fs) n l.0 (from-filter p fs n l.1)

rising_one : (pass : Bool) (f : Flight) (fs : List Flight) → From fs (f.message.id + 1) → Rising fs → Rising (if pass then f ∷ fs else fs)
rising_one true f fs l h = (l, h)
rising_one false f fs l h = h

pub rising-filter : (p : Flight → Bool) (fs : List Flight) → Rising fs → Rising (filter p fs)
rising-filter p [] r = tt
rising-filter p (f ∷ fs) r = rising_one (p f) f (filter p fs) (from-filter p fs (f.message.id + 1) r.0) (rising-filter p fs r.1)

placed_number : (id place : ℕ) (f : Flight) → (flight_in_switch id place f).message.id ≡ f.message.id
placed_number id place f = grind (arith, nat_tests)

from-moved : (id place : ℕ) (fs : List Flight) (n : ℕ) → From fs n → From (map (flight_in_switch id place) fs) n
from-moved id place [] n l = tt
from-moved id place (f ∷ fs) n l = (subst (λ i. n ≤ i) (sym (placed_number id place f)) l.0, from-moved id place fs n l.1)

pub rising-moved : (id place : ℕ) (fs : List Flight) → Rising fs → Rising (map (flight_in_switch id place) fs)
rising-moved id place [] r = tt
rising-moved id place (f ∷ fs) r = (
  subst (λ i. From (map (flight_in_switch id place) fs) (i + 1)) (sym (placed_number id place f)) (from-moved id place fs (f.message.id + 1) r.0),
  rising-moved id place fs r.1,
)

from-push : (fs : List Flight) (f : Flight) (n : ℕ) → From fs n → n ≤ f.message.id → From (fs ++ f ∷ []) n
from-push [] f n l m = (m, tt)
from-push (g ∷ fs) f n l m = (l.0, from-push fs f n l.1 m)

pub rising-push : (fs : List Flight) (f : Flight) → Rising fs → Below fs f.message.id → Rising (fs ++ f ∷ [])
rising-push [] f r l = (tt, tt)
rising-push (g ∷ fs) f r l = (from-push fs f (g.message.id + 1) r.0 (omega arith), rising-push fs f r.1 l.1)

rising_either : (lost : Bool) (fs gs : List Flight) → Rising fs → Rising gs → Rising (if lost then fs else gs)
rising_either true fs gs r q = r
rising_either false fs gs r q = q

pub rising-post : (routes : Switches) (net : Net) (m : Sent) → m.id ≡ net.next_id → Below net.flights net.next_id → Rising net.flights →
    Rising (net_after_send routes net m).flights
rising-post routes net m e l r =
    rising_either (is_lost routes net m) net.flights (net.flights ++ record { message = m; place = entry_of routes m } ∷ []) r
    (rising-push net.flights (record { message = m; place = entry_of routes m }) r (rw e l))
