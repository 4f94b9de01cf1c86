-- What the network's code does is what the machine's definitions say, once its words are read as the machine's.
use Rattle.std.proofs.Common.{◌≡◌, ℕ, ◌+◌, ◌<◌, Bool, true, false, cond, not, Option, Some, None, List, [], ◌∷◌, set, refl, sym, ap, ◌∙◌}
use Rattle.std.proofs.Common.{arith}
use Rattle.std.specs.Prelude.{nat_eq, map, filter, is_some}
use Rattle.std.specs.Option.{option_map}
use Rattle.std.proofs.lemmas.Bool.Decides.{nat_tests}
use Rattle.sn_base.specs.declared.event.Answer.TheVariants.{Hopped, LostInDead, Lost, Killed}
use Rattle.switch_net.specs.declared.flight.Flight.{Flight as Carried}
use Rattle.switch_net.specs.Net.{NetData, find_flight, without, outside, flights_with_move, hop_answer, after_hop, next_switch, has_arrived, or_else}
use Rattle.route_plan.specs.Distances.{is_dead}
use Rattle.sn_model.specs.Fabric as model
use Rattle.sn_model.specs.Fabric.{with_net, step_with_answer}
use Rattle.sn_model.specs.Net as net
use Rattle.sn_model.specs.Net.{routes_of}
use Rattle.route_plan.specs.Routes.{next_of}
use Rattle.sn_model.specs.NetEvents.{step_of_hop, hops, step_of_loss, loses, step_of_kill}
use Rattle.fabric_bounds.specs.Flights.{From, Rising}
use Rattle.sn_fabric.specs.Nets.{flight_as, net_as, hop_as, loss_as, kill_as}
use Rattle.sn_fabric.specs.Parts.{Parts, fabric_as}

found_step : (b : Bool) (f : Carried) (x y : Option Carried) →
    option_map flight_as (cond b (Some f) x) ≡ cond b (Some (flight_as f)) (option_map flight_as x)
found_step true f x y = refl
found_step false f x y = refl

-- the message of a number is the same
pub found-as : (fs : List Carried) (id : ℕ) → net.flight_of (map flight_as fs) id ≡ option_map flight_as (find_flight fs id)
found-as [] id = refl
found-as (f ∷ fs) id =
    ap (cond (nat_eq f.message.id id) (Some (flight_as f))) (found-as fs id)
    ∙ sym (found_step (nat_eq f.message.id id) f (find_flight fs id) None)

filtered_step : (b : Bool) (f : Carried) (xs : List Carried) →
    map flight_as (cond b (f ∷ xs) xs) ≡ cond b (flight_as f ∷ map flight_as xs) (map flight_as xs)
filtered_step true f xs = refl
filtered_step false f xs = refl

-- so are the others
pub filtered-as : (p : model.Flight → Bool) (fs : List Carried) →
    map flight_as (filter (λ f. p (flight_as f)) fs) ≡ filter p (map flight_as fs)
filtered-as p [] = refl
filtered-as p (f ∷ fs) =
    filtered_step (p (flight_as f)) f (filter (λ f. p (flight_as f)) fs)
    ∙ ap (λ xs. cond (p (flight_as f)) (flight_as f ∷ xs) xs) (filtered-as p fs)

pub without-as : (fs : List Carried) (id : ℕ) →
    map flight_as (without fs id) ≡ filter (λ f. not (nat_eq f.message.id id)) (map flight_as fs)
without-as fs id = filtered-as (λ f. not (nat_eq f.message.id id)) fs

pub outside-as : (fs : List Carried) (switch : ℕ) →
    map flight_as (outside fs switch) ≡ filter (λ f. not (nat_eq f.place switch)) (map flight_as fs)
outside-as fs switch = filtered-as (λ f. not (nat_eq f.place switch)) fs

-- numbers rise, so no other message has the number of one that was found
placed_later : (fs : List model.Flight) (id at next : ℕ) → From fs next → id < next → map (net.flight_in_switch id at) fs ≡ fs
placed_later [] id at next h l = refl
placed_later (f ∷ fs) id at next h l =
    let e : nat_eq f.message.id id ≡ false = grind (arith, nat_tests, h.0) in
    rw e (ap (λ xs. f ∷ xs) (placed_later fs id at next h.1 l))

moved_step : (b : Bool) (f : Carried) (fs : List Carried) (id at : ℕ) → nat_eq f.message.id id ≡ b →
    From (map flight_as fs) (f.message.id + 1) →
    map flight_as (flights_with_move fs id at) ≡ map (net.flight_in_switch id at) (map flight_as fs) →
    map flight_as (cond b (record f { at = at } ∷ fs) (f ∷ flights_with_move fs id at)) ≡ cond b (record (flight_as f) { place = at }) (flight_as f)
    ∷ map (net.flight_in_switch id at) (map flight_as fs)
moved_step true f fs id at e h r =
    let l : id < f.message.id + 1 = grind (arith, nat_tests, e) in
    ap (λ xs. record (flight_as f) { place = at } ∷ xs) (sym (placed_later (map flight_as fs) id at (f.message.id + 1) h l))
moved_step false f fs id at e h r = ap (λ xs. flight_as f ∷ xs) r

pub moved-as : (fs : List Carried) (id at : ℕ) → Rising (map flight_as fs) →
    map flight_as (flights_with_move fs id at) ≡ map (net.flight_in_switch id at) (map flight_as fs)
moved-as [] id at h = refl
moved-as (f ∷ fs) id at h = moved_step (nat_eq f.message.id id) f fs id at refl h.0 (moved-as fs id at h.1)

-- a message that is found has its number
found_number : (b : Bool) (f g : Carried) (fs : List Carried) (id : ℕ) → nat_eq f.message.id id ≡ b →
    cond b (Some f) (find_flight fs id) ≡ Some g →
    (find_flight fs id ≡ Some g → g.message.id ≡ id) → g.message.id ≡ id
found_number true f g fs id e h r = grind (arith, nat_tests, e, h)
found_number false f g fs id e h r = r h

pub number-found : (fs : List Carried) (id : ℕ) (g : Carried) → find_flight fs id ≡ Some g → g.message.id ≡ id
number-found [] id g h = cc
number-found (f ∷ fs) id g h = found_number (nat_eq f.message.id id) f g fs id refl h (number-found fs id g)

same_next : (o : Option ℕ) (own : ℕ) → net.or_own o own ≡ or_else o own
same_next None own = refl
same_next (Some next) own = refl

hop_step : (p : Parts) (f : Carried) (id : ℕ) (arrived dead : Bool) → routes_of (fabric_as p) ≡ p.net.routes → has_arrived f ≡ arrived →
    is_dead p.net.dead (next_switch p.net.routes f) ≡ dead → f.message.id ≡ id → Rising (map flight_as p.net.flights) →
    hops (fabric_as p) (Some (flight_as f))
    ≡ step_with_answer (fabric_as (record p { net = after_hop p.net id (Some f) })) (hop_as (hop_answer p.net (Some f)))
hop_step p f id true dead r a d i h = rw a refl
hop_step p f id false true r a d i h =
    rw (a, r, same_next (next_of p.net.routes f.message.to f.at) f.at, d, i)
    (ap (λ (fs : List model.Flight). step_with_answer (with_net (fabric_as p) (record (net_as p.net) { flights = fs })) LostInDead)
    (sym (without-as p.net.flights id)))
hop_step p f id false false r a d i h =
    rw (a, r, same_next (next_of p.net.routes f.message.to f.at) f.at, d, i)
    (ap (λ (fs : List model.Flight). step_with_answer (with_net (fabric_as p) (record (net_as p.net) { flights = fs })) Hopped)
    (sym (moved-as p.net.flights id (next_switch p.net.routes f) h)))

hop_found : (p : Parts) (id : ℕ) (o : Option Carried) → routes_of (fabric_as p) ≡ p.net.routes → find_flight p.net.flights id ≡ o →
    Rising (map flight_as p.net.flights) →
    hops (fabric_as p) (option_map flight_as o)
    ≡ step_with_answer (fabric_as (record p { net = after_hop p.net id o })) (hop_as (hop_answer p.net o))
hop_found p id None r e h = refl
hop_found p id (Some f) r e h =
    hop_step p f id (has_arrived f) (is_dead p.net.dead (next_switch p.net.routes f)) r refl refl (number-found p.net.flights id f e) h

pub hop-is : (p : Parts) (id : ℕ) → routes_of (fabric_as p) ≡ p.net.routes → Rising (map flight_as p.net.flights) →
    step_of_hop (fabric_as p) id
    ≡ step_with_answer (fabric_as (record p { net = after_hop p.net id (find_flight p.net.flights id) }))
    (hop_as (hop_answer p.net (find_flight p.net.flights id)))
hop-is p id r h = ap (hops (fabric_as p)) (found-as p.net.flights id) ∙ hop_found p id (find_flight p.net.flights id) r refl h

-- a loss, by whether the message is there

loss_found : (p : Parts) (id : ℕ) (n : NetData) (b : Bool) (o : Option Carried) → find_flight p.net.flights id ≡ o → b ≡ is_some o →
    n ≡ record p.net { flights = without p.net.flights id } → (b ≡ false → n ≡ p.net) →
    loses (fabric_as p) (option_map flight_as o) ≡ step_with_answer (fabric_as (record p { net = n })) (loss_as b)
loss_found p id n b None e there after absent = rw (there, absent there) refl
loss_found p id n b (Some f) e there after absent =
    rw (there, after, number-found p.net.flights id f e)
    (ap (λ (fs : List model.Flight). step_with_answer (with_net (fabric_as p) (record (net_as p.net) { flights = fs })) Lost)
    (sym (without-as p.net.flights id)))

pub loss-is : (p : Parts) (id : ℕ) (n : NetData) (b : Bool) → b ≡ is_some (find_flight p.net.flights id) →
    n ≡ record p.net { flights = without p.net.flights id } → (b ≡ false → n ≡ p.net) →
    step_of_loss (fabric_as p) id ≡ step_with_answer (fabric_as (record p { net = n })) (loss_as b)
loss-is p id n b there after absent =
    ap (loses (fabric_as p)) (found-as p.net.flights id) ∙ loss_found p id n b (find_flight p.net.flights id) refl there after absent

-- a switch that dies

kill_step : (p : Parts) (switch : ℕ) (n : NetData) (b d : Bool) → is_dead p.net.dead switch ≡ d → b ≡ not d →
    (b ≡ true → n ≡ record p.net { dead = set p.net.dead switch true; flights = outside p.net.flights switch }) → (b ≡ false → n ≡ p.net) →
    step_of_kill (fabric_as p) switch ≡ step_with_answer (fabric_as (record p { net = n })) (kill_as b)
kill_step p switch n b true e k after already = rw (e, k, already k) refl
kill_step p switch n b false e k after already =
    rw (e, k, after k)
    (ap (λ (fs : List model.Flight). step_with_answer
    (with_net (fabric_as p) (record (net_as p.net) { dead = set p.net.dead switch true; flights = fs })) Killed)
    (sym (outside-as p.net.flights switch)))

pub kill-is : (p : Parts) (switch : ℕ) (n : NetData) (b : Bool) → b ≡ not (is_dead p.net.dead switch) →
    (b ≡ true → n ≡ record p.net { dead = set p.net.dead switch true; flights = outside p.net.flights switch }) → (b ≡ false → n ≡ p.net) →
    step_of_kill (fabric_as p) switch ≡ step_with_answer (fabric_as (record p { net = n })) (kill_as b)
kill-is p switch n b k after already = kill_step p switch n b (is_dead p.net.dead switch) refl k after already
