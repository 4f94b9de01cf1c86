-- A message that is found by its number is in flight.
use Rattle.std.proofs.Common.{◌≡◌, ◌∙◌, ℕ, ◌<◌, ◌≤◌, Bool, true, false, ◌||◌, List, [], ◌∷◌, length, refl, ap, sym, subst, arith}
use Rattle.std.proofs.Common.{if◌then◌else◌}
use Rattle.std.proofs.Common.{nat_eq, Some}
use Rattle.std.specs.Prelude.{unwrap_or}
use Rattle.std.proofs.lemmas.Bool.Decides.{nat_tests}
use Rattle.sn_msg.specs.declared.Message.{Message}
use Rattle.sn_msg.specs.declared.Body.{Body}
use Rattle.sn_model.specs.Caches.{block_count}
use Rattle.sn_model.specs.Fabric.{Fabric, Flight, node_at}
use Rattle.sn_model.specs.Net.{flight_of}
use Rattle.sn_coherence.specs.Block.{Message as Seen}
use Rattle.sn_coherence.specs.Events.{Arrives}
use Rattle.fabric_coherence.specs.View.{GhostState, block_seen, net_seen, is_seen, is_for_all, message_seen}
use Rattle.fabric_coherence.specs.Steps.{Below, Within, node_in_body, IsShaped, IsInFlight}
use Rattle.fabric_coherence.proofs.Receivers.{seen_as_sent}

-- what is found is seen under its number, by each block that sees it
found_step : (g f : Flight) (fs : List Flight) (id b : ℕ) → (if nat_eq g.message.id id then Some g else flight_of fs id) ≡ Some f →
    is_seen b f.message ≡ true →
    (flight_of fs id ≡ Some f → net_seen b fs id ≡ message_seen f.message f.message.body) →
    net_seen b (g ∷ fs) id ≡ message_seen f.message f.message.body
found_step g f fs id b e s h = grind (arith, nat_tests)

pub found-seen : (fs : List Flight) (id : ℕ) (f : Flight) (b : ℕ) → flight_of fs id ≡ Some f → is_seen b f.message ≡ true →
    net_seen b fs id ≡ message_seen f.message f.message.body
found-seen [] id f b e s = absurd (grind arith)
found-seen (g ∷ fs) id f b e s = found_step g f fs id b e s (λ q. found-seen fs id f b q s)

pub record IsFound (f : Flight) (id next nodes : ℕ) : Type 0 where
  pub number : f.message.id ≡ id
  pub known : f.message.id < next
  pub from : f.message.from < nodes
  pub to : f.message.to < nodes
  pub block : f.message.block < block_count
  pub names : node_in_body f.message.body < nodes

is_found_step : (g f : Flight) (fs : List Flight) (id next nodes : ℕ) →
    (if nat_eq g.message.id id then Some g else flight_of fs id) ≡ Some f → g.message.id < next →
    (g.message.from < nodes) × (g.message.to < nodes) × (g.message.block < block_count) × (node_in_body g.message.body < nodes) →
    (flight_of fs id ≡ Some f → IsFound f id next nodes) → IsFound f id next nodes
is_found_step g f fs id next nodes e l w h = either (nat_eq g.message.id id) refl e
  where
    first : nat_eq g.message.id id ≡ true → IsFound g id next nodes
    first q = record { number = grind (arith, nat_tests); known = l; from = w.0; to = w.1; block = w.2; names = w.3 }

    either : (t : Bool) → nat_eq g.message.id id ≡ t → (if t then Some g else flight_of fs id) ≡ Some f → IsFound f id next nodes
    either true q x = subst (λ y. IsFound y id next nodes) (ap (λ o. unwrap_or o g) x) (first q)
    either false q x = h x

pub is_found : (fs : List Flight) (id : ℕ) (f : Flight) (next nodes : ℕ) → flight_of fs id ≡ Some f → Below fs next → Within fs nodes →
    IsFound f id next nodes
is_found [] id f next nodes e l w = absurd (grind arith)
is_found (g ∷ fs) id f next nodes e l w = is_found_step g f fs id next nodes e l.0 w.0 (λ q. is_found fs id f next nodes q l.1 w.1)

-- so it is in flight
seen_own : (all : Bool) (block : ℕ) → (all || nat_eq block block) ≡ true
seen_own all block = grind (arith, nat_tests)

pub in_flight : (s : Fabric) (id : ℕ) (f : Flight) → IsShaped s → flight_of s.net.flights id ≡ Some f → IsInFlight s f.message
in_flight s id f h e = let i = is_found s.net.flights id f s.net.next_id (length s.nodes) e h.below h.within in record {
  seen =
      ap (net_seen f.message.block s.net.flights) i.number
      ∙ found-seen s.net.flights id f f.message.block e (seen_own (is_for_all f.message.body) f.message.block);
  known = i.known;
  from = i.from;
  to = i.to;
  block = i.block;
}

-- Ready and Advance are seen by all
for_all : (all same : Bool) → all ≡ true → (all || same) ≡ true
for_all all same e = grind arith

pub found-for_all : (s : Fabric) (id : ℕ) (f : Flight) (b : ℕ) → IsShaped s → flight_of s.net.flights id ≡ Some f →
    is_for_all f.message.body ≡ true → net_seen b s.net.flights f.message.id ≡ message_seen f.message f.message.body
found-for_all s id f b h e all =
    let i = is_found s.net.flights id f s.net.next_id (length s.nodes) e h.below h.within in
    ap (net_seen b s.net.flights) i.number
    ∙ found-seen s.net.flights id f b e (for_all (is_for_all f.message.body) (nat_eq f.message.block b) all)

-- a message in flight whose receiver's interval has reached its tag has arrived, as its block sees it
pub has_arrived : (s : Fabric) (t : GhostState) (m : Message) → IsInFlight s m → m.tag ≤ (node_at s m.to).now → (x : Body) → m.body ≡ x →
    Arrives (block_seen s t m.block) m.id (message_seen m x).body
has_arrived s t m flight reached x is =
    let sees : net_seen m.block s.net.flights m.id ≡ message_seen m x = flight.seen ∙ ap (message_seen m) is in (
      (λ p. (sees p).body),
      subst (λ (y : Seen). y.tag ≤ (node_at s y.to).now) (sym sees)
          (subst (λ n. (message_seen m x).tag ≤ (node_at s n).now) (sym (seen_as_sent m x).1)
          (subst (λ n. n ≤ (node_at s m.to).now) (sym (seen_as_sent m x).2) reached)),
    )
