-- The events of messages and switches that are no row, and the rise of the recovery point, lead every block on.
use Rattle.std.proofs.Common.{◌≡◌, ◌∙◌, ℕ, ◌+◌, ◌<◌, ◌≤◌, Bool, true, false, not, List, length, refl, ap, sym, subst, arith, if◌then◌else◌}
use Rattle.std.proofs.Common.{nat_eq, filter, length-set, Option, Some, None}
use Rattle.std.specs.Prelude.{nat_lt, slice_set}
use Rattle.std.proofs.lemmas.Bool.Decides.{nat_tests}
use Rattle.sn_base.specs.declared.config.Config.{Config}
use Rattle.sn_base.specs.declared.event.Answer.TheVariants.{Validated, LostInDead, Hopped, AlreadyDead, Arrived, NoMessage}
use Rattle.sn_msg.specs.declared.Message.{Message as Sent}
use Rattle.sn_msg.specs.declared.Body.TheVariants.{Ready, Advance}
use Rattle.route_plan.specs.Distances.{is_dead}
use Rattle.sn_model.specs.Caches.{block_count}
use Rattle.sn_model.specs.Fabric.{Fabric, Flight, FabricStep, node_at, with_node, with_net, step_refused, step_with_answer}
use Rattle.sn_model.specs.Net.{routes_of, flight_of, without_flight, net_with_flight_in, is_there, next_switch, sending}
use Rattle.sn_model.specs.NetEvents.{node_after_news, hops_to, hops, step_of_hop, loses, step_of_loss, step_of_kill, delivers, outcome_of}
use Rattle.sn_model.specs.PointEvents.{advances}
use Rattle.sn_coherence.specs.Block as block
use Rattle.sn_coherence.specs.Block.{Message, with_number}
use Rattle.sn_coherence.specs.OtherEvents.{lose, deliver_ready, deliver_advance, validate}
use Rattle.sn_coherence.specs.Events.{Lose, DeliverAdvance, Arrives, DeliverReady}
use Rattle.sn_coherence.specs.Records.{hears}
use Rattle.fabric_coherence.specs.View.{GhostState, block_seen, net_seen, message_seen}
use Rattle.fabric_coherence.specs.Steps.{losing, lost_at_once}
use Rattle.fabric_coherence.specs.Flights.{standing}
use Rattle.fabric_coherence.specs.Coherent.{FabricInvariant}
use Rattle.fabric_coherence.specs.Leads.{Leads, Goes, Moves}
use Rattle.fabric_coherence.proofs.InFlight.{in_flight, found-for_all}
use Rattle.fabric_coherence.proofs.NetEvents.{lose-seen, move-seen, kill-seen, ready-seen, advance-seen, validate-seen}
use Rattle.fabric_coherence.proofs.NetShape.{without-kept, moved-kept, kill-kept, advance-kept, validate-kept}
use Rattle.fabric_coherence.proofs.KeptCommon.{frames_stay, event_leads, quiet_leads, leads_as, losing_leads, then_losing, stays, goes_each}
use Rattle.fabric_coherence.proofs.KeptCommon.{as_it_is, by_test}

module _ (s : Fabric) (t : GhostState) (kept : FabricInvariant s t) where
  abbrev nodes : ℕ
  nodes = length s.nodes

  -- a message is taken out, moves on, or is lost with its switch
  without_goes : (id : ℕ) → Goes s t (λ o r. r) (with_net s (without_flight s.net id)) t
  without_goes id =
      goes_each s t (λ o r. r) (with_net s (without_flight s.net id)) t refl (frames_stay s t) (without-kept s kept.shape id)
      (λ o. lose (block_seen s t o) id)
      (λ o l. lose-seen s t o id) (λ o l. quiet_leads nodes (block_seen s t o) (Lose id) tt tt)

  moved_goes : (id place : ℕ) → Goes s t (λ o r. r) (with_net s (net_with_flight_in s.net id place)) t
  moved_goes id place =
      goes_each s t (λ o r. r) (with_net s (net_with_flight_in s.net id place)) t refl (frames_stay s t) (moved-kept s kept.shape id place)
      (block_seen s t)
      (λ o l. move-seen s t o id place) (λ o l. stays nodes (block_seen s t o))

  kill_goes : (switch : ℕ) (dead : List Bool) →
      Goes s t (λ o r. r) (with_net s (record s.net { dead = dead; flights = filter (λ f. not (nat_eq f.place switch)) s.net.flights })) t
  kill_goes switch dead =
      goes_each s t (λ o r. r)
      (with_net s (record s.net { dead = dead; flights = filter (λ f. not (nat_eq f.place switch)) s.net.flights })) t refl
      (frames_stay s t) (kill-kept s kept.shape switch dead)
      (λ o. losing (block_seen s t o) (standing switch s.net.flights))
      (λ o l. kill-seen s t o switch dead kept.shape.rising) (λ o l. losing_leads nodes (block_seen s t o) (standing switch s.net.flights))

  -- a loss
  pub lost_moves : (id : ℕ) → Moves s t (step_of_loss s id)
  lost_moves id = of (flight_of s.net.flights id)
    where
      of : (found : Option Flight) → Moves s t (loses s found)
      of None = as_it_is s t NoMessage kept.shape
      of (Some f) = (t, without_goes f.message.id)

  -- a hop
  pub hopped_moves : (id : ℕ) → Moves s t (step_of_hop s id)
  hopped_moves id = of (flight_of s.net.flights id)
    where
      into : (f : Flight) (next : ℕ) (dead : Bool) →
          Moves s t (if dead then step_with_answer (with_net s (without_flight s.net f.message.id)) LostInDead
          else step_with_answer (with_net s (net_with_flight_in s.net f.message.id next)) Hopped)
      into f next true = (t, without_goes f.message.id)
      into f next false = (t, moved_goes f.message.id next)

      of : (found : Option Flight) → Moves s t (hops s found)
      of None = as_it_is s t NoMessage kept.shape
      of (Some f) =
          by_test s t (is_there f) (step_refused s Arrived) (hops_to s f (next_switch (routes_of s) f)) (λ e. as_it_is s t Arrived kept.shape)
          (λ e. into f (next_switch (routes_of s) f) (is_dead s.net.dead (next_switch (routes_of s) f)))

  -- a switch that dies
  pub killed_moves : (switch : ℕ) → Moves s t (step_of_kill s switch)
  killed_moves switch =
      by_test s t (is_dead s.net.dead switch) (step_refused s AlreadyDead) _ (λ e. as_it_is s t AlreadyDead kept.shape)
      (λ e. (t, kill_goes switch (slice_set s.net.dead switch true)))

  -- Ready at the controller and Advance at a node: where it is found by its number, has come to its receiver and isn't held
  seen_arrives : (x : block.Body) (o from to tag k id : ℕ) → net_seen o s.net.flights id ≡ with_number x from to tag k →
      tag ≤ (node_at s to).now → Arrives (block_seen s t o) id x
  seen_arrives x o from to tag k id e l = subst (λ (y : Message). (y.body ≡ x) × (y.tag ≤ (node_at s y.to).now)) (sym e) (refl, l)

  ready_moves : (config : Config) (m : Sent) (k : ℕ) →
      ((o : ℕ) → net_seen o s.net.flights m.id ≡ with_number block.Ready m.from m.to m.tag k) → m.tag ≤ (node_at s m.to).now →
      Moves s t (delivers config s m (outcome_of s m (Ready k)))
  ready_moves config m k e l = (
    t,
    goes_each s t (λ o r. hears r m.from k) (with_net s (without_flight s.net m.id)) t refl (frames_stay s t)
        (without-kept s kept.shape m.id) (λ o. deliver_ready (block_seen s t o) m.id)
        (λ o q. ready-seen s t o m.id) heard,
  )
    where
      heard : (o : ℕ) → o < block_count → Leads nodes (block_seen s t o) (λ r. hears r m.from k) (deliver_ready (block_seen s t o) m.id)
      heard o q =
          let a : Arrives (block_seen s t o) m.id block.Ready = seen_arrives block.Ready o m.from m.to m.tag k m.id (e o) l in
          leads_as nodes (block_seen s t o) (deliver_ready (block_seen s t o) m.id)
          (λ r. hears r (net_seen o s.net.flights m.id).from (net_seen o s.net.flights m.id).number) (λ r. hears r m.from k)
          (λ r. ap (λ (x : Message). hears r x.from x.number) (e o))
          (event_leads nodes (block_seen s t o) (DeliverReady m.id) a (λ r. a))

  advance_moves : (config : Config) (m : Sent) (k : ℕ) → m.to < nodes →
      ((o : ℕ) → net_seen o s.net.flights m.id ≡ with_number block.Advance m.from m.to m.tag k) → m.tag ≤ (node_at s m.to).now →
      Moves s t (delivers config s m (outcome_of s m (Advance k)))
  advance_moves config m k low e l = (
    t,
    goes_each s t (λ o r. r) (with_net (with_node s m.to (node_after_news (node_at s m.to) k)) (without_flight s.net m.id)) t
        (length-set s.nodes m.to (node_after_news (node_at s m.to) k)) (frames_stay s t)
        (advance-kept s kept.shape m.id m.to k low) (λ o. deliver_advance (block_seen s t o) m.id)
        (λ o q. advance-seen s t o m k low (e o))
        (λ o q. quiet_leads nodes (block_seen s t o) (DeliverAdvance m.id)
        (seen_arrives block.Advance o m.from m.to m.tag k m.id (e o) l) tt),
  )

  reached : (a b : ℕ) → nat_lt a b ≡ false → b ≤ a
  reached a b e = grind (arith, nat_tests)

  pub ready_delivered_moves : (config : Config) (id : ℕ) (f : Flight) (k : ℕ) → flight_of s.net.flights id ≡ Some f →
      nat_lt (node_at s f.message.to).now f.message.tag ≡ false → f.message.body ≡ Ready k →
      Moves s t (delivers config s f.message (outcome_of s f.message (Ready k)))
  ready_delivered_moves config id f k e held is =
      ready_moves config f.message k (λ o. found-for_all s id f o kept.shape e (rw is refl) ∙ ap (message_seen f.message) is)
      (reached (node_at s f.message.to).now f.message.tag held)

  pub advance_delivered_moves : (config : Config) (id : ℕ) (f : Flight) (k : ℕ) → flight_of s.net.flights id ≡ Some f →
      nat_lt (node_at s f.message.to).now f.message.tag ≡ false → f.message.body ≡ Advance k →
      Moves s t (delivers config s f.message (outcome_of s f.message (Advance k)))
  advance_delivered_moves config id f k e held is =
      advance_moves config f.message k (in_flight s id f kept.shape e).to
      (λ o. found-for_all s id f o kept.shape e (rw is refl) ∙ ap (message_seen f.message) is)
      (reached (node_at s f.message.to).now f.message.tag held)

  -- the recovery point rises, where it does so for each block
  abbrev rises : FabricStep
  rises = sending (record s { point = s.point + 1 }) 0 0 (advances (s.point + 1) 0 s.nodes) (Validated (s.point + 1))

  pub rises_goes : ((o : ℕ) → o < block_count → Leads nodes (block_seen s t o) (λ r. r) (validate nodes (block_seen s t o))) →
      Goes s t (λ o r. r) rises.fabric t
  rises_goes leads =
      goes_each s t (λ o r. r) rises.fabric t refl (frames_stay s t) (validate-kept s kept.shape)
      (λ o. losing (validate nodes (block_seen s t o)) (lost_at_once rises.sent))
      (λ o l. validate-seen s t o kept.shape.below)
      (λ o l. then_losing nodes (block_seen s t o) (validate nodes (block_seen s t o)) (λ r. r) (lost_at_once rises.sent) (leads o l))
