-- The shape of the net is kept by whatever the network does.
use Rattle.std.proofs.Common.{◌≡◌, ◌∙◌, ℕ, suc, ◌+◌, ◌<◌, ◌≤◌, Bool, true, false, not, cond, List, [], ◌∷◌, ◌++◌, length, refl, sym, subst}
use Rattle.std.proofs.Common.{arith, rules, ◌==◌, get_or, if◌then◌else◌, nat_eq, filter, map, length-set}
use Rattle.std.proofs.lemmas.Bool.Decides.{nat_tests}
use Rattle.sn_msg.specs.declared.Message.{Message as Sent}
use Rattle.route_plan.specs.Distances.{Switches}
use Rattle.sn_model.specs.Caches.{block_count}
use Rattle.sn_model.specs.Fabric.{Fabric, Node, Flight, Net, node_at, with_node, first_node, home_of, with_home, no_entry, with_net}
use Rattle.sn_model.specs.Net.{net_after_send, net_after_sends, is_lost, entry_of, message_of, without_flight, flight_in_switch, net_with_flight_in, routes_of, sending}
use Rattle.sn_model.specs.NetEvents.{node_after_news, node_after, home_after}
use Rattle.sn_model.specs.PointEvents.{advances, restored_net}
use Rattle.sn_model.specs.declared.cache.Out.{Out}
use Rattle.sn_model.specs.Homes.{HomeEntry}
use Rattle.sn_model.specs.CacheRows.{CacheReply}
use Rattle.sn_model.specs.HomeRows.{invalidations, HomeReply}
use Rattle.sn_base.specs.declared.event.Answer.TheVariants.{Validated, Delivered}
use Rattle.fabric_coherence.specs.Steps.{Below, Within, node_in_body, IsShaped, after_cache, after_home}
use Rattle.fabric_coherence.specs.Sends.{IsNetShaped, OutsWithin}
use Rattle.fabric_coherence.proofs.NetSends.{below-post}
use Rattle.fabric_coherence.proofs.Rising.{rising-filter, rising-moved, rising-post}
use Rattle.fabric_coherence.proofs.Base.{read_set}

-- some of the messages
below_one : (pass : Bool) (f : Flight) (fs : List Flight) (n : ℕ) → f.message.id < n → Below fs n → Below (if pass then f ∷ fs else fs) n
below_one true f fs n l h = (l, h)
below_one false f fs n l h = h

pub below-filter : (p : Flight → Bool) (fs : List Flight) (n : ℕ) → Below fs n → Below (filter p fs) n
below-filter p [] n l = tt
below-filter p (f ∷ fs) n l = below_one (p f) f (filter p fs) n l.0 (below-filter p fs n l.1)

abbrev IsOf : Sent → ℕ → Type 0
IsOf m nodes = (m.from < nodes) × (m.to < nodes) × (m.block < block_count) × (node_in_body m.body < nodes)

within_one : (pass : Bool) (f : Flight) (fs : List Flight) (n : ℕ) → IsOf f.message n → Within fs n → Within (if pass then f ∷ fs else fs) n
within_one true f fs n l h = (l, h)
within_one false f fs n l h = h

pub within-filter : (p : Flight → Bool) (fs : List Flight) (n : ℕ) → Within fs n → Within (filter p fs) n
within-filter p [] n l = tt
within-filter p (f ∷ fs) n l = within_one (p f) f (filter p fs) n l.0 (within-filter p fs n l.1)

-- messages in other switches
placed_message : (id place : ℕ) (f : Flight) → (flight_in_switch id place f).message ≡ f.message
placed_message id place f = grind (arith, nat_tests)

pub below-moved : (id place : ℕ) (fs : List Flight) (n : ℕ) → Below fs n → Below (map (flight_in_switch id place) fs) n
below-moved id place [] n l = tt
below-moved id place (f ∷ fs) n l = (subst (λ (m : Sent). m.id < n) (sym (placed_message id place f)) l.0, below-moved id place fs n l.1)

pub within-moved : (id place : ℕ) (fs : List Flight) (n : ℕ) → Within fs n → Within (map (flight_in_switch id place) fs) n
within-moved id place [] n l = tt
within-moved id place (f ∷ fs) n l = (subst (λ m. IsOf m n) (sym (placed_message id place f)) l.0, within-moved id place fs n l.1)

-- one more message
pub within-push : (fs : List Flight) (f : Flight) (n : ℕ) → Within fs n → IsOf f.message n → Within (fs ++ f ∷ []) n
within-push [] f n l e = (e, tt)
within-push (g ∷ fs) f n l e = (l.0, within-push fs f n l.1 e)

within_either : (lost : Bool) (fs gs : List Flight) (n : ℕ) → Within fs n → Within gs n → Within (if lost then fs else gs) n
within_either true fs gs n l m = l
within_either false fs gs n l m = m

pub within-post : (routes : Switches) (net : Net) (m : Sent) (n : ℕ) → Within net.flights n → IsOf m n →
    Within (net_after_send routes net m).flights n
within-post routes net m n l e =
    within_either (is_lost routes net m) net.flights (net.flights ++ record { message = m; place = entry_of routes m } ∷ []) n l
    (within-push net.flights (record { message = m; place = entry_of routes m }) n l e)

-- the net as a whole
pub without-shaped : (net : Net) (id nodes : ℕ) → IsNetShaped net nodes → IsNetShaped (without_flight net id) nodes
without-shaped net id nodes h = record {
  below = below-filter (λ f. not (nat_eq f.message.id id)) net.flights net.next_id h.below;
  within = within-filter (λ f. not (nat_eq f.message.id id)) net.flights nodes h.within;
  rising = rising-filter (λ f. not (nat_eq f.message.id id)) net.flights h.rising;
}

pub moved-shaped : (net : Net) (id place nodes : ℕ) → IsNetShaped net nodes → IsNetShaped (net_with_flight_in net id place) nodes
moved-shaped net id place nodes h =
    record {
      below = below-moved id place net.flights net.next_id h.below;
      within = within-moved id place net.flights nodes h.within;
      rising = rising-moved id place net.flights h.rising;
    }

pub killed-shaped : (net : Net) (switch nodes : ℕ) (dead : List Bool) → IsNetShaped net nodes →
    IsNetShaped (record net { dead = dead; flights = filter (λ f. not (nat_eq f.place switch)) net.flights }) nodes
killed-shaped net switch nodes dead h = record {
  below = below-filter (λ f. not (nat_eq f.place switch)) net.flights net.next_id h.below;
  within = within-filter (λ f. not (nat_eq f.place switch)) net.flights nodes h.within;
  rising = rising-filter (λ f. not (nat_eq f.place switch)) net.flights h.rising;
}

pub restored-shaped : (net : Net) (nodes : ℕ) → IsNetShaped (restored_net net) nodes
restored-shaped net nodes = record { below = tt; within = tt; rising = tt }

pub post-shaped : (routes : Switches) (net : Net) (m : Sent) (nodes : ℕ) → m.id ≡ net.next_id → IsOf m nodes → IsNetShaped net nodes →
    IsNetShaped (net_after_send routes net m) nodes
post-shaped routes net m nodes e l h =
    record {
      below = below-post routes net m e h.below;
      within = within-post routes net m nodes h.within l;
      rising = rising-post routes net m e h.below h.rising;
    }

pub posted-shaped : (routes : Switches) (net : Net) (from tag block : ℕ) (outs : List Out) (nodes : ℕ) → from < nodes →
    block < block_count → OutsWithin outs nodes → IsNetShaped net nodes →
    IsNetShaped (net_after_sends routes net from tag block outs) nodes
posted-shaped routes net from tag block [] nodes l m o h = h
posted-shaped routes net from tag block (out ∷ outs) nodes l m o h =
    posted-shaped routes (net_after_send routes net (message_of net from tag block out)) from tag block outs nodes l m o.1
    (post-shaped routes net (message_of net from tag block out) nodes refl (l, o.0.0, m, o.0.1) h)

-- what is sent goes to nodes that are there
there : (at nodes : ℕ) → (nodes ≤ at + 0 → true ≡ false) → at < nodes
there at nodes h = grind (arith, nat_tests)

pub invalidations-within : (at : ℕ) (marks : List Bool) (r nodes : ℕ) → r < nodes →
    ((k : ℕ) → nodes ≤ at + k → get_or marks k false ≡ false) → OutsWithin (invalidations at marks r) nodes
invalidations-within at [] r nodes l h = tt
invalidations-within at (true ∷ marks) r nodes l h =
    ((there at nodes (h 0), l), invalidations-within (at + 1) marks r nodes l (λ k q. h (suc k) (omega arith)))
invalidations-within at (false ∷ marks) r nodes l h = invalidations-within (at + 1) marks r nodes l (λ k q. h (suc k) (omega arith))

pub advances-within : (k to : ℕ) (ns : List Node) (nodes : ℕ) → to + length ns ≤ nodes → 1 ≤ nodes → OutsWithin (advances k to ns) nodes
advances-within k to [] nodes l m = tt
advances-within k to (node ∷ ns) nodes l m = ((omega arith, omega arith), advances-within k (to + 1) ns nodes (omega arith) m)

-- the shape of a fabric with another net
pub net-shaped : (s : Fabric) → IsShaped s → IsNetShaped s.net (length s.nodes)
net-shaped s h = record { below = h.below; within = h.within; rising = h.rising }

pub with_net-shaped : (s : Fabric) (net : Net) → IsShaped s → IsNetShaped net (length s.nodes) → IsShaped (with_net s net)
with_net-shaped s net h n =
    record {
      some = h.some;
      few = h.few;
      lines = h.lines;
      homes = h.homes;
      sharers = h.sharers;
      below = n.below;
      within = n.within;
      rising = n.rising;
    }

-- the shape of a fabric with another node of as many lines
node_or : (t : Bool) (a b : Node) → length a.cache.lines ≡ block_count → length b.cache.lines ≡ block_count →
    length (cond t a b).cache.lines ≡ block_count
node_or true a b l m = l
node_or false a b l m = m

pub with_node-shaped : (s : Fabric) (n : ℕ) (node : Node) → IsShaped s → n < length s.nodes → length node.cache.lines ≡ block_count →
    IsShaped (with_node s n node)
with_node-shaped s n node h l e = record {
  some = rw (length-set s.nodes n node) h.some;
  few = rw (length-set s.nodes n node) h.few;
  lines = λ m q. lines m (rw (← length-set s.nodes n node) q);
  homes = h.homes;
  sharers = h.sharers;
  below = h.below;
  within = rw (length-set s.nodes n node) h.within;
  rising = h.rising;
}
  where
    lines : (m : ℕ) → m < length s.nodes → length (node_at (with_node s n node) m).cache.lines ≡ block_count
    lines m q = rw (read_set s.nodes n m node first_node l) (node_or (m == n) node (node_at s m) e (h.lines m q))

-- each event that is no row keeps the shape
module _ (s : Fabric) (h : IsShaped s) where
  pub without-kept : (id : ℕ) → IsShaped (with_net s (without_flight s.net id))
  without-kept id = with_net-shaped s (without_flight s.net id) h (without-shaped s.net id (length s.nodes) (net-shaped s h))

  pub moved-kept : (id place : ℕ) → IsShaped (with_net s (net_with_flight_in s.net id place))
  moved-kept id place = with_net-shaped s (net_with_flight_in s.net id place) h (moved-shaped s.net id place (length s.nodes) (net-shaped s h))

  pub kill-kept : (switch : ℕ) (dead : List Bool) →
      IsShaped (with_net s (record s.net { dead = dead; flights = filter (λ f. not (nat_eq f.place switch)) s.net.flights }))
  kill-kept switch dead =
      with_net-shaped s (record s.net { dead = dead; flights = filter (λ f. not (nat_eq f.place switch)) s.net.flights }) h
      (killed-shaped s.net switch (length s.nodes) dead (net-shaped s h))

  pub advance-kept : (id n k : ℕ) → n < length s.nodes →
      IsShaped (with_net (with_node s n (node_after_news (node_at s n) k)) (without_flight s.net id))
  advance-kept id n k l =
      let after = with_node-shaped s n (node_after_news (node_at s n) k) h l (h.lines n l) in
      with_net-shaped (with_node s n (node_after_news (node_at s n) k)) (without_flight s.net id) after
      (without-shaped s.net id (length (with_node s n (node_after_news (node_at s n) k)).nodes)
      (net-shaped (with_node s n (node_after_news (node_at s n) k)) after))

  pub validate-kept : IsShaped
      (sending (record s { point = s.point + 1 }) 0 0 (advances (s.point + 1) 0 s.nodes) (Validated (s.point + 1))).fabric
  validate-kept =
      with_net-shaped (record s { point = s.point + 1 })
      (net_after_sends (routes_of s) s.net 0 (node_at s 0).now 0 (advances (s.point + 1) 0 s.nodes)) (committed-kept)
      (posted-shaped (routes_of s) s.net 0 (node_at s 0).now 0 (advances (s.point + 1) 0 s.nodes) (length s.nodes) h.some first_block
      (advances-within (s.point + 1) 0 s.nodes (length s.nodes) (omega arith) h.some) (net-shaped s h))
    where
      committed-kept : IsShaped (record s { point = s.point + 1 })
      committed-kept =
          record {
            some = h.some;
            few = h.few;
            lines = h.lines;
            homes = h.homes;
            sharers = h.sharers;
            below = h.below;
            within = h.within;
            rising = h.rising;
          }

      first_block : 0 < block_count
      first_block = search rules

-- a fabric with another entry of as many sharers
entry_or : (t : Bool) (a b : HomeEntry) → length a.sharers ≡ 16 → length b.sharers ≡ 16 → length (cond t a b).sharers ≡ 16
entry_or true a b l m = l
entry_or false a b l m = m

pub with_home-shaped : (s : Fabric) (b : ℕ) (entry : HomeEntry) → IsShaped s → b < block_count → length entry.sharers ≡ 16 →
    IsShaped (with_home s b entry)
with_home-shaped s b entry h l e = record {
  some = h.some;
  few = h.few;
  lines = h.lines;
  homes = length-set s.homes b entry ∙ h.homes;
  sharers = λ m q. rw (read_set s.homes b m entry no_entry (rw h.homes l)) (entry_or (m == b) entry (home_of s m) e (h.sharers m q));
  below = h.below;
  within = h.within;
  rising = h.rising;
}

-- the shape after a row of a cache, and after one of a home
module _ (s : Fabric) (m : Sent) (h : IsShaped s) (to : m.to < length s.nodes) (block : m.block < block_count) where
  sends-shaped : (after : Fabric) (sends : List Out) → length after.nodes ≡ length s.nodes → after.net ≡ s.net → IsShaped after →
      OutsWithin sends (length s.nodes) →
      IsShaped (sending (with_net after (without_flight s.net m.id)) m.to m.block sends Delivered).fabric
  sends-shaped after sends count same a o =
      with_net-shaped after (net_after_sends (routes_of after_taken) (without_flight s.net m.id) m.to (node_at after m.to).now m.block sends) a
      (posted-shaped (routes_of after_taken) (without_flight s.net m.id) m.to (node_at after m.to).now m.block sends (length after.nodes)
      (rw count to) block (rw count o) (rw count (without-shaped s.net m.id (length s.nodes) (net-shaped s h))))
    where
      after_taken : Fabric
      after_taken = with_net after (without_flight s.net m.id)

  pub after_cache-shaped : (reply : CacheReply) → length reply.after.cache.lines ≡ block_count → OutsWithin reply.sends (length s.nodes) →
      IsShaped (after_cache s m reply).fabric
  after_cache-shaped reply lines o =
      sends-shaped (with_node s m.to (node_after (node_at s m.to) reply)) reply.sends
      (length-set s.nodes m.to (node_after (node_at s m.to) reply)) refl
      (with_node-shaped s m.to (node_after (node_at s m.to) reply) h to lines) o

  pub after_home-shaped : (reply : HomeReply) → length reply.after.entry.sharers ≡ 16 → OutsWithin reply.sends (length s.nodes) →
      IsShaped (after_home s m reply).fabric
  after_home-shaped reply sharers o =
      sends-shaped (home_after s m.to m.block reply) reply.sends
      (length-set s.nodes m.to (record (node_at s m.to) { log = reply.after.log })) refl
      (with_node-shaped (with_home s m.block reply.after.entry) m.to (record (node_at s m.to) { log = reply.after.log })
      (with_home-shaped s m.block reply.after.entry h block sharers) to (h.lines m.to to)) o
