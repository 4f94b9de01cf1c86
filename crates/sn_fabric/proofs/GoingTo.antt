-- Whoever is sent something by a delivery is there. Were no switch dead, all of it would be in flight after the delivery, and
-- what is in flight goes to nodes that are there; and the rows don't look at the switches.
use Rattle.std.proofs.Common.{◌≡◌, ℕ, Bool, false, List, [], ◌∷◌, ◌++◌, length, refl, ap, ◌∙◌, subst, length-set}
use Rattle.std.specs.Prelude.{if◌then◌else◌, slice_index_or}
use Rattle.sn_base.specs.declared.config.Config.{Config}
use Rattle.route_plan.specs.Distances.{Switches}
use Rattle.sn_msg.specs.declared.Message.{Message}
use Rattle.sn_model.specs.declared.cache.Out.{Out}
use Rattle.sn_model.specs.CacheRows.{CacheReply}
use Rattle.sn_model.specs.HomeRows.{HomeReply}
use Rattle.sn_base.specs.declared.event.Answer.TheVariants.{Delivered}
use Rattle.sn_model.specs.Fabric.{Fabric, Flight, Net, FabricStep, node_at, with_node, with_net}
use Rattle.sn_model.specs.FabricEvents.{Deliver}
use Rattle.sn_model.specs.Net.{net_after_send, net_after_sends, message_of, is_lost, entry_of, routes_of, without_flight, sending}
use Rattle.sn_model.specs.NetEvents.{step_of_delivery, node_after, home_after}
use Rattle.fabric_bounds.specs.Coherent.{Keeps}
use Rattle.fabric_bounds.specs.Steps.{IsShaped, Within, after_cache, after_home}
use Rattle.fabric_bounds.proofs.KeptEvents.{each_keeps}
use Rattle.sn_fabric.specs.Deliveries.{GoTo, HasCome}
use Rattle.sn_fabric.proofs.Come.{deliver_is_moved}

-- the fabric with all switches living
abbrev pub undead : Fabric → Fabric
undead s = record s { net = record s.net { dead = [] } }

pub undead-keeps : (s : Fabric) → Keeps s → Keeps (undead s)
undead-keeps s k = (
  k.0,
  record {
    shape = record {
      some = k.1.shape.some;
      few = k.1.shape.few;
      lines = k.1.shape.lines;
      homes = k.1.shape.homes;
      sharers = k.1.shape.sharers;
      below = k.1.shape.below;
      within = k.1.shape.within;
      rising = k.1.shape.rising;
    };
    blocks = k.1.blocks;
  },
)

pub undead-come : (s : Fabric) (m : Message) → HasCome s m → HasCome (undead s) m
undead-come s m h = record { place = h.place; found = h.found; there = h.there }

within_append : (fs gs : List Flight) (nodes : ℕ) → Within (fs ++ gs) nodes → Within fs nodes × Within gs nodes
within_append [] gs nodes w = (tt, w)
within_append (f ∷ fs) gs nodes w = let h = within_append fs gs nodes w.1 in ((w.0, h.0), h.1)

within_posted : (routes : Switches) (net : Net) (from tag block : ℕ) (outs : List Out) (nodes : ℕ) → net.dead ≡ [] →
    Within (net_after_sends routes net from tag block outs).flights nodes →
    Within net.flights nodes × GoTo outs nodes
within_posted routes net from tag block [] nodes d w = (w, tt)
within_posted routes net from tag block (out ∷ outs) nodes d w =
    let h = within_posted routes (net_after_send routes net (message_of net from tag block out)) from tag block outs nodes d w in
    let l : is_lost routes net (message_of net from tag block out)
    ≡ false = ap (λ (dead : List Bool). slice_index_or dead (entry_of routes (message_of net from tag block out)) false) d in
    let g : Within (net.flights
    ++ record { message = message_of net from tag block out; place = entry_of routes (message_of net from tag block out) } ∷ []) nodes =
    subst (λ (b : Bool). Within
    (if b then net.flights else net.flights
    ++ record { message = message_of net from tag block out; place = entry_of routes (message_of net from tag block out) }
    ∷ []) nodes) l h.0 in
    let k = within_append net.flights
    (record { message = message_of net from tag block out; place = entry_of routes (message_of net from tag block out) }
    ∷ []) nodes g in
    (k.0, (k.1.0.1, h.1))

-- after a delivery the fabric has its shape
shaped_after : (config : Config) (s : Fabric) (id : ℕ) (moved : FabricStep) → Keeps s → step_of_delivery config s id ≡ moved → IsShaped moved.fabric
shaped_after config s id moved k e =
    (subst Keeps (ap (λ (x : FabricStep). x.fabric) (deliver_is_moved config s id ∙ e)) (each_keeps config s (Deliver id) k tt)).1.shape

-- so what a row sends goes to nodes that are there

sends_go : (config : Config) (s t : Fabric) (id from block : ℕ) (sends : List Out) (moved : FabricStep) → Keeps s →
    step_of_delivery config s id ≡ moved → t.net.dead ≡ [] → moved.fabric ≡ (sending t from block sends Delivered).fabric →
    GoTo sends (length t.nodes)
sends_go config s t id from block sends moved k e d f =
    (within_posted (routes_of t) t.net from (node_at t from).now block sends (length t.nodes) d
    (subst (λ (x : Fabric). Within x.net.flights (length x.nodes)) f (shaped_after config s id moved k e).within)).1

pub cache-sends-go : (config : Config) (s : Fabric) (m : Message) (reply : CacheReply) → Keeps s →
    step_of_delivery config (undead s) m.id ≡ after_cache (undead s) m reply → GoTo reply.sends (length s.nodes)
cache-sends-go config s m reply k e =
    subst (GoTo reply.sends) (length-set s.nodes m.to (node_after (node_at s m.to) reply))
    (sends_go config (undead s)
    (with_net (with_node (undead s) m.to (node_after (node_at (undead s) m.to) reply))
    (without_flight (undead s).net m.id)) m.id m.to m.block reply.sends (after_cache (undead s) m reply) (undead-keeps s k) e refl refl)

pub home-sends-go : (config : Config) (s : Fabric) (m : Message) (reply : HomeReply) → Keeps s →
    step_of_delivery config (undead s) m.id ≡ after_home (undead s) m reply → GoTo reply.sends (length s.nodes)
home-sends-go config s m reply k e =
    subst (GoTo reply.sends) (length-set s.nodes m.to (record (node_at s m.to) { log = reply.after.log }))
    (sends_go config (undead s)
    (with_net (home_after (undead s) m.to m.block reply) (without_flight (undead s).net m.id)) m.id m.to m.block reply.sends
    (after_home (undead s) m reply) (undead-keeps s k) e refl refl)
