-- What a cache leaves of a message whose delivery was planned, by what the parts say.
use Rattle.std.proofs.Common.{◌≡◌, ℕ, ◌+◌, ◌%◌, ◌<◌, ◌≤◌, false, List, length, get_or, set, refl, sym, ap, ◌∙◌, subst, length-set}
use Rattle.std.specs.Prelude.{nat_lt, Option}
use Rattle.std.proofs.lemmas.List.{map-set, get_or-set_same}
use Rattle.sn_base.specs.declared.config.Config.{Config}
use Rattle.sn_base.specs.declared.event.Answer.TheVariants.{Delivered}
use Rattle.sn_msg.specs.declared.Message.{Message}
use Rattle.switch_net.specs.Net.{NetData}
use Rattle.mosi_cache.specs.declared.step.CacheStep.{CacheStep}
use Rattle.mosi_cache.specs.declared.step.CacheStep.TheVariants.{Took}
use Rattle.mosi_cache.specs.Controller.{with_entries}
use Rattle.mosi_cache.specs.Rows.{reply_of, first_of, is_over}
use Rattle.sn_model.specs.declared.cache.Out.{Out}
use Rattle.sn_model.specs.declared.net.Sent.{Sent}
use Rattle.sn_model.specs.declared.net.News.{News}
use Rattle.sn_model.specs.declared.rows.CacheRow.{CacheRow}
use Rattle.sn_model.specs.CacheRows.{CacheReply, MeetsCacheRow, noted_by_cache}
use Rattle.sn_model.specs.Fabric.{Fabric, Node, Net, FabricStep, node_at, with_node, with_net}
use Rattle.sn_model.specs.FabricEvents.{Deliver}
use Rattle.sn_model.specs.Net.{net_after_sends, sent_by, sending, without_flight}
use Rattle.sn_model.specs.NetEvents.{node_after, copy_lost, step_of_delivery}
use Rattle.sn_model.specs.Receivers.{IsNoteInOrder}
use Rattle.fabric_bounds.specs.Steps.{after_cache}
use Rattle.sn_fabric.specs.declared.node.NodeUnit.{NodeUnit}
use Rattle.sn_fabric.specs.Deliveries.{out_of, lost_by, outs_of, unit_after, GoTo}
use Rattle.sn_fabric.specs.Nets.{net_as}
use Rattle.sn_fabric.specs.Parts.{Parts, fabric_as, node_as, unit_at, no_unit, IsUnit, AreWhole, AreParts}
use Rattle.sn_fabric.specs.Plans.{HasRoomFor, HasCacheRow, cache_reply_at}
use Rattle.sn_fabric.proofs.Come.{deliver_is_moved}
use Rattle.sn_fabric.proofs.Given.{taken, taken-as, taken-room, inside, goes-there, node-read, serves}
use Rattle.sn_fabric.proofs.GoingTo.{undead, undead-come, cache-sends-go}
use Rattle.sn_fabric.proofs.Outs.{row-sent}
use Rattle.sn_fabric.proofs.Parts.{whole-unit, whole-net, Comes}
use Rattle.sn_fabric.proofs.Planned.{cache-done}
use Rattle.sn_fabric.proofs.Sends.{sends-come}
use Rattle.std.specs.Prelude.{Some}
use Rattle.std.specs.Option.{option_map}
use Rattle.switch_net.specs.declared.flight.Flight.{Flight as Carried}
use Rattle.switch_net.specs.Net.{find_flight}
use Rattle.sn_fabric.specs.declared.plans.Plan.TheVariants as plan
use Rattle.sn_fabric.specs.Plans.{IsComeAs, IsPlan}
use Rattle.sn_fabric.proofs.Planned.{planned-is}
use Rattle.sn_fabric.proofs.ToCache.{row-meets, row-last, row-replies}

module _ (config : Config) (p : Parts) (a : AreParts config p) (id : ℕ) (row : CacheRow) (h : IsPlan config (fabric_as p) id (plan.AtCache row))
    (m : Message) (em : option_map (λ (f : Carried). f.message) (find_flight p.net.flights id) ≡ Some m) (place now : ℕ) (x : NodeUnit)
    (ep : place ≡ m.to) (ex : x ≡ get_or p.units place x) (en : now ≡ x.clock.interval) where
  abbrev s : Fabric
  s = fabric_as p

  known : IsComeAs s id m (HasCacheRow config s row)
  known = planned-is p id (HasCacheRow config s row) h m em

  read : node_at s m.to ≡ node_as x
  read = node-read config p a m known.come place x ep ex

  is : IsUnit config m.to x
  is = serves config p a m known.come place x ep ex

  -- what the cache asks of the row
  pub cache-meets : MeetsCacheRow (with_entries x.cache x.log.entries) m.block row
  cache-meets = row-meets config p a m known.come row known.is.here place now x ep ex en

  pub cache-last : IsNoteInOrder x.log.entries false m.block (noted_by_cache now m.tag row)
  cache-last = row-last config p a m known.come row known.is.here place now x ep ex en

  -- what it replies is the machine's
  abbrev reply : CacheReply
  reply = reply_of x.cache x.log now m row

  replies : cache_reply_at s m row ≡ reply
  replies = row-replies config p a m known.come row known.is.here place now x ep ex en

  room : HasRoomFor config s reply.after.log reply.sends
  room = subst (λ (r : CacheReply). HasRoomFor config s r.after.log r.sends) replies known.is.room

  done : step_of_delivery config s m.id ≡ after_cache s m reply
  done = cache-done config s m known.come row known.is ∙ ap (after_cache s m) replies

  undead_done : step_of_delivery config (undead s) m.id ≡ after_cache (undead s) m reply
  undead_done =
      cache-done config (undead s) m (undead-come s m known.come) row
      (record {
        here = record { reached = known.is.here.reached; receiver = known.is.here.receiver };
        room = record { entries = known.is.room.entries; messages = known.is.room.messages };
      })
      ∙ ap (after_cache (undead s) m) replies

  -- the log has the room
  pub cache-fits : is_over x.log reply ≡ false
  cache-fits = ap (λ (k : ℕ). nat_lt k (length reply.after.log)) is.limit ∙ room.entries

  module _ (step : CacheStep) (took : step ≡ Took (first_of reply.sends) reply.lost) where
    -- what is told
    pub cache-tells : (said : Option News) → said ≡ lost_by m.to step → said ≡ (step_of_delivery config s id).told
    cache-tells said e =
        e ∙ ap (lost_by m.to) took ∙ sym (ap (λ (y : FabricStep). y.told) done)
        ∙ ap (λ (i : ℕ). (step_of_delivery config s i).told) known.number

    module _ (out : Option Out) (eo : out ≡ out_of step) (net : NetData) (et : net ≡ taken p id) where
      outs_are : outs_of out ≡ reply.sends
      outs_are =
          ap outs_of (eo ∙ ap out_of took) ∙ row-sent (with_entries x.cache x.log.entries) (m.block % x.cache.nodes) m.block now m.tag row

      gone : net ≡ taken p m.id
      gone = et ∙ ap (taken p) (sym known.number)

      -- what is sent has the room, and goes to nodes that are there
      pub cache-room : length net.flights + length (outs_of out) ≤ 1024
      cache-room = taken-room config p m reply.after.log reply.sends (outs_of out) net known.come room outs_are gone

      pub cache-goes : GoTo (outs_of out) net.routes.nodes
      cache-goes =
          goes-there config p a m known.come (outs_of out) reply.sends net
          (cache-sends-go config s m reply (a.keeps.0, a.keeps.1) undead_done) outs_are gone

      abbrev left : NodeUnit
      left = unit_after x reply

      abbrev between : Parts
      between = record p { units = set p.units m.to left; net = taken p m.id }

      fabric_between : with_net (with_node s m.to (node_after (node_at s m.to) reply)) (without_flight s.net m.id) ≡ fabric_as between
      fabric_between =
          ap (λ (y : Node). with_net (with_node s m.to (node_after y reply)) (without_flight s.net m.id)) read
          ∙ ap (λ (nodes : List Node). record s { nodes = nodes; net = without_flight s.net m.id })
          (sym (map-set node_as p.units m.to left))
          ∙ ap (λ (n : Net). record (fabric_as between) { net = n }) (sym (taken-as p m.id))

      whole : AreWhole config between
      whole = whole-net config (record p { units = set p.units m.to left }) (taken p m.id)
          (whole-unit config p m.to left a.whole (inside config p a m known.come)
          (record { node = is.node; nodes = is.nodes; sets = is.sets; ways = is.ways; limit = is.limit })) refl

      same_now : now ≡ (unit_at (set p.units m.to left) m.to).clock.interval
      same_now = en ∙ sym (ap (λ (y : NodeUnit). y.clock.interval) (get_or-set_same p.units m.to left no_unit (inside config p a m known.come)))

      -- what the delivery comes to
      pub cache-comes : (y : NodeUnit) (after : NetData) (sends : List Sent) → y ≡ unit_after x reply → after.routes ≡ net.routes →
          net_as after ≡ net_after_sends net.routes (net_as net) m.to now m.block (outs_of out) →
          sends ≡ sent_by net.routes (net_as net) m.to now m.block (outs_of out) →
          Comes config p (record p { units = set p.units place y; net = after }) sends Delivered (step_of_delivery config s id)
      cache-comes y after sends ey er ew ev =
          rw (← known.number, ey, ep)
          (sends-come config p between after m.to m.block now reply.sends Delivered sends (copy_lost m.to reply) (Deliver m.id)
          (step_of_delivery config s m.id) a tt tt (deliver_is_moved config s m.id)
          (done ∙ ap (λ (z : Fabric). record
          (sending z m.to m.block reply.sends Delivered) { told = copy_lost m.to reply }) fabric_between)
          whole
          (subst (λ (k : ℕ). m.to < k) (sym (length-set p.units m.to left)) (inside config p a m known.come))
          same_now
          (er ∙ ap (λ (z : NetData). z.routes) gone)
          (ew ∙ ap (λ (z : NetData). net_after_sends z.routes (net_as z) m.to now m.block (outs_of out)) gone
          ∙ ap (net_after_sends p.net.routes (net_as (taken p m.id)) m.to now m.block) outs_are)
          (ev ∙ ap (λ (z : NetData). sent_by z.routes (net_as z) m.to now m.block (outs_of out)) gone
          ∙ ap (sent_by p.net.routes (net_as (taken p m.id)) m.to now m.block) outs_are))
