-- What a home leaves of a message whose delivery was planned, by what the parts say.
use Rattle.std.proofs.Common.{◌≡◌, ℕ, ◌+◌, ◌%◌, ◌<◌, ◌≤◌, true, false, List, length, get_or, set, refl, sym, ap, ◌∙◌, subst, length-set}
use Rattle.std.specs.Prelude.{nat_lt, None}
use Rattle.std.proofs.lemmas.List.{map-set, get_or-set_same}
use Rattle.sn_base.specs.declared.config.Config.{Config}
use Rattle.sn_base.specs.declared.event.Answer.TheVariants.{Delivered}
use Rattle.sn_msg.specs.declared.Message.{Message}
use Rattle.switch_net.specs.Net.{NetData}
use Rattle.home_directory.specs.declared.step.HomeStep.{HomeStep}
use Rattle.home_directory.specs.Home.{HomeData, entry_of, with_entry}
use Rattle.home_directory.specs.Receipt.{Sent as SentBy}
use Rattle.home_directory.specs.Serving.{reply_of, is_over}
use Rattle.sn_model.specs.declared.net.Sent.{Sent}
use Rattle.sn_model.specs.declared.rows.HomeRow.{HomeRow}
use Rattle.sn_model.specs.Homes.{HomeEntry}
use Rattle.sn_model.specs.HomeRows.{HomeReply, noted_by_home}
use Rattle.sn_model.specs.Fabric.{Fabric, Node, Net, FabricStep, node_at, with_net}
use Rattle.sn_model.specs.FabricEvents.{Deliver}
use Rattle.sn_model.specs.Net.{net_after_sends, sent_by, sending, without_flight}
use Rattle.sn_model.specs.NetEvents.{home_after, step_of_delivery}
use Rattle.sn_model.specs.Receivers.{IsNoteInOrder}
use Rattle.fabric_bounds.specs.Steps.{IsInFlight, after_home}
use Rattle.sn_fabric.specs.declared.node.NodeUnit.{NodeUnit}
use Rattle.sn_fabric.specs.Deliveries.{home_outs, GoTo}
use Rattle.sn_fabric.specs.Nets.{net_as}
use Rattle.sn_fabric.specs.Parts.{Parts, fabric_as, node_as, unit_at, no_unit, home_at, IsUnit, AreWhole, AreParts}
use Rattle.sn_fabric.specs.Plans.{HasRoomFor, HasHomeRow, home_reply_at}
use Rattle.sn_fabric.proofs.Come.{deliver_is_moved}
use Rattle.sn_fabric.proofs.Given.{taken, taken-as, taken-room, in-flight, inside, goes-there, node-read, serves}
use Rattle.sn_fabric.proofs.GoingTo.{undead, undead-come, home-sends-go}
use Rattle.sn_fabric.proofs.HomesAfter.{homes-set, whole-home}
use Rattle.sn_fabric.proofs.Outs.{home-outs}
use Rattle.sn_fabric.proofs.Parts.{whole-unit, whole-net, Comes}
use Rattle.sn_fabric.proofs.Planned.{home-done}
use Rattle.sn_fabric.proofs.Sends.{sends-come}
use Rattle.std.specs.Prelude.{Some}
use Rattle.std.specs.Option.{option_map}
use Rattle.switch_net.specs.declared.flight.Flight.{Flight as Carried}
use Rattle.switch_net.specs.Net.{find_flight}
use Rattle.sn_fabric.specs.declared.plans.Plan.TheVariants as plan
use Rattle.sn_fabric.specs.Plans.{IsComeAs, IsPlan}
use Rattle.sn_fabric.proofs.Planned.{planned-is}
use Rattle.sn_fabric.proofs.ToHome.{home-node, home-own, home-is, row-last, row-leaves}

module _ (config : Config) (p : Parts) (a : AreParts config p) (id : ℕ) (row : HomeRow) (h : IsPlan config (fabric_as p) id (plan.AtHome row))
    (m : Message) (em : option_map (λ (f : Carried). f.message) (find_flight p.net.flights id) ≡ Some m) (place now : ℕ) (x : NodeUnit)
    (ep : place ≡ m.to) (ex : x ≡ get_or p.units place x) (en : now ≡ x.clock.interval) (home : HomeData)
    (eh : home ≡ get_or p.homes place home) where
  abbrev s : Fabric
  s = fabric_as p

  known : IsComeAs s id m (HasHomeRow config s row)
  known = planned-is p id (HasHomeRow config s row) h m em

  flight : IsInFlight s m
  flight = in-flight config p a m known.come

  read : node_at s m.to ≡ node_as x
  read = node-read config p a m known.come place x ep ex

  is : IsUnit config m.to x
  is = serves config p a m known.come place x ep ex

  here : m.to ≡ m.block % config.nodes
  here = home-node config p a m known.come known.is.asked known.is.here place now x ep ex en home eh

  -- what the home asks of the row
  pub home-here : m.block % home.nodes ≡ home.node
  home-here = home-own config p a m known.come known.is.asked known.is.here place now x ep ex en home eh

  pub home-last : IsNoteInOrder x.log.entries true m.block (noted_by_home (entry_of home m.block) now m.tag row)
  home-last =
      row-last config p a m known.come known.is.asked known.is.here place now x ep ex en home eh row known.is.idle known.is.row

  -- what it leaves is the machine's
  abbrev reply : HomeReply
  reply = reply_of home x.log now m row

  leaves : home_reply_at s m row ≡ reply
  leaves = row-leaves config p a m known.come known.is.asked known.is.here place now x ep ex en home eh row known.is.idle known.is.row

  room : HasRoomFor config s reply.after.log reply.sends
  room = subst (λ (r : HomeReply). HasRoomFor config s r.after.log r.sends) leaves known.is.room

  done : step_of_delivery config s m.id ≡ after_home s m reply
  done = home-done config s m known.come row known.is ∙ ap (after_home s m) leaves

  undead_done : step_of_delivery config (undead s) m.id ≡ after_home (undead s) m reply
  undead_done =
      home-done config (undead s) m (undead-come s m known.come) row
      (record {
        asked = known.is.asked;
        here = record { reached = known.is.here.reached; receiver = known.is.here.receiver };
        idle = known.is.idle;
        row = known.is.row;
        room = record { entries = known.is.room.entries; messages = known.is.room.messages };
      })
      ∙ ap (after_home (undead s) m) leaves

  -- the log has the room
  pub home-fits : is_over x.log reply ≡ false
  home-fits = ap (λ (k : ℕ). nat_lt k (length reply.after.log)) is.limit ∙ room.entries

  -- nothing is told
  pub home-tells : (step_of_delivery config s id).told ≡ None
  home-tells = ap (λ (i : ℕ). (step_of_delivery config s i).told) (sym known.number) ∙ ap (λ (y : FabricStep). y.told) done

  goes : GoTo reply.sends (length s.nodes)
  goes = home-sends-go config s m reply (a.keeps.0, a.keeps.1) undead_done

  module _ (step : HomeStep) (es : SentBy step reply.sends) (net : NetData) (et : net ≡ taken p id) where
    outs_are : home_outs step ≡ reply.sends
    outs_are = home-outs step reply.sends (length s.nodes) a.keeps.1.shape.few es goes

    gone : net ≡ taken p m.id
    gone = et ∙ ap (taken p) (sym known.number)

    -- what is sent has the room, and goes to nodes that are there
    pub home-room : length net.flights + length (home_outs step) ≤ 1024
    home-room = taken-room config p m reply.after.log reply.sends (home_outs step) net known.come room outs_are gone

    pub home-goes : GoTo (home_outs step) net.routes.nodes
    home-goes = goes-there config p a m known.come (home_outs step) reply.sends net goes outs_are gone

    abbrev unit_left : NodeUnit
    unit_left = record x { log = record x.log { entries = reply.after.log } }

    abbrev homes_left : List HomeData
    homes_left = set p.homes m.to (with_entry (home_at p.homes m.to) m.block reply.after.entry)

    abbrev between : Parts
    between = record p { units = set p.units m.to unit_left; homes = homes_left; net = taken p m.id }

    fabric_between : with_net (home_after s m.to m.block reply) (without_flight s.net m.id) ≡ fabric_as between
    fabric_between =
        ap (λ (y : Node). record s {
          nodes = set s.nodes m.to (record y { log = reply.after.log });
          homes = set s.homes m.block reply.after.entry;
          net = without_flight s.net m.id;
        }) read
        ∙ ap (λ (nodes : List Node).
        record s { nodes = nodes; homes = set s.homes m.block reply.after.entry; net = without_flight s.net m.id })
        (sym (map-set node_as p.units m.to unit_left))
        ∙ ap (λ (homes : List HomeEntry). record (fabric_as between) { homes = homes; net = without_flight s.net m.id })
        (sym (homes-set config p a.whole m.block m.to reply.after.entry flight.block here))
        ∙ ap (λ (n : Net). record (fabric_as between) { net = n }) (sym (taken-as p m.id))

    whole : AreWhole config between
    whole = whole-net config (record p { units = set p.units m.to unit_left; homes = homes_left }) (taken p m.id)
        (whole-unit config (record p { homes = homes_left }) m.to unit_left
        (whole-home config p a.whole m.block m.to reply.after.entry flight.block here) (inside config p a m known.come)
        (record { node = is.node; nodes = is.nodes; sets = is.sets; ways = is.ways; limit = is.limit })) refl

    same_now : now ≡ (unit_at (set p.units m.to unit_left) m.to).clock.interval
    same_now = en ∙ sym (ap (λ (y : NodeUnit). y.clock.interval) (get_or-set_same p.units m.to unit_left no_unit (inside config p a m known.come)))

    -- what the delivery comes to
    pub home-comes : (y : NodeUnit) (k : HomeData) (after : NetData) (sends : List Sent) →
        y ≡ unit_left → k ≡ with_entry home m.block reply.after.entry → after.routes ≡ net.routes →
        net_as after ≡ net_after_sends net.routes (net_as net) m.to now m.block (home_outs step) →
        sends ≡ sent_by net.routes (net_as net) m.to now m.block (home_outs step) →
        Comes config p (record p { units = set p.units place y; homes = set p.homes place k; net = after }) sends Delivered
        (step_of_delivery config s id)
    home-comes y k after sends ey ek er ew ev =
        let f : k ≡ with_entry (home_at p.homes m.to) m.block reply.after.entry =
        ek ∙ ap (λ (z : HomeData). with_entry z m.block reply.after.entry)
        (home-is config p a m known.come known.is.asked known.is.here place now x ep ex en home eh) in
        rw (← known.number, ey, f)
        (subst
        (λ (j : ℕ). Comes config p
        (record p {
          units = set p.units j unit_left;
          homes = set p.homes j (with_entry (home_at p.homes m.to) m.block reply.after.entry);
          net = after;
        }) sends Delivered (step_of_delivery config s m.id))
        (sym ep)
        (sends-come config p between after m.to m.block now reply.sends Delivered sends None (Deliver m.id)
        (step_of_delivery config s m.id) a tt tt (deliver_is_moved config s m.id)
        (done ∙ ap (λ (z : Fabric). sending z m.to m.block reply.sends Delivered) fabric_between)
        whole
        (subst (λ (k : ℕ). m.to < k) (sym (length-set p.units m.to unit_left)) (inside config p a m known.come))
        same_now
        (er ∙ ap (λ (z : NetData). z.routes) gone)
        (ew ∙ ap (λ (z : NetData). net_after_sends z.routes (net_as z) m.to now m.block (home_outs step)) gone
        ∙ ap (net_after_sends p.net.routes (net_as (taken p m.id)) m.to now m.block) outs_are)
        (ev ∙ ap (λ (z : NetData). sent_by z.routes (net_as z) m.to now m.block (home_outs step)) gone
        ∙ ap (sent_by p.net.routes (net_as (taken p m.id)) m.to now m.block) outs_are)))
