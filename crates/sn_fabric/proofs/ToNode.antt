-- What the delivery of a report, or of a recovery point, comes to, by what the parts say.
use Rattle.std.proofs.Common.{◌≡◌, ℕ, ◌<◌, ◌≤◌, max, List, [], length, get_or, set, refl, sym, ap, ◌∙◌, subst, arith, length-set}
use Rattle.std.specs.Prelude.{Some}
use Rattle.std.specs.Option.{option_map}
use Rattle.std.proofs.lemmas.List.{map-set, get_or-set_same}
use Rattle.sn_base.specs.declared.config.Config.{Config}
use Rattle.sn_base.specs.declared.event.Answer.TheVariants.{Delivered}
use Rattle.sn_msg.specs.declared.Message.{Message}
use Rattle.log_buffer.specs.Log.{LogData, entries_from}
use Rattle.ckpt_clock.specs.Clock.{ClockData}
use Rattle.switch_net.specs.declared.flight.Flight.{Flight as Carried}
use Rattle.switch_net.specs.Net.{NetData, find_flight}
use Rattle.sn_model.specs.declared.net.Sent.{Sent}
use Rattle.sn_model.specs.declared.net.News.{News}
use Rattle.sn_model.specs.declared.net.News.TheVariants as told
use Rattle.sn_model.specs.declared.rows.Receiver.TheVariants as receiver
use Rattle.sn_model.specs.Fabric.{Fabric, Node, Net, FabricStep, first_node, node_at, with_node, with_net}
use Rattle.sn_model.specs.FabricEvents.{Deliver}
use Rattle.sn_model.specs.Net.{without_flight}
use Rattle.sn_model.specs.NetEvents.{node_after_news, step_of_delivery}
use Rattle.sn_coherence.specs.Invariant.{Clocks}
use Rattle.fabric_bounds.specs.Coherent.{Keeps}
use Rattle.fabric_bounds.specs.View.{block_seen}
use Rattle.fabric_bounds.proofs.KeptEvents.{each_keeps}
use Rattle.sn_fabric.specs.declared.node.NodeUnit.{NodeUnit}
use Rattle.sn_fabric.specs.Parts.{Parts, fabric_as, node_as, IsUnit, AreParts}
use Rattle.sn_fabric.specs.declared.plans.Plan.TheVariants as plan
use Rattle.sn_fabric.specs.Plans.{IsComeAs, IsTaken, IsPlan}
use Rattle.sn_fabric.proofs.Come.{deliver_is_moved}
use Rattle.sn_fabric.proofs.Given.{taken, taken-as, in-flight, inside, node-read, serves}
use Rattle.sn_fabric.proofs.Parts.{whole-unit, whole-net, Comes, comes-as}
use Rattle.sn_fabric.proofs.Planned.{taken-step, planned-is}

-- what the layer above hears of, with this fabric, the message gone from its network
abbrev heard : Fabric → Message → Fabric → News → FabricStep
heard s m after what = record { fabric = with_net after (without_flight s.net m.id); answer = Delivered; sent = []; told = Some what }

module _ (config : Config) (p : Parts) (a : AreParts config p) (id k : ℕ) where
  abbrev s : Fabric
  s = fabric_as p

  -- a report
  module _ (h : IsPlan config s id (plan.Reports k)) (m : Message)
      (em : option_map (λ (f : Carried). f.message) (find_flight p.net.flights id) ≡ Some m) where
    reported : IsComeAs s id m (λ (m : Message). IsTaken s m (receiver.Controller k))
    reported = planned-is p id (λ (m : Message). IsTaken s m (receiver.Controller k)) h m em

    report_done : step_of_delivery config s m.id ≡ heard s m s (told.Ready m.from k)
    report_done = taken-step config s m reported.come (receiver.Controller k) reported.is

    pub report-tells : (what : News) → what ≡ told.Ready m.from k → Some what ≡ (step_of_delivery config s id).told
    report-tells what e =
        ap Some e ∙ sym (ap (λ (y : FabricStep). y.told) report_done) ∙ ap (λ (i : ℕ). (step_of_delivery config s i).told) reported.number

    pub report-taken : (net : NetData) (sends : List Sent) → net ≡ taken p id → sends ≡ [] →
        Comes config p (record p { net = net }) sends Delivered (step_of_delivery config s id)
    report-taken net sends en es =
        rw (en, es, ← reported.number)
        (comes-as config p (record p { net = taken p m.id }) [] Delivered (Some (told.Ready m.from k)) (Deliver m.id)
        (step_of_delivery config s m.id) a tt tt (deliver_is_moved config s m.id)
        (whole-net config p (taken p m.id) a.whole refl)
        (report_done ∙ ap (λ (n : Net). record (heard s m s (told.Ready m.from k)) { fabric = record s { net = n } })
        (sym (taken-as p m.id))))

  -- a recovery point
  module _ (h : IsPlan config s id (plan.Tells k)) (m : Message)
      (em : option_map (λ (f : Carried). f.message) (find_flight p.net.flights id) ≡ Some m) where
    known : IsComeAs s id m (λ (m : Message). IsTaken s m (receiver.Clock k))
    known = planned-is p id (λ (m : Message). IsTaken s m (receiver.Clock k)) h m em

    abbrev knowing : Fabric
    knowing = with_node s m.to (node_after_news (node_at s m.to) k)

    advance_done : step_of_delivery config s m.id ≡ heard s m knowing (told.Advance m.to k)
    advance_done = taken-step config s m known.come (receiver.Clock k) known.is

    pub advance-tells : (what : News) → what ≡ told.Advance m.to k → Some what ≡ (step_of_delivery config s id).told
    advance-tells what e =
        ap Some e ∙ sym (ap (λ (y : FabricStep). y.told) advance_done) ∙ ap (λ (i : ℕ). (step_of_delivery config s i).told) known.number

    -- after it the node's known point is at most the recovery point, which its interval has reached
    keeps_after : Keeps (heard s m knowing (told.Advance m.to k)).fabric
    keeps_after =
        subst Keeps (ap (λ (y : FabricStep). y.fabric) (deliver_is_moved config s m.id ∙ advance_done))
        (each_keeps config s (Deliver m.id) (a.keeps.0, a.keeps.1) tt)

    there : m.to < length s.nodes
    there = (in-flight config p a m known.come).to

    known_after : (get_or (set s.nodes m.to (node_after_news (node_at s m.to) k)) m.to first_node).known ≤ s.point
    known_after =
        let clocks : Clocks (length (set s.nodes m.to (node_after_news (node_at s m.to) k)))
        (block_seen (heard s m knowing (told.Advance m.to k)).fabric keeps_after.0 0) = (keeps_after.1.blocks 0 (omega arith)).clocks in
        clocks.known_point m.to (subst (λ (n : ℕ). m.to < n) (sym (length-set s.nodes m.to (node_after_news (node_at s m.to) k))) there)

    reached_before : s.point ≤ (node_at s m.to).now
    reached_before =
        let clocks : Clocks (length s.nodes) (block_seen s a.keeps.0 0) = (a.keeps.1.blocks 0 (omega arith)).clocks in
        clocks.point_now m.to there

    module _ (place : ℕ) (x : NodeUnit) (ep : place ≡ m.to) (ex : x ≡ get_or p.units place x) where
      read : node_at s m.to ≡ node_as x
      read = node-read config p a m known.come place x ep ex

      is : IsUnit config m.to x
      is = serves config p a m known.come place x ep ex

      -- so it has reached what it hears of
      pub advance-reached : k ≤ x.clock.interval
      advance-reached =
          let e : (get_or (set s.nodes m.to (node_after_news (node_at s m.to) k)) m.to first_node).known
          ≡ max (node_at s m.to).known k = ap (λ (y : Node). y.known)
          (get_or-set_same s.nodes m.to (node_after_news (node_at s m.to) k) first_node there) in
          let n : (node_at s m.to).now ≡ x.clock.interval = ap (λ (y : Node). y.now) read in
          let l : (get_or (set s.nodes m.to (node_after_news (node_at s m.to) k)) m.to first_node).known ≤ s.point = known_after in
          let r : s.point ≤ (node_at s m.to).now = reached_before in
          omega arith

      abbrev left : NodeUnit
      left =
          record x { clock = record x.clock { known = max x.clock.known k }; log = record x.log { entries = entries_from k x.log.entries } }

      abbrev after : Parts
      after = record p { units = set p.units m.to left; net = taken p m.id }

      fabric_after : with_net knowing (without_flight s.net m.id) ≡ fabric_as after
      fabric_after =
          ap (λ (y : Node). with_net (with_node s m.to (node_after_news y k)) (without_flight s.net m.id)) read
          ∙ ap (λ (nodes : List Node). record s { nodes = nodes; net = without_flight s.net m.id })
          (sym (map-set node_as p.units m.to left))
          ∙ ap (λ (n : Net). record (fabric_as after) { net = n }) (sym (taken-as p m.id))

      pub advance-learned : (clock : ClockData) (log : LogData) (net : NetData) (sends : List Sent) →
          clock ≡ record x.clock { known = max x.clock.known k } → log ≡ record x.log { entries = entries_from k x.log.entries } →
          net ≡ taken p id → sends ≡ [] →
          Comes config p (record p { units = set p.units place (record x { clock = clock; log = log }); net = net }) sends Delivered
          (step_of_delivery config s id)
      advance-learned clock log net sends ec el en es =
          rw (ec, el, ep, en, es, ← known.number)
          (comes-as config p after [] Delivered (Some (told.Advance m.to k)) (Deliver m.id) (step_of_delivery config s m.id) a tt tt
          (deliver_is_moved config s m.id)
          (whole-net config (record p { units = set p.units m.to left }) (taken p m.id)
          (whole-unit config p m.to left a.whole (inside config p a m known.come)
          (record { node = is.node; nodes = is.nodes; sets = is.sets; ways = is.ways; limit = is.limit })) refl)
          (advance_done ∙ ap (λ (z : Fabric). record (heard s m knowing (told.Advance m.to k)) { fabric = z }) fabric_after))
