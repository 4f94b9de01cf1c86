-- What a rise of the recovery point comes to, by what the parts say.
use Rattle.std.proofs.Common.{◌≡◌, ℕ, ◌+◌, ◌<◌, ◌≤◌, Bool, false, List, length, get_or, refl, sym, ap, ◌∙◌, arith}
use Rattle.std.specs.Prelude.{if◌then◌else◌, None}
use Rattle.sn_base.specs.declared.config.Config.{Config}
use Rattle.sn_base.specs.declared.event.Answer.TheVariants.{NetFull, Validated}
use Rattle.switch_net.specs.Net.{NetData}
use Rattle.sn_model.specs.declared.net.Sent.{Sent}
use Rattle.sn_model.specs.Fabric.{Fabric, step_refused}
use Rattle.sn_model.specs.FabricEvents.{moved_by, Advance}
use Rattle.sn_model.specs.Net.{is_full, net_after_sends, sent_by, sending}
use Rattle.sn_model.specs.PointEvents.{advances, step_of_advance}
use Rattle.fabric_bounds.specs.Coherent.{NothingUnfinished}
use Rattle.sn_fabric.specs.declared.node.NodeUnit.{NodeUnit}
use Rattle.sn_fabric.specs.Nets.{net_as}
use Rattle.sn_fabric.specs.Parts.{Parts, fabric_as, AreWhole, AreParts}
use Rattle.sn_fabric.specs.Points.{tellings}
use Rattle.sn_fabric.proofs.FirstParts.{few-nodes}
use Rattle.sn_fabric.proofs.Parts.{count-nodes, Comes, unit-read}
use Rattle.sn_fabric.proofs.Posts.{tellings-are}
use Rattle.sn_fabric.proofs.Sends.{sends-come}

advance_is_moved : (config : Config) (s : Fabric) (k : ℕ) → moved_by config s (Advance k) ≡ step_of_advance s k
unfolding moved_by
advance_is_moved config s k = refl

whole_point : (config : Config) (p : Parts) (k : ℕ) → AreWhole config p → AreWhole config (record p { point = k })
whole_point config p k w =
    record { fits = w.fits; count = w.count; count_homes = w.count_homes; count_routes = w.count_routes; units = w.units; homes = w.homes }

pub point-comes : (config : Config) (p : Parts) (now k : ℕ) (x : NodeUnit) (net : NetData) (sends : List Sent) → AreParts config p →
    k ≡ (fabric_as p).point + 1 → NothingUnfinished (fabric_as p) k →
    is_full (fabric_as p) (length (fabric_as p).nodes) ≡ false → x ≡ get_or p.units 0 x → now ≡ x.clock.interval →
    net.routes ≡ p.net.routes →
    net_as net ≡ net_after_sends p.net.routes (net_as p.net) 0 now 0 (tellings k config.nodes) →
    sends ≡ sent_by p.net.routes (net_as p.net) 0 now 0 (tellings k config.nodes) →
    Comes config p (record p { net = net; point = k }) sends (Validated k) (step_of_advance (fabric_as p) k)
point-comes config p now k x net sends a next finished f ex en er ew es =
    let w = a.whole in
    let c : length (fabric_as p).nodes ≡ config.nodes = count-nodes p ∙ w.count in
    let some : 1 ≤ config.nodes = (few-nodes config w.fits).some in
    let l : 0 < length (fabric_as p).nodes = omega (arith, c, some) in
    let h : 0 < length p.units = omega (arith, w.count, some) in
    let o : tellings k config.nodes ≡ advances k 0 (fabric_as p).nodes = ap (tellings k) (sym c) ∙ tellings-are k (fabric_as p).nodes in
    sends-come config p (record p { point = k }) net 0 0 now (advances k 0 (fabric_as p).nodes) (Validated k) sends None (Advance k)
    (step_of_advance (fabric_as p) k) a (next, finished) tt
    (advance_is_moved config (fabric_as p) k)
    (ap (λ (b : Bool). if b then step_refused (fabric_as p) NetFull
    else sending (record (fabric_as p) { point = k }) 0 0 (advances k 0 (fabric_as p).nodes) (Validated k)) f)
    (whole_point config p k w) h (en ∙ ap (λ (y : NodeUnit). y.clock.interval) (unit-read p 0 0 x l refl ex)) er
    (ew ∙ ap (net_after_sends p.net.routes (net_as p.net) 0 now 0) o) (es ∙ ap (sent_by p.net.routes (net_as p.net) 0 now 0) o)
