-- What a report comes to, by what the parts say.
use Rattle.std.proofs.Common.{◌≡◌, ℕ, ◌<◌, Bool, true, false, List, [], ◌∷◌, length, get_or, refl, sym, ap, ◌∙◌, subst, arith}
use Rattle.std.specs.Prelude.{if◌then◌else◌, Option, None}
use Rattle.std.proofs.lemmas.List.{get_or_read}
use Rattle.sn_base.specs.declared.config.Config.{Config}
use Rattle.sn_base.specs.declared.event.Answer.TheVariants.{NetFull, Reported}
use Rattle.sn_msg.specs.declared.Body.TheVariants.{Ready}
use Rattle.switch_net.specs.Net.{NetData}
use Rattle.home_directory.specs.Home.{HomeData, least_open}
use Rattle.mosi_cache.specs.Machine.{at_most}
use Rattle.mosi_cache.specs.Probe.{least_open_of}
use Rattle.sn_model.specs.declared.net.Sent.{Sent}
use Rattle.sn_model.specs.CacheRows.{send}
use Rattle.sn_model.specs.Fabric.{Fabric, FabricStep, step_refused}
use Rattle.sn_model.specs.FabricEvents.{moved_by, Report}
use Rattle.sn_model.specs.Net.{is_full, net_after_sends, sent_by, sending}
use Rattle.sn_model.specs.NodeEvents.{ready_of, step_of_report}
use Rattle.sn_fabric.specs.declared.node.NodeUnit.{NodeUnit}
use Rattle.sn_fabric.specs.Fabric.{FabricData, IsAfter}
use Rattle.sn_fabric.specs.Nets.{net_as}
use Rattle.sn_fabric.specs.Parts.{Parts, fabric_as, unit_at, home_at, no_home, AreParts}
use Rattle.sn_fabric.proofs.Parts.{count-nodes, Comes, unit-read}
use Rattle.sn_fabric.proofs.Sends.{sends-come}
use Rattle.sn_fabric.proofs.Entries.{ready-is}

pub ready-found : (config : Config) (p : Parts) (n place : ℕ) (x : NodeUnit) (home : HomeData) (now : ℕ) (begun issued : Option ℕ)
    (first last : ℕ) → AreParts config p → n < length (fabric_as p).nodes →
    place ≡ n → x ≡ get_or p.units place x → home ≡ get_or p.homes place home → now ≡ x.clock.interval → begun ≡ least_open home.entries →
    issued ≡ least_open_of x.cache.cache.miss x.cache.cache.put →
    first ≡ at_most now begun → last ≡ at_most first issued → last ≡ ready_of (fabric_as p) n
ready-found config p n place x home now begun issued first last k l ep ex eh en eb ei ef es =
    let h : n < length p.units = subst (λ (k : ℕ). n < k) (count-nodes p) l in
    let r : x ≡ unit_at p.units n = unit-read p n place x l ep ex in
    let c : length p.units ≡ length p.homes = k.whole.count ∙ sym k.whole.count_homes in
    let q : home ≡ home_at p.homes n = get_or_read p.homes n home (omega (arith, c))
    (subst (λ (j : ℕ). home ≡ get_or p.homes j home) ep eh) no_home in
    es
    ∙ ap (λ (j : ℕ). at_most j issued)
    (ef ∙ ap (λ (j : ℕ). at_most j begun) (en ∙ ap (λ (y : NodeUnit). y.clock.interval) r)
    ∙ ap (at_most (unit_at p.units n).clock.interval) (eb ∙ ap (λ (y : HomeData). least_open y.entries) q))
    ∙ ap (at_most (at_most (unit_at p.units n).clock.interval (least_open (home_at p.homes n).entries)))
    (ei ∙ ap (λ (y : NodeUnit). least_open_of y.cache.cache.miss y.cache.cache.put) r)
    ∙ sym (ready-is config p n k.whole h)

report_is_moved : (config : Config) (s : Fabric) (n : ℕ) → moved_by config s (Report n) ≡ step_of_report s n
unfolding moved_by
report_is_moved config s n = refl

pub report-comes : (config : Config) (p : Parts) (n place now ready : ℕ) (x : NodeUnit) (net : NetData) (sends : List Sent) →
    AreParts config p → n < length (fabric_as p).nodes → is_full (fabric_as p) 1 ≡ false →
    ready ≡ ready_of (fabric_as p) n → place ≡ n → x ≡ get_or p.units place x → now ≡ x.clock.interval → net.routes ≡ p.net.routes →
    net_as net ≡ net_after_sends p.net.routes (net_as p.net) n now 0 (send 0 (Ready ready) ∷ []) →
    sends ≡ sent_by p.net.routes (net_as p.net) n now 0 (send 0 (Ready ready) ∷ []) →
    Comes config p (record p { net = net }) sends (Reported ready) (step_of_report (fabric_as p) n)
report-comes config p n place now ready x net sends k l f e ep ex en er ew es =
    let h : n < length p.units = subst (λ (k : ℕ). n < k) (count-nodes p) l in
    sends-come config p p net n 0 now (send 0 (Ready ready) ∷ []) (Reported ready) sends None (Report n) (step_of_report (fabric_as p) n) k l tt
    (report_is_moved config (fabric_as p) n)
    (ap (λ (b : Bool). if b then step_refused (fabric_as p) NetFull
    else sending (fabric_as p) n 0 (send 0 (Ready (ready_of (fabric_as p) n)) ∷ []) (Reported (ready_of (fabric_as p) n))) f
    ∙ ap (λ (j : ℕ). sending (fabric_as p) n 0 (send 0 (Ready j) ∷ []) (Reported j)) (sym e))
    k.whole h (en ∙ ap (λ (y : NodeUnit). y.clock.interval) (unit-read p n place x l ep ex)) er ew es

-- a report that finds the network full
pub full-after : (d e : FabricData) (n : ℕ) → is_full d.fabric 1 ≡ true → e ≡ record d { sent = [] } →
    IsAfter d e NetFull (step_of_report d.fabric n)
full-after d e n f ee =
    let u : step_of_report d.fabric n ≡ step_refused d.fabric NetFull =
    ap (λ (b : Bool). if b then step_refused d.fabric NetFull
    else sending d.fabric n 0 (send 0 (Ready (ready_of d.fabric n)) ∷ []) (Reported (ready_of d.fabric n))) f in
    record {
      answer = sym (ap (λ (m : FabricStep). m.answer) u);
      left = ee ∙ ap (λ (m : FabricStep). record d { fabric = m.fabric; sent = m.sent }) (sym u);
    }
