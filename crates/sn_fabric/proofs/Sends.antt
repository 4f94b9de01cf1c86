-- What the calls that send come to.
use Rattle.std.proofs.Common.{◌≡◌, ℕ, ◌%◌, ◌<◌, List, [], ◌∷◌, length, get_or, set, refl, sym, ap, ◌∙◌, subst, length-set}
use Rattle.std.specs.Prelude.{Option, None}
use Rattle.std.proofs.lemmas.List.{get_or-set_same}
use Rattle.sn_base.specs.declared.config.Config.{Config}
use Rattle.sn_base.specs.declared.event.Answer.{Answer}
use Rattle.sn_base.specs.declared.event.Answer.TheVariants.{Missed}
use Rattle.switch_net.specs.Net.{NetData}
use Rattle.route_plan.specs.Distances.{Switches}
use Rattle.mosi_cache.specs.Controller.{CacheData}
use Rattle.mosi_cache.specs.Probe.{probe_by, with_miss}
use Rattle.sn_model.specs.declared.cache.Need.{Need}
use Rattle.sn_model.specs.declared.cache.Out.{Out}
use Rattle.sn_model.specs.declared.net.Sent.{Sent}
use Rattle.sn_model.specs.declared.net.News.{News}
use Rattle.sn_model.specs.Caches.{block_count}
use Rattle.sn_model.specs.CacheRows.{send}
use Rattle.sn_model.specs.Fabric as model
use Rattle.sn_model.specs.Fabric.{Fabric, Node, FabricStep, node_at, with_node}
use Rattle.sn_model.specs.FabricEvents.{FabricEvent, moved_by, Access}
use Rattle.sn_model.specs.Net.{net_after_sends, sent_by, sending}
use Rattle.sn_model.specs.Access.{step_of_access, step_of_miss, missing, request_for}
use Rattle.fabric_bounds.specs.Events.{MayBe}
use Rattle.fabric_bounds.specs.Bounds.{HasLogRoom}
use Rattle.sn_fabric.specs.declared.node.NodeUnit.{NodeUnit}
use Rattle.sn_fabric.specs.Fabric.{FabricData, IsAfter}
use Rattle.sn_fabric.specs.Nets.{net_as}
use Rattle.sn_fabric.specs.Parts.{Parts, fabric_as, unit_at, no_unit, AreWhole, AreParts}
use Rattle.sn_fabric.proofs.Parts.{node-at, count-nodes, routes-as, fabric-unit, whole-unit, whole-net, Comes, comes-as, unit-read}
use Rattle.sn_fabric.proofs.Accessed.{missing as found_missing, unmissed}
use Rattle.sn_fabric.proofs.FirstParts.{few-nodes}
use Rattle.std.proofs.Math.Nat.{mod-lt}
use Rattle.mosi_cache.specs.declared.step.AccessProbe.TheVariants.{Miss}

abbrev pub sent_moved : Fabric → Switches → model.Net → ℕ → ℕ → ℕ → List Out → Answer → Option News → FabricStep
sent_moved s routes net n now block outs said told =
    record {
      fabric = record s { net = net_after_sends routes net n now block outs };
      answer = said;
      sent = sent_by routes net n now block outs;
      told = told;
    }

-- what a node sends, as the machine's definitions have it
pub sending-is : (config : Config) (p : Parts) (n block : ℕ) (outs : List Out) (said : Answer) → AreWhole config p → n < length p.units →
    sending (fabric_as p) n block outs said
    ≡ sent_moved (fabric_as p) p.net.routes (net_as p.net) n (unit_at p.units n).clock.interval block outs said None
sending-is config p n block outs said w l =
    ap (λ (r : Switches). sent_moved (fabric_as p) r (net_as p.net) n (node_at (fabric_as p) n).now block outs said None)
    (routes-as config p w)
    ∙ ap (λ (y : Node). sent_moved (fabric_as p) p.net.routes (net_as p.net) n y.now block outs said None) (node-at p n l)

-- an event by which a node changes and then sends
pub sends-come : (config : Config) (p q : Parts) (net : NetData) (n block now : ℕ) (outs : List Out) (said : Answer) (sends : List Sent)
    (told : Option News) (event : FabricEvent) (moved : FabricStep) →
    AreParts config p → MayBe (fabric_as p) event → HasLogRoom config (fabric_as p) event → moved_by config (fabric_as p) event ≡ moved →
    moved ≡ record (sending (fabric_as q) n block outs said) { told = told } →
    AreWhole config q → n < length q.units → now ≡ (unit_at q.units n).clock.interval → net.routes ≡ q.net.routes →
    net_as net ≡ net_after_sends q.net.routes (net_as q.net) n now block outs → sends ≡ sent_by q.net.routes (net_as q.net) n now block outs →
    Comes config p (record q { net = net }) sends said moved
sends-come config p q net n block now outs said sends told event moved k m r e h w l en er ep es =
    comes-as config p (record q { net = net }) sends said told event moved k m r e
    (whole-net config q net w (ap (λ (r : Switches). r.nodes) er))
    (h
    ∙ ap (λ (x : FabricStep). record x { told = told }) (sending-is config q n block outs said w l)
    ∙ ap (λ (i : ℕ). sent_moved (fabric_as q) q.net.routes (net_as q.net) n i block outs said told) (sym en)
    ∙ ap (λ (x : model.Net). record
    (sent_moved (fabric_as q) q.net.routes (net_as q.net) n now block outs said told) { fabric = record (fabric_as q) { net = x } })
    (sym ep)
    ∙ ap (λ (xs : List Sent). record
    (sent_moved (fabric_as q) q.net.routes (net_as q.net) n now block outs said told) {
      fabric = record (fabric_as q) { net = net_as net };
      sent = xs;
    }) (sym es))

-- a miss

access_is_moved : (config : Config) (s : Fabric) (n block : ℕ) (need : Need) →
    moved_by config s (Access n block need) ≡ step_of_access config s n block need
unfolding moved_by
access_is_moved config s n block need = refl

-- the node after its miss is open
abbrev pub missing_unit : NodeUnit → ℕ → Need → NodeUnit
missing_unit x block need = record x { cache = with_miss x.cache block need x.clock.interval }

pub missing-is : (config : Config) (p : Parts) (n block : ℕ) (need : Need) → AreWhole config p → n < length p.units →
    step_of_miss (fabric_as p) n block need
    ≡ sending (fabric_as (record p { units = set p.units n (missing_unit (unit_at p.units n) block need) })) n block
    (send (block % (unit_at p.units n).cache.nodes) (request_for need) ∷ []) Missed
missing-is config p n block need w l =
    let i = w.units n (subst (λ (k : ℕ). n < k) w.count l) in
    ap (λ (k : ℕ). sending (with_node (fabric_as p) n (missing (node_at (fabric_as p) n) block need)) n block
    (send (block % k) (request_for need) ∷ []) Missed) (count-nodes p ∙ w.count ∙ sym i.nodes)
    ∙ ap (λ (y : Node). sending (with_node (fabric_as p) n (missing y block need)) n block
    (send (block % (unit_at p.units n).cache.nodes) (request_for need) ∷ []) Missed) (node-at p n l)
    ∙ ap (λ (s : Fabric). sending s n block (send (block % (unit_at p.units n).cache.nodes) (request_for need) ∷ []) Missed)
    (sym (fabric-unit p n (missing_unit (unit_at p.units n) block need)))

pub miss-comes : (config : Config) (p : Parts) (n place block now : ℕ) (need : Need) (x : NodeUnit) (cache : CacheData) (out : Out)
    (net : NetData) (sends : List Sent) → AreParts config p →
    n < length (fabric_as p).nodes → block < block_count → (step_of_access config (fabric_as p) n block need).answer ≡ Missed → place ≡ n →
    x ≡ get_or p.units place x → now ≡ x.clock.interval →
    cache ≡ with_miss x.cache block need now → out ≡ send (block % x.cache.nodes) (request_for need) → net.routes ≡ p.net.routes →
    net_as net ≡ net_after_sends p.net.routes (net_as p.net) n now block (out ∷ []) →
    sends ≡ sent_by p.net.routes (net_as p.net) n now block (out ∷ []) →
    Comes config p (record p { units = set p.units place (record x { cache = cache }); net = net }) sends Missed
    (step_of_access config (fabric_as p) n block need)
miss-comes config p n place block now need x cache out net sends k l b a ep ex en ec eo er ew es =
    let h : n < length p.units = subst (λ (k : ℕ). n < k) (count-nodes p) l in
    let r : x ≡ unit_at p.units n = unit-read p n place x l ep ex in
    let m = found_missing config p k.whole n h block need a in
    let i = k.whole.units n (subst (λ (k : ℕ). n < k) k.whole.count h) in
    let y : NodeUnit = missing_unit (unit_at p.units n) block need in
    let o : out ≡ send (block % (unit_at p.units n).cache.nodes) (request_for need) = eo
    ∙ ap (λ (z : NodeUnit). send (block % z.cache.nodes) (request_for need)) r in
    let c : record x { cache = cache } ≡ y = ap (λ (d : CacheData). record x { cache = d }) (ec ∙ ap (with_miss x.cache block need) en)
    ∙ ap (λ (z : NodeUnit). missing_unit z block need) r in
    let t : now ≡ (unit_at (set p.units n y) n).clock.interval = en
    ∙ ap (λ (z : NodeUnit). z.clock.interval)
    (r ∙ sym (ap (λ (z : NodeUnit). record (unit_at p.units n) { clock = z.clock }) (get_or-set_same p.units n y no_unit h))) in
    rw (c, ep)
    (sends-come config p (record p { units = set p.units n y }) net n block now
    (send (block % (unit_at p.units n).cache.nodes) (request_for need) ∷ []) Missed sends None (Access n block need)
    (step_of_access config (fabric_as p) n block need) k (l, b) tt (access_is_moved config (fabric_as p) n block need)
    (m.misses ∙ missing-is config p n block need k.whole h)
    (whole-unit config p n y k.whole h (record { node = i.node; nodes = i.nodes; sets = i.sets; ways = i.ways; limit = i.limit }))
    (subst (λ (k : ℕ). n < k) (sym (length-set p.units n y)) h) t er
    (subst (λ (z : Out). net_as net ≡ net_after_sends p.net.routes (net_as p.net) n now block (z ∷ [])) o ew)
    (subst (λ (z : Out). sends ≡ sent_by p.net.routes (net_as p.net) n now block (z ∷ [])) o es))

-- what its cache asks of it
pub miss-asks : (config : Config) (p : Parts) (n place block now : ℕ) (need : Need) (x : NodeUnit) → AreParts config p →
    n < length (fabric_as p).nodes → (step_of_access config (fabric_as p) n block need).answer ≡ Missed →
    place ≡ n → x ≡ get_or p.units place x → now ≡ x.clock.interval → probe_by x.cache x.log block now need ≡ Miss
miss-asks config p n place block now need x k l a ep ex en =
    let h : n < length p.units = subst (λ (k : ℕ). n < k) (count-nodes p) l in
    ap (λ (i : ℕ). probe_by x.cache x.log block i need) en
    ∙ ap (λ (y : NodeUnit). probe_by y.cache y.log block y.clock.interval need) (unit-read p n place x l ep ex)
    ∙ (found_missing config p k.whole n h block need a).probe

-- a block's home is there
pub to-home : (config : Config) (p : Parts) (n place block : ℕ) (x : NodeUnit) → AreParts config p → n < length (fabric_as p).nodes →
    place ≡ n → x ≡ get_or p.units place x → block % x.cache.nodes < p.net.routes.nodes
to-home config p n place block x k l ep ex =
    let h : n < length p.units = subst (λ (k : ℕ). n < k) (count-nodes p) l in
    let i = k.whole.units n (subst (λ (k : ℕ). n < k) k.whole.count h) in
    let e : x.cache.nodes ≡ config.nodes = ap (λ (y : NodeUnit). y.cache.nodes) (unit-read p n place x l ep ex) ∙ i.nodes in
    rw (e, k.whole.count_routes) (mod-lt block (few-nodes config k.whole.fits).some)

-- an access that doesn't miss changes nothing
pub unmissed-after : (d e : FabricData) (n block : ℕ) (need : Need) (said : Answer) →
    said ≡ (step_of_access d.config d.fabric n block need).answer → (said ≡ Missed → ⊥) → e ≡ record d { sent = [] } →
    IsAfter d e said (step_of_access d.config d.fabric n block need)
unmissed-after d e n block need said es ne ee =
    let u = unmissed d.config d.fabric n block need (λ k. ne (es ∙ k)) in
    record { answer = es; left = ee ∙ ap (λ (m : FabricStep). record d { fabric = m.fabric; sent = m.sent }) (sym u) }
