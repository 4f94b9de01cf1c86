-- What an eviction comes to, by what the parts say.
use Rattle.std.proofs.Common.{◌≡◌, ℕ, ◌+◌, ◌%◌, ◌<◌, Bool, true, false, List, [], ◌∷◌, length, get_or, set, refl, sym, ap, ◌∙◌, subst}
use Rattle.std.proofs.Common.{length-set}
use Rattle.std.specs.Prelude.{nat_eq, ◌&&◌, not, IfSome, nat_lt, if◌then◌else◌, Option, Some, None}
use Rattle.std.proofs.lemmas.List.{get_or-set_same}
use Rattle.sn_base.specs.declared.config.Config.{Config}
use Rattle.sn_base.specs.declared.event.Answer.{Answer}
use Rattle.sn_base.specs.declared.event.Answer.TheVariants.{Evicted, PutBegun, MissOpen, NetFull}
use Rattle.sn_msg.specs.declared.Body.TheVariants.{PutReq}
use Rattle.switch_net.specs.Net.{NetData}
use Rattle.mosi_cache.specs.Controller.{CacheData}
use Rattle.mosi_cache.specs.Probe.{evict_by, evict_line, with_put, lets_go, may_go}
use Rattle.mosi_cache.specs.Machine.{evicted_by}
use Rattle.mosi_cache.proofs.Agrees.{eviction-agrees}
use Rattle.sn_model.specs.declared.cache.LineState.{LineState}
use Rattle.sn_model.specs.declared.cache.LineState.TheVariants.{Absent, Shared, Owned, Modified, Exclusive}
use Rattle.sn_model.specs.declared.cache.Out.{Out}
use Rattle.sn_model.specs.declared.net.Sent.{Sent}
use Rattle.sn_model.specs.declared.net.News.TheVariants.{LostCopy}
use Rattle.sn_model.specs.Caches.{Put, without_line, line_of, misses_on, block_count}
use Rattle.sn_model.specs.CacheRows.{send}
use Rattle.sn_model.specs.Fabric.{Fabric, Node, FabricStep, node_at, with_node, step_refused}
use Rattle.sn_model.specs.FabricEvents.{moved_by, Evict}
use Rattle.sn_model.specs.Net.{is_full, net_after_sends, sent_by, sending}
use Rattle.sn_model.specs.NodeEvents.{step_of_eviction, drops_copy, without_copy, with_put as putting}
use Rattle.sn_fabric.specs.declared.node.NodeUnit.{NodeUnit}
use Rattle.sn_fabric.specs.Fabric.{FabricData, IsAfter, goes, can_go}
use Rattle.sn_fabric.specs.Nets.{net_as}
use Rattle.sn_fabric.specs.Parts.{Parts, fabric_as, node_as, unit_at, no_unit, AreWhole, AreParts}
use Rattle.sn_fabric.specs.Units.{evict_answer}
use Rattle.sn_fabric.proofs.Parts.{node-at, count-nodes, fabric-unit, whole-unit, Comes, unit-comes, unit-read}
use Rattle.sn_fabric.proofs.Accessed.{full-as}
use Rattle.sn_fabric.proofs.Sends.{sends-come}

-- what the cache says, by its miss on the block, its put and the line's state
abbrev cache_says : Bool → Option Put → LineState → Answer
cache_says m put state = if m then MissOpen else evict_line put state

put_says : (s : Fabric) (n block : ℕ) (full : Bool) → is_full s 1 ≡ full →
    (evicted_by s n block PutBegun).answer ≡ evict_answer PutBegun full
put_says s n block true e = rw e refl
put_says s n block false e = rw e refl

says : (s : Fabric) (n block : ℕ) (m : Bool) (put : Option Put) (state : LineState) (full : Bool) → is_full s 1 ≡ full →
    (evicted_by s n block (cache_says m put state)).answer ≡ evict_answer (cache_says m put state) full
says s n block true put state full e = refl
says s n block false put Absent full e = refl
says s n block false put Shared full e = refl
says s n block false None Owned full e = put_says s n block full e
says s n block false (Some p) Owned full e = refl
says s n block false None Modified full e = put_says s n block full e
says s n block false (Some p) Modified full e = refl
says s n block false None Exclusive full e = put_says s n block full e
says s n block false (Some p) Exclusive full e = refl

no_drop : (full : Bool) → evict_answer PutBegun full ≡ Evicted → PutBegun ≡ Evicted
no_drop true h = absurd (cc)
no_drop false h = h

drops : (m : Bool) (put : Option Put) (state : LineState) (full : Bool) → evict_answer (cache_says m put state) full ≡ Evicted →
    cache_says m put state ≡ Evicted
drops true put state full h = h
drops false put Absent full h = h
drops false put Shared full h = h
drops false None Owned full h = no_drop full h
drops false (Some p) Owned full h = h
drops false None Modified full h = no_drop full h
drops false (Some p) Modified full h = h
drops false None Exclusive full h = no_drop full h
drops false (Some p) Exclusive full h = h

begins : (full : Bool) → evict_answer PutBegun full ≡ PutBegun → full ≡ false
begins true h = absurd (cc)
begins false h = refl

puts : (m : Bool) (put : Option Put) (state : LineState) (full : Bool) → evict_answer (cache_says m put state) full ≡ PutBegun →
    (cache_says m put state ≡ PutBegun) × (full ≡ false)
puts true put state full h = absurd (cc)
puts false put Absent full h = absurd (cc)
puts false put Shared full h = absurd (cc)
puts false None Owned full h = (refl, begins full h)
puts false (Some p) Owned full h = absurd (cc)
puts false None Modified full h = (refl, begins full h)
puts false (Some p) Modified full h = absurd (cc)
puts false None Exclusive full h = (refl, begins full h)
puts false (Some p) Exclusive full h = absurd (cc)

put_full : (s : Fabric) (n block : ℕ) (full : Bool) → is_full s 1 ≡ full → (evict_answer PutBegun full ≡ PutBegun → ⊥) →
    evicted_by s n block PutBegun ≡ step_refused s (evict_answer PutBegun full)
put_full s n block true e h = rw e refl
put_full s n block false e h = absurd (h refl)

keeps : (s : Fabric) (n block : ℕ) (m : Bool) (put : Option Put) (state : LineState) (full : Bool) → is_full s 1 ≡ full →
    (evict_answer (cache_says m put state) full ≡ Evicted → ⊥) →
    (evict_answer (cache_says m put state) full ≡ PutBegun → ⊥) →
    evicted_by s n block (cache_says m put state) ≡ step_refused s (evict_answer (cache_says m put state) full)
keeps s n block true put state full e d b = refl
keeps s n block false put Absent full e d b = refl
keeps s n block false put Shared full e d b = absurd (d refl)
keeps s n block false None Owned full e d b = put_full s n block full e b
keeps s n block false (Some p) Owned full e d b = refl
keeps s n block false None Modified full e d b = put_full s n block full e b
keeps s n block false (Some p) Modified full e d b = refl
keeps s n block false None Exclusive full e d b = put_full s n block full e b
keeps s n block false (Some p) Exclusive full e d b = refl

-- in the fabric
module _ (s : Fabric) (n block : ℕ) where
  abbrev said_at : Answer
  said_at = evict_by (node_at s n).cache block

  answer_is : (step_of_eviction s n block).answer ≡ evict_answer (evict_by (node_at s n).cache block) (is_full s 1)
  answer_is =
      ap (λ (m : FabricStep). m.answer) (eviction-agrees s n block)
      ∙ says s n block (misses_on (node_at s n).cache.miss block) (node_at s n).cache.put (line_of (node_at s n).cache block).state
      (is_full s 1) refl

  pub dropping : (step_of_eviction s n block).answer ≡ Evicted →
      (evict_by (node_at s n).cache block ≡ Evicted) × (step_of_eviction s n block ≡ drops_copy s n block)
  dropping h =
      let e : evict_by (node_at s n).cache block
      ≡ Evicted = drops (misses_on (node_at s n).cache.miss block) (node_at s n).cache.put (line_of (node_at s n).cache block).state
      (is_full s 1) (sym answer_is ∙ h) in
      (e, eviction-agrees s n block ∙ ap (evicted_by s n block) e)

  pub beginning : (step_of_eviction s n block).answer ≡ PutBegun → (evict_by (node_at s n).cache block ≡ PutBegun) × (is_full s 1 ≡ false)
  beginning h =
      puts (misses_on (node_at s n).cache.miss block) (node_at s n).cache.put (line_of (node_at s n).cache block).state (is_full s 1)
      (sym answer_is ∙ h)

  pub unevicted : ((step_of_eviction s n block).answer ≡ Evicted → ⊥) → ((step_of_eviction s n block).answer ≡ PutBegun → ⊥) →
      step_of_eviction s n block ≡ step_refused s (step_of_eviction s n block).answer
  unevicted d b =
      eviction-agrees s n block
      ∙ keeps s n block (misses_on (node_at s n).cache.miss block) (node_at s n).cache.put (line_of (node_at s n).cache block).state
      (is_full s 1) refl (λ h. d (answer_is ∙ h)) (λ h. b (answer_is ∙ h))
      ∙ ap (step_refused s) (sym answer_is)

-- the answer that is foreseen
pub evict-foreseen : (p : Parts) (n place block : ℕ) (x : NodeUnit) (a said : Answer) (full : Bool) → n < length (fabric_as p).nodes →
    place ≡ n → x ≡ get_or p.units place x → a ≡ evict_by x.cache.cache block →
    full ≡ nat_lt 1024 (length p.net.flights + 1) → said ≡ evict_answer a full → said ≡ (step_of_eviction (fabric_as p) n block).answer
evict-foreseen p n place block x a said full l ep ex ea ef es =
    let h : n < length p.units = subst (λ (k : ℕ). n < k) (count-nodes p) l in
    let e : a ≡ evict_by (node_at (fabric_as p) n).cache block = ea
    ∙ ap (λ (y : Node). evict_by y.cache block) (ap node_as (unit-read p n place x l ep ex) ∙ sym (node-at p n h)) in
    es ∙ ap (λ (b : Answer). evict_answer b full) e
    ∙ ap (evict_answer (evict_by (node_at (fabric_as p) n).cache block)) (ef ∙ sym (full-as p 1)) ∙ sym (answer_is (fabric_as p) n block)

-- an eviction that changes nothing
pub unevicted-after : (d e : FabricData) (n block : ℕ) (said : Answer) → said ≡ (step_of_eviction d.fabric n block).answer → (said ≡ Evicted → ⊥) →
    (said ≡ PutBegun → ⊥) → e ≡ record d { sent = [] } →
    IsAfter d e said (step_of_eviction d.fabric n block)
unevicted-after d e n block said es nd nb ee =
    let u = unevicted d.fabric n block (λ k. nd (es ∙ k)) (λ k. nb (es ∙ k)) in
    record { answer = es; left = ee ∙ ap (λ (m : FabricStep). record d { fabric = m.fabric; sent = m.sent }) (sym u) }

evict_is_moved : (config : Config) (s : Fabric) (n block : ℕ) → moved_by config s (Evict n block) ≡ step_of_eviction s n block
unfolding moved_by
evict_is_moved config s n block = refl

-- what the cache is asked, where its node was read
pub cache-says : (p : Parts) (n place block : ℕ) (x : NodeUnit) (a : Answer) → n < length (fabric_as p).nodes → place ≡ n →
    x ≡ get_or p.units place x → evict_by (node_at (fabric_as p) n).cache block ≡ a → evict_by x.cache.cache block ≡ a
cache-says p n place block x a l ep ex e =
    let h : n < length p.units = subst (λ (k : ℕ). n < k) (count-nodes p) l in
    ap (λ (y : Node). evict_by y.cache block) (ap node_as (unit-read p n place x l ep ex) ∙ sym (node-at p n h)) ∙ e

-- a Shared copy is dropped
pub drop-comes : (config : Config) (p : Parts) (n place block : ℕ) (x : NodeUnit) (cache : CacheData) (sends : List Sent) → AreParts config p →
    n < length (fabric_as p).nodes → block < block_count →
    (step_of_eviction (fabric_as p) n block).answer ≡ Evicted → place ≡ n → x ≡ get_or p.units place x →
    cache ≡ record x.cache { cache = without_line x.cache.cache block } → sends ≡ [] →
    Comes config p (record p { units = set p.units place (record x { cache = cache }) }) sends Evicted (step_of_eviction (fabric_as p) n block)
drop-comes config p n place block x cache sends k l b a ep ex ec es =
    let h : n < length p.units = subst (λ (k : ℕ). n < k) (count-nodes p) l in
    let r : x ≡ unit_at p.units n = unit-read p n place x l ep ex in
    let i = k.whole.units n (subst (λ (k : ℕ). n < k) k.whole.count h) in
    let y : NodeUnit = record (unit_at p.units n) {
      cache = record
          (unit_at p.units n).cache { cache = without_line (unit_at p.units n).cache.cache block };
    } in
    let c : record x { cache = cache } ≡ y = ap (λ (d : CacheData). record x { cache = d }) ec
    ∙ ap (λ (z : NodeUnit). record z { cache = record z.cache { cache = without_line z.cache.cache block } }) r in
    rw (c, ep, es)
    (unit-comes config p n y Evicted (Some (LostCopy n block)) (Evict n block) (step_of_eviction (fabric_as p) n block) k (l, b) tt
    (evict_is_moved config (fabric_as p) n block) h
    (record { node = i.node; nodes = i.nodes; sets = i.sets; ways = i.ways; limit = i.limit })
    ((dropping (fabric_as p) n block a).1
    ∙ ap (λ (z : Node). record {
      fabric = with_node (fabric_as p) n (without_copy z block);
      answer = Evicted;
      sent = [];
      told = Some (LostCopy n block);
    }) (node-at p n h)))

-- a put begins
abbrev putting_unit : NodeUnit → ℕ → NodeUnit
putting_unit x block = record x { cache = with_put x.cache block x.clock.interval }

putting-is : (config : Config) (p : Parts) (n block : ℕ) → AreWhole config p → n < length p.units →
    (step_of_eviction (fabric_as p) n block).answer ≡ PutBegun →
    step_of_eviction (fabric_as p) n block
    ≡ sending (fabric_as (record p { units = set p.units n (putting_unit (unit_at p.units n) block) })) n block
    (send (block % (unit_at p.units n).cache.nodes) PutReq ∷ []) PutBegun
putting-is config p n block w l a =
    let i = w.units n (subst (λ (k : ℕ). n < k) w.count l) in
    let s : Fabric = fabric_as p in
    let g = beginning s n block a in
    eviction-agrees s n block
    ∙ ap (evicted_by s n block) g.0
    ∙ ap (λ (b : Bool). if b then step_refused s NetFull
    else sending (with_node s n (putting (node_at s n) block)) n block (send (block % length s.nodes) PutReq ∷ []) PutBegun) g.1
    ∙ ap (λ (k : ℕ). sending (with_node s n (putting (node_at s n) block)) n block (send (block % k) PutReq ∷ []) PutBegun)
    (count-nodes p ∙ w.count ∙ sym i.nodes)
    ∙ ap (λ (y : Node). sending (with_node s n (putting y block)) n block
    (send (block % (unit_at p.units n).cache.nodes) PutReq ∷ []) PutBegun) (node-at p n l)
    ∙ ap (λ (t : Fabric). sending t n block (send (block % (unit_at p.units n).cache.nodes) PutReq ∷ []) PutBegun)
    (sym (fabric-unit p n (putting_unit (unit_at p.units n) block)))

pub put-comes : (config : Config) (p : Parts) (n place block now : ℕ) (x : NodeUnit) (cache : CacheData) (out : Out) (net : NetData)
    (sends : List Sent) → AreParts config p →
    n < length (fabric_as p).nodes → block < block_count → (step_of_eviction (fabric_as p) n block).answer ≡ PutBegun → place ≡ n →
    x ≡ get_or p.units place x → now ≡ x.clock.interval →
    cache ≡ with_put x.cache block now → out ≡ send (block % x.cache.nodes) PutReq → net.routes ≡ p.net.routes →
    net_as net ≡ net_after_sends p.net.routes (net_as p.net) n now block (out ∷ []) →
    sends ≡ sent_by p.net.routes (net_as p.net) n now block (out ∷ []) →
    Comes config p (record p { units = set p.units place (record x { cache = cache }); net = net }) sends PutBegun
    (step_of_eviction (fabric_as p) n block)
put-comes config p n place block now x cache out net sends k l b a ep ex en ec eo er ew es =
    let h : n < length p.units = subst (λ (k : ℕ). n < k) (count-nodes p) l in
    let r : x ≡ unit_at p.units n = unit-read p n place x l ep ex in
    let i = k.whole.units n (subst (λ (k : ℕ). n < k) k.whole.count h) in
    let y : NodeUnit = putting_unit (unit_at p.units n) block in
    let o : out ≡ send (block % (unit_at p.units n).cache.nodes) PutReq = eo ∙ ap (λ (z : NodeUnit). send (block % z.cache.nodes) PutReq) r in
    let c : record x { cache = cache } ≡ y = ap (λ (d : CacheData). record x { cache = d }) (ec ∙ ap (with_put x.cache block) en)
    ∙ ap (λ (z : NodeUnit). putting_unit z block) r in
    let t : now ≡ (unit_at (set p.units n y) n).clock.interval = en
    ∙ ap (λ (z : NodeUnit). z.clock.interval)
    (r ∙ sym (ap (λ (z : NodeUnit). record (unit_at p.units n) { clock = z.clock }) (get_or-set_same p.units n y no_unit h))) in
    rw (c, ep)
    (sends-come config p (record p { units = set p.units n y }) net n block now
    (send (block % (unit_at p.units n).cache.nodes) PutReq ∷ []) PutBegun sends None (Evict n block)
    (step_of_eviction (fabric_as p) n block) k (l, b) tt (evict_is_moved config (fabric_as p) n block) (putting-is config p n block k.whole h a)
    (whole-unit config p n y k.whole h (record { node = i.node; nodes = i.nodes; sets = i.sets; ways = i.ways; limit = i.limit }))
    (subst (λ (k : ℕ). n < k) (sym (length-set p.units n y)) h) t er
    (subst (λ (z : Out). net_as net ≡ net_after_sends p.net.routes (net_as p.net) n now block (z ∷ [])) o ew)
    (subst (λ (z : Out). sends ≡ sent_by p.net.routes (net_as p.net) n now block (z ∷ [])) o es))

-- which lines could go

goes_put : (full : Bool) → lets_go (not full) PutBegun ≡ goes (evict_answer PutBegun full)
goes_put true = refl
goes_put false = refl

goes_says : (m : Bool) (put : Option Put) (state : LineState) (full : Bool) →
    lets_go (not full) (cache_says m put state) ≡ goes (evict_answer (cache_says m put state) full)
goes_says true put state full = refl
goes_says false put Absent full = refl
goes_says false put Shared full = refl
goes_says false None Owned full = goes_put full
goes_says false (Some p) Owned full = refl
goes_says false None Modified full = goes_put full
goes_says false (Some p) Modified full = refl
goes_says false None Exclusive full = goes_put full
goes_says false (Some p) Exclusive full = refl

pub goes-is : (config : Config) (p : Parts) (n place block : ℕ) (x : NodeUnit) (full : Bool) → AreWhole config p →
    n < length (fabric_as p).nodes → place ≡ n → x ≡ get_or p.units place x → full ≡ nat_lt 1024 (length p.net.flights + 1) →
    (b : ℕ) → may_go x.cache block (not full) b ≡ can_go config (fabric_as p) n block b
goes-is config p n place block x full w l ep ex ef b =
    let h : n < length p.units = subst (λ (k : ℕ). n < k) (count-nodes p) l in
    let i = w.units n (subst (λ (k : ℕ). n < k) w.count h) in
    let r : x ≡ unit_at p.units n = unit-read p n place x l ep ex in
    let y : Node = node_at (fabric_as p) n in
    ap (λ (k : ℕ). nat_eq (b % k) (block % k) && lets_go (not full) (evict_by x.cache.cache b)) (ap (λ (z : NodeUnit). z.cache.sets) r ∙ i.sets)
    ∙ ap (λ (z : Node). nat_eq (b % config.sets) (block % config.sets) && lets_go (not full) (evict_by z.cache b))
    (ap node_as r ∙ sym (node-at p n h))
    ∙ ap (λ (c : Bool). nat_eq (b % config.sets) (block % config.sets) && c)
    (goes_says (misses_on y.cache.miss b) y.cache.put (line_of y.cache b).state full
    ∙ ap (λ (f : Bool). goes (evict_answer (evict_by y.cache b) f)) (ef ∙ sym (full-as p 1))
    ∙ ap goes (sym (answer_is (fabric_as p) n b)))

pub least_some : (o : Option ℕ) (f g : ℕ → Bool) → ((b : ℕ) → f b ≡ g b) →
    IfSome o (λ least. (f least ≡ true) × ((b : ℕ) → b < least → f b ≡ false)) →
    IfSome o (λ least. (g least ≡ true) × ((b : ℕ) → b < least → g b ≡ false))
least_some None f g e h = h
least_some (Some least) f g e h = (sym (e least) ∙ h.0, λ b l. sym (e b) ∙ h.1 b l)
