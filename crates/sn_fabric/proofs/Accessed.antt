-- What an access comes to, by what the parts say.
use Rattle.std.proofs.Common.{◌≡◌, ℕ, ◌+◌, ◌<◌, Bool, true, false, length, get_or, refl, sym, ap, ◌∙◌, subst, arith}
use Rattle.std.specs.Prelude.{nat_lt, if◌then◌else◌}
use Rattle.std.proofs.lemmas.List.{length-map}
use Rattle.std.proofs.lemmas.Bool.Decides.{nat_tests}
use Rattle.sn_base.specs.declared.config.Config.{Config}
use Rattle.sn_base.specs.declared.event.Answer.{Answer}
use Rattle.sn_base.specs.declared.event.Answer.TheVariants.{Missed, Waits, NetFull}
use Rattle.log_buffer.specs.Log.{LogData}
use Rattle.mosi_cache.specs.declared.step.AccessProbe.{AccessProbe}
use Rattle.mosi_cache.specs.declared.step.AccessProbe.TheVariants.{Ready, Waits as HasToWait, Miss, NeedsEvict as HasNoFrame}
use Rattle.mosi_cache.specs.declared.step.AccessProbe.TheVariants.{LogFull as HasNoRoom}
use Rattle.mosi_cache.specs.Controller.{CacheData}
use Rattle.mosi_cache.specs.Probe.{probe_by}
use Rattle.mosi_cache.specs.Machine.{controller_at, log_at, access_by_probe}
use Rattle.mosi_cache.proofs.Agrees.{probe-agrees}
use Rattle.sn_model.specs.declared.cache.Need.{Need}
use Rattle.sn_model.specs.Fabric.{Fabric, Node, FabricStep, node_at, step_refused}
use Rattle.sn_model.specs.Net.{is_full}
use Rattle.sn_model.specs.Access.{step_of_access, accesses, step_of_miss, has_miss}
use Rattle.sn_fabric.specs.declared.node.NodeUnit.{NodeUnit}
use Rattle.sn_fabric.specs.Nets.{flight_as}
use Rattle.sn_fabric.specs.Parts.{Parts, fabric_as, unit_at, AreWhole, AreParts}
use Rattle.sn_fabric.specs.Units.{access_answer}
use Rattle.sn_fabric.proofs.Parts.{node-at, count-nodes, unit-read}

module _ (config : Config) (p : Parts) (w : AreWhole config p) (n : ℕ) (l : n < length p.units) where
  -- the controller of a node, and its log
  pub controller-as : controller_at config (fabric_as p) n ≡ (unit_at p.units n).cache
  controller-as =
      let i = w.units n (subst (λ (k : ℕ). n < k) w.count l) in
      ap (λ (y : Node). record { node = n; nodes = length (fabric_as p).nodes; sets = config.sets; ways = config.ways; cache = y.cache })
      (node-at p n l)
      ∙ ap (λ (k : ℕ). record {
        node = k;
        nodes = length (fabric_as p).nodes;
        sets = config.sets;
        ways = config.ways;
        cache = (unit_at p.units n).cache.cache;
      }) (sym i.node)
      ∙ ap (λ (k : ℕ). record (unit_at p.units n).cache { nodes = k; sets = config.sets; ways = config.ways })
      (count-nodes p ∙ w.count ∙ sym i.nodes)
      ∙ ap (λ (k : ℕ). record (unit_at p.units n).cache { sets = k; ways = config.ways }) (sym i.sets)
      ∙ ap (λ (k : ℕ). record (unit_at p.units n).cache { ways = k }) (sym i.ways)

  pub log-as : log_at config (fabric_as p) n ≡ (unit_at p.units n).log
  log-as =
      let i = w.units n (subst (λ (k : ℕ). n < k) w.count l) in
      ap (λ (y : Node). record { entries = y.log; limit = config.log }) (node-at p n l)
      ∙ ap (λ (k : ℕ). record (unit_at p.units n).log { limit = k }) (sym i.limit)

pub full-as : (p : Parts) (more : ℕ) → is_full (fabric_as p) more ≡ nat_lt 1024 (length p.net.flights + more)
full-as p more = ap (λ (k : ℕ). nat_lt 1024 (k + more)) (length-map p.net.flights flight_as)

-- the probe of a node's cache
abbrev pub probe_at : Parts → ℕ → ℕ → Need → AccessProbe
probe_at p n block need = probe_by (unit_at p.units n).cache (unit_at p.units n).log block (unit_at p.units n).clock.interval need

probed : (s : Fabric) (moved : FabricStep) (probe : AccessProbe) (full : Bool) → is_full s 1 ≡ full → moved.answer ≡ Missed →
    (access_by_probe s moved probe).answer ≡ access_answer probe full
probed s moved Ready full e m = refl
probed s moved HasToWait full e m = refl
probed s moved HasNoFrame full e m = refl
probed s moved HasNoRoom full e m = refl
probed s moved Miss true e m = rw e refl
probed s moved Miss false e m = rw e m

-- where no miss is open
module _ (config : Config) (p : Parts) (w : AreWhole config p) (n : ℕ) (l : n < length p.units) (block : ℕ) (need : Need) (none : has_miss (node_at (fabric_as p) n).cache.miss ≡ false) where
  pub access-probed : step_of_access config (fabric_as p) n block need
      ≡ access_by_probe (fabric_as p) (step_of_miss (fabric_as p) n block need) (probe_at p n block need)
  access-probed =
      ap (λ (b : Bool). if b then step_refused (fabric_as p) Waits else accesses config (fabric_as p) n block need) none
      ∙ probe-agrees config (fabric_as p) n block need
      ∙ ap (λ (c : CacheData). access_by_probe (fabric_as p) (step_of_miss (fabric_as p) n block need)
      (probe_by c (log_at config (fabric_as p) n) block (node_at (fabric_as p) n).now need)) (controller-as config p w n l)
      ∙ ap (λ (d : LogData). access_by_probe (fabric_as p) (step_of_miss (fabric_as p) n block need)
      (probe_by (unit_at p.units n).cache d block (node_at (fabric_as p) n).now need)) (log-as config p w n l)
      ∙ ap (λ (y : Node). access_by_probe (fabric_as p) (step_of_miss (fabric_as p) n block need)
      (probe_by (unit_at p.units n).cache (unit_at p.units n).log block y.now need)) (node-at p n l)

  pub answer-probed : (step_of_access config (fabric_as p) n block need).answer
      ≡ access_answer (probe_at p n block need) (nat_lt 1024 (length p.net.flights + 1))
  answer-probed =
      ap (λ (m : FabricStep). m.answer) access-probed
      ∙ probed (fabric_as p) (step_of_miss (fabric_as p) n block need) (probe_at p n block need) (nat_lt 1024 (length p.net.flights + 1))
      (full-as p 1) refl

-- where one is open
pub access-waits : (config : Config) (s : Fabric) (n block : ℕ) (need : Need) → has_miss (node_at s n).cache.miss ≡ true →
    step_of_access config s n block need ≡ step_refused s Waits
access-waits config s n block need h = ap (λ (b : Bool). if b then step_refused s Waits else accesses config s n block need) h

-- what an access that misses found
pub record IsMissing (p : Parts) (n block : ℕ) (need : Need) (moved : FabricStep) : Type 0 where
  pub none : has_miss (node_at (fabric_as p) n).cache.miss ≡ false
  pub probe : probe_at p n block need ≡ Miss
  pub spare : length p.net.flights < 1024
  pub misses : moved ≡ step_of_miss (fabric_as p) n block need

miss_probed : (s : Fabric) (misses : FabricStep) (probe : AccessProbe) → (access_by_probe s misses probe).answer ≡ Missed → probe ≡ Miss
miss_probed s misses Ready e = absurd (cc)
miss_probed s misses HasToWait e = absurd (cc)
miss_probed s misses HasNoFrame e = absurd (cc)
miss_probed s misses HasNoRoom e = absurd (cc)
miss_probed s misses Miss e = refl

miss_spare : (s : Fabric) (misses : FabricStep) (full : Bool) → is_full s 1 ≡ full → (access_by_probe s misses Miss).answer ≡ Missed →
    full ≡ false
miss_spare s misses true e h = let k : NetFull ≡ Missed = rw e at h in absurd (cc)
miss_spare s misses false e h = refl

missing_step : (config : Config) (p : Parts) (w : AreWhole config p) (n : ℕ) (l : n < length p.units) (block : ℕ) (need : Need) (b : Bool) →
    has_miss (node_at (fabric_as p) n).cache.miss ≡ b →
    (step_of_access config (fabric_as p) n block need).answer ≡ Missed → IsMissing p n block need (step_of_access config (fabric_as p) n block need)
missing_step config p w n l block need true e h =
    let k : Waits ≡ Missed = sym (ap (λ (m : FabricStep). m.answer) (access-waits config (fabric_as p) n block need e)) ∙ h in absurd (cc)
missing_step config p w n l block need false e h =
    let a = access-probed config p w n l block need e in
    let k : (access_by_probe (fabric_as p) (step_of_miss (fabric_as p) n block need) (probe_at p n block need)).answer
    ≡ Missed = sym (ap (λ (m : FabricStep). m.answer) a) ∙ h in
    let q : probe_at p n block need ≡ Miss = miss_probed (fabric_as p) (step_of_miss (fabric_as p) n block need) (probe_at p n block need) k in
    let j : (access_by_probe (fabric_as p) (step_of_miss (fabric_as p) n block need) Miss).answer
    ≡ Missed = subst (λ (r : AccessProbe). (access_by_probe (fabric_as p) (step_of_miss (fabric_as p) n block need) r).answer ≡ Missed) q k in
    let f : is_full (fabric_as p) 1
    ≡ false = miss_spare (fabric_as p) (step_of_miss (fabric_as p) n block need) (is_full (fabric_as p) 1) refl j in
    let g : nat_lt 1024 (length p.net.flights + 1) ≡ false = sym (full-as p 1) ∙ f in
    record {
      none = e;
      probe = q;
      spare = grind (arith, nat_tests, g);
      misses =
          a
          ∙ ap (access_by_probe (fabric_as p) (step_of_miss (fabric_as p) n block need)) q
          ∙ ap (λ (b : Bool). if b then step_refused (fabric_as p) NetFull else step_of_miss (fabric_as p) n block need) f;
    }

pub missing : (config : Config) (p : Parts) (w : AreWhole config p) (n : ℕ) (l : n < length p.units) (block : ℕ) (need : Need) →
    (step_of_access config (fabric_as p) n block need).answer ≡ Missed → IsMissing p n block need (step_of_access config (fabric_as p) n block need)
missing config p w n l block need h = missing_step config p w n l block need (has_miss (node_at (fabric_as p) n).cache.miss) refl h

-- an access that doesn't miss changes nothing

unmissed_probed : (s : Fabric) (misses : FabricStep) (probe : AccessProbe) (full : Bool) → is_full s 1 ≡ full → misses.answer ≡ Missed →
    ((access_by_probe s misses probe).answer ≡ Missed → ⊥) →
    access_by_probe s misses probe ≡ step_refused s (access_by_probe s misses probe).answer
unmissed_probed s misses Ready full e m h = refl
unmissed_probed s misses HasToWait full e m h = refl
unmissed_probed s misses HasNoFrame full e m h = refl
unmissed_probed s misses HasNoRoom full e m h = refl
unmissed_probed s misses Miss true e m h = rw e refl
unmissed_probed s misses Miss false e m h = absurd (h (rw e m))

unmissed_step : (config : Config) (s : Fabric) (n block : ℕ) (need : Need) (b : Bool) → has_miss (node_at s n).cache.miss ≡ b →
    ((step_of_access config s n block need).answer ≡ Missed → ⊥) →
    step_of_access config s n block need ≡ step_refused s (step_of_access config s n block need).answer
unmissed_step config s n block need true e h =
    let a = access-waits config s n block need e in a ∙ ap (λ (m : FabricStep). step_refused s m.answer) (sym a)
unmissed_step config s n block need false e h =
    let a : step_of_access config s n block need
    ≡ access_by_probe s (step_of_miss s n block need) (probe_by (controller_at config s n) (log_at config s n) block (node_at s n).now need) =
    ap (λ (b : Bool). if b then step_refused s Waits else accesses config s n block need) e ∙ probe-agrees config s n block need in
    a
    ∙ unmissed_probed s (step_of_miss s n block need) (probe_by (controller_at config s n) (log_at config s n) block (node_at s n).now need)
    (is_full s 1) refl refl (λ k. h (ap (λ (m : FabricStep). m.answer) a ∙ k))
    ∙ ap (λ (m : FabricStep). step_refused s m.answer) (sym a)

pub unmissed : (config : Config) (s : Fabric) (n block : ℕ) (need : Need) → ((step_of_access config s n block need).answer ≡ Missed → ⊥) →
    step_of_access config s n block need ≡ step_refused s (step_of_access config s n block need).answer
unmissed config s n block need h = unmissed_step config s n block need (has_miss (node_at s n).cache.miss) refl h

-- the answer that is foreseen, by what was looked at
pub foreseen : (config : Config) (p : Parts) (n place block : ℕ) (need : Need) (x : NodeUnit) (probe : AccessProbe) (full : Bool) (said : Answer) →
    AreParts config p → n < length (fabric_as p).nodes →
    place ≡ n → x ≡ get_or p.units place x → probe ≡ probe_by x.cache x.log block x.clock.interval need →
    full ≡ nat_lt 1024 (length p.net.flights + 1) → said ≡ access_answer probe full →
    false ≡ has_miss (node_at (fabric_as p) n).cache.miss → said ≡ (step_of_access config (fabric_as p) n block need).answer
foreseen config p n place block need x probe full said k l ep ex eq ef es em =
    let h : n < length p.units = subst (λ (k : ℕ). n < k) (count-nodes p) l in
    let r : x ≡ unit_at p.units n = unit-read p n place x l ep ex in
    let q : probe ≡ probe_at p n block need = eq ∙ ap (λ (y : NodeUnit). probe_by y.cache y.log block y.clock.interval need) r in
    es ∙ ap (λ (b : AccessProbe). access_answer b full) q ∙ ap (access_answer (probe_at p n block need)) ef
    ∙ sym (answer-probed config p k.whole n h block need (sym em))

pub foreseen_wait : (config : Config) (s : Fabric) (n block : ℕ) (need : Need) → true ≡ has_miss (node_at s n).cache.miss →
    Waits ≡ (step_of_access config s n block need).answer
foreseen_wait config s n block need e = sym (ap (λ (m : FabricStep). m.answer) (access-waits config s n block need (sym e)))
