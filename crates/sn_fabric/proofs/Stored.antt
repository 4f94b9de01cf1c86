-- What a store comes to, by what the parts say.
use Rattle.std.proofs.Common.{◌≡◌, ℕ, ◌+◌, ◌<◌, ◌≤◌, Bool, true, false, List, [], length, get_or, set, refl, sym, ap, ◌∙◌, subst, arith}
use Rattle.std.specs.Prelude.{nat_lt, if◌then◌else◌, None}
use Rattle.sn_base.specs.declared.block.Write.{Write as Written}
use Rattle.sn_base.specs.declared.config.Config.{Config}
use Rattle.sn_base.specs.declared.event.Answer.TheVariants.{Retired}
use Rattle.log_buffer.specs.Log.{LogData, logged_to}
use Rattle.rv_core.specs.Core.{block_of}
use Rattle.mosi_cache.specs.Controller.{CacheData}
use Rattle.mosi_cache.specs.declared.step.AccessProbe.TheVariants.{Ready, Waits, LogFull}
use Rattle.mosi_cache.specs.Probe.{probe_by, probe_miss, log_with, cache_after_write as cache_stored}
use Rattle.sn_model.specs.declared.cache.Need.TheVariants.{Write as ToWrite}
use Rattle.sn_model.specs.declared.net.Sent.{Sent}
use Rattle.sn_model.specs.Caches.{line_of, is_writable_state, puts_on}
use Rattle.sn_model.specs.Access.{fabric_with_write, with_write, lacks_room, node_to_write}
use Rattle.sn_model.specs.Fabric.{Fabric, Node, node_at, with_node, step_with_answer}
use Rattle.sn_model.specs.FabricEvents.{moved_by, Write}
use Rattle.fabric_bounds.specs.Events.{CanWrite}
use Rattle.sn_fabric.specs.declared.node.NodeUnit.{NodeUnit}
use Rattle.sn_fabric.specs.Parts.{Parts, fabric_as, node_as, unit_at, AreParts}
use Rattle.sn_fabric.proofs.Parts.{node-at, count-nodes, Comes, unit-comes, unit-read}

write_is_moved : (config : Config) (s : Fabric) (n : ℕ) (w : Written) → moved_by config s (Write n w) ≡ step_with_answer (fabric_with_write s n w) Retired
unfolding moved_by
write_is_moved config s n w = refl

module _ (config : Config) (p : Parts) (n place now : ℕ) (w : Written) (x : NodeUnit) (k : AreParts config p) (can : CanWrite (fabric_as p) n w) (ep : place ≡ n) (ex : x ≡ get_or p.units place x) (en : now ≡ x.clock.interval) where
  inside : n < length p.units
  inside = subst (λ (k : ℕ). n < k) (count-nodes p) can.line.node

  read : node_at (fabric_as p) n ≡ node_as x
  read = node-at p n inside ∙ ap node_as (sym (unit-read p n place x can.line.node ep ex))

  pub store-ready : lacks_room config (node_at (fabric_as p) n) (block_of w.address) ToWrite ≡ false →
      probe_by x.cache x.log (block_of w.address) now ToWrite ≡ Ready
  store-ready room =
      let i = k.whole.units n (subst (λ (k : ℕ). n < k) k.whole.count inside) in
      let a : puts_on x.cache.cache.put (block_of w.address)
      ≡ false = subst (λ (y : Node). puts_on y.cache.put (block_of w.address) ≡ false) read can.line.no_put in
      let b : is_writable_state (line_of x.cache.cache (block_of w.address)).state
      ≡ true = subst (λ (y : Node). is_writable_state (line_of y.cache (block_of w.address)).state ≡ true) read can.writable in
      let e : x.log.limit ≡ config.log = ap (λ (y : NodeUnit). y.log.limit) (unit-read p n place x can.line.node ep ex) ∙ i.limit in
      let d : nat_lt x.log.limit (length (log_with x.cache x.log.entries (block_of w.address) now)) ≡ false =
      ap (λ (j : ℕ). nat_lt j (length (log_with x.cache x.log.entries (block_of w.address) now))) e
      ∙ ap (λ (j : ℕ). nat_lt config.log (length (log_with x.cache x.log.entries (block_of w.address) j))) en
      ∙ subst (λ (y : Node). nat_lt config.log (length (node_to_write y (block_of w.address)).log) ≡ false) read room in
      ap (λ (c : Bool). if c then Waits else if is_writable_state (line_of x.cache.cache (block_of w.address)).state
      then (if nat_lt x.log.limit (length (log_with x.cache x.log.entries (block_of w.address) now)) then LogFull else Ready)
      else probe_miss x.cache (block_of w.address)) a
      ∙ ap (λ (c : Bool). if c then
      (if nat_lt x.log.limit (length (log_with x.cache x.log.entries (block_of w.address) now)) then LogFull else Ready)
      else probe_miss x.cache (block_of w.address)) b
      ∙ ap (λ (c : Bool). if c then LogFull else Ready) d

  pub store-last : logged_to x.log.entries false (block_of w.address) ≤ now + 1
  store-last =
      let h : logged_to x.log.entries false (block_of w.address) ≤ x.clock.interval + 1 =
      subst (λ (y : Node). logged_to y.log false (block_of w.address) ≤ y.now + 1) read
      ((k.keeps.1.blocks (block_of w.address) can.line.block).logs.own n) in
      omega (arith, h, en)

  pub store-comes : (cache : CacheData) (log : LogData) (sends : List Sent) →
      lacks_room config (node_at (fabric_as p) n) (block_of w.address) ToWrite ≡ false → cache ≡ cache_stored x.cache w →
      log ≡ record x.log { entries = log_with x.cache x.log.entries (block_of w.address) now } → sends ≡ [] →
      Comes config p (record p { units = set p.units place (record x { cache = cache; log = log }) }) sends Retired
      (step_with_answer (fabric_with_write (fabric_as p) n w) Retired)
  store-comes cache log sends room ec el es =
      let r : x ≡ unit_at p.units n = unit-read p n place x can.line.node ep ex in
      let i = k.whole.units n (subst (λ (k : ℕ). n < k) k.whole.count inside) in
      let y : NodeUnit = record x {
        cache = cache_stored x.cache w;
        log = record x.log { entries = log_with x.cache x.log.entries (block_of w.address) x.clock.interval };
      } in
      let c : record x { cache = cache; log = log } ≡ y =
      ap (λ (d : CacheData). record x { cache = d; log = log }) ec
      ∙ ap (λ (d : LogData). record x { cache = cache_stored x.cache w; log = d })
      (el ∙ ap (λ (j : ℕ). record x.log { entries = log_with x.cache x.log.entries (block_of w.address) j }) en) in
      rw (c, ep, es)
      (unit-comes config p n y Retired None (Write n w) (step_with_answer (fabric_with_write (fabric_as p) n w) Retired) k can room
      (write_is_moved config (fabric_as p) n w) inside
      (record {
        node = ap (λ (z : NodeUnit). z.cache.node) r ∙ i.node;
        nodes = ap (λ (z : NodeUnit). z.cache.nodes) r ∙ i.nodes;
        sets = ap (λ (z : NodeUnit). z.cache.sets) r ∙ i.sets;
        ways = ap (λ (z : NodeUnit). z.cache.ways) r ∙ i.ways;
        limit = ap (λ (z : NodeUnit). z.log.limit) r ∙ i.limit;
      })
      (ap (λ (z : Node). step_with_answer (with_node (fabric_as p) n (with_write z w)) Retired) read))
