-- What a controller says and does is what the definitions of the machine say of the event.
use Rattle.std.proofs.Common.{◌≡◌, ℕ, Bool, true, false, not, ◌&&◌, Option, Some, None, refl}
use Rattle.std.specs.Prelude.{nat_lt, nat_le, length, if◌then◌else◌}
use Rattle.sn_base.specs.declared.config.Config.{Config}
use Rattle.sn_base.specs.declared.event.Answer.TheVariants.{Retired, Waits, NeedsEvict, LogFull, NetFull, MissOpen}
use Rattle.sn_msg.specs.declared.Message.{Message}
use Rattle.sn_msg.specs.declared.Body.{Body}
use Rattle.sn_model.specs.declared.cache.LineState.{LineState}
use Rattle.sn_model.specs.declared.cache.LineState.TheVariants.{Absent, Shared, Owned, Modified, Exclusive}
use Rattle.sn_model.specs.declared.cache.Need.{Need}
use Rattle.sn_model.specs.declared.cache.Need.TheVariants.{Read, Write}
use Rattle.sn_model.specs.declared.rows.Receiver.{Receiver}
use Rattle.sn_model.specs.declared.rows.Receiver.TheVariants as receiver
use Rattle.sn_model.specs.Caches.{Put, line_of, is_present, is_writable_state, misses_on, puts_on, frames_taken}
use Rattle.sn_model.specs.Fabric.{Fabric, FabricStep, node_at, home_node, step_refused, step_with_answer}
use Rattle.sn_model.specs.Net.{is_full}
use Rattle.sn_model.specs.Access.{node_to_write, step_of_miss, accesses}
use Rattle.sn_model.specs.NodeEvents.{step_of_eviction, evicts}
use Rattle.sn_model.specs.NetEvents.{logged_at, outcome_by, outcome_of, AtCache}
use Rattle.sn_model.specs.CacheRows.{reply_at_cache, row_by, MeetsAtCache, MeetsRow}
use Rattle.sn_model.specs.Receivers.{receiver_of}
use Rattle.mosi_cache.specs.declared.step.AccessProbe.TheVariants.{Ready as IsReady, Waits as HasToWait, Miss, NeedsEvict as HasNoFrame}
use Rattle.mosi_cache.specs.declared.step.AccessProbe.TheVariants.{LogFull as HasNoRoom}
use Rattle.mosi_cache.specs.Probe.{probe_by, evict_by, evict_line}
use Rattle.mosi_cache.specs.Machine.{controller_at, log_at, access_by_probe, evicted_by}

receiver_agrees : (s : Fabric) (m : Message) (x : Receiver) → MeetsAtCache (logged_at s m.to) m.block x →
    outcome_by s m x ≡ AtCache (reply_at_cache (logged_at s m.to) (home_node s m.block) m.block (node_at s m.to).now m.tag x)
receiver_agrees s m (receiver.Cache taken) r = refl
receiver_agrees s m (receiver.Home message) r = absurd r
receiver_agrees s m (receiver.Controller k) r = absurd r
receiver_agrees s m (receiver.Clock k) r = absurd r

pub row-agrees : (s : Fabric) (m : Message) (body : Body) → MeetsRow (logged_at s m.to) m.block body →
    outcome_of s m body ≡ AtCache (row_by (logged_at s m.to) (home_node s m.block) m.block (node_at s m.to).now m.tag body)
row-agrees s m body r = receiver_agrees s m (receiver_of body) r

-- by the tests of an access, in their order

miss_step : (s : Fabric) (misses : FabricStep) (p e : Bool) →
    (if not p && e then step_refused s NeedsEvict else if is_full s 1 then step_refused s NetFull else misses)
    ≡ access_by_probe s misses (if not p && e then HasNoFrame else Miss)
miss_step s misses true e = refl
miss_step s misses false true = refl
miss_step s misses false false = refl

read_step : (s : Fabric) (misses : FabricStep) (w p e : Bool) →
    (if w then step_refused s Waits else if p then step_with_answer s Retired else if not p && e then step_refused s NeedsEvict
    else if is_full s 1 then step_refused s NetFull else misses)
    ≡ access_by_probe s misses (if w then HasToWait else if p then IsReady else if not p && e then HasNoFrame else Miss)
read_step s misses true p e = refl
read_step s misses false true e = refl
read_step s misses false false true = refl
read_step s misses false false false = refl

write_step : (s : Fabric) (misses : FabricStep) (w v f p e : Bool) →
    (if w then step_refused s Waits else if v then (if f then step_refused s LogFull else step_with_answer s Retired)
    else if not p && e then step_refused s NeedsEvict else if is_full s 1 then step_refused s NetFull else misses)
    ≡ access_by_probe s misses
    (if w then HasToWait else if v then (if f then HasNoRoom else IsReady) else if not p && e then HasNoFrame else Miss)
write_step s misses true v f p e = refl
write_step s misses false true true p e = refl
write_step s misses false true false p e = refl
write_step s misses false false f p e = miss_step s misses p e

pub probe-agrees : (config : Config) (s : Fabric) (n block : ℕ) (need : Need) →
    accesses config s n block need
    ≡ access_by_probe s (step_of_miss s n block need) (probe_by (controller_at config s n) (log_at config s n) block (node_at s n).now need)
probe-agrees config s n block Read =
    read_step s (step_of_miss s n block Read) (puts_on (node_at s n).cache.put block) (is_present (line_of (node_at s n).cache block).state)
    (nat_le config.ways (frames_taken (node_at s n).cache config.sets block))
probe-agrees config s n block Write =
    write_step s (step_of_miss s n block Write) (puts_on (node_at s n).cache.put block)
    (is_writable_state (line_of (node_at s n).cache block).state)
    (nat_lt config.log (length (node_to_write (node_at s n) block).log)) (is_present (line_of (node_at s n).cache block).state)
    (nat_le config.ways (frames_taken (node_at s n).cache config.sets block))

put_agrees : (s : Fabric) (n block : ℕ) (put : Option Put) (state : LineState) → (node_at s n).cache.put ≡ put →
    evicts s n block state ≡ evicted_by s n block (evict_line put state)
put_agrees s n block put Absent e = refl
put_agrees s n block put Shared e = refl
put_agrees s n block None Owned e = rw e refl
put_agrees s n block (Some p) Owned e = rw e refl
put_agrees s n block None Modified e = rw e refl
put_agrees s n block (Some p) Modified e = rw e refl
put_agrees s n block None Exclusive e = rw e refl
put_agrees s n block (Some p) Exclusive e = rw e refl

evict_step : (s : Fabric) (n block : ℕ) (state : LineState) (m : Bool) →
    (if m then step_refused s MissOpen else evicts s n block state)
    ≡ evicted_by s n block (if m then MissOpen else evict_line (node_at s n).cache.put state)
evict_step s n block state true = refl
evict_step s n block state false = put_agrees s n block (node_at s n).cache.put state refl

pub eviction-agrees : (s : Fabric) (n block : ℕ) → step_of_eviction s n block ≡ evicted_by s n block (evict_by (node_at s n).cache block)
eviction-agrees s n block = evict_step s n block (line_of (node_at s n).cache block).state (misses_on (node_at s n).cache.miss block)
