-- A controller and its log in a state of the fabric, and what an event of the fabric makes of a controller's answer.
use Rattle.std.specs.Prelude.{◌≡◌, ℕ, Bool, true, min, if◌then◌else◌, [], ◌∷◌, length, Option, Some, None}
use Rattle.sn_base.specs.declared.config.Config.{Config}
use Rattle.sn_base.specs.declared.event.Answer.{Answer}
use Rattle.sn_base.specs.declared.event.Answer.TheVariants.{Retired, Waits, NeedsEvict, LogFull, NetFull, Evicted, PutBegun}
use Rattle.sn_msg.specs.declared.Message.{Message}
use Rattle.sn_msg.specs.declared.Body.TheVariants.{PutReq}
use Rattle.log_buffer.specs.Log.{LogData}
use Rattle.sn_model.specs.CacheRows.{send}
use Rattle.sn_model.specs.Fabric.{Fabric, FabricStep, node_at, with_node, home_node, step_refused, step_with_answer}
use Rattle.sn_model.specs.Net.{sending, is_full}
use Rattle.sn_model.specs.NodeEvents.{drops_copy, with_put}
use Rattle.sn_model.specs.NetEvents.{answer_to}
use Rattle.mosi_cache.specs.declared.step.AccessProbe.{AccessProbe}
use Rattle.mosi_cache.specs.declared.step.AccessProbe.TheVariants.{Ready, Waits as HasToWait, Miss, NeedsEvict as HasNoFrame}
use Rattle.mosi_cache.specs.declared.step.AccessProbe.TheVariants.{LogFull as HasNoRoom}
use Rattle.mosi_cache.specs.Controller.{CacheData}
use Rattle.mosi_cache.specs.Rows.{row_of, is_over}

-- the controller of a node, and its log
abbrev pub controller_at : Config → Fabric → ℕ → CacheData
controller_at config s n = record { node = n; nodes = length s.nodes; sets = config.sets; ways = config.ways; cache = (node_at s n).cache }

abbrev pub log_at : Config → Fabric → ℕ → LogData
log_at config s n = record { entries = (node_at s n).log; limit = config.log }

-- what an access comes to by the answer to its probe: its line serves it, it misses, or it is refused
abbrev pub access_by_probe : Fabric → FabricStep → AccessProbe → FabricStep
access_by_probe s misses Ready = step_with_answer s Retired
access_by_probe s misses Miss = if is_full s 1 then step_refused s NetFull else misses
access_by_probe s misses HasToWait = step_refused s Waits
access_by_probe s misses HasNoFrame = step_refused s NeedsEvict
access_by_probe s misses HasNoRoom = step_refused s LogFull

-- what an eviction comes to by the controller's answer
abbrev pub evicted_by : Fabric → ℕ → ℕ → Answer → FabricStep
evicted_by s n block Evicted = drops_copy s n block
evicted_by s n block PutBegun =
    if is_full s 1 then step_refused s NetFull
    else sending (with_node s n (with_put (node_at s n) block)) n block (send (home_node s block) PutReq ∷ []) PutBegun
evicted_by s n block answer = step_refused s answer

-- an interval, or that of what is open where that is less
abbrev pub at_most : ℕ → Option ℕ → ℕ
at_most now None = now
at_most now (Some issued) = min now issued

-- whether the controller's row would be over the log's limit
abbrev pub is_over_at : Config → Fabric → Message → Bool
is_over_at config s m =
    is_over (log_at config s m.to) (row_of (controller_at config s m.to) (log_at config s m.to) (node_at s m.to).now m)

-- a delivery finds the log full exactly where that is so
abbrev pub IsFullAsAtCache : Config → Fabric → Message → Type 0
IsFullAsAtCache config s m =
    (answer_to config s m ≡ LogFull → is_over_at config s m ≡ true)
    × (is_over_at config s m ≡ true → answer_to config s m ≡ LogFull)
