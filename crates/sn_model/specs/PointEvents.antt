-- The events of the whole fabric: the recovery point rises, and a recovery.
use Rattle.std.specs.Prelude.{ℕ, ◌+◌, true, false, if◌then◌else◌, List, [], ◌∷◌, map, length, sum_by, Option, Some, None}
use Rattle.sn_base.specs.declared.event.Answer.TheVariants.{NetFull, Validated, Recovered, CutOff}
use Rattle.sn_base.specs.declared.log.LogEntry.{LogEntry}
use Rattle.sn_msg.specs.declared.Body.TheVariants.{Advance}
use Rattle.log_buffer.specs.Log.{old_at, entries_from}
use Rattle.route_plan.specs.Distances.{Switches}
use Rattle.route_plan.specs.Routes.{first_cut_off}
use Rattle.sn_model.specs.declared.cache.LineState.TheVariants.{Modified}
use Rattle.sn_model.specs.declared.cache.Out.{Out}
use Rattle.sn_model.specs.Caches.{Cache, Line, no_line}
use Rattle.sn_model.specs.Homes.{HomeEntry, no_sharers}
use Rattle.sn_model.specs.CacheRows.{send}
use Rattle.sn_model.specs.Fabric.{Fabric, Node, Net, FabricStep, node_at, home_node, step_refused, step_with_answer}
use Rattle.sn_model.specs.Net.{sending, is_full}
use Rattle.sn_model.specs.Cuts.{held_by, named_by}

-- advance k: checkpoint k is the recovery point from now on, and each node is told

-- Advance to each node in order
abbrev pub advances : ℕ → ℕ → List Node → List Out
advances k to [] = []
advances k to (node ∷ nodes) = send to (Advance k) ∷ advances k (to + 1) nodes

abbrev pub step_of_advance : Fabric → ℕ → FabricStep
step_of_advance s k =
    if is_full s (length s.nodes) then step_refused s NetFull
    else sending (record s { point = k }) 0 0 (advances k 0 s.nodes) (Validated k)

-- recover k: all is as it was at checkpoint k

abbrev pub restored_line : Option (List ℕ) → Line
restored_line None = no_line
restored_line (Some content) = record { state = Modified; content = content }

-- the lines of a cache at cut k, from a block on: what it owned then, each in Modified
abbrev pub restored_lines : List LogEntry → ℕ → ℕ → List Line → List Line
restored_lines log k block [] = []
restored_lines log k block (line ∷ lines) = restored_line (held_by (old_at log false block k) line) ∷ restored_lines log k (block + 1) lines

abbrev pub restored_cache : List LogEntry → ℕ → Cache → Cache
restored_cache log k cache = record { lines = restored_lines log k 0 cache.lines; miss = None; put = None }

abbrev pub restored_node : ℕ → Node → Node
restored_node k node = record { now = k; known = k; cache = restored_cache node.log k node.cache; log = [] }

abbrev pub log_of_home : Fabric → ℕ → List LogEntry
log_of_home s block = (node_at s (home_node s block)).log

-- the home entries at cut k, from a block on: whom each named then, without sharers and transactions
abbrev pub restored_homes : Fabric → ℕ → ℕ → List HomeEntry → List HomeEntry
restored_homes s k block [] = []
restored_homes s k block (entry ∷ homes) =
    record { holder = named_by (old_at (log_of_home s block) true block k) entry.holder; sharers = no_sharers; transaction = None }
    ∷ restored_homes s k (block + 1) homes

-- no message is in flight, and routes are made anew
abbrev pub restored_net : Net → Net
restored_net net = record net { flights = []; planned = net.dead }

unfoldable pub fabric_restored_to : Fabric → ℕ → Fabric
fabric_restored_to s k = record s { nodes = map (restored_node k) s.nodes; homes = restored_homes s k 0 s.homes; net = restored_net s.net }

-- how many log entries are undone: those at or above the checkpoint, in all logs
abbrev pub undone_count : Fabric → ℕ → ℕ
undone_count s k = sum_by (λ node. length (entries_from k node.log)) s.nodes

abbrev pub living_switches : Fabric → Switches
living_switches s = record { nodes = length s.nodes; dead = s.net.dead }

abbrev pub recovers : Fabric → ℕ → Option (ℕ × ℕ) → FabricStep
recovers s k (Some pair) = step_refused s (CutOff pair.0 pair.1)
recovers s k None = step_with_answer (fabric_restored_to s k) (Recovered (record { to = k; undone = undone_count s k; dropped = length s.net.flights }))

abbrev pub step_of_recovery : Fabric → ℕ → FabricStep
step_of_recovery s k = recovers s k (first_cut_off (living_switches s))
