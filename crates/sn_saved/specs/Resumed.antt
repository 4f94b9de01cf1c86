-- The machine that goes on from a saved recovery point: the state that a recovery would leave.
use Rattle.std.specs.Prelude.{ℕ, Bool, nat_eq, if◌then◌else◌, List, [], ◌∷◌, map, replicate, Option, Some, None}
use Rattle.std.specs.List.{range_with_len}
use Rattle.sn_base.specs.Image.{ImageData}
use Rattle.rv_core.specs.declared.step.Record.{Record}
use Rattle.rv_core.specs.Core.{bare}
use Rattle.rv_core.specs.Flat.{FlatState, core_at, flat_start, flat_step, next_by}
use Rattle.rv_core.specs.Execution.{end_of, out_of}
use Rattle.sn_model.specs.Caches.{Line, Cache, block_count}
use Rattle.sn_model.specs.Homes.{Holder, HomeEntry, Itself, OfCache, no_sharers}
use Rattle.sn_model.specs.Fabric.{Fabric, Net, Node}
use Rattle.sn_model.specs.Machine.{State, Processor}
use Rattle.sn_model.specs.PointEvents.{restored_line}
use Rattle.sn_model.specs.RecoveryPoint.{block_in}
use Rattle.sn_saved.specs.Saved.{Saved, owner_in, given_to}
use Rattle.sn_model.specs.Trace.{TraceEntry}

-- f of each number below a bound
abbrev pub each_below : {A : Type 0} → ℕ → (ℕ → A) → List A
each_below bound f = map f (range_with_len 0 bound)

-- the fabric, in which each block has a content and an owner, or its home where it has none

-- what a node's cache has of a block, by the node whose cache owns it
abbrev pub content_owned : Option ℕ → ℕ → List ℕ → Option (List ℕ)
content_owned None node content = None
content_owned (Some owner) node content = if nat_eq owner node then Some content else None

-- the lines of a node's cache: it has in Modified what it owns
unfoldable pub lines_owned : List (ℕ × ℕ) → (ℕ → List ℕ) → ℕ → List Line
lines_owned owners content node =
    each_below block_count (λ block. restored_line (content_owned (owner_in owners block) node (content block)))

abbrev pub cache_resumed : List (ℕ × ℕ) → (ℕ → List ℕ) → ℕ → Cache
cache_resumed owners content node = record { lines = lines_owned owners content node; miss = None; put = None }

-- a node in the interval that begins at the point
abbrev pub node_resumed : List (ℕ × ℕ) → (ℕ → List ℕ) → ℕ → ℕ → Node
node_resumed owners content point node =
    record { now = point; known = point; cache = cache_resumed owners content node; log = [] }

abbrev pub holder_resumed : Option ℕ → List ℕ → Holder
holder_resumed None content = Itself content
holder_resumed (Some owner) content = OfCache owner

abbrev pub home_resumed : List (ℕ × ℕ) → (ℕ → List ℕ) → ℕ → HomeEntry
home_resumed owners content block =
    record { holder = holder_resumed (owner_in owners block) (content block); sharers = no_sharers; transaction = None }

unfoldable pub homes_resumed : List (ℕ × ℕ) → (ℕ → List ℕ) → List HomeEntry
homes_resumed owners content = each_below block_count (home_resumed owners content)

-- nothing is in flight, and the routes go round the dead switches
abbrev pub net_resumed : List Bool → ℕ → Net
net_resumed dead next_id = record { flights = []; dead = dead; planned = dead; next_id = next_id }

abbrev pub fabric_resumed : ℕ → List (ℕ × ℕ) → (ℕ → List ℕ) → ℕ → ℕ → List Bool → Fabric
fabric_resumed nodes owners content point next_id dead = record {
  nodes = each_below nodes (node_resumed owners content point);
  homes = homes_resumed owners content;
  net = net_resumed dead next_id;
  point = point;
}

-- the machine, with this state of the flat machine

-- a processor whose checkpoint is its core, without a reservation
abbrev pub processor_resumed : FlatState → List (ℕ × ℕ) → ℕ → Processor
processor_resumed flat given node = record {
  core = bare (core_at flat node);
  checkpoints = bare (core_at flat node) ∷ [];
  given = given_to given node;
}

-- the flat machine after the committed trace
abbrev pub flat_resumed : ImageData → Saved → FlatState
flat_resumed image saved = end_of image saved.config.nodes saved.committed

abbrev pub resumed : ImageData → Saved → State
resumed image saved = record {
  fabric =
      fabric_resumed saved.config.nodes saved.owners (block_in (flat_resumed image saved).memory)
      saved.marks.point saved.marks.next_id saved.marks.dead;
  processors = each_below saved.config.nodes (processor_resumed (flat_resumed image saved) saved.given);
  reported = replicate saved.config.nodes saved.marks.point;
  pending = [];
  committed = saved.committed;
  held = [];
  released = out_of image saved.config.nodes saved.committed;
}

-- the retirements before it: all of interval 0, each with the byte that its step of the flat machine puts out

abbrev pub entries_from : ImageData → FlatState → List Record → List TraceEntry
entries_from image flat [] = []
entries_from image flat (r ∷ records) =
    record { interval = 0; did = r; out = (next_by image flat r).effect.out } ∷ entries_from image (flat_step image flat r) records

abbrev pub saved_entries : ImageData → Saved → List TraceEntry
saved_entries image saved = entries_from image (flat_start image saved.config.nodes) saved.committed
