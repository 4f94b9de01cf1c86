-- A state as JSON, part by part, and the parts that an event may have touched.
use Rattle.std.specs.Prelude.{ℕ, zero, suc, ◌+◌, ◌*◌, Bool, false, not, ◌&&◌, if◌then◌else◌, List, [], ◌∷◌, ◌++◌, length, map, codes, decimal}
use Rattle.std.specs.Prelude.{bytes_eq, is_none}
use Rattle.std.specs.List.{list_any}
use Rattle.sn_base.specs.Image.{ImageData}
use Rattle.route_plan.specs.Distances.{is_dead}
use Rattle.sn_model.specs.Caches.{block_count}
use Rattle.sn_model.specs.Homes.{HomeEntry, Holder, Itself, OfCache}
use Rattle.sn_model.specs.Fabric.{Net, initial_block, home_of}
use Rattle.sn_model.specs.Machine.{State}
use Rattle.sn_text.specs.Text.{switch_text}
use Rattle.state_parts.specs.Parts.{NodePart, ControllerPart, node_part, controller_part}
use Rattle.state_parts.specs.Touched.{TouchedParts, OnlyThese, AllParts}
use Rattle.state_json.specs.Json.{quotation_of, opens, member, closes, array, or_null, large, bytes, content_text}
use Rattle.state_json.specs.Values.{core_text, line_texts, miss_text, put_text, entry_text, record_text, held_text, transaction_text}
use Rattle.state_json.specs.Values.{marked_texts}
use Rattle.state_json.specs.Messages.{flight_text}

-- a node

unfoldable pub node_text : ℕ → NodePart → List ℕ
node_text n part =
    opens (codes "node") (decimal n) ++ member (codes "now") (decimal part.node.now) ++ member (codes "known") (decimal part.node.known)
    ++ member (codes "core") (core_text part.processor.core)
    ++ member (codes "lines") (array (line_texts block_count part.node.cache))
    ++ member (codes "miss") (or_null miss_text part.node.cache.miss) ++ member (codes "put") (or_null put_text part.node.cache.put)
    ++ member (codes "log") (array (map entry_text part.node.log)) ++ member (codes "given") (bytes part.processor.given)
    ++ member (codes "taken") (decimal part.taken) ++ member (codes "waiting") (array (map record_text part.waiting)) ++ closes

-- a block's home

-- whether the home itself owns the block, with this content
abbrev pub is_itself : Holder → List ℕ → Bool
is_itself (Itself content) other = bytes_eq content other
is_itself (OfCache node) other = false

-- whether an entry is as at the program's start
unfoldable pub is_as_at_start : ImageData → ℕ → HomeEntry → Bool
is_as_at_start image block entry =
    is_itself entry.holder (initial_block image block) && not (list_any (λ mark. mark) entry.sharers) && is_none entry.transaction

-- who owns the block: null and the content, where it is the home itself; or a node's cache
abbrev pub holder_text : Holder → List ℕ
holder_text (Itself content) = member (codes "owner") (codes "null") ++ member (codes "content") (content_text content)
holder_text (OfCache node) = member (codes "owner") (decimal node) ++ member (codes "content") (codes "null")

abbrev pub other_home_text : ℕ → HomeEntry → List ℕ
other_home_text block entry =
    opens (codes "block") (decimal block) ++ holder_text entry.holder
    ++ member (codes "sharers") (array (marked_texts 16 entry.sharers))
    ++ member (codes "transaction") (or_null transaction_text entry.transaction) ++ closes

-- one that is as at the start is told by its block alone
unfoldable pub home_text : ImageData → ℕ → HomeEntry → List ℕ
home_text image block entry =
    if is_as_at_start image block entry then opens (codes "block") (decimal block) ++ closes else other_home_text block entry

-- the network of so many nodes

-- the dead ones of the first so many switches
unfoldable pub dead_texts : ℕ → List Bool → List (List ℕ)
dead_texts zero dead = []
dead_texts (suc switch) dead = dead_texts switch dead ++ (if is_dead dead switch then quotation_of (switch_text switch) ∷ [] else [])

unfoldable pub net_text : ℕ → Net → List ℕ
net_text nodes net =
    opens (codes "messages") (array (map flight_text net.flights)) ++ member (codes "dead") (array (dead_texts (2 * nodes) net.dead))
    ++ member (codes "next") (large net.next_id) ++ closes

-- the controller

unfoldable pub controller_text : ControllerPart → List ℕ
controller_text c =
    opens (codes "point") (decimal c.point) ++ member (codes "reported") (array (map decimal c.reported))
    ++ member (codes "committed") (decimal c.committed) ++ member (codes "held") (array (map held_text c.held))
    ++ member (codes "released") (decimal c.released) ++ closes

-- a state

-- the first so many nodes
abbrev pub node_texts : ℕ → State → List (List ℕ)
node_texts zero s = []
node_texts (suc n) s = node_texts n s ++ node_text n (node_part s n) ∷ []

-- those of the first so many blocks' homes that aren't as at the start
unfoldable pub home_texts : ImageData → ℕ → State → List (List ℕ)
home_texts image zero s = []
home_texts image (suc block) s =
    home_texts image block s ++ (if is_as_at_start image block (home_of s.fabric block) then []
    else other_home_text block (home_of s.fabric block) ∷ [])

unfoldable pub state_text : ImageData → State → List ℕ
state_text image s =
    opens (codes "nodes") (array (node_texts (length s.fabric.nodes) s))
    ++ member (codes "homes") (array (home_texts image block_count s))
    ++ member (codes "net") (net_text (length s.fabric.nodes) s.fabric.net)
    ++ member (codes "controller") (controller_text (controller_part s)) ++ closes

-- after an event

abbrev pub if_told : Bool → List ℕ → List ℕ
if_told told text = if told then text else codes "null"

-- these parts, each whole
unfoldable pub parts_text : ImageData → State → List ℕ → List ℕ → Bool → Bool → List ℕ
parts_text image s nodes homes net controller =
    opens (codes "nodes") (array (map (λ n. node_text n (node_part s n)) nodes))
    ++ member (codes "homes") (array (map (λ block. home_text image block (home_of s.fabric block)) homes))
    ++ member (codes "net") (if_told net (net_text (length s.fabric.nodes) s.fabric.net))
    ++ member (codes "controller") (if_told controller (controller_text (controller_part s))) ++ closes

-- what is told of the state after an event that may have touched these parts
abbrev pub told_text : ImageData → State → TouchedParts → List ℕ
told_text image s (OnlyThese nodes homes net controller) = member (codes "parts") (parts_text image s nodes homes net controller)
told_text image s AllParts = member (codes "state") (state_text image s)
