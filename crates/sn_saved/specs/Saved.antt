-- A recovery point as it is saved, what of a machine is saved, and when a machine may go on from it.
use Rattle.std.specs.Prelude.{◌≡◌, ℕ, ◌+◌, ◌*◌, ◌%◌, ◌<◌, ◌≤◌, Bool, true, false, not, ◌&&◌, nat_eq, nat_le, if◌then◌else◌, List, [], ◌∷◌}
use Rattle.std.specs.Prelude.{◌++◌, map, filter, flat_map, length, Option, Some, None, ⊤}
use Rattle.std.specs.List.{All, find, range_with_len}
use Rattle.sn_base.specs.Config.{config_fits}
use Rattle.sn_base.specs.Image.{ImageData}
use Rattle.sn_base.specs.declared.config.Config.{Config}
use Rattle.rv_core.specs.declared.step.Record.{Record}
use Rattle.rv_core.specs.Execution.{IsExecution, in_of}
use Rattle.route_plan.specs.Distances.{Switches, is_dead}
use Rattle.route_plan.specs.Routes.{first_cut_off}
use Rattle.sn_saved.specs.declared.marks.Marks.{Marks}
use Rattle.sn_model.specs.Caches.{block_count}
use Rattle.sn_model.specs.Homes.{Holder, Itself, OfCache}
use Rattle.sn_model.specs.Fabric.{Fabric}
use Rattle.sn_model.specs.Cuts.{names_at}
use Rattle.sn_model.specs.Machine.{State, Processor}

-- all that a machine needs to go on from its recovery point, but for its program: its sizes; the point, the number of the next
-- message, how many events were applied, and a mark for each dead switch; the blocks that caches own at the cut and the bytes
-- that were given, each with its node; and the committed trace
pub record Saved : Type 0 where
  pub config : Config
  pub marks : Marks
  pub owners : List (ℕ × ℕ)
  pub given : List (ℕ × ℕ)
  pub committed : List Record

-- what of a machine is saved

-- a block, where a cache owns it
abbrev pub owner_named : ℕ → Holder → List (ℕ × ℕ)
owner_named block (Itself content) = []
owner_named block (OfCache node) = (block, node) ∷ []

-- the blocks that caches own at cut k, in order
unfoldable pub owners_at : Fabric → ℕ → List (ℕ × ℕ)
owners_at s k = flat_map (λ block. owner_named block (names_at s block k)) (range_with_len 0 block_count)

-- the bytes that were given to the nodes from a node on, in order of nodes and then as they were given
abbrev pub given_from : ℕ → List Processor → List (ℕ × ℕ)
given_from n [] = []
given_from n (processor ∷ processors) = map (λ byte. (n, byte)) processor.given ++ given_from (n + 1) processors

-- the recovery point of a machine in this state, to which so many events were applied
abbrev pub saved_of : Config → State → ℕ → Saved
saved_of config s applied = record {
  config = config;
  marks = record { point = s.fabric.point; next_id = s.fabric.net.next_id; applied = applied; dead = s.fabric.net.dead };
  owners = owners_at s.fabric s.fabric.point;
  given = given_from 0 s.processors;
  committed = s.committed;
}

-- what is said of a node or a block

-- the node whose cache owns a block, if one does
abbrev pub owner_in : List (ℕ × ℕ) → ℕ → Option ℕ
owner_in [] block = None
owner_in (owner ∷ owners) block = if nat_eq owner.0 block then Some owner.1 else owner_in owners block

-- how many of these blocks a node owns in a set
abbrev pub owned_in : List (ℕ × ℕ) → ℕ → ℕ → ℕ → ℕ
owned_in owners sets node set = length (filter (λ owner. nat_eq owner.1 node && nat_eq (owner.0 % sets) set) owners)

-- the bytes that were given to a node, in order
abbrev pub given_to : List (ℕ × ℕ) → ℕ → List ℕ
given_to given node = map (λ byte. byte.1) (filter (λ byte. nat_eq byte.0 node) given)

-- when a machine may go on from it

-- how many records, and how many bytes given, there may be; and how many events may have been applied
abbrev pub most_saved : ℕ
most_saved = 1000000

abbrev pub most_applied : ℕ
most_applied = 3000000000

-- each message took a number, of which an event takes 17 at most; and an event raises the point by one at most
abbrev pub marks_fit : Marks → Bool
marks_fit m =
    nat_le 1 m.next_id && nat_le m.next_id (17 * m.applied + 1) && nat_le m.point m.applied && nat_le m.applied most_applied

-- the switches that live
abbrev pub living_in : Saved → Switches
living_in saved = record { nodes = saved.config.nodes; dead = saved.marks.dead }

-- blocks in order, none twice; nodes in order; both from a least one on
abbrev pub AreAscending : ℕ → List (ℕ × ℕ) → Type 0
AreAscending least [] = ⊤
AreAscending least (owner ∷ owners) = (least ≤ owner.0) × AreAscending (owner.0 + 1) owners

abbrev pub AreInOrder : ℕ → List (ℕ × ℕ) → Type 0
AreInOrder least [] = ⊤
AreInOrder least (byte ∷ bytes) = (least ≤ byte.0) × AreInOrder byte.0 bytes

-- blocks and nodes that are there, in a machine of so many nodes
abbrev pub AreInside : ℕ → List (ℕ × ℕ) → Type 0
AreInside nodes owners = All (λ owner. (owner.0 < block_count) × (owner.1 < nodes)) owners

-- the place, counted from a number on, of the first block that gives its node's set more than it has ways, after those before it
abbrev pub full_from : Config → List (ℕ × ℕ) → ℕ → List (ℕ × ℕ) → Option ℕ
full_from config before place [] = None
full_from config before place (owner ∷ owners) =
    if nat_le config.ways (owned_in before config.sets owner.1 (owner.0 % config.sets)) then Some place
    else full_from config (before ++ owner ∷ []) (place + 1) owners

abbrev pub first_full : Saved → Option ℕ
first_full saved = full_from saved.config [] 0 saved.owners

-- whether a list begins with another
abbrev pub begins_with : List ℕ → List ℕ → Bool
begins_with list [] = true
begins_with [] (x ∷ xs) = false
begins_with (y ∷ list) (x ∷ xs) = nat_eq y x && begins_with list xs

-- the least node whose records have read what it wasn't given
abbrev pub first_unread : Saved → Option ℕ
first_unread saved =
    find (λ node. not (begins_with (given_to saved.given node) (in_of node saved.committed))) (range_with_len 0 saved.config.nodes)

-- what can be said of a recovery point: sizes that fit; numbers that some run could have come to; switches, blocks and nodes that are
-- there, each once and in order; and no more bytes and records than there may be, nor any where there was no event
pub record IsInForm (saved : Saved) : Type 0 where
  pub fits : config_fits saved.config ≡ true
  pub numbers : marks_fit saved.marks ≡ true
  pub marks : length saved.marks.dead ≡ 32
  pub switches : (s : ℕ) → 2 * saved.config.nodes ≤ s → is_dead saved.marks.dead s ≡ false
  pub owners : AreAscending 0 saved.owners
  pub blocks : AreInside saved.config.nodes saved.owners
  pub given : AreInOrder 0 saved.given
  pub nodes : All (λ byte. byte.0 < saved.config.nodes) saved.given
  pub few_given : (length saved.given ≤ most_saved) × (length saved.given ≤ saved.marks.applied)
  pub few_records : (length saved.committed ≤ most_saved) × (length saved.committed ≤ saved.marks.applied)
  pub untouched : saved.marks.applied ≡ 0 → ((s : ℕ) → is_dead saved.marks.dead s ≡ false) × (saved.owners ≡ [])
  pub unmoved : saved.marks.point ≡ 0 → saved.committed ≡ []

-- what a machine may go on from: no node is cut off; the owners fit the sets; the committed trace is an execution of the program; and
-- what it read was given
pub record IsAccepted (image : ImageData) (saved : Saved) : Type 0 where
  pub form : IsInForm saved
  pub joined : first_cut_off (living_in saved) ≡ None
  pub sets : first_full saved ≡ None
  pub execution : IsExecution image saved.config.nodes saved.committed
  pub read : first_unread saved ≡ None
