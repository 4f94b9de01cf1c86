-- The records of accesses of every block, and what each event of the fabric makes of them.
use Rattle.std.specs.Prelude.{◌≡◌, ℕ, ◌+◌, ◌<◌, ◌≤◌, nat_eq, if◌then◌else◌, length, Option, Some, None}
use Rattle.sn_model.specs.declared.net.News.{News}
use Rattle.sn_model.specs.declared.net.News.TheVariants.{LostCopy, Ready, Advance}
use Rattle.sn_model.specs.Caches.{block_count}
use Rattle.sn_model.specs.Fabric.{Fabric, FabricStep}
use Rattle.sn_model.specs.MachineEvents.{is_edged, is_recovered}
use Rattle.sn_model.specs.FabricEvents.{FabricEvent, Write, Edge, Advance as Advances, Recover}
use Rattle.sn_coherence.specs.RecordsInvariant.{RecordsInvariant}
use Rattle.sn_coherence.specs.Records.{Records, unreserves, hears, rolls_back}
use Rattle.fabric_coherence.specs.View.{GhostState, block_seen}
use Rattle.fabric_coherence.specs.Coherent.{FabricInvariant}
use Rattle.fabric_coherence.specs.Events.{MayBe}

-- all sentences hold of each block, and those on its records of each block's records, with something beside the fabric
abbrev pub KeepsRecords : Fabric → (ℕ → Records) → Type 0
KeepsRecords s r = (t : GhostState) × FabricInvariant s t × ((b : ℕ) → b < block_count → RecordsInvariant (block_seen s t b) (r b))

-- what becomes of the records of block b by what an event tells: a lost copy loses its reservation, a report is heard
abbrev pub heard_by : Option News → ℕ → Records → Records
heard_by None b x = x
heard_by (Some (LostCopy n block)) b x = if nat_eq b block then unreserves x n else x
heard_by (Some (Ready n k)) b x = hears x n k
heard_by (Some (Advance n k)) b x = x

-- a clock edge that is done ends the reservation of its node; a recovery leaves the records below its checkpoint
abbrev pub noted_by : Fabric → FabricEvent → FabricStep → ℕ → Records → Records
noted_by s (Edge n) moved b x = if is_edged moved.answer then unreserves x n else x
noted_by s (Recover k) moved b x = if is_recovered moved.answer then rolls_back x (length s.nodes) k else x
noted_by s _ moved b x = heard_by moved.told b x

-- what is told names a node and a block that are there, and no point above the recovery point
abbrev pub IsOfFabric : Fabric → Option News → Type 0
IsOfFabric s None = Unit {0}
IsOfFabric s (Some (LostCopy n block)) = (n < length s.nodes) × (block < block_count)
IsOfFabric s (Some (Ready n k)) = n < length s.nodes
IsOfFabric s (Some (Advance n k)) = (n < length s.nodes) × (k ≤ s.point)

-- the records after an event that came to this
abbrev pub recorded_by : Fabric → (ℕ → Records) → FabricEvent → FabricStep → ℕ → Records
recorded_by s r event moved b = noted_by s event moved b (r b)

-- every node has reported more than the point, as each block's records say
abbrev pub HaveReported : Fabric → (ℕ → Records) → Type 0
HaveReported s r = (b n : ℕ) → b < block_count → n < length s.nodes → s.point < (r b).reported n

-- when an event can happen beside these records: a write is the end of an access, of which more is said than of an event;
-- the point rises where every node has reported more
abbrev pub MayBeRecorded : Fabric → (ℕ → Records) → FabricEvent → Type 0
MayBeRecorded s r (Write n w) = ⊥
MayBeRecorded s r (Advances k) = (k ≡ s.point + 1) × HaveReported s r
MayBeRecorded s r event = MayBe s event

-- these records, with others of block b
abbrev pub at_block : ℕ → Records → (ℕ → Records) → ℕ → Records
at_block b x r o = if nat_eq o b then x else r o
