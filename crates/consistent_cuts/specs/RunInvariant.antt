-- What holds of the machine at every moment of a run: both theorems together, and what ties them to the rest.
use Rattle.std.specs.Prelude.{◌≡◌, ℕ, List, length}
use Rattle.sn_base.specs.Image.{ImageData}
use Rattle.sn_model.specs.Machine.{State}
use Rattle.sn_model.specs.Trace.{TraceEntry}
use Rattle.sn_coherence.specs.Records.{Records}
use Rattle.sn_consistency.specs.Entries.{Entry}
use Rattle.sn_consistency.specs.Outline as sorted
use Rattle.fabric_bounds.specs.Recorded.{KeepsRecords}
use Rattle.consistent_cuts.specs.Outlines.{outline_of, start_places, IsRestShaped, Agrees}
use Rattle.consistent_cuts.specs.Lists.{IsTraced, IsSortedFrom}

-- with these records of each block, this sorted list, and these retirements along the run
pub record RunInvariant (image : ImageData) (s : State) (r : ℕ → Records) (list : ℕ → List Entry) (trace : List TraceEntry) : Type 0 where
  pub fabric : KeepsRecords s.fabric r
  pub shape : IsRestShaped s
  pub agrees : Agrees s r
  pub sorted : sorted.Keeps image (length s.fabric.nodes) (start_places image (length s.fabric.nodes)) (outline_of s r list)
  pub traced : IsTraced s trace
  pub made : IsSortedFrom image list trace

abbrev pub Joins : ImageData → State → List TraceEntry → Type 0
Joins image s trace = (r : ℕ → Records) × (list : ℕ → List Entry) × RunInvariant image s r list trace

-- what holds of a machine of so many nodes, with these retirements along its run
abbrev pub Holds : ImageData → ℕ → State → List TraceEntry → Type 0
Holds image nodes s trace = (length s.fabric.nodes ≡ nodes) × Joins image s trace
