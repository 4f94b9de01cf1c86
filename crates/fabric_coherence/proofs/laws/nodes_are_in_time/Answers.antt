use Rattle.std.proofs.Common.{arith}
use Rattle.sn_coherence.specs.Invariant.{Clocks}
use Rattle.fabric_coherence.specs.View.{block_seen}
use Rattle.std.specs.Prelude.{length}
use Rattle.fabric_coherence.proofs.laws.nodes_are_in_time.Goals as goal

pub returns : goal.returns
returns c = λ s k n l.
    let clocks : Clocks (length s.nodes) (block_seen s k.0 0) = (k.1.blocks 0 (omega arith)).clocks in
    record { known = clocks.known_point n l; reached = clocks.point_now n l; few = clocks.now_known n l }
