use Rattle.rv_core.specs.Core.{start_of}
use Rattle.trace_check.proofs.CoreReplay.{IsReplayed}
use Rattle.trace_check.proofs.core_replay.replay.Given as goal

-- the core after the records so far, and what its own among them did
abbrev pub invariant-records : goal.invariant-records
invariant-records l = IsReplayed l.image l.nodes l.parts l.core (start_of l.core l.image.entry) l.records l.place l.state l.tagged
