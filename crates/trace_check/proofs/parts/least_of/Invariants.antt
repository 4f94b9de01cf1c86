use Rattle.std.proofs.Common.{ℕ, length}
use Rattle.projection_places.specs.Passes.{Passes}
use Rattle.trace_check.specs.Slots.{HasEffects}
use Rattle.trace_check.proofs.PartPlaces.{PartsBelow}
use Rattle.trace_check.proofs.parts.least_of.Given as goal

-- the least so far
abbrev pub invariant-parts : goal.invariant-parts
invariant-parts l = (N : ℕ) → HasEffects l.image N (length l.passed) l.records l.count l.slots → Passes (PartsBelow l.image N (length l.passed) l.records l.part) l.count l.least
