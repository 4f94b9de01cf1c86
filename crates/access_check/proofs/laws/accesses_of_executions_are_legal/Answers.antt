use Rattle.std.proofs.Common.{refl, sym, ap}
use Rattle.rv_core.specs.Flat.{flat_start, core_at, initial_memory}
use Rattle.sn_consistency.specs.Projections.{block_of_state}
use Rattle.sn_consistency.proofs.Start.{start_shows}
use Rattle.sn_consistency.proofs.ProjectionLaw.{law_to}
use Rattle.access_check.specs.Legal.{memory_of}
use Rattle.rv_core.specs.Core.{is_reserved}
use Rattle.access_check.proofs.Fitting.{all_fit}
use Rattle.access_check.proofs.Starts.{start_free}
use Rattle.access_check.proofs.Traces.{legal_from}
use Rattle.access_check.proofs.laws.accesses_of_executions_are_legal.Goals as goal

pub returns-clause-inside : goal.returns-clause-inside
returns-clause-inside c = λ image nodes rs. all_fit image (core_at (flat_start image nodes)) rs

pub returns-clause-legal : goal.returns-clause-legal
returns-clause-legal c = λ image nodes rs h.
    let s = flat_start image nodes in
    let g = law_to image nodes s (start_shows image nodes) rs h in
    legal_from image nodes (memory_of (initial_memory image)) (core_at s) (block_of_state s)
    (record { content = λ b. refl; intact = λ b n. sym (ap (λ o. is_reserved o b) (start_free image nodes n)); reserved = λ n. sym (start_free image nodes n) }) rs g.cores g.blocks
