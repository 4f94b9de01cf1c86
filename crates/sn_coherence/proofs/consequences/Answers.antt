use Rattle.std.proofs.Common.{ℕ, ◌+◌, arith}
use Rattle.sn_coherence.specs.Block.{Block}
use Rattle.sn_coherence.specs.Invariant.{BlockInvariant}
use Rattle.sn_coherence.specs.Events.{NothingUnfinished}
use Rattle.sn_coherence.specs.Records.{Records}
use Rattle.sn_coherence.specs.RecordsInvariant.{RecordsInvariant}
use Rattle.sn_coherence.specs.Consequences.{HasOneHolder, HasContent}
use Rattle.sn_coherence.proofs.consequences.Goals as goal
use Rattle.sn_coherence.proofs.WholeRecords.{nothing_unfinished}
use Rattle.sn_coherence.proofs.WhatFollows.{kept_meets_rows, kept_one_holder, kept_content, kept_restored}
use Rattle.sn_coherence.proofs.Runs.{kept_coherent}

pub returns-clause-rows : goal.returns-clause-rows
returns-clause-rows c = kept_meets_rows

pub returns-clause-coherent : goal.returns-clause-coherent
returns-clause-coherent c = kept_coherent

-- what every node has reported is unfinished nowhere, so the next cut is settled
validated : (N : ℕ) (b : Block) (r : Records) → BlockInvariant N b → RecordsInvariant b r → NothingUnfinished N b (b.point + 1) →
    NothingUnfinished N b (b.point + 1) × HasOneHolder N b (b.point + 1) × HasContent b r (b.point + 1)
validated N b r k v u = (u, kept_one_holder N b k (b.point + 1) (omega arith) u.home, kept_content N b r v (b.point + 1) (omega arith))

pub returns-clause-validated : goal.returns-clause-validated
returns-clause-validated c N b r k v m = validated N b r k v (nothing_unfinished N b r k v.reports m)

pub returns-clause-restored : goal.returns-clause-restored
returns-clause-restored c = kept_restored
