-- What every event keeps holds after a whole run.
use Rattle.std.proofs.Common.{ℕ, ◌≤◌, ◌<◌, List, [], ◌∷◌}
use Rattle.sn_coherence.specs.Block.{Block, Content}
use Rattle.sn_coherence.specs.OtherEvents.{start}
use Rattle.sn_coherence.specs.Invariant.{BlockInvariant}
use Rattle.sn_coherence.specs.Events.{Event, after}
use Rattle.sn_coherence.specs.Records.{Records, no_records, records_after_event}
use Rattle.sn_coherence.specs.RecordsInvariant.{RecordsInvariant}
use Rattle.sn_coherence.specs.Runs.{CanRun, block_after, records_after, IsCoherent}
use Rattle.sn_coherence.proofs.Ends.{start_kept}
use Rattle.sn_coherence.proofs.EndsRecords.{start_recorded}
use Rattle.sn_coherence.proofs.Whole.{event_kept}
use Rattle.sn_coherence.proofs.WholeRecords.{allowed, event_recorded}
use Rattle.sn_coherence.proofs.WhatFollows.{kept_meets_rows, kept_meets_notes, kept_one_holder, kept_content, kept_legal, kept_finished}
use Rattle.sn_coherence.proofs.WhatFollows.{kept_point}

pub run_kept : (N : ℕ) (b : Block) (r : Records) (es : List Event) → BlockInvariant N b → RecordsInvariant b r → CanRun N b r es →
    BlockInvariant N (block_after N b es) × RecordsInvariant (block_after N b es) (records_after N b r es)
run_kept N b r [] k v c = (k, v)
run_kept N b r (e ∷ es) k v c =
    run_kept N (after N b e) (records_after_event N b r e) es (event_kept N b e k (allowed N b r e k v c.0)) (event_recorded N b r e k v c.0) c.1

pub kept_coherent : (N : ℕ) (b : Block) (r : Records) → N ≤ 16 → BlockInvariant N b → RecordsInvariant b r → IsCoherent N b r
kept_coherent N b r few k v = record {
  rows = kept_meets_rows N b few k;
  notes = kept_meets_notes N b k;
  writer = k.sharing.writer_alone;
  copies = v.contents.of_line;
  accesses = kept_legal N b r v;
  holder = kept_one_holder N b k;
  content = kept_content N b r v;
  finished = kept_finished N b k;
  point = kept_point N b k;
}

pub run_coherent : (N home : ℕ) (v : Content) (es : List Event) → home < N → N ≤ 16 → CanRun N (start home v) (no_records v) es →
    IsCoherent N (block_after N (start home v) es) (records_after N (start home v) (no_records v) es)
run_coherent N home v es low few c =
    let k : _ = run_kept N (start home v) (no_records v) es (start_kept N home v low) (start_recorded home v) c in
    kept_coherent N _ _ few k.0 k.1
