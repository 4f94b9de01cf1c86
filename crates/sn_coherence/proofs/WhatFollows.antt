-- What follows from the sentences.
use Rattle.std.proofs.Common.{◌≡◌, ◌≢◌, ℕ, ◌≤◌, true, arith}
use Rattle.std.proofs.lemmas.Bool.Decides.{nat_tests}
use Rattle.sn_coherence.specs.Block.{Block}
use Rattle.sn_coherence.specs.OtherEvents.{recover}
use Rattle.sn_coherence.specs.Invariant.{Clocks, Nodes, Stages, Requests, Owners, Acknowledgements, Sharing, Logs, Cuts, BlockInvariant, count}
use Rattle.sn_coherence.specs.Invariant.{is_settled}
use Rattle.sn_coherence.specs.Events.{NothingUnfinished}
use Rattle.sn_coherence.specs.Records.{Records, rolls_back}
use Rattle.sn_coherence.specs.RecordsInvariant.{Contents, Accesses, CutContents, RecordsInvariant}
use Rattle.sn_coherence.specs.Consequences.{MeetsRows, MeetsNotes, HasOneHolder, HasContent, NoneBegun, IsLegal, IsRestored}
use Rattle.sn_coherence.proofs.Counts.{count_zero}
use Rattle.sn_coherence.proofs.Ends.{point_settled}

module _ (N : ℕ) (b : Block) where
  -- a node that is waited for is counted
  waited_counts : Nodes N b → (n : ℕ) → b.waited n ≡ true → count N b.waited ≢ 0
  waited_counts z n e = grind (arith, nat_tests, count_zero N b.waited, z.waited_low n)

  meets_rows : N ≤ 16 → Stages b → Requests b → Owners b → Acknowledgements N b → Sharing b → Nodes N b → MeetsRows b
  meets_rows few s q o w h z = record {
    forward_read = λ i e. grind (arith, nat_tests);
    forward_write = λ i e. grind (arith, nat_tests);
    invalidate = λ i e. grind (arith, nat_tests);
    data_shared = λ i e. grind (arith, nat_tests);
    data_modified = λ i e. grind (arith, nat_tests);
    upgrade_granted = λ i e. grind (arith, nat_tests);
    data_exclusive = λ i e. grind (arith, nat_tests);
    acknowledge = λ i e. grind (arith, nat_tests, waited_counts z (b.net i).from);
    put_go = λ i e. grind (arith, nat_tests);
    put_done = λ i e. grind (arith, nat_tests);
    home = q.to_home;
    read = λ i e1 e2 e3. grind (arith, nat_tests);
    unblock = λ i e. grind (arith, nat_tests);
    put_data = λ i e. grind (arith, nat_tests);
  }

  meets_notes : Stages b → Owners b → Logs b → MeetsNotes b
  meets_notes s o l = grind (arith, nat_tests)

  -- a cut below which nothing was begun is settled
  none_settled : Stages b → (j : ℕ) → NoneBegun b j → is_settled b j ≡ true
  none_settled s j e = grind (arith, nat_tests)

  one_holder : Stages b → Nodes N b → Cuts b → (j : ℕ) → b.point ≤ j → NoneBegun b j → HasOneHolder N b j
  one_holder s z u j l e = grind (arith, none_settled s j e)

  -- whatever is open was begun at or above the point
  finished : Clocks N b → NothingUnfinished N b b.point
  finished c = grind arith

  content : (r : Records) → CutContents b r → (j : ℕ) → b.point ≤ j → HasContent b r j
  content r d j l = grind arith

  legal : (r : Records) → Contents b r → Accesses b r → IsLegal N b r
  legal r t acc = grind (arith, nat_tests, t.unwritten)

  restored : (r : Records) → is_settled b b.point ≡ true → Cuts b → CutContents b r → IsRestored N (recover N b) (rolls_back r N b.point)
  restored r settled u d = grind (arith, nat_tests, u.one, u.held)

  pub kept_meets_rows : N ≤ 16 → BlockInvariant N b → MeetsRows b
  kept_meets_rows few k = meets_rows few k.stages k.requests k.owners k.waits k.sharing k.nodes

  pub kept_meets_notes : BlockInvariant N b → MeetsNotes b
  kept_meets_notes k = meets_notes k.stages k.owners k.logs

  pub kept_one_holder : BlockInvariant N b → (j : ℕ) → b.point ≤ j → NoneBegun b j → HasOneHolder N b j
  kept_one_holder k = one_holder k.stages k.nodes k.cuts

  pub kept_content : (r : Records) → RecordsInvariant b r → (j : ℕ) → b.point ≤ j → HasContent b r j
  kept_content r v = content r v.cut_contents

  pub kept_legal : (r : Records) → RecordsInvariant b r → IsLegal N b r
  kept_legal r v = legal r v.contents v.accesses

  pub kept_finished : BlockInvariant N b → NothingUnfinished N b b.point
  kept_finished k = finished k.clocks

  pub kept_point : BlockInvariant N b → HasOneHolder N b b.point
  kept_point k = one_holder k.stages k.nodes k.cuts b.point (omega arith) k.clocks.begun_point

  pub kept_restored : (r : Records) → BlockInvariant N b → RecordsInvariant b r → IsRestored N (recover N b) (rolls_back r N b.point)
  kept_restored r k v = restored r (point_settled N b k.clocks k.stages) k.cuts v.cut_contents
