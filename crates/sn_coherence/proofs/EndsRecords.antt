-- The start has all of the records' sentences, and so has what a recovery leaves.
use Rattle.std.proofs.Common.{◌≡◌, ℕ, true, arith}
use Rattle.std.proofs.lemmas.Bool.Decides.{nat_tests}
use Rattle.sn_coherence.specs.Block.{Block, Content}
use Rattle.sn_coherence.specs.OtherEvents.{start, recover}
use Rattle.sn_coherence.specs.Invariant.{Clocks, Nodes, Cuts, BlockInvariant, is_settled}
use Rattle.sn_coherence.specs.Records.{Records, rolls_back, no_records}
use Rattle.sn_coherence.specs.RecordsInvariant.{Reports, Contents, Accesses, CutContents, RecordsInvariant}
use Rattle.sn_coherence.proofs.Ends.{point_settled}

pub start_recorded : (home : ℕ) (v : Content) → RecordsInvariant (start home v) (no_records v)
start_recorded home v = record {
  reports = grind (arith, nat_tests);
  contents = grind (arith, nat_tests);
  accesses = grind (arith, nat_tests);
  cut_contents = grind (arith, nat_tests);
}

module _ (N : ℕ) (b : Block) (r : Records) where
  recover_reports : Reports b r → Reports (recover N b) (rolls_back r N b.point)
  recover_reports p = grind (arith, nat_tests)

  recover_contents : Contents b r → CutContents b r → Contents (recover N b) (rolls_back r N b.point)
  recover_contents t d = grind (arith, nat_tests, t.unwritten b.point)

  recover_accesses : is_settled b b.point ≡ true → Clocks N b → Nodes N b → Cuts b → Accesses b r →
      Accesses (recover N b) (rolls_back r N b.point)
  recover_accesses settled c z u acc = grind (arith, nat_tests, u.one)

  recover_cut_contents : CutContents b r → CutContents (recover N b) (rolls_back r N b.point)
  recover_cut_contents d = grind (arith, nat_tests)

  pub recover_recorded : BlockInvariant N b → RecordsInvariant b r → RecordsInvariant (recover N b) (rolls_back r N b.point)
  recover_recorded k v = record {
    reports = recover_reports v.reports;
    contents = recover_contents v.contents v.cut_contents;
    accesses = recover_accesses (point_settled N b k.clocks k.stages) k.clocks k.nodes k.cuts v.accesses;
    cut_contents = recover_cut_contents v.cut_contents;
  }
