-- A block at rest has all of it.
use Rattle.std.proofs.Common.{◌≡◌, ℕ, ◌<◌, Bool, true, false, arith}
use Rattle.std.proofs.lemmas.Bool.Decides.{nat_tests}
use Rattle.sn_coherence.specs.Block.{Block, Content}
use Rattle.sn_coherence.specs.OtherEvents.{resting}
use Rattle.sn_coherence.specs.Invariant.{Clocks, Nodes, Stages, Requests, Owners, Acknowledgements, Sharing, Logs, Cuts, Frames, BlockInvariant}
use Rattle.sn_coherence.specs.Records.{Records, resting_records}
use Rattle.sn_coherence.specs.RecordsInvariant.{Reports, Contents, Accesses, CutContents, RecordsInvariant}
use Rattle.sn_coherence.proofs.Counts.{no_count}

module _ (N point next home : ℕ) (at_home : Bool) (owner : ℕ) (v : Content) (low : home < N) (there : at_home ≡ false → owner < N) where
  pub rest_kept : BlockInvariant N (resting N point next home at_home owner v)
  rest_kept = record {
    clocks = grind (arith, nat_tests);
    nodes = grind (arith, nat_tests);
    stages = grind (arith, nat_tests);
    requests = grind (arith, nat_tests);
    owners = grind (arith, nat_tests);
    waits = grind (arith, nat_tests, no_count N);
    sharing = grind (arith, nat_tests);
    logs = grind (arith, nat_tests);
    cuts = grind (arith, nat_tests);
    frames = grind (arith, nat_tests);
  }

  pub rest_recorded : RecordsInvariant (resting N point next home at_home owner v) (resting_records N point v)
  rest_recorded = record {
    reports = grind (arith, nat_tests);
    contents = grind (arith, nat_tests);
    accesses = grind (arith, nat_tests);
    cut_contents = grind (arith, nat_tests);
  }
