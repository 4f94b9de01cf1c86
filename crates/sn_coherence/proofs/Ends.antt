-- The start has all of it, and so has what a recovery leaves.
use Rattle.std.proofs.Common.{◌≡◌, ℕ, ◌<◌, true, arith}
use Rattle.std.proofs.lemmas.Bool.Decides.{nat_tests}
use Rattle.sn_coherence.specs.Block.{Block, Content}
use Rattle.sn_coherence.specs.OtherEvents.{start, recover}
use Rattle.sn_coherence.specs.Invariant.{Clocks, Nodes, Stages, Requests, Owners, Acknowledgements, Sharing, Logs, Cuts, Frames, BlockInvariant}
use Rattle.sn_coherence.specs.Invariant.{is_settled}
use Rattle.sn_coherence.proofs.Counts.{no_count}

pub start_kept : (N home : ℕ) (v : Content) → home < N → BlockInvariant N (start home v)
start_kept N home v low = record {
  clocks = grind (arith, nat_tests);
  nodes = grind (arith, nat_tests);
  stages = grind (arith, nat_tests);
  requests = grind (arith, nat_tests);
  owners = grind (arith, nat_tests);
  waits = grind (arith, nat_tests, no_count N);
  sharing = grind (arith, nat_tests);
  logs = grind (arith, nat_tests);
  cuts = grind (arith, nat_tests);
  frames = grind (arith, nat_tests);
}

-- whatever is open was begun at or above the point, so the point is settled
pub point_settled : (N : ℕ) (b : Block) → Clocks N b → Stages b → is_settled b b.point ≡ true
point_settled N b c s = grind (arith, nat_tests)

module _ (N : ℕ) (b : Block) (settled : is_settled b b.point ≡ true) where
  recover_clocks : Clocks N b → Clocks N (recover N b)
  recover_clocks c = grind (arith, nat_tests)

  recover_nodes : Cuts b → Nodes N b → Nodes N (recover N b)
  recover_nodes u z = grind (arith, nat_tests, u.one)

  recover_stages : Stages b → Stages (recover N b)
  recover_stages s = grind (arith, nat_tests)

  recover_requests : Requests (recover N b)
  recover_requests = grind (arith, nat_tests)

  recover_owners : Cuts b → Owners (recover N b)
  recover_owners u = grind (arith, nat_tests)

  recover_waits : Acknowledgements N (recover N b)
  recover_waits = grind (arith, nat_tests, no_count N)

  recover_sharing : Cuts b → Sharing (recover N b)
  recover_sharing u = grind (arith, nat_tests, u.one)

  recover_logs : Logs b → Logs (recover N b)
  recover_logs l = grind (arith, nat_tests)

  recover_cuts : Cuts b → Cuts (recover N b)
  recover_cuts u = grind (arith, nat_tests)

  recover_frames : Clocks N b → Frames N b → Frames N (recover N b)
  recover_frames c f = grind (arith, nat_tests)

pub recover_kept : (N : ℕ) (b : Block) → BlockInvariant N b → BlockInvariant N (recover N b)
recover_kept N b k = record {
  clocks = recover_clocks N b settled k.clocks;
  nodes = recover_nodes N b settled k.cuts k.nodes;
  stages = recover_stages N b settled k.stages;
  requests = recover_requests N b settled;
  owners = recover_owners N b settled k.cuts;
  waits = recover_waits N b settled;
  sharing = recover_sharing N b settled k.cuts;
  logs = recover_logs N b settled k.logs;
  cuts = recover_cuts N b settled k.cuts;
  frames = recover_frames N b settled k.clocks k.frames;
}
  where
    settled : is_settled b b.point ≡ true
    settled = point_settled N b k.clocks k.stages
