-- Frames: each row and event keeps the frames at the edges.
use Rattle.std.proofs.Common.{◌≡◌, ◌≢◌, ℕ, ◌+◌, ◌<◌, true, false, ◌⊎◌, arith}
use Rattle.std.proofs.lemmas.Bool.Decides.{nat_tests}
use Rattle.sn_coherence.specs.Block.{Block, Content, NoLine, Shared, Nothing, Elsewhere, NoPut, PutElsewhere, Idle, Move, GetS, GetM}
use Rattle.sn_coherence.specs.Block.{FwdGetS, FwdGetM, Inv, DataS, DataM, DataE, UpgOk, InvAck, Unblock, PutReq, PutData, PutGo, PutDone}
use Rattle.sn_coherence.specs.Block.{Advance, is_owned, is_writable, is_here}
use Rattle.sn_coherence.specs.CacheRows.{forward_read, forward_write, invalidate, data_shared, data_modified_open, data_modified_complete}
use Rattle.sn_coherence.specs.CacheRows.{upgrade_granted_open, upgrade_granted_complete, acknowledge_open, acknowledge_complete, put_go}
use Rattle.sn_coherence.specs.CacheRows.{put_done, data_exclusive}
use Rattle.sn_coherence.specs.HomeRows.{read_at_home, read_at_owner, take, move_ownership, upgrade, unblock_move, unblock_other, put_begins}
use Rattle.sn_coherence.specs.HomeRows.{put_is_stale, put_data, grant_exclusive}
use Rattle.sn_coherence.specs.OtherEvents.{begin_read_miss, begin_write_miss, begin_put, begin_miss_elsewhere, end_miss_elsewhere}
use Rattle.sn_coherence.specs.OtherEvents.{begin_put_elsewhere, end_put_elsewhere, numbers_elsewhere, store, evict_shared, edge, report}
use Rattle.sn_coherence.specs.OtherEvents.{validate, lose, deliver_advance}
use Rattle.sn_coherence.specs.Invariant.{Clocks, Nodes, Stages, Requests, Owners, Acknowledgements, Logs, Frames}
use Rattle.sn_coherence.specs.Events.{Arrives, Owns, OtherOwns, other_sharers, NothingUnfinished, Free}
use Rattle.sn_coherence.proofs.Rows.{At, IsLast}

module _ (N : ℕ) (b : Block) (i : ℕ) (frames : Frames N b) (stages : Stages b) (requests : Requests b) (logs : Logs b) (owners : Owners b) (clocks : Clocks N b) (nodes : Nodes N b) where
  -- The cache's rows.

  pub forward_read_frames : Arrives b i FwdGetS → Frames N (forward_read b i)
  forward_read_frames arrives = grind (arith, nat_tests, requests.one_get i)

  pub forward_write_frames : Arrives b i FwdGetM → Frames N (forward_write b i)
  forward_write_frames arrives = grind (arith, nat_tests, requests.one_get i)

  pub invalidate_frames : Acknowledgements N b → Arrives b i Inv → Frames N (invalidate b i)
  invalidate_frames waits arrives = grind (arith, nat_tests, requests.one_get i)

  pub data_shared_frames : Arrives b i DataS → Frames N (data_shared b i)
  data_shared_frames arrives = grind (arith, nat_tests, requests.one_get i)

  pub data_modified_open_frames : Arrives b i DataM → (b.miss (b.net i).to).acks ≢ (b.net i).due → Frames N (data_modified_open b i)
  data_modified_open_frames arrives some_lack = grind (arith, nat_tests, requests.one_get i)

  pub data_modified_complete_frames : Arrives b i DataM → (b.miss (b.net i).to).acks ≡ (b.net i).due → Frames N (data_modified_complete b i)
  data_modified_complete_frames arrives all_in = grind (arith, nat_tests, requests.one_get i)

  pub upgrade_granted_open_frames : Arrives b i UpgOk → (b.miss (b.net i).to).acks ≢ (b.net i).due → Frames N (upgrade_granted_open b i)
  upgrade_granted_open_frames arrives some_lack = grind (arith, nat_tests, requests.one_get i)

  pub upgrade_granted_complete_frames : Arrives b i UpgOk → (b.miss (b.net i).to).acks ≡ (b.net i).due →
      Frames N (upgrade_granted_complete b i)
  upgrade_granted_complete_frames arrives all_in = grind (arith, nat_tests, requests.one_get i)

  pub acknowledge_open_frames : Acknowledgements N b → Arrives b i InvAck → IsLast b i ≡ false → Frames N (acknowledge_open b i)
  acknowledge_open_frames waits arrives not_last = grind (arith, nat_tests, requests.one_get i)

  pub acknowledge_complete_frames : Acknowledgements N b → Arrives b i InvAck → IsLast b i ≡ true → Frames N (acknowledge_complete b i)
  acknowledge_complete_frames waits arrives last = grind (arith, nat_tests, requests.one_get i)

  pub put_go_frames : Arrives b i PutGo → Frames N (put_go b i)
  put_go_frames arrives = grind (arith, nat_tests, requests.one_get i)

  pub put_done_frames : Arrives b i PutDone → Frames N (put_done b i)
  put_done_frames arrives = grind (arith, nat_tests, requests.one_get i)

  pub data_exclusive_frames : Arrives b i DataE → Frames N (data_exclusive b i)
  data_exclusive_frames arrives = grind (arith, nat_tests, requests.one_get i)

  -- The home's rows.

  pub read_at_home_frames : At b i GetS → b.kind ≡ Idle → b.at_home ≡ true → Frames N (read_at_home b i)
  read_at_home_frames arrives idle home_owns = grind (arith, nat_tests, requests.one_get i)

  pub read_at_owner_frames : At b i GetS → b.kind ≡ Idle → b.at_home ≡ false → Frames N (read_at_owner b i)
  read_at_owner_frames arrives idle cache_owns = grind (arith, nat_tests, requests.one_get i)

  pub take_frames : (targets : ℕ → ℕ) (due : ℕ) → At b i GetM → b.kind ≡ Idle → b.at_home ≡ true → Frames N (take b i targets due)
  take_frames targets due arrives idle home_owns = record {
    holds_framed = λ m1 y e1 e2 e3 e4. grind (arith, nat_tests);
    miss_framed = λ m1 y e1 e2 e3. grind (arith, nat_tests);
    get_issued = λ x e1. grind (arith, nat_tests);
    issued_begun = λ e1 e2. grind (arith, nat_tests);
  }

  pub move_ownership_frames : (targets : ℕ → ℕ) (due : ℕ) → At b i GetM → b.kind ≡ Idle → OtherOwns b (b.net i).from →
      Frames N (move_ownership b i targets due)
  move_ownership_frames targets due arrives idle other_owns = record {
    holds_framed = λ m1 y e1 e2 e3 e4. grind (arith, nat_tests);
    miss_framed = λ m1 y e1 e2 e3. grind (arith, nat_tests);
    get_issued = λ x e1. grind (arith, nat_tests);
    issued_begun = λ e1 e2. grind (arith, nat_tests);
  }

  pub upgrade_frames : (targets : ℕ → ℕ) (due : ℕ) → At b i GetM → b.kind ≡ Idle → Owns b (b.net i).from →
      Frames N (upgrade b i targets due)
  upgrade_frames targets due arrives idle sender_owns = record {
    holds_framed = λ m1 y e1 e2 e3 e4. grind (arith, nat_tests);
    miss_framed = λ m1 y e1 e2 e3. grind (arith, nat_tests);
    get_issued = λ x e1. grind (arith, nat_tests);
    issued_begun = λ e1 e2. grind (arith, nat_tests);
  }

  pub unblock_move_frames : At b i Unblock → b.kind ≡ Move → Frames N (unblock_move b i)
  unblock_move_frames arrives move = grind (arith, nat_tests, requests.one_get i)

  pub unblock_other_frames : At b i Unblock → b.kind ≢ Move → Frames N (unblock_other b i)
  unblock_other_frames arrives no_move = grind (arith, nat_tests, requests.one_get i)

  pub put_begins_frames : At b i PutReq → b.kind ≡ Idle → Owns b (b.net i).from → Frames N (put_begins b i)
  put_begins_frames arrives idle sender_owns = grind (arith, nat_tests, requests.one_get i)

  pub put_is_stale_frames : At b i PutReq → b.kind ≡ Idle → (b.at_home ≡ true) ⊎ (b.owner ≢ (b.net i).from) → Frames N (put_is_stale b i)
  put_is_stale_frames arrives idle stale = grind (arith, nat_tests, requests.one_get i)

  pub put_data_frames : At b i PutData → Frames N (put_data b i)
  put_data_frames arrives = grind (arith, nat_tests, requests.one_get i)

  pub grant_exclusive_frames : At b i GetS → b.kind ≡ Idle → b.at_home ≡ true → ((x : ℕ) → other_sharers b i x ≡ false) →
      Frames N (grant_exclusive b i)
  grant_exclusive_frames arrives idle home_owns none = grind (arith, nat_tests, requests.one_get i)

  -- The other events.

  pub deliver_advance_frames : Arrives b i Advance → Frames N (deliver_advance b i)
  deliver_advance_frames arrives = grind (arith, nat_tests, requests.one_get i)

  pub lose_frames : Frames N (lose b i)
  lose_frames = grind (arith, nat_tests, requests.one_get i)

  pub begin_read_miss_frames : Free N b i → b.line i ≡ NoLine → Frames N (begin_read_miss b i)
  begin_read_miss_frames free line = grind (arith, nat_tests, requests.one_get i)

  pub begin_write_miss_frames : Free N b i → is_writable (b.line i) ≡ false → Frames N (begin_write_miss b i)
  begin_write_miss_frames free line = grind (arith, nat_tests, requests.one_get i)

  pub begin_put_frames : i < N → is_here (b.miss i).want ≡ false → b.putting i ≡ NoPut → is_owned (b.line i) ≡ true →
      Frames N (begin_put b i)
  begin_put_frames low no_miss no_put line = grind (arith, nat_tests, requests.one_get i)

  pub begin_miss_elsewhere_frames : i < N → (b.miss i).want ≡ Nothing → Frames N (begin_miss_elsewhere b i)
  begin_miss_elsewhere_frames low no_miss = grind (arith, nat_tests, requests.one_get i)

  pub end_miss_elsewhere_frames : (b.miss i).want ≡ Elsewhere → Frames N (end_miss_elsewhere b i)
  end_miss_elsewhere_frames there = grind (arith, nat_tests, requests.one_get i)

  pub begin_put_elsewhere_frames : i < N → b.putting i ≡ NoPut → Frames N (begin_put_elsewhere b i)
  begin_put_elsewhere_frames low no_put = grind (arith, nat_tests, requests.one_get i)

  pub end_put_elsewhere_frames : b.putting i ≡ PutElsewhere → Frames N (end_put_elsewhere b i)
  end_put_elsewhere_frames there = grind (arith, nat_tests, requests.one_get i)

  pub numbers_elsewhere_frames : Frames N (numbers_elsewhere b i)
  numbers_elsewhere_frames = grind (arith, nat_tests, requests.one_get i)

  pub store_frames : (v : Content) → Free N b i → is_writable (b.line i) ≡ true → Frames N (store b i v)
  store_frames v free line = grind (arith, nat_tests, requests.one_get i)

  pub evict_shared_frames : is_here (b.miss i).want ≡ false → b.line i ≡ Shared → Frames N (evict_shared b i)
  evict_shared_frames no_miss line = grind (arith, nat_tests, requests.one_get i)

  pub edge_frames : i < N → b.now i < b.known i + 4 → Frames N (edge b i)
  edge_frames low room = grind (arith, nat_tests, requests.one_get i)

  pub report_frames : (k : ℕ) → i < N → Frames N (report b i k)
  report_frames k low = grind (arith, nat_tests, requests.one_get i)

  pub validate_frames : NothingUnfinished N b (b.point + 1) → Frames N (validate N b)
  validate_frames finished = grind (arith, nat_tests, requests.one_get i)
