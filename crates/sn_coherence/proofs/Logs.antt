-- Logs: each row and event keeps how new the entries are.
use Rattle.std.proofs.Common.{◌≡◌, ◌≢◌, ℕ, ◌+◌, ◌<◌, true, false, ◌⊎◌, arith}
use Rattle.std.proofs.lemmas.Bool.Decides.{nat_tests}
use Rattle.sn_coherence.specs.Block.{Block, Content, NoLine, Shared, Nothing, Elsewhere, NoPut, PutElsewhere, Idle, Move, GetS, GetM}
use Rattle.sn_coherence.specs.Block.{FwdGetS, FwdGetM, Inv, DataS, DataM, DataE, UpgOk, InvAck, Unblock, PutReq, PutData, PutGo, PutDone}
use Rattle.sn_coherence.specs.Block.{Advance, is_owned, is_writable, is_here}
use Rattle.sn_coherence.specs.CacheRows.{forward_read, forward_write, invalidate, data_shared, data_modified_open, data_modified_complete}
use Rattle.sn_coherence.specs.CacheRows.{upgrade_granted_open, upgrade_granted_complete, acknowledge_open, acknowledge_complete, put_go}
use Rattle.sn_coherence.specs.CacheRows.{put_done, data_exclusive}
use Rattle.sn_coherence.specs.HomeRows.{read_at_home, read_at_owner, take, move_ownership, upgrade, unblock_move, unblock_other, put_begins}
use Rattle.sn_coherence.specs.HomeRows.{put_is_stale, put_data, grant_exclusive}
use Rattle.sn_coherence.specs.OtherEvents.{begin_read_miss, begin_write_miss, begin_put, begin_miss_elsewhere, end_miss_elsewhere}
use Rattle.sn_coherence.specs.OtherEvents.{begin_put_elsewhere, end_put_elsewhere, numbers_elsewhere, store, evict_shared, edge, report}
use Rattle.sn_coherence.specs.OtherEvents.{validate, lose, deliver_advance}
use Rattle.sn_coherence.specs.Invariant.{Clocks, Nodes, Stages, Requests, Owners, Acknowledgements, Sharing, Logs}
use Rattle.sn_coherence.specs.Events.{Arrives, Owns, OtherOwns, other_sharers, NothingUnfinished, Free}
use Rattle.sn_coherence.proofs.Rows.{At, IsLast}

module _ (N : ℕ) (b : Block) (i : ℕ) (logs : Logs b) (stages : Stages b) (owners : Owners b) (clocks : Clocks N b) (nodes : Nodes N b) where
  -- The cache's rows.

  pub forward_read_logs : Arrives b i FwdGetS → Logs (forward_read b i)
  forward_read_logs arrives = grind (arith, nat_tests)

  pub forward_write_logs : Arrives b i FwdGetM → Logs (forward_write b i)
  forward_write_logs arrives = grind (arith, nat_tests)

  pub invalidate_logs : Acknowledgements N b → Sharing b → Arrives b i Inv → Logs (invalidate b i)
  invalidate_logs waits sharing arrives = grind (arith, nat_tests)

  pub data_shared_logs : Sharing b → Requests b → Arrives b i DataS → Logs (data_shared b i)
  data_shared_logs sharing requests arrives = grind (arith, nat_tests)

  pub data_modified_open_logs : Arrives b i DataM → (b.miss (b.net i).to).acks ≢ (b.net i).due → Logs (data_modified_open b i)
  data_modified_open_logs arrives some_lack = grind (arith, nat_tests)

  pub data_modified_complete_logs : Arrives b i DataM → (b.miss (b.net i).to).acks ≡ (b.net i).due → Logs (data_modified_complete b i)
  data_modified_complete_logs arrives all_in = grind (arith, nat_tests)

  pub upgrade_granted_open_logs : Arrives b i UpgOk → (b.miss (b.net i).to).acks ≢ (b.net i).due → Logs (upgrade_granted_open b i)
  upgrade_granted_open_logs arrives some_lack = grind (arith, nat_tests)

  pub upgrade_granted_complete_logs : Arrives b i UpgOk → (b.miss (b.net i).to).acks ≡ (b.net i).due → Logs (upgrade_granted_complete b i)
  upgrade_granted_complete_logs arrives all_in = grind (arith, nat_tests)

  pub acknowledge_open_logs : Acknowledgements N b → Arrives b i InvAck → IsLast b i ≡ false → Logs (acknowledge_open b i)
  acknowledge_open_logs waits arrives not_last = grind (arith, nat_tests)

  pub acknowledge_complete_logs : Acknowledgements N b → Arrives b i InvAck → IsLast b i ≡ true → Logs (acknowledge_complete b i)
  acknowledge_complete_logs waits arrives last = grind (arith, nat_tests)

  pub put_go_logs : Arrives b i PutGo → Logs (put_go b i)
  put_go_logs arrives = grind (arith, nat_tests)

  pub put_done_logs : Arrives b i PutDone → Logs (put_done b i)
  put_done_logs arrives = grind (arith, nat_tests)

  pub data_exclusive_logs : Arrives b i DataE → Logs (data_exclusive b i)
  data_exclusive_logs arrives = grind (arith, nat_tests)

  -- The home's rows.

  pub read_at_home_logs : At b i GetS → b.kind ≡ Idle → b.at_home ≡ true → Logs (read_at_home b i)
  read_at_home_logs arrives idle home_owns = grind (arith, nat_tests)

  pub read_at_owner_logs : At b i GetS → b.kind ≡ Idle → b.at_home ≡ false → Logs (read_at_owner b i)
  read_at_owner_logs arrives idle cache_owns = grind (arith, nat_tests)

  pub take_logs : (targets : ℕ → ℕ) (due : ℕ) → At b i GetM → b.kind ≡ Idle → b.at_home ≡ true → Logs (take b i targets due)
  take_logs targets due arrives idle home_owns = record {
    holds_now = λ m1 y e1. grind (arith, nat_tests);
    named_home_now = λ y e1. grind (arith, nat_tests);
    named_now = λ y e1 e2. grind (arith, nat_tests);
    own = λ m1. grind (arith, nat_tests);
    below_owner = λ m1 m2 e1. grind (arith, nat_tests);
    below_home = λ m1 e1. grind (arith, nat_tests);
    below_given = λ m1 e1 e2. grind (arith, nat_tests);
    home_now = grind (arith, nat_tests);
    home_begun = λ e1. grind (arith, nat_tests);
    giver = λ e1 e2. grind (arith, nat_tests);
  }

  pub move_ownership_logs : (targets : ℕ → ℕ) (due : ℕ) → At b i GetM → b.kind ≡ Idle → OtherOwns b (b.net i).from →
      Logs (move_ownership b i targets due)
  move_ownership_logs targets due arrives idle other_owns = record {
    holds_now = λ m1 y e1. grind (arith, nat_tests);
    named_home_now = λ y e1. grind (arith, nat_tests);
    named_now = λ y e1 e2. grind (arith, nat_tests);
    own = λ m1. grind (arith, nat_tests);
    below_owner = λ m1 m2 e1. grind (arith, nat_tests);
    below_home = λ m1 e1. grind (arith, nat_tests);
    below_given = λ m1 e1 e2. grind (arith, nat_tests);
    home_now = grind (arith, nat_tests);
    home_begun = λ e1. grind (arith, nat_tests);
    giver = λ e1 e2. grind (arith, nat_tests);
  }

  pub upgrade_logs : (targets : ℕ → ℕ) (due : ℕ) → At b i GetM → b.kind ≡ Idle → Owns b (b.net i).from → Logs (upgrade b i targets due)
  upgrade_logs targets due arrives idle sender_owns = record {
    holds_now = λ m1 y e1. grind (arith, nat_tests);
    named_home_now = λ y e1. grind (arith, nat_tests);
    named_now = λ y e1 e2. grind (arith, nat_tests);
    own = λ m1. grind (arith, nat_tests);
    below_owner = λ m1 m2 e1. grind (arith, nat_tests);
    below_home = λ m1 e1. grind (arith, nat_tests);
    below_given = λ m1 e1 e2. grind (arith, nat_tests);
    home_now = grind (arith, nat_tests);
    home_begun = λ e1. grind (arith, nat_tests);
    giver = λ e1 e2. grind (arith, nat_tests);
  }

  pub unblock_move_logs : At b i Unblock → b.kind ≡ Move → Logs (unblock_move b i)
  unblock_move_logs arrives move = grind (arith, nat_tests)

  pub unblock_other_logs : At b i Unblock → b.kind ≢ Move → Logs (unblock_other b i)
  unblock_other_logs arrives no_move = grind (arith, nat_tests)

  pub put_begins_logs : At b i PutReq → b.kind ≡ Idle → Owns b (b.net i).from → Logs (put_begins b i)
  put_begins_logs arrives idle sender_owns = grind (arith, nat_tests)

  pub put_is_stale_logs : At b i PutReq → b.kind ≡ Idle → (b.at_home ≡ true) ⊎ (b.owner ≢ (b.net i).from) → Logs (put_is_stale b i)
  put_is_stale_logs arrives idle stale = grind (arith, nat_tests)

  pub put_data_logs : At b i PutData → Logs (put_data b i)
  put_data_logs arrives = grind (arith, nat_tests)

  pub grant_exclusive_logs : At b i GetS → b.kind ≡ Idle → b.at_home ≡ true → ((x : ℕ) → other_sharers b i x ≡ false) →
      Logs (grant_exclusive b i)
  grant_exclusive_logs arrives idle home_owns none = grind (arith, nat_tests)

  -- The other events.

  pub deliver_advance_logs : Arrives b i Advance → Logs (deliver_advance b i)
  deliver_advance_logs arrives = grind (arith, nat_tests)

  pub lose_logs : Logs (lose b i)
  lose_logs = grind (arith, nat_tests)

  pub begin_read_miss_logs : Free N b i → b.line i ≡ NoLine → Logs (begin_read_miss b i)
  begin_read_miss_logs free line = grind (arith, nat_tests)

  pub begin_write_miss_logs : Free N b i → is_writable (b.line i) ≡ false → Logs (begin_write_miss b i)
  begin_write_miss_logs free line = grind (arith, nat_tests)

  pub begin_put_logs : i < N → is_here (b.miss i).want ≡ false → b.putting i ≡ NoPut → is_owned (b.line i) ≡ true → Logs (begin_put b i)
  begin_put_logs low no_miss no_put line = grind (arith, nat_tests)

  pub begin_miss_elsewhere_logs : i < N → (b.miss i).want ≡ Nothing → Logs (begin_miss_elsewhere b i)
  begin_miss_elsewhere_logs low no_miss = grind (arith, nat_tests)

  pub end_miss_elsewhere_logs : (b.miss i).want ≡ Elsewhere → Logs (end_miss_elsewhere b i)
  end_miss_elsewhere_logs there = grind (arith, nat_tests)

  pub begin_put_elsewhere_logs : i < N → b.putting i ≡ NoPut → Logs (begin_put_elsewhere b i)
  begin_put_elsewhere_logs low no_put = grind (arith, nat_tests)

  pub end_put_elsewhere_logs : b.putting i ≡ PutElsewhere → Logs (end_put_elsewhere b i)
  end_put_elsewhere_logs there = grind (arith, nat_tests)

  pub numbers_elsewhere_logs : Logs (numbers_elsewhere b i)
  numbers_elsewhere_logs = grind (arith, nat_tests)

  pub store_logs : (v : Content) → Free N b i → is_writable (b.line i) ≡ true → Logs (store b i v)
  store_logs v free line = grind (arith, nat_tests)

  pub evict_shared_logs : is_here (b.miss i).want ≡ false → b.line i ≡ Shared → Logs (evict_shared b i)
  evict_shared_logs no_miss line = grind (arith, nat_tests)

  pub edge_logs : i < N → b.now i < b.known i + 4 → Logs (edge b i)
  edge_logs low room = grind (arith, nat_tests)

  pub report_logs : (k : ℕ) → i < N → Logs (report b i k)
  report_logs k low = grind (arith, nat_tests)

  pub validate_logs : NothingUnfinished N b (b.point + 1) → Logs (validate N b)
  validate_logs finished = grind (arith, nat_tests)
