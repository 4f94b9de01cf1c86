-- Sharing: each row and event keeps who may have a copy beside whom.
use Rattle.std.proofs.Common.{◌≡◌, ◌≢◌, ℕ, ◌+◌, ◌<◌, true, false, ◌⊎◌, arith}
use Rattle.std.proofs.lemmas.Bool.Decides.{nat_tests}
use Rattle.sn_coherence.specs.Block.{Block, Content, NoLine, Shared, Nothing, Elsewhere, NoPut, PutElsewhere, Idle, Move, GetS, GetM}
use Rattle.sn_coherence.specs.Block.{FwdGetS, FwdGetM, Inv, DataS, DataM, DataE, UpgOk, InvAck, Unblock, PutReq, PutData, PutGo, PutDone}
use Rattle.sn_coherence.specs.Block.{Advance, is_owned, is_writable, is_here}
use Rattle.sn_coherence.specs.CacheRows.{forward_read, forward_write, invalidate, data_shared, data_modified_open, data_modified_complete}
use Rattle.sn_coherence.specs.CacheRows.{upgrade_granted_open, upgrade_granted_complete, acknowledge_open, acknowledge_complete, put_go}
use Rattle.sn_coherence.specs.CacheRows.{put_done, data_exclusive}
use Rattle.sn_coherence.specs.HomeRows.{read_at_home, read_at_owner, take, move_ownership, upgrade, unblock_move, unblock_other, put_begins}
use Rattle.sn_coherence.specs.HomeRows.{put_is_stale, put_data, grant_exclusive}
use Rattle.sn_coherence.specs.OtherEvents.{begin_read_miss, begin_write_miss, begin_put, begin_miss_elsewhere, end_miss_elsewhere}
use Rattle.sn_coherence.specs.OtherEvents.{begin_put_elsewhere, end_put_elsewhere, numbers_elsewhere, store, evict_shared, edge, report}
use Rattle.sn_coherence.specs.OtherEvents.{validate, lose, deliver_advance}
use Rattle.sn_coherence.specs.Invariant.{Nodes, Stages, Requests, Owners, Acknowledgements, Sharing}
use Rattle.sn_coherence.specs.Events.{Arrives, Owns, OtherOwns, other_sharers, NothingUnfinished, Free}
use Rattle.sn_coherence.proofs.Rows.{At, IsLast}
use Rattle.sn_coherence.proofs.Counts.{count_none}
use Rattle.sn_coherence.proofs.Acknowledged.{last_waited}

module _ (N : ℕ) (b : Block) (i : ℕ) (sharing : Sharing b) (stages : Stages b) (owners : Owners b) (requests : Requests b) (waits : Acknowledgements N b) (nodes : Nodes N b) where
  -- The cache's rows.

  pub forward_read_sharing : Arrives b i FwdGetS → Sharing (forward_read b i)
  forward_read_sharing arrives = grind (arith, nat_tests)

  pub forward_write_sharing : Arrives b i FwdGetM → Sharing (forward_write b i)
  forward_write_sharing arrives = grind (arith, nat_tests)

  pub invalidate_sharing : Arrives b i Inv → Sharing (invalidate b i)
  invalidate_sharing arrives = grind (arith, nat_tests)

  pub data_shared_sharing : Arrives b i DataS → Sharing (data_shared b i)
  data_shared_sharing arrives = grind (arith, nat_tests)

  pub data_modified_open_sharing : Arrives b i DataM → (b.miss (b.net i).to).acks ≢ (b.net i).due → Sharing (data_modified_open b i)
  data_modified_open_sharing arrives some_lack = grind (arith, nat_tests)

  pub data_modified_complete_sharing : Arrives b i DataM → (b.miss (b.net i).to).acks ≡ (b.net i).due → Sharing (data_modified_complete b i)
  data_modified_complete_sharing arrives all_in = grind (arith, nat_tests, count_none N b.waited)

  pub upgrade_granted_open_sharing : Arrives b i UpgOk → (b.miss (b.net i).to).acks ≢ (b.net i).due → Sharing (upgrade_granted_open b i)
  upgrade_granted_open_sharing arrives some_lack = grind (arith, nat_tests)

  pub upgrade_granted_complete_sharing : Arrives b i UpgOk → (b.miss (b.net i).to).acks ≡ (b.net i).due →
      Sharing (upgrade_granted_complete b i)
  upgrade_granted_complete_sharing arrives all_in = grind (arith, nat_tests, count_none N b.waited)

  pub acknowledge_open_sharing : Arrives b i InvAck → IsLast b i ≡ false → Sharing (acknowledge_open b i)
  acknowledge_open_sharing arrives not_last = grind (arith, nat_tests)

  pub acknowledge_complete_sharing : Arrives b i InvAck → IsLast b i ≡ true → Sharing (acknowledge_complete b i)
  acknowledge_complete_sharing arrives last = grind (arith, nat_tests, last_waited N b i waits nodes arrives last)

  pub put_go_sharing : Arrives b i PutGo → Sharing (put_go b i)
  put_go_sharing arrives = grind (arith, nat_tests)

  pub put_done_sharing : Arrives b i PutDone → Sharing (put_done b i)
  put_done_sharing arrives = grind (arith, nat_tests)

  pub data_exclusive_sharing : Arrives b i DataE → Sharing (data_exclusive b i)
  data_exclusive_sharing arrives = grind (arith, nat_tests)

  -- The home's rows.

  pub read_at_home_sharing : At b i GetS → b.kind ≡ Idle → b.at_home ≡ true → Sharing (read_at_home b i)
  read_at_home_sharing arrives idle home_owns = grind (arith, nat_tests)

  pub read_at_owner_sharing : At b i GetS → b.kind ≡ Idle → b.at_home ≡ false → Sharing (read_at_owner b i)
  read_at_owner_sharing arrives idle cache_owns = grind (arith, nat_tests)

  pub take_sharing : (targets : ℕ → ℕ) (due : ℕ) → At b i GetM → b.kind ≡ Idle → b.at_home ≡ true → Sharing (take b i targets due)
  take_sharing targets due arrives idle home_owns = record {
    listed = λ m1 e1. grind (arith, nat_tests);
    reader = λ e1. grind (arith, nat_tests);
    none_listed = λ m1 e1. grind (arith, nat_tests);
    owner_apart = λ e1. grind (arith, nat_tests);
    writer_alone = λ m1 m2 e1 e2 e3. grind (arith, nat_tests);
    read_given = λ m1 e1 e2. grind (arith, nat_tests);
  }

  pub move_ownership_sharing : (targets : ℕ → ℕ) (due : ℕ) → At b i GetM → b.kind ≡ Idle → OtherOwns b (b.net i).from →
      Sharing (move_ownership b i targets due)
  move_ownership_sharing targets due arrives idle other_owns = record {
    listed = λ m1 e1. grind (arith, nat_tests);
    reader = λ e1. grind (arith, nat_tests);
    none_listed = λ m1 e1. grind (arith, nat_tests);
    owner_apart = λ e1. grind (arith, nat_tests);
    writer_alone = λ m1 m2 e1 e2 e3. grind (arith, nat_tests);
    read_given = λ m1 e1 e2. grind (arith, nat_tests);
  }

  pub upgrade_sharing : (targets : ℕ → ℕ) (due : ℕ) → At b i GetM → b.kind ≡ Idle → Owns b (b.net i).from →
      Sharing (upgrade b i targets due)
  upgrade_sharing targets due arrives idle sender_owns = record {
    listed = λ m1 e1. grind (arith, nat_tests);
    reader = λ e1. grind (arith, nat_tests);
    none_listed = λ m1 e1. grind (arith, nat_tests);
    owner_apart = λ e1. grind (arith, nat_tests);
    writer_alone = λ m1 m2 e1 e2 e3. grind (arith, nat_tests);
    read_given = λ m1 e1 e2. grind (arith, nat_tests);
  }

  pub unblock_move_sharing : At b i Unblock → b.kind ≡ Move → Sharing (unblock_move b i)
  unblock_move_sharing arrives move = grind (arith, nat_tests)

  pub unblock_other_sharing : At b i Unblock → b.kind ≢ Move → Sharing (unblock_other b i)
  unblock_other_sharing arrives no_move = grind (arith, nat_tests)

  pub put_begins_sharing : At b i PutReq → b.kind ≡ Idle → Owns b (b.net i).from → Sharing (put_begins b i)
  put_begins_sharing arrives idle sender_owns = grind (arith, nat_tests)

  pub put_is_stale_sharing : At b i PutReq → b.kind ≡ Idle → (b.at_home ≡ true) ⊎ (b.owner ≢ (b.net i).from) → Sharing (put_is_stale b i)
  put_is_stale_sharing arrives idle stale = grind (arith, nat_tests)

  pub put_data_sharing : At b i PutData → Sharing (put_data b i)
  put_data_sharing arrives = grind (arith, nat_tests)

  pub grant_exclusive_sharing : At b i GetS → b.kind ≡ Idle → b.at_home ≡ true → ((x : ℕ) → other_sharers b i x ≡ false) →
      Sharing (grant_exclusive b i)
  grant_exclusive_sharing arrives idle home_owns none = grind (arith, nat_tests)

  -- The other events.

  pub deliver_advance_sharing : Arrives b i Advance → Sharing (deliver_advance b i)
  deliver_advance_sharing arrives = grind (arith, nat_tests)

  pub lose_sharing : Sharing (lose b i)
  lose_sharing = grind (arith, nat_tests)

  pub begin_read_miss_sharing : Free N b i → b.line i ≡ NoLine → Sharing (begin_read_miss b i)
  begin_read_miss_sharing free line = grind (arith, nat_tests)

  pub begin_write_miss_sharing : Free N b i → is_writable (b.line i) ≡ false → Sharing (begin_write_miss b i)
  begin_write_miss_sharing free line = grind (arith, nat_tests)

  pub begin_put_sharing : i < N → is_here (b.miss i).want ≡ false → b.putting i ≡ NoPut → is_owned (b.line i) ≡ true →
      Sharing (begin_put b i)
  begin_put_sharing low no_miss no_put line = grind (arith, nat_tests)

  pub begin_miss_elsewhere_sharing : i < N → (b.miss i).want ≡ Nothing → Sharing (begin_miss_elsewhere b i)
  begin_miss_elsewhere_sharing low no_miss = grind (arith, nat_tests)

  pub end_miss_elsewhere_sharing : (b.miss i).want ≡ Elsewhere → Sharing (end_miss_elsewhere b i)
  end_miss_elsewhere_sharing there = grind (arith, nat_tests)

  pub begin_put_elsewhere_sharing : i < N → b.putting i ≡ NoPut → Sharing (begin_put_elsewhere b i)
  begin_put_elsewhere_sharing low no_put = grind (arith, nat_tests)

  pub end_put_elsewhere_sharing : b.putting i ≡ PutElsewhere → Sharing (end_put_elsewhere b i)
  end_put_elsewhere_sharing there = grind (arith, nat_tests)

  pub numbers_elsewhere_sharing : Sharing (numbers_elsewhere b i)
  numbers_elsewhere_sharing = grind (arith, nat_tests)

  pub store_sharing : (v : Content) → Free N b i → is_writable (b.line i) ≡ true → Sharing (store b i v)
  store_sharing v free line = grind (arith, nat_tests)

  pub evict_shared_sharing : is_here (b.miss i).want ≡ false → b.line i ≡ Shared → Sharing (evict_shared b i)
  evict_shared_sharing no_miss line = grind (arith, nat_tests)

  pub edge_sharing : i < N → b.now i < b.known i + 4 → Sharing (edge b i)
  edge_sharing low room = grind (arith, nat_tests)

  pub report_sharing : (k : ℕ) → i < N → Sharing (report b i k)
  report_sharing k low = grind (arith, nat_tests)

  pub validate_sharing : NothingUnfinished N b (b.point + 1) → Sharing (validate N b)
  validate_sharing finished = grind (arith, nat_tests)
