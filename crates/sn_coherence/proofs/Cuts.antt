-- Cuts: each row and event keeps the holders at each cut.
use Rattle.std.proofs.Common.{◌≡◌, ◌≢◌, ℕ, ◌+◌, ◌<◌, true, false, ◌⊎◌, arith}
use Rattle.std.proofs.lemmas.Bool.Decides.{nat_tests}
use Rattle.sn_coherence.specs.Block.{Block, Content, NoLine, Shared, Nothing, Elsewhere, NoPut, PutElsewhere, Idle, Move, GetS, GetM}
use Rattle.sn_coherence.specs.Block.{FwdGetS, FwdGetM, Inv, DataS, DataM, DataE, UpgOk, InvAck, Unblock, PutReq, PutData, PutGo, PutDone}
use Rattle.sn_coherence.specs.Block.{Advance, is_owned, is_writable, is_here}
use Rattle.sn_coherence.specs.CacheRows.{forward_read, forward_write, invalidate, data_shared, data_modified_open, data_modified_complete}
use Rattle.sn_coherence.specs.CacheRows.{upgrade_granted_open, upgrade_granted_complete, acknowledge_open, acknowledge_complete, put_go}
use Rattle.sn_coherence.specs.CacheRows.{put_done, data_exclusive}
use Rattle.sn_coherence.specs.HomeRows.{read_at_home, read_at_owner, take, move_ownership, upgrade, unblock_move, unblock_other, put_begins}
use Rattle.sn_coherence.specs.HomeRows.{put_is_stale, put_data, grant_exclusive}
use Rattle.sn_coherence.specs.OtherEvents.{begin_read_miss, begin_write_miss, begin_put, begin_miss_elsewhere, end_miss_elsewhere}
use Rattle.sn_coherence.specs.OtherEvents.{begin_put_elsewhere, end_put_elsewhere, numbers_elsewhere, store, evict_shared, edge, report}
use Rattle.sn_coherence.specs.OtherEvents.{validate, lose, deliver_advance}
use Rattle.sn_coherence.specs.Invariant.{Clocks, Nodes, Stages, Owners, Acknowledgements, Sharing, Logs, Cuts}
use Rattle.sn_coherence.specs.Events.{Arrives, Owns, OtherOwns, other_sharers, NothingUnfinished, Free}
use Rattle.sn_coherence.proofs.Rows.{At, IsLast}

module _ (N : ℕ) (b : Block) (i : ℕ) (cuts : Cuts b) (logs : Logs b) (stages : Stages b) (owners : Owners b) (clocks : Clocks N b) (nodes : Nodes N b) where
  -- The cache's rows.

  pub forward_read_cuts : Arrives b i FwdGetS → Cuts (forward_read b i)
  forward_read_cuts arrives = grind (arith, nat_tests)

  pub forward_write_cuts : Arrives b i FwdGetM → Cuts (forward_write b i)
  forward_write_cuts arrives = grind (arith, nat_tests)

  pub invalidate_cuts : Acknowledgements N b → Sharing b → Arrives b i Inv → Cuts (invalidate b i)
  invalidate_cuts waits sharing arrives = grind (arith, nat_tests)

  pub data_shared_cuts : Sharing b → Arrives b i DataS → Cuts (data_shared b i)
  data_shared_cuts sharing arrives = grind (arith, nat_tests)

  pub data_modified_open_cuts : Arrives b i DataM → (b.miss (b.net i).to).acks ≢ (b.net i).due → Cuts (data_modified_open b i)
  data_modified_open_cuts arrives some_lack = grind (arith, nat_tests)

  pub data_modified_complete_cuts : Arrives b i DataM → (b.miss (b.net i).to).acks ≡ (b.net i).due → Cuts (data_modified_complete b i)
  data_modified_complete_cuts arrives all_in = grind (arith, nat_tests)

  pub upgrade_granted_open_cuts : Arrives b i UpgOk → (b.miss (b.net i).to).acks ≢ (b.net i).due → Cuts (upgrade_granted_open b i)
  upgrade_granted_open_cuts arrives some_lack = grind (arith, nat_tests)

  pub upgrade_granted_complete_cuts : Arrives b i UpgOk → (b.miss (b.net i).to).acks ≡ (b.net i).due → Cuts (upgrade_granted_complete b i)
  upgrade_granted_complete_cuts arrives all_in = grind (arith, nat_tests)

  pub acknowledge_open_cuts : Acknowledgements N b → Arrives b i InvAck → IsLast b i ≡ false → Cuts (acknowledge_open b i)
  acknowledge_open_cuts waits arrives not_last = grind (arith, nat_tests)

  pub acknowledge_complete_cuts : Acknowledgements N b → Arrives b i InvAck → IsLast b i ≡ true → Cuts (acknowledge_complete b i)
  acknowledge_complete_cuts waits arrives last = grind (arith, nat_tests)

  pub put_go_cuts : Arrives b i PutGo → Cuts (put_go b i)
  put_go_cuts arrives = grind (arith, nat_tests)

  pub put_done_cuts : Arrives b i PutDone → Cuts (put_done b i)
  put_done_cuts arrives = grind (arith, nat_tests)

  pub data_exclusive_cuts : Arrives b i DataE → Cuts (data_exclusive b i)
  data_exclusive_cuts arrives = grind (arith, nat_tests)

  -- The home's rows.

  pub read_at_home_cuts : At b i GetS → b.kind ≡ Idle → b.at_home ≡ true → Cuts (read_at_home b i)
  read_at_home_cuts arrives idle home_owns = grind (arith, nat_tests)

  pub read_at_owner_cuts : At b i GetS → b.kind ≡ Idle → b.at_home ≡ false → Cuts (read_at_owner b i)
  read_at_owner_cuts arrives idle cache_owns = grind (arith, nat_tests)

  pub take_cuts : (targets : ℕ → ℕ) (due : ℕ) → At b i GetM → b.kind ≡ Idle → b.at_home ≡ true → Cuts (take b i targets due)
  take_cuts targets due arrives idle home_owns = record {
    one = λ m1 y e1 e2 e3. grind (arith, nat_tests);
    held = λ y e1 e2 e3. grind (arith, nat_tests);
    named_still = λ y e1 e2. grind (arith, nat_tests);
    holds_still = λ m1 y e1 e2. grind (arith, nat_tests);
  }

  pub move_ownership_cuts : (targets : ℕ → ℕ) (due : ℕ) → At b i GetM → b.kind ≡ Idle → OtherOwns b (b.net i).from →
      Cuts (move_ownership b i targets due)
  move_ownership_cuts targets due arrives idle other_owns = record {
    one = λ m1 y e1 e2 e3. grind (arith, nat_tests);
    held = λ y e1 e2 e3. grind (arith, nat_tests);
    named_still = λ y e1 e2. grind (arith, nat_tests);
    holds_still = λ m1 y e1 e2. grind (arith, nat_tests);
  }

  pub upgrade_cuts : (targets : ℕ → ℕ) (due : ℕ) → At b i GetM → b.kind ≡ Idle → Owns b (b.net i).from → Cuts (upgrade b i targets due)
  upgrade_cuts targets due arrives idle sender_owns = record {
    one = λ m1 y e1 e2 e3. grind (arith, nat_tests);
    held = λ y e1 e2 e3. grind (arith, nat_tests);
    named_still = λ y e1 e2. grind (arith, nat_tests);
    holds_still = λ m1 y e1 e2. grind (arith, nat_tests);
  }

  pub unblock_move_cuts : At b i Unblock → b.kind ≡ Move → Cuts (unblock_move b i)
  unblock_move_cuts arrives move = grind (arith, nat_tests)

  pub unblock_other_cuts : At b i Unblock → b.kind ≢ Move → Cuts (unblock_other b i)
  unblock_other_cuts arrives no_move = grind (arith, nat_tests)

  pub put_begins_cuts : At b i PutReq → b.kind ≡ Idle → Owns b (b.net i).from → Cuts (put_begins b i)
  put_begins_cuts arrives idle sender_owns = grind (arith, nat_tests)

  pub put_is_stale_cuts : At b i PutReq → b.kind ≡ Idle → (b.at_home ≡ true) ⊎ (b.owner ≢ (b.net i).from) → Cuts (put_is_stale b i)
  put_is_stale_cuts arrives idle stale = grind (arith, nat_tests)

  pub put_data_cuts : At b i PutData → Cuts (put_data b i)
  put_data_cuts arrives = grind (arith, nat_tests)

  pub grant_exclusive_cuts : At b i GetS → b.kind ≡ Idle → b.at_home ≡ true → ((x : ℕ) → other_sharers b i x ≡ false) →
      Cuts (grant_exclusive b i)
  grant_exclusive_cuts arrives idle home_owns none = grind (arith, nat_tests)

  -- The other events.

  pub deliver_advance_cuts : Arrives b i Advance → Cuts (deliver_advance b i)
  deliver_advance_cuts arrives = grind (arith, nat_tests)

  pub lose_cuts : Cuts (lose b i)
  lose_cuts = grind (arith, nat_tests)

  pub begin_read_miss_cuts : Free N b i → b.line i ≡ NoLine → Cuts (begin_read_miss b i)
  begin_read_miss_cuts free line = grind (arith, nat_tests)

  pub begin_write_miss_cuts : Free N b i → is_writable (b.line i) ≡ false → Cuts (begin_write_miss b i)
  begin_write_miss_cuts free line = grind (arith, nat_tests)

  pub begin_put_cuts : i < N → is_here (b.miss i).want ≡ false → b.putting i ≡ NoPut → is_owned (b.line i) ≡ true → Cuts (begin_put b i)
  begin_put_cuts low no_miss no_put line = grind (arith, nat_tests)

  pub begin_miss_elsewhere_cuts : i < N → (b.miss i).want ≡ Nothing → Cuts (begin_miss_elsewhere b i)
  begin_miss_elsewhere_cuts low no_miss = grind (arith, nat_tests)

  pub end_miss_elsewhere_cuts : (b.miss i).want ≡ Elsewhere → Cuts (end_miss_elsewhere b i)
  end_miss_elsewhere_cuts there = grind (arith, nat_tests)

  pub begin_put_elsewhere_cuts : i < N → b.putting i ≡ NoPut → Cuts (begin_put_elsewhere b i)
  begin_put_elsewhere_cuts low no_put = grind (arith, nat_tests)

  pub end_put_elsewhere_cuts : b.putting i ≡ PutElsewhere → Cuts (end_put_elsewhere b i)
  end_put_elsewhere_cuts there = grind (arith, nat_tests)

  pub numbers_elsewhere_cuts : Cuts (numbers_elsewhere b i)
  numbers_elsewhere_cuts = grind (arith, nat_tests)

  pub store_cuts : (v : Content) → Free N b i → is_writable (b.line i) ≡ true → Cuts (store b i v)
  store_cuts v free line = grind (arith, nat_tests)

  pub evict_shared_cuts : is_here (b.miss i).want ≡ false → b.line i ≡ Shared → Cuts (evict_shared b i)
  evict_shared_cuts no_miss line = grind (arith, nat_tests)

  pub edge_cuts : i < N → b.now i < b.known i + 4 → Cuts (edge b i)
  edge_cuts low room = grind (arith, nat_tests)

  pub report_cuts : (k : ℕ) → i < N → Cuts (report b i k)
  report_cuts k low = grind (arith, nat_tests)

  pub validate_cuts : NothingUnfinished N b (b.point + 1) → Cuts (validate N b)
  validate_cuts finished = grind (arith, nat_tests)
