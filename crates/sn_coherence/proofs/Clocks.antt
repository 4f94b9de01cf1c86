-- Clocks: each row and event keeps them.
use Rattle.std.proofs.Common.{◌≡◌, ◌≢◌, ℕ, ◌+◌, ◌<◌, true, false, ◌⊎◌, arith}
use Rattle.std.proofs.lemmas.Bool.Decides.{nat_tests}
use Rattle.sn_coherence.specs.Block.{Block, Content, NoLine, Shared, Nothing, Elsewhere, NoPut, PutElsewhere, Idle, Move, GetS, GetM}
use Rattle.sn_coherence.specs.Block.{FwdGetS, FwdGetM, Inv, DataS, DataM, DataE, UpgOk, InvAck, Unblock, PutReq, PutData, PutGo, PutDone}
use Rattle.sn_coherence.specs.Block.{Advance, is_owned, is_writable, is_here}
use Rattle.sn_coherence.specs.CacheRows.{forward_read, forward_write, invalidate, data_shared, data_modified_open, data_modified_complete}
use Rattle.sn_coherence.specs.CacheRows.{upgrade_granted_open, upgrade_granted_complete, acknowledge_open, acknowledge_complete, put_go}
use Rattle.sn_coherence.specs.CacheRows.{put_done, data_exclusive}
use Rattle.sn_coherence.specs.HomeRows.{read_at_home, read_at_owner, take, move_ownership, upgrade, unblock_move, unblock_other, put_begins}
use Rattle.sn_coherence.specs.HomeRows.{put_is_stale, put_data, grant_exclusive}
use Rattle.sn_coherence.specs.OtherEvents.{begin_read_miss, begin_write_miss, begin_put, begin_miss_elsewhere, end_miss_elsewhere}
use Rattle.sn_coherence.specs.OtherEvents.{begin_put_elsewhere, end_put_elsewhere, numbers_elsewhere, store, evict_shared, edge, report}
use Rattle.sn_coherence.specs.OtherEvents.{validate, lose, deliver_advance}
use Rattle.sn_coherence.specs.Invariant.{Clocks, Nodes}
use Rattle.sn_coherence.specs.Events.{Arrives, Owns, OtherOwns, other_sharers, NothingUnfinished, Free}
use Rattle.sn_coherence.proofs.Rows.{At, IsLast}

module _ (N : ℕ) (b : Block) (i : ℕ) (clocks : Clocks N b) (nodes : Nodes N b) where
  -- The cache's rows.

  pub forward_read_clocks : Arrives b i FwdGetS → Clocks N (forward_read b i)
  forward_read_clocks arrives = grind (arith, nat_tests)

  pub forward_write_clocks : Arrives b i FwdGetM → Clocks N (forward_write b i)
  forward_write_clocks arrives = grind (arith, nat_tests)

  pub invalidate_clocks : Arrives b i Inv → Clocks N (invalidate b i)
  invalidate_clocks arrives = grind (arith, nat_tests)

  pub data_shared_clocks : Arrives b i DataS → Clocks N (data_shared b i)
  data_shared_clocks arrives = grind (arith, nat_tests)

  pub data_modified_open_clocks : Arrives b i DataM → (b.miss (b.net i).to).acks ≢ (b.net i).due → Clocks N (data_modified_open b i)
  data_modified_open_clocks arrives some_lack = grind (arith, nat_tests)

  pub data_modified_complete_clocks : Arrives b i DataM → (b.miss (b.net i).to).acks ≡ (b.net i).due → Clocks N (data_modified_complete b i)
  data_modified_complete_clocks arrives all_in = grind (arith, nat_tests)

  pub upgrade_granted_open_clocks : Arrives b i UpgOk → (b.miss (b.net i).to).acks ≢ (b.net i).due → Clocks N (upgrade_granted_open b i)
  upgrade_granted_open_clocks arrives some_lack = grind (arith, nat_tests)

  pub upgrade_granted_complete_clocks : Arrives b i UpgOk → (b.miss (b.net i).to).acks ≡ (b.net i).due →
      Clocks N (upgrade_granted_complete b i)
  upgrade_granted_complete_clocks arrives all_in = grind (arith, nat_tests)

  pub acknowledge_open_clocks : Arrives b i InvAck → IsLast b i ≡ false → Clocks N (acknowledge_open b i)
  acknowledge_open_clocks arrives not_last = grind (arith, nat_tests)

  pub acknowledge_complete_clocks : Arrives b i InvAck → IsLast b i ≡ true → Clocks N (acknowledge_complete b i)
  acknowledge_complete_clocks arrives last = grind (arith, nat_tests)

  pub put_go_clocks : Arrives b i PutGo → Clocks N (put_go b i)
  put_go_clocks arrives = grind (arith, nat_tests)

  pub put_done_clocks : Arrives b i PutDone → Clocks N (put_done b i)
  put_done_clocks arrives = grind (arith, nat_tests)

  pub data_exclusive_clocks : Arrives b i DataE → Clocks N (data_exclusive b i)
  data_exclusive_clocks arrives = grind (arith, nat_tests)

  -- The home's rows.

  pub read_at_home_clocks : At b i GetS → b.kind ≡ Idle → b.at_home ≡ true → Clocks N (read_at_home b i)
  read_at_home_clocks arrives idle home_owns = grind (arith, nat_tests)

  pub read_at_owner_clocks : At b i GetS → b.kind ≡ Idle → b.at_home ≡ false → Clocks N (read_at_owner b i)
  read_at_owner_clocks arrives idle cache_owns = grind (arith, nat_tests)

  pub take_clocks : (targets : ℕ → ℕ) (due : ℕ) → At b i GetM → b.kind ≡ Idle → b.at_home ≡ true → Clocks N (take b i targets due)
  take_clocks targets due arrives idle home_owns = grind (arith, nat_tests)

  pub move_ownership_clocks : (targets : ℕ → ℕ) (due : ℕ) → At b i GetM → b.kind ≡ Idle → OtherOwns b (b.net i).from →
      Clocks N (move_ownership b i targets due)
  move_ownership_clocks targets due arrives idle other_owns = grind (arith, nat_tests)

  pub upgrade_clocks : (targets : ℕ → ℕ) (due : ℕ) → At b i GetM → b.kind ≡ Idle → Owns b (b.net i).from →
      Clocks N (upgrade b i targets due)
  upgrade_clocks targets due arrives idle sender_owns = grind (arith, nat_tests)

  pub unblock_move_clocks : At b i Unblock → b.kind ≡ Move → Clocks N (unblock_move b i)
  unblock_move_clocks arrives move = grind (arith, nat_tests)

  pub unblock_other_clocks : At b i Unblock → b.kind ≢ Move → Clocks N (unblock_other b i)
  unblock_other_clocks arrives no_move = grind (arith, nat_tests)

  pub put_begins_clocks : At b i PutReq → b.kind ≡ Idle → Owns b (b.net i).from → Clocks N (put_begins b i)
  put_begins_clocks arrives idle sender_owns = grind (arith, nat_tests)

  pub put_is_stale_clocks : At b i PutReq → b.kind ≡ Idle → (b.at_home ≡ true) ⊎ (b.owner ≢ (b.net i).from) → Clocks N (put_is_stale b i)
  put_is_stale_clocks arrives idle stale = grind (arith, nat_tests)

  pub put_data_clocks : At b i PutData → Clocks N (put_data b i)
  put_data_clocks arrives = grind (arith, nat_tests)

  pub grant_exclusive_clocks : At b i GetS → b.kind ≡ Idle → b.at_home ≡ true → ((x : ℕ) → other_sharers b i x ≡ false) →
      Clocks N (grant_exclusive b i)
  grant_exclusive_clocks arrives idle home_owns none = grind (arith, nat_tests)

  -- The other events.

  pub deliver_advance_clocks : Arrives b i Advance → Clocks N (deliver_advance b i)
  deliver_advance_clocks arrives = grind (arith, nat_tests)

  pub lose_clocks : Clocks N (lose b i)
  lose_clocks = grind (arith, nat_tests)

  pub begin_read_miss_clocks : Free N b i → b.line i ≡ NoLine → Clocks N (begin_read_miss b i)
  begin_read_miss_clocks free line = grind (arith, nat_tests)

  pub begin_write_miss_clocks : Free N b i → is_writable (b.line i) ≡ false → Clocks N (begin_write_miss b i)
  begin_write_miss_clocks free line = grind (arith, nat_tests)

  pub begin_put_clocks : i < N → is_here (b.miss i).want ≡ false → b.putting i ≡ NoPut → is_owned (b.line i) ≡ true →
      Clocks N (begin_put b i)
  begin_put_clocks low no_miss no_put line = grind (arith, nat_tests)

  pub begin_miss_elsewhere_clocks : i < N → (b.miss i).want ≡ Nothing → Clocks N (begin_miss_elsewhere b i)
  begin_miss_elsewhere_clocks low no_miss = grind (arith, nat_tests)

  pub end_miss_elsewhere_clocks : (b.miss i).want ≡ Elsewhere → Clocks N (end_miss_elsewhere b i)
  end_miss_elsewhere_clocks there = grind (arith, nat_tests)

  pub begin_put_elsewhere_clocks : i < N → b.putting i ≡ NoPut → Clocks N (begin_put_elsewhere b i)
  begin_put_elsewhere_clocks low no_put = grind (arith, nat_tests)

  pub end_put_elsewhere_clocks : b.putting i ≡ PutElsewhere → Clocks N (end_put_elsewhere b i)
  end_put_elsewhere_clocks there = grind (arith, nat_tests)

  pub numbers_elsewhere_clocks : Clocks N (numbers_elsewhere b i)
  numbers_elsewhere_clocks = grind (arith, nat_tests)

  pub store_clocks : (v : Content) → Free N b i → is_writable (b.line i) ≡ true → Clocks N (store b i v)
  store_clocks v free line = grind (arith, nat_tests)

  pub evict_shared_clocks : is_here (b.miss i).want ≡ false → b.line i ≡ Shared → Clocks N (evict_shared b i)
  evict_shared_clocks no_miss line = grind (arith, nat_tests)

  pub edge_clocks : i < N → b.now i < b.known i + 4 → Clocks N (edge b i)
  edge_clocks low room = grind (arith, nat_tests)

  pub report_clocks : (k : ℕ) → i < N → Clocks N (report b i k)
  report_clocks k low = grind (arith, nat_tests)

  pub validate_clocks : NothingUnfinished N b (b.point + 1) → Clocks N (validate N b)
  validate_clocks finished = grind (arith, nat_tests)
