-- Reports: each row and event keeps what was promised to the controller.
use Rattle.std.proofs.Common.{◌≡◌, ◌≢◌, ℕ, ◌+◌, ◌<◌, true, false, ◌⊎◌, arith}
use Rattle.std.proofs.lemmas.Bool.Decides.{nat_tests}
use Rattle.sn_coherence.specs.Block.{Block, Content, NoLine, Shared, Nothing, Elsewhere, NoPut, PutElsewhere, Idle, Move, GetS, GetM}
use Rattle.sn_coherence.specs.Block.{FwdGetS, FwdGetM, Inv, DataS, DataM, DataE, UpgOk, InvAck, Unblock, PutReq, PutData, PutGo, PutDone}
use Rattle.sn_coherence.specs.Block.{Ready, Advance, is_owned, is_writable, is_here}
use Rattle.sn_coherence.specs.CacheRows.{forward_read, forward_write, invalidate, data_shared, data_modified_open, data_modified_complete}
use Rattle.sn_coherence.specs.CacheRows.{upgrade_granted_open, upgrade_granted_complete, acknowledge_open, acknowledge_complete, put_go}
use Rattle.sn_coherence.specs.CacheRows.{put_done, data_exclusive}
use Rattle.sn_coherence.specs.HomeRows.{read_at_home, read_at_owner, take, move_ownership, upgrade, unblock_move, unblock_other, put_begins}
use Rattle.sn_coherence.specs.HomeRows.{put_is_stale, put_data, grant_exclusive}
use Rattle.sn_coherence.specs.OtherEvents.{begin_read_miss, begin_write_miss, begin_put, begin_miss_elsewhere, end_miss_elsewhere}
use Rattle.sn_coherence.specs.OtherEvents.{begin_put_elsewhere, end_put_elsewhere, numbers_elsewhere, store, evict_shared, edge, report}
use Rattle.sn_coherence.specs.OtherEvents.{validate, lose, deliver_advance}
use Rattle.sn_coherence.specs.Invariant.{Clocks}
use Rattle.sn_coherence.specs.Events.{IsReady, Arrives, Owns, OtherOwns, other_sharers, NothingUnfinished, Free}
use Rattle.sn_coherence.proofs.Rows.{At, IsLast}
use Rattle.sn_coherence.specs.Records.{Records, loads, loads_reserved, stores, unreserves, stores_conditional, hears}
use Rattle.sn_coherence.specs.RecordsInvariant.{Reports}

module _ (N : ℕ) (b : Block) (r : Records) (i : ℕ) (reports : Reports b r) (clocks : Clocks N b) where
  -- The cache's rows.

  pub forward_read_reports : Arrives b i FwdGetS → Reports (forward_read b i) r
  forward_read_reports arrives = grind (arith, nat_tests)

  pub forward_write_reports : Arrives b i FwdGetM → Reports (forward_write b i) (unreserves r (b.net i).to)
  forward_write_reports arrives = grind (arith, nat_tests)

  pub invalidate_reports : Arrives b i Inv → Reports (invalidate b i) (unreserves r (b.net i).to)
  invalidate_reports arrives = grind (arith, nat_tests)

  pub data_shared_reports : Arrives b i DataS → Reports (data_shared b i) r
  data_shared_reports arrives = grind (arith, nat_tests)

  pub data_modified_open_reports : Arrives b i DataM → (b.miss (b.net i).to).acks ≢ (b.net i).due → Reports (data_modified_open b i) r
  data_modified_open_reports arrives some_lack = grind (arith, nat_tests)

  pub data_modified_complete_reports : Arrives b i DataM → (b.miss (b.net i).to).acks ≡ (b.net i).due →
      Reports (data_modified_complete b i) r
  data_modified_complete_reports arrives all_in = grind (arith, nat_tests)

  pub upgrade_granted_open_reports : Arrives b i UpgOk → (b.miss (b.net i).to).acks ≢ (b.net i).due → Reports (upgrade_granted_open b i) r
  upgrade_granted_open_reports arrives some_lack = grind (arith, nat_tests)

  pub upgrade_granted_complete_reports : Arrives b i UpgOk → (b.miss (b.net i).to).acks ≡ (b.net i).due →
      Reports (upgrade_granted_complete b i) r
  upgrade_granted_complete_reports arrives all_in = grind (arith, nat_tests)

  pub acknowledge_open_reports : Arrives b i InvAck → IsLast b i ≡ false → Reports (acknowledge_open b i) r
  acknowledge_open_reports arrives not_last = grind (arith, nat_tests)

  pub acknowledge_complete_reports : Arrives b i InvAck → IsLast b i ≡ true → Reports (acknowledge_complete b i) r
  acknowledge_complete_reports arrives last = grind (arith, nat_tests)

  pub put_go_reports : Arrives b i PutGo → Reports (put_go b i) (unreserves r (b.net i).to)
  put_go_reports arrives = grind (arith, nat_tests)

  pub put_done_reports : Arrives b i PutDone → Reports (put_done b i) r
  put_done_reports arrives = grind (arith, nat_tests)

  pub data_exclusive_reports : Arrives b i DataE → Reports (data_exclusive b i) r
  data_exclusive_reports arrives = grind (arith, nat_tests)

  -- The home's rows.

  pub read_at_home_reports : At b i GetS → b.kind ≡ Idle → b.at_home ≡ true → Reports (read_at_home b i) r
  read_at_home_reports arrives idle home_owns = grind (arith, nat_tests)

  pub read_at_owner_reports : At b i GetS → b.kind ≡ Idle → b.at_home ≡ false → Reports (read_at_owner b i) r
  read_at_owner_reports arrives idle cache_owns = grind (arith, nat_tests)

  pub take_reports : (targets : ℕ → ℕ) (due : ℕ) → At b i GetM → b.kind ≡ Idle → b.at_home ≡ true → Reports (take b i targets due) r
  take_reports targets due arrives idle home_owns = record {
    reported = λ m1. grind (arith, nat_tests);
    message = λ x e1. grind (arith, nat_tests);
  }

  pub move_ownership_reports : (targets : ℕ → ℕ) (due : ℕ) → At b i GetM → b.kind ≡ Idle → OtherOwns b (b.net i).from →
      Reports (move_ownership b i targets due) r
  move_ownership_reports targets due arrives idle other_owns = record {
    reported = λ m1. grind (arith, nat_tests);
    message = λ x e1. grind (arith, nat_tests);
  }

  pub upgrade_reports : (targets : ℕ → ℕ) (due : ℕ) → At b i GetM → b.kind ≡ Idle → Owns b (b.net i).from →
      Reports (upgrade b i targets due) r
  upgrade_reports targets due arrives idle sender_owns = record {
    reported = λ m1. grind (arith, nat_tests);
    message = λ x e1. grind (arith, nat_tests);
  }

  pub unblock_move_reports : At b i Unblock → b.kind ≡ Move → Reports (unblock_move b i) r
  unblock_move_reports arrives move = grind (arith, nat_tests)

  pub unblock_other_reports : At b i Unblock → b.kind ≢ Move → Reports (unblock_other b i) r
  unblock_other_reports arrives no_move = grind (arith, nat_tests)

  pub put_begins_reports : At b i PutReq → b.kind ≡ Idle → Owns b (b.net i).from → Reports (put_begins b i) r
  put_begins_reports arrives idle sender_owns = grind (arith, nat_tests)

  pub put_is_stale_reports : At b i PutReq → b.kind ≡ Idle → (b.at_home ≡ true) ⊎ (b.owner ≢ (b.net i).from) → Reports (put_is_stale b i) r
  put_is_stale_reports arrives idle stale = grind (arith, nat_tests)

  pub put_data_reports : At b i PutData → Reports (put_data b i) r
  put_data_reports arrives = grind (arith, nat_tests)

  pub grant_exclusive_reports : At b i GetS → b.kind ≡ Idle → b.at_home ≡ true → ((x : ℕ) → other_sharers b i x ≡ false) →
      Reports (grant_exclusive b i) r
  grant_exclusive_reports arrives idle home_owns none = grind (arith, nat_tests)

  -- The other events.

  pub deliver_advance_reports : Arrives b i Advance → Reports (deliver_advance b i) r
  deliver_advance_reports arrives = grind (arith, nat_tests)

  pub lose_reports : Reports (lose b i) r
  lose_reports = grind (arith, nat_tests)

  pub begin_read_miss_reports : Free N b i → b.line i ≡ NoLine → Reports (begin_read_miss b i) r
  begin_read_miss_reports free line = grind (arith, nat_tests)

  pub begin_write_miss_reports : Free N b i → is_writable (b.line i) ≡ false → Reports (begin_write_miss b i) r
  begin_write_miss_reports free line = grind (arith, nat_tests)

  pub begin_put_reports : i < N → is_here (b.miss i).want ≡ false → b.putting i ≡ NoPut → is_owned (b.line i) ≡ true →
      Reports (begin_put b i) r
  begin_put_reports low no_miss no_put line = grind (arith, nat_tests)

  pub begin_miss_elsewhere_reports : i < N → (b.miss i).want ≡ Nothing → Reports (begin_miss_elsewhere b i) r
  begin_miss_elsewhere_reports low no_miss = grind (arith, nat_tests)

  pub end_miss_elsewhere_reports : (b.miss i).want ≡ Elsewhere → Reports (end_miss_elsewhere b i) r
  end_miss_elsewhere_reports there = grind (arith, nat_tests)

  pub begin_put_elsewhere_reports : i < N → b.putting i ≡ NoPut → Reports (begin_put_elsewhere b i) r
  begin_put_elsewhere_reports low no_put = grind (arith, nat_tests)

  pub end_put_elsewhere_reports : b.putting i ≡ PutElsewhere → Reports (end_put_elsewhere b i) r
  end_put_elsewhere_reports there = grind (arith, nat_tests)

  pub numbers_elsewhere_reports : Reports (numbers_elsewhere b i) r
  numbers_elsewhere_reports = grind (arith, nat_tests)

  pub store_reports : (v : Content) → Free N b i → is_writable (b.line i) ≡ true → Reports (store b i v) (stores r i (b.now i) v)
  store_reports v free line = grind (arith, nat_tests)

  pub store_conditional_reports : (v : Content) → Free N b i → is_writable (b.line i) ≡ true →
      Reports (store b i v) (stores_conditional r i (b.now i) v)
  store_conditional_reports v free line = grind (arith, nat_tests)

  pub evict_shared_reports : is_here (b.miss i).want ≡ false → b.line i ≡ Shared → Reports (evict_shared b i) (unreserves r i)
  evict_shared_reports no_miss line = grind (arith, nat_tests)

  pub edge_reports : i < N → b.now i < b.known i + 4 → Reports (edge b i) (unreserves r i)
  edge_reports low room = grind (arith, nat_tests)

  pub report_reports : (k : ℕ) → i < N → IsReady b i k → Reports (report b i k) r
  report_reports k low ready = grind (arith, nat_tests)

  pub validate_reports : NothingUnfinished N b (b.point + 1) → Reports (validate N b) r
  validate_reports finished = grind (arith, nat_tests)

  pub load_reports : Free N b i → b.line i ≢ NoLine → Reports b (loads r i (b.now i))
  load_reports free line = grind (arith, nat_tests)

  pub load_reserved_reports : Free N b i → b.line i ≢ NoLine → Reports b (loads_reserved r i (b.now i))
  load_reserved_reports free line = grind (arith, nat_tests)

  pub store_conditional_undone_reports : Reports b (unreserves r i)
  store_conditional_undone_reports = grind (arith, nat_tests)

  pub deliver_ready_reports : Arrives b i Ready → Reports (lose b i) (hears r (b.net i).from (b.net i).number)
  deliver_ready_reports arrives = grind (arith, nat_tests)
