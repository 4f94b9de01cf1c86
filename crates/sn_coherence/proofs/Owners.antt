-- Owners: each row and event keeps who owns the line.
use Rattle.std.proofs.Common.{◌≡◌, ◌≢◌, ℕ, ◌+◌, ◌<◌, true, false, ◌⊎◌, arith}
use Rattle.std.proofs.lemmas.Bool.Decides.{nat_tests}
use Rattle.sn_coherence.specs.Block.{Block, Content, NoLine, Shared, Nothing, Elsewhere, NoPut, PutElsewhere, Idle, Move, GetS, GetM}
use Rattle.sn_coherence.specs.Block.{FwdGetS, FwdGetM, Inv, DataS, DataM, DataE, UpgOk, InvAck, Unblock, PutReq, PutData, PutGo, PutDone}
use Rattle.sn_coherence.specs.Block.{Advance, is_owned, is_writable, is_here}
use Rattle.sn_coherence.specs.CacheRows.{forward_read, forward_write, invalidate, data_shared, data_modified_open, data_modified_complete}
use Rattle.sn_coherence.specs.CacheRows.{upgrade_granted_open, upgrade_granted_complete, acknowledge_open, acknowledge_complete, put_go}
use Rattle.sn_coherence.specs.CacheRows.{put_done, data_exclusive}
use Rattle.sn_coherence.specs.HomeRows.{read_at_home, read_at_owner, take, move_ownership, upgrade, unblock_move, unblock_other, put_begins}
use Rattle.sn_coherence.specs.HomeRows.{put_is_stale, put_data, grant_exclusive}
use Rattle.sn_coherence.specs.OtherEvents.{begin_read_miss, begin_write_miss, begin_put, begin_miss_elsewhere, end_miss_elsewhere}
use Rattle.sn_coherence.specs.OtherEvents.{begin_put_elsewhere, end_put_elsewhere, numbers_elsewhere, store, evict_shared, edge, report}
use Rattle.sn_coherence.specs.OtherEvents.{validate, lose, deliver_advance}
use Rattle.sn_coherence.specs.Invariant.{Stages, Owners, Acknowledgements, Sharing}
use Rattle.sn_coherence.specs.Events.{Arrives, Owns, OtherOwns, other_sharers, NothingUnfinished, Free}
use Rattle.sn_coherence.proofs.Rows.{At, IsLast}

module _ (N : ℕ) (b : Block) (i : ℕ) (owners : Owners b) (stages : Stages b) where
  -- The cache's rows.

  pub forward_read_owners : Arrives b i FwdGetS → Owners (forward_read b i)
  forward_read_owners arrives = grind (arith, nat_tests)

  pub forward_write_owners : Arrives b i FwdGetM → Owners (forward_write b i)
  forward_write_owners arrives = grind (arith, nat_tests)

  pub invalidate_owners : Acknowledgements N b → Sharing b → Arrives b i Inv → Owners (invalidate b i)
  invalidate_owners waits sharing arrives = grind (arith, nat_tests)

  pub data_shared_owners : Sharing b → Arrives b i DataS → Owners (data_shared b i)
  data_shared_owners sharing arrives = grind (arith, nat_tests)

  pub data_modified_open_owners : Arrives b i DataM → (b.miss (b.net i).to).acks ≢ (b.net i).due → Owners (data_modified_open b i)
  data_modified_open_owners arrives some_lack = grind (arith, nat_tests)

  pub data_modified_complete_owners : Arrives b i DataM → (b.miss (b.net i).to).acks ≡ (b.net i).due → Owners (data_modified_complete b i)
  data_modified_complete_owners arrives all_in = grind (arith, nat_tests)

  pub upgrade_granted_open_owners : Arrives b i UpgOk → (b.miss (b.net i).to).acks ≢ (b.net i).due → Owners (upgrade_granted_open b i)
  upgrade_granted_open_owners arrives some_lack = grind (arith, nat_tests)

  pub upgrade_granted_complete_owners : Arrives b i UpgOk → (b.miss (b.net i).to).acks ≡ (b.net i).due →
      Owners (upgrade_granted_complete b i)
  upgrade_granted_complete_owners arrives all_in = grind (arith, nat_tests)

  pub acknowledge_open_owners : Acknowledgements N b → Arrives b i InvAck → IsLast b i ≡ false → Owners (acknowledge_open b i)
  acknowledge_open_owners waits arrives not_last = grind (arith, nat_tests)

  pub acknowledge_complete_owners : Acknowledgements N b → Arrives b i InvAck → IsLast b i ≡ true → Owners (acknowledge_complete b i)
  acknowledge_complete_owners waits arrives last = grind (arith, nat_tests)

  pub put_go_owners : Arrives b i PutGo → Owners (put_go b i)
  put_go_owners arrives = grind (arith, nat_tests)

  pub put_done_owners : Arrives b i PutDone → Owners (put_done b i)
  put_done_owners arrives = grind (arith, nat_tests)

  pub data_exclusive_owners : Arrives b i DataE → Owners (data_exclusive b i)
  data_exclusive_owners arrives = grind (arith, nat_tests)

  -- The home's rows.

  pub read_at_home_owners : At b i GetS → b.kind ≡ Idle → b.at_home ≡ true → Owners (read_at_home b i)
  read_at_home_owners arrives idle home_owns = grind (arith, nat_tests)

  pub read_at_owner_owners : At b i GetS → b.kind ≡ Idle → b.at_home ≡ false → Owners (read_at_owner b i)
  read_at_owner_owners arrives idle cache_owns = grind (arith, nat_tests)

  pub take_owners : (targets : ℕ → ℕ) (due : ℕ) → At b i GetM → b.kind ≡ Idle → b.at_home ≡ true → Owners (take b i targets due)
  take_owners targets due arrives idle home_owns = record {
    owns = λ m1 e1. grind (arith, nat_tests);
    owner_owns = λ e1 e2. grind (arith, nat_tests);
    requester_owns = λ e1 e2. grind (arith, nat_tests);
    take_owner = λ e1. grind (arith, nat_tests);
    upgrade_owner = λ e1. grind (arith, nat_tests);
    put_owner = λ e1. grind (arith, nat_tests);
    move_owner = λ e1. grind (arith, nat_tests);
  }

  pub move_ownership_owners : (targets : ℕ → ℕ) (due : ℕ) → At b i GetM → b.kind ≡ Idle → OtherOwns b (b.net i).from →
      Owners (move_ownership b i targets due)
  move_ownership_owners targets due arrives idle other_owns = record {
    owns = λ m1 e1. grind (arith, nat_tests);
    owner_owns = λ e1 e2. grind (arith, nat_tests);
    requester_owns = λ e1 e2. grind (arith, nat_tests);
    take_owner = λ e1. grind (arith, nat_tests);
    upgrade_owner = λ e1. grind (arith, nat_tests);
    put_owner = λ e1. grind (arith, nat_tests);
    move_owner = λ e1. grind (arith, nat_tests);
  }

  pub upgrade_owners : (targets : ℕ → ℕ) (due : ℕ) → At b i GetM → b.kind ≡ Idle → Owns b (b.net i).from → Owners (upgrade b i targets due)
  upgrade_owners targets due arrives idle sender_owns = record {
    owns = λ m1 e1. grind (arith, nat_tests);
    owner_owns = λ e1 e2. grind (arith, nat_tests);
    requester_owns = λ e1 e2. grind (arith, nat_tests);
    take_owner = λ e1. grind (arith, nat_tests);
    upgrade_owner = λ e1. grind (arith, nat_tests);
    put_owner = λ e1. grind (arith, nat_tests);
    move_owner = λ e1. grind (arith, nat_tests);
  }

  pub unblock_move_owners : At b i Unblock → b.kind ≡ Move → Owners (unblock_move b i)
  unblock_move_owners arrives move = grind (arith, nat_tests)

  pub unblock_other_owners : At b i Unblock → b.kind ≢ Move → Owners (unblock_other b i)
  unblock_other_owners arrives no_move = grind (arith, nat_tests)

  pub put_begins_owners : At b i PutReq → b.kind ≡ Idle → Owns b (b.net i).from → Owners (put_begins b i)
  put_begins_owners arrives idle sender_owns = grind (arith, nat_tests)

  pub put_is_stale_owners : At b i PutReq → b.kind ≡ Idle → (b.at_home ≡ true) ⊎ (b.owner ≢ (b.net i).from) → Owners (put_is_stale b i)
  put_is_stale_owners arrives idle stale = grind (arith, nat_tests)

  pub put_data_owners : At b i PutData → Owners (put_data b i)
  put_data_owners arrives = grind (arith, nat_tests)

  pub grant_exclusive_owners : At b i GetS → b.kind ≡ Idle → b.at_home ≡ true → ((x : ℕ) → other_sharers b i x ≡ false) →
      Owners (grant_exclusive b i)
  grant_exclusive_owners arrives idle home_owns none = grind (arith, nat_tests)

  -- The other events.

  pub deliver_advance_owners : Arrives b i Advance → Owners (deliver_advance b i)
  deliver_advance_owners arrives = grind (arith, nat_tests)

  pub lose_owners : Owners (lose b i)
  lose_owners = grind (arith, nat_tests)

  pub begin_read_miss_owners : Free N b i → b.line i ≡ NoLine → Owners (begin_read_miss b i)
  begin_read_miss_owners free line = grind (arith, nat_tests)

  pub begin_write_miss_owners : Free N b i → is_writable (b.line i) ≡ false → Owners (begin_write_miss b i)
  begin_write_miss_owners free line = grind (arith, nat_tests)

  pub begin_put_owners : i < N → is_here (b.miss i).want ≡ false → b.putting i ≡ NoPut → is_owned (b.line i) ≡ true → Owners (begin_put b i)
  begin_put_owners low no_miss no_put line = grind (arith, nat_tests)

  pub begin_miss_elsewhere_owners : i < N → (b.miss i).want ≡ Nothing → Owners (begin_miss_elsewhere b i)
  begin_miss_elsewhere_owners low no_miss = grind (arith, nat_tests)

  pub end_miss_elsewhere_owners : (b.miss i).want ≡ Elsewhere → Owners (end_miss_elsewhere b i)
  end_miss_elsewhere_owners there = grind (arith, nat_tests)

  pub begin_put_elsewhere_owners : i < N → b.putting i ≡ NoPut → Owners (begin_put_elsewhere b i)
  begin_put_elsewhere_owners low no_put = grind (arith, nat_tests)

  pub end_put_elsewhere_owners : b.putting i ≡ PutElsewhere → Owners (end_put_elsewhere b i)
  end_put_elsewhere_owners there = grind (arith, nat_tests)

  pub numbers_elsewhere_owners : Owners (numbers_elsewhere b i)
  numbers_elsewhere_owners = grind (arith, nat_tests)

  pub store_owners : (v : Content) → Free N b i → is_writable (b.line i) ≡ true → Owners (store b i v)
  store_owners v free line = grind (arith, nat_tests)

  pub evict_shared_owners : is_here (b.miss i).want ≡ false → b.line i ≡ Shared → Owners (evict_shared b i)
  evict_shared_owners no_miss line = grind (arith, nat_tests)

  pub edge_owners : i < N → b.now i < b.known i + 4 → Owners (edge b i)
  edge_owners low room = grind (arith, nat_tests)

  pub report_owners : (k : ℕ) → i < N → Owners (report b i k)
  report_owners k low = grind (arith, nat_tests)

  pub validate_owners : NothingUnfinished N b (b.point + 1) → Owners (validate N b)
  validate_owners finished = grind (arith, nat_tests)
