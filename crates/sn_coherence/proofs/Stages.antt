-- Stages: each row and event keeps the transaction and its message in step.
use Rattle.std.proofs.Common.{◌≡◌, ◌≢◌, ℕ, ◌+◌, ◌<◌, true, false, ◌⊎◌, arith}
use Rattle.std.proofs.lemmas.Bool.Decides.{nat_tests}
use Rattle.sn_coherence.specs.Block.{Block, Content, NoLine, Shared, Nothing, Elsewhere, NoPut, PutElsewhere, Idle, Move, GetS, GetM}
use Rattle.sn_coherence.specs.Block.{FwdGetS, FwdGetM, Inv, DataS, DataM, DataE, UpgOk, InvAck, Unblock, PutReq, PutData, PutGo, PutDone}
use Rattle.sn_coherence.specs.Block.{Advance, is_owned, is_writable, is_here}
use Rattle.sn_coherence.specs.CacheRows.{forward_read, forward_write, invalidate, data_shared, data_modified_open, data_modified_complete}
use Rattle.sn_coherence.specs.CacheRows.{upgrade_granted_open, upgrade_granted_complete, acknowledge_open, acknowledge_complete, put_go}
use Rattle.sn_coherence.specs.CacheRows.{put_done, data_exclusive}
use Rattle.sn_coherence.specs.HomeRows.{read_at_home, read_at_owner, take, move_ownership, upgrade, unblock_move, unblock_other, put_begins}
use Rattle.sn_coherence.specs.HomeRows.{put_is_stale, put_data, grant_exclusive}
use Rattle.sn_coherence.specs.OtherEvents.{begin_read_miss, begin_write_miss, begin_put, begin_miss_elsewhere, end_miss_elsewhere}
use Rattle.sn_coherence.specs.OtherEvents.{begin_put_elsewhere, end_put_elsewhere, numbers_elsewhere, store, evict_shared, edge, report}
use Rattle.sn_coherence.specs.OtherEvents.{validate, lose, deliver_advance}
use Rattle.sn_coherence.specs.Invariant.{Stages, Requests, Owners, Acknowledgements}
use Rattle.sn_coherence.specs.Events.{Arrives, Owns, OtherOwns, other_sharers, NothingUnfinished, Free}
use Rattle.sn_coherence.proofs.Rows.{At, IsLast}

module _ (N : ℕ) (b : Block) (i : ℕ) (stages : Stages b) (requests : Requests b) where
  -- The cache's rows.

  pub forward_read_stages : Arrives b i FwdGetS → Stages (forward_read b i)
  forward_read_stages arrives = grind (arith, nat_tests, stages.one_token i)

  pub forward_write_stages : Arrives b i FwdGetM → Stages (forward_write b i)
  forward_write_stages arrives = grind (arith, nat_tests, stages.one_token i)

  pub invalidate_stages : Acknowledgements N b → Arrives b i Inv → Stages (invalidate b i)
  invalidate_stages waits arrives = grind (arith, nat_tests, stages.one_token i)

  pub data_shared_stages : Arrives b i DataS → Stages (data_shared b i)
  data_shared_stages arrives = grind (arith, nat_tests, stages.one_token i)

  pub data_modified_open_stages : Arrives b i DataM → (b.miss (b.net i).to).acks ≢ (b.net i).due → Stages (data_modified_open b i)
  data_modified_open_stages arrives some_lack = grind (arith, nat_tests, stages.one_token i)

  pub data_modified_complete_stages : Arrives b i DataM → (b.miss (b.net i).to).acks ≡ (b.net i).due → Stages (data_modified_complete b i)
  data_modified_complete_stages arrives all_in = grind (arith, nat_tests, stages.one_token i)

  pub upgrade_granted_open_stages : Owners b → Arrives b i UpgOk → (b.miss (b.net i).to).acks ≢ (b.net i).due →
      Stages (upgrade_granted_open b i)
  upgrade_granted_open_stages owners arrives some_lack = grind (arith, nat_tests, stages.one_token i)

  pub upgrade_granted_complete_stages : Arrives b i UpgOk → (b.miss (b.net i).to).acks ≡ (b.net i).due →
      Stages (upgrade_granted_complete b i)
  upgrade_granted_complete_stages arrives all_in = grind (arith, nat_tests, stages.one_token i)

  pub acknowledge_open_stages : Acknowledgements N b → Arrives b i InvAck → IsLast b i ≡ false → Stages (acknowledge_open b i)
  acknowledge_open_stages waits arrives not_last = grind (arith, nat_tests, stages.one_token i)

  pub acknowledge_complete_stages : Acknowledgements N b → Arrives b i InvAck → IsLast b i ≡ true → Stages (acknowledge_complete b i)
  acknowledge_complete_stages waits arrives last = grind (arith, nat_tests, stages.one_token i)

  pub put_go_stages : Arrives b i PutGo → Stages (put_go b i)
  put_go_stages arrives = grind (arith, nat_tests, stages.one_token i)

  pub put_done_stages : Arrives b i PutDone → Stages (put_done b i)
  put_done_stages arrives = grind (arith, nat_tests, stages.one_token i)

  pub data_exclusive_stages : Arrives b i DataE → Stages (data_exclusive b i)
  data_exclusive_stages arrives = grind (arith, nat_tests, stages.one_token i)

  -- The home's rows.

  pub read_at_home_stages : At b i GetS → b.kind ≡ Idle → b.at_home ≡ true → Stages (read_at_home b i)
  read_at_home_stages arrives idle home_owns = grind (arith, nat_tests, stages.one_token i)

  pub read_at_owner_stages : At b i GetS → b.kind ≡ Idle → b.at_home ≡ false → Stages (read_at_owner b i)
  read_at_owner_stages arrives idle cache_owns = grind (arith, nat_tests, stages.one_token i)

  pub take_stages : (targets : ℕ → ℕ) (due : ℕ) → At b i GetM → b.kind ≡ Idle → b.at_home ≡ true → Stages (take b i targets due)
  take_stages targets due arrives idle home_owns = record {
    fresh = λ x e1. grind (arith, nat_tests);
    read_shape = λ e1. grind (arith, nat_tests);
    put_shape = λ e1. grind (arith, nat_tests);
    take_shape = λ e1. grind (arith, nat_tests);
    upgrade_shape = λ e1. grind (arith, nat_tests);
    take_at = λ e1. grind (arith, nat_tests);
    begun_at = λ e1 e2. grind (arith, nat_tests);
    fwd_get_s = λ x e1. grind (arith, nat_tests);
    fwd_get_m = λ x e1. grind (arith, nat_tests);
    put_go = λ x e1. grind (arith, nat_tests);
    data_s = λ x e1. grind (arith, nat_tests);
    data_m = λ x e1. grind (arith, nat_tests);
    data_e = λ x e1. grind (arith, nat_tests);
    upg_ok = λ x e1. grind (arith, nat_tests);
    put_data = λ x e1. grind (arith, nat_tests);
    unblock = λ x e1. grind (arith, nat_tests);
    one_token = λ x y e1 e2. grind (arith, nat_tests);
    wait = λ e1 e2. grind (arith, nat_tests);
    wait_move = λ e1 e2. grind (arith, nat_tests);
    wait_upgrade = λ e1 e2. grind (arith, nat_tests);
    wait_read = λ e1 e2. grind (arith, nat_tests);
    wait_alone = λ x e1 e2 e3. grind (arith, nat_tests);
    inside = λ e1 e2. grind (arith, nat_tests);
    inside_upgrade = λ e1 e2. grind (arith, nat_tests);
    inside_other = λ e1 e2. grind (arith, nat_tests);
    fixed = λ m1 e1. grind (arith, nat_tests);
    done = λ e1 e2. grind (arith, nat_tests);
  }

  pub move_ownership_stages : (targets : ℕ → ℕ) (due : ℕ) → At b i GetM → b.kind ≡ Idle → OtherOwns b (b.net i).from →
      Stages (move_ownership b i targets due)
  move_ownership_stages targets due arrives idle other_owns = record {
    fresh = λ x e1. grind (arith, nat_tests);
    read_shape = λ e1. grind (arith, nat_tests);
    put_shape = λ e1. grind (arith, nat_tests);
    take_shape = λ e1. grind (arith, nat_tests);
    upgrade_shape = λ e1. grind (arith, nat_tests);
    take_at = λ e1. grind (arith, nat_tests);
    begun_at = λ e1 e2. grind (arith, nat_tests);
    fwd_get_s = λ x e1. grind (arith, nat_tests);
    fwd_get_m = λ x e1. grind (arith, nat_tests);
    put_go = λ x e1. grind (arith, nat_tests);
    data_s = λ x e1. grind (arith, nat_tests);
    data_m = λ x e1. grind (arith, nat_tests);
    data_e = λ x e1. grind (arith, nat_tests);
    upg_ok = λ x e1. grind (arith, nat_tests);
    put_data = λ x e1. grind (arith, nat_tests);
    unblock = λ x e1. grind (arith, nat_tests);
    one_token = λ x y e1 e2. grind (arith, nat_tests);
    wait = λ e1 e2. grind (arith, nat_tests);
    wait_move = λ e1 e2. grind (arith, nat_tests);
    wait_upgrade = λ e1 e2. grind (arith, nat_tests);
    wait_read = λ e1 e2. grind (arith, nat_tests);
    wait_alone = λ x e1 e2 e3. grind (arith, nat_tests);
    inside = λ e1 e2. grind (arith, nat_tests);
    inside_upgrade = λ e1 e2. grind (arith, nat_tests);
    inside_other = λ e1 e2. grind (arith, nat_tests);
    fixed = λ m1 e1. grind (arith, nat_tests);
    done = λ e1 e2. grind (arith, nat_tests);
  }

  pub upgrade_stages : (targets : ℕ → ℕ) (due : ℕ) → At b i GetM → b.kind ≡ Idle → Owns b (b.net i).from → Stages (upgrade b i targets due)
  upgrade_stages targets due arrives idle sender_owns = record {
    fresh = λ x e1. grind (arith, nat_tests);
    read_shape = λ e1. grind (arith, nat_tests);
    put_shape = λ e1. grind (arith, nat_tests);
    take_shape = λ e1. grind (arith, nat_tests);
    upgrade_shape = λ e1. grind (arith, nat_tests);
    take_at = λ e1. grind (arith, nat_tests);
    begun_at = λ e1 e2. grind (arith, nat_tests);
    fwd_get_s = λ x e1. grind (arith, nat_tests);
    fwd_get_m = λ x e1. grind (arith, nat_tests);
    put_go = λ x e1. grind (arith, nat_tests);
    data_s = λ x e1. grind (arith, nat_tests);
    data_m = λ x e1. grind (arith, nat_tests);
    data_e = λ x e1. grind (arith, nat_tests);
    upg_ok = λ x e1. grind (arith, nat_tests);
    put_data = λ x e1. grind (arith, nat_tests);
    unblock = λ x e1. grind (arith, nat_tests);
    one_token = λ x y e1 e2. grind (arith, nat_tests);
    wait = λ e1 e2. grind (arith, nat_tests);
    wait_move = λ e1 e2. grind (arith, nat_tests);
    wait_upgrade = λ e1 e2. grind (arith, nat_tests);
    wait_read = λ e1 e2. grind (arith, nat_tests);
    wait_alone = λ x e1 e2 e3. grind (arith, nat_tests);
    inside = λ e1 e2. grind (arith, nat_tests);
    inside_upgrade = λ e1 e2. grind (arith, nat_tests);
    inside_other = λ e1 e2. grind (arith, nat_tests);
    fixed = λ m1 e1. grind (arith, nat_tests);
    done = λ e1 e2. grind (arith, nat_tests);
  }

  pub unblock_move_stages : At b i Unblock → b.kind ≡ Move → Stages (unblock_move b i)
  unblock_move_stages arrives move = grind (arith, nat_tests, stages.one_token i)

  pub unblock_other_stages : At b i Unblock → b.kind ≢ Move → Stages (unblock_other b i)
  unblock_other_stages arrives no_move = grind (arith, nat_tests, stages.one_token i)

  pub put_begins_stages : At b i PutReq → b.kind ≡ Idle → Owns b (b.net i).from → Stages (put_begins b i)
  put_begins_stages arrives idle sender_owns = grind (arith, nat_tests, stages.one_token i)

  pub put_is_stale_stages : At b i PutReq → b.kind ≡ Idle → (b.at_home ≡ true) ⊎ (b.owner ≢ (b.net i).from) → Stages (put_is_stale b i)
  put_is_stale_stages arrives idle stale = grind (arith, nat_tests, stages.one_token i)

  pub put_data_stages : At b i PutData → Stages (put_data b i)
  put_data_stages arrives = grind (arith, nat_tests, stages.one_token i)

  pub grant_exclusive_stages : At b i GetS → b.kind ≡ Idle → b.at_home ≡ true → ((x : ℕ) → other_sharers b i x ≡ false) →
      Stages (grant_exclusive b i)
  grant_exclusive_stages arrives idle home_owns none = grind (arith, nat_tests, stages.one_token i)

  -- The other events.

  pub deliver_advance_stages : Arrives b i Advance → Stages (deliver_advance b i)
  deliver_advance_stages arrives = record {
    fresh = λ x e1. grind (arith, nat_tests);
    read_shape = λ e1. grind (arith, nat_tests);
    put_shape = λ e1. grind (arith, nat_tests);
    take_shape = λ e1. grind (arith, nat_tests);
    upgrade_shape = λ e1. grind (arith, nat_tests);
    take_at = λ e1. grind (arith, nat_tests);
    begun_at = λ e1 e2. grind (arith, nat_tests);
    fwd_get_s = λ x e1. grind (arith, nat_tests);
    fwd_get_m = λ x e1. grind (arith, nat_tests);
    put_go = λ x e1. grind (arith, nat_tests);
    data_s = λ x e1. grind (arith, nat_tests);
    data_m = λ x e1. grind (arith, nat_tests);
    data_e = λ x e1. grind (arith, nat_tests);
    upg_ok = λ x e1. grind (arith, nat_tests);
    put_data = λ x e1. grind (arith, nat_tests);
    unblock = λ x e1. grind (arith, nat_tests);
    one_token = λ x y e1 e2. grind (arith, nat_tests);
    wait = λ e1 e2. grind (arith, nat_tests);
    wait_move = λ e1 e2. grind (arith, nat_tests);
    wait_upgrade = λ e1 e2. grind (arith, nat_tests);
    wait_read = λ e1 e2. grind (arith, nat_tests);
    wait_alone = λ x e1 e2 e3. grind (arith, nat_tests);
    inside = λ e1 e2. grind (arith, nat_tests);
    inside_upgrade = λ e1 e2. grind (arith, nat_tests);
    inside_other = λ e1 e2. grind (arith, nat_tests);
    fixed = λ m1 e1. grind (arith, nat_tests);
    done = λ e1 e2. grind (arith, nat_tests);
  }

  pub lose_stages : Stages (lose b i)
  lose_stages = grind (arith, nat_tests, stages.one_token i)

  pub begin_read_miss_stages : Free N b i → b.line i ≡ NoLine → Stages (begin_read_miss b i)
  begin_read_miss_stages free line = grind (arith, nat_tests, stages.one_token i)

  pub begin_write_miss_stages : Free N b i → is_writable (b.line i) ≡ false → Stages (begin_write_miss b i)
  begin_write_miss_stages free line = grind (arith, nat_tests, stages.one_token i)

  pub begin_put_stages : i < N → is_here (b.miss i).want ≡ false → b.putting i ≡ NoPut → is_owned (b.line i) ≡ true → Stages (begin_put b i)
  begin_put_stages low no_miss no_put line = grind (arith, nat_tests, stages.one_token i)

  pub begin_miss_elsewhere_stages : i < N → (b.miss i).want ≡ Nothing → Stages (begin_miss_elsewhere b i)
  begin_miss_elsewhere_stages low no_miss = grind (arith, nat_tests, stages.one_token i)

  pub end_miss_elsewhere_stages : (b.miss i).want ≡ Elsewhere → Stages (end_miss_elsewhere b i)
  end_miss_elsewhere_stages there = grind (arith, nat_tests, stages.one_token i)

  pub begin_put_elsewhere_stages : i < N → b.putting i ≡ NoPut → Stages (begin_put_elsewhere b i)
  begin_put_elsewhere_stages low no_put = grind (arith, nat_tests, stages.one_token i)

  pub end_put_elsewhere_stages : b.putting i ≡ PutElsewhere → Stages (end_put_elsewhere b i)
  end_put_elsewhere_stages there = grind (arith, nat_tests, stages.one_token i)

  pub numbers_elsewhere_stages : Stages (numbers_elsewhere b i)
  numbers_elsewhere_stages = grind (arith, nat_tests, stages.one_token i)

  pub store_stages : (v : Content) → Free N b i → is_writable (b.line i) ≡ true → Stages (store b i v)
  store_stages v free line = grind (arith, nat_tests, stages.one_token i)

  pub evict_shared_stages : is_here (b.miss i).want ≡ false → b.line i ≡ Shared → Stages (evict_shared b i)
  evict_shared_stages no_miss line = grind (arith, nat_tests, stages.one_token i)

  pub edge_stages : i < N → b.now i < b.known i + 4 → Stages (edge b i)
  edge_stages low room = grind (arith, nat_tests, stages.one_token i)

  pub report_stages : (k : ℕ) → i < N → Stages (report b i k)
  report_stages k low = grind (arith, nat_tests, stages.one_token i)

  pub validate_stages : NothingUnfinished N b (b.point + 1) → Stages (validate N b)
  validate_stages finished = grind (arith, nat_tests, stages.one_token i)
