-- Requests: each row and event keeps what waits at the home.
use Rattle.std.proofs.Common.{◌≡◌, ◌≢◌, ℕ, ◌+◌, ◌<◌, true, false, ◌⊎◌, arith}
use Rattle.std.proofs.lemmas.Bool.Decides.{nat_tests}
use Rattle.sn_coherence.specs.Block.{Block, Content, NoLine, Shared, Nothing, Elsewhere, NoPut, PutElsewhere, Idle, Move, GetS, GetM}
use Rattle.sn_coherence.specs.Block.{FwdGetS, FwdGetM, Inv, DataS, DataM, DataE, UpgOk, InvAck, Unblock, PutReq, PutData, PutGo, PutDone}
use Rattle.sn_coherence.specs.Block.{Advance, is_owned, is_writable, is_here}
use Rattle.sn_coherence.specs.CacheRows.{forward_read, forward_write, invalidate, data_shared, data_modified_open, data_modified_complete}
use Rattle.sn_coherence.specs.CacheRows.{upgrade_granted_open, upgrade_granted_complete, acknowledge_open, acknowledge_complete, put_go}
use Rattle.sn_coherence.specs.CacheRows.{put_done, data_exclusive}
use Rattle.sn_coherence.specs.HomeRows.{read_at_home, read_at_owner, take, move_ownership, upgrade, unblock_move, unblock_other, put_begins}
use Rattle.sn_coherence.specs.HomeRows.{put_is_stale, put_data, grant_exclusive}
use Rattle.sn_coherence.specs.OtherEvents.{begin_read_miss, begin_write_miss, begin_put, begin_miss_elsewhere, end_miss_elsewhere}
use Rattle.sn_coherence.specs.OtherEvents.{begin_put_elsewhere, end_put_elsewhere, numbers_elsewhere, store, evict_shared, edge, report}
use Rattle.sn_coherence.specs.OtherEvents.{validate, lose, deliver_advance}
use Rattle.sn_coherence.specs.Invariant.{Stages, Requests, Owners}
use Rattle.sn_coherence.specs.Events.{Arrives, Owns, OtherOwns, other_sharers, NothingUnfinished, Free}
use Rattle.sn_coherence.proofs.Rows.{At, IsLast}

module _ (N : ℕ) (b : Block) (i : ℕ) (requests : Requests b) (stages : Stages b) (owners : Owners b) where
  -- The cache's rows.

  pub forward_read_requests : Arrives b i FwdGetS → Requests (forward_read b i)
  forward_read_requests arrives = grind (arith, nat_tests, requests.one_get i, requests.one_put_request i)

  pub forward_write_requests : Arrives b i FwdGetM → Requests (forward_write b i)
  forward_write_requests arrives = grind (arith, nat_tests, requests.one_get i, requests.one_put_request i)

  pub invalidate_requests : Arrives b i Inv → Requests (invalidate b i)
  invalidate_requests arrives = grind (arith, nat_tests, requests.one_get i, requests.one_put_request i)

  pub data_shared_requests : Arrives b i DataS → Requests (data_shared b i)
  data_shared_requests arrives = grind (arith, nat_tests, requests.one_get i, requests.one_put_request i)

  pub data_modified_open_requests : Arrives b i DataM → (b.miss (b.net i).to).acks ≢ (b.net i).due → Requests (data_modified_open b i)
  data_modified_open_requests arrives some_lack = grind (arith, nat_tests, requests.one_get i, requests.one_put_request i)

  pub data_modified_complete_requests : Arrives b i DataM → (b.miss (b.net i).to).acks ≡ (b.net i).due →
      Requests (data_modified_complete b i)
  data_modified_complete_requests arrives all_in = grind (arith, nat_tests, requests.one_get i, requests.one_put_request i)

  pub upgrade_granted_open_requests : Arrives b i UpgOk → (b.miss (b.net i).to).acks ≢ (b.net i).due → Requests (upgrade_granted_open b i)
  upgrade_granted_open_requests arrives some_lack = grind (arith, nat_tests, requests.one_get i, requests.one_put_request i)

  pub upgrade_granted_complete_requests : Arrives b i UpgOk → (b.miss (b.net i).to).acks ≡ (b.net i).due →
      Requests (upgrade_granted_complete b i)
  upgrade_granted_complete_requests arrives all_in = grind (arith, nat_tests, requests.one_get i, requests.one_put_request i)

  pub acknowledge_open_requests : Arrives b i InvAck → IsLast b i ≡ false → Requests (acknowledge_open b i)
  acknowledge_open_requests arrives not_last = grind (arith, nat_tests, requests.one_get i, requests.one_put_request i)

  pub acknowledge_complete_requests : Arrives b i InvAck → IsLast b i ≡ true → Requests (acknowledge_complete b i)
  acknowledge_complete_requests arrives last = grind (arith, nat_tests, requests.one_get i, requests.one_put_request i)

  pub put_go_requests : Arrives b i PutGo → Requests (put_go b i)
  put_go_requests arrives = grind (arith, nat_tests, requests.one_get i, requests.one_put_request i)

  pub put_done_requests : Arrives b i PutDone → Requests (put_done b i)
  put_done_requests arrives = grind (arith, nat_tests, requests.one_get i, requests.one_put_request i)

  pub data_exclusive_requests : Arrives b i DataE → Requests (data_exclusive b i)
  data_exclusive_requests arrives = grind (arith, nat_tests, requests.one_get i, requests.one_put_request i)

  -- The home's rows.

  pub read_at_home_requests : At b i GetS → b.kind ≡ Idle → b.at_home ≡ true → Requests (read_at_home b i)
  read_at_home_requests arrives idle home_owns = grind (arith, nat_tests, requests.one_get i, requests.one_put_request i)

  pub read_at_owner_requests : At b i GetS → b.kind ≡ Idle → b.at_home ≡ false → Requests (read_at_owner b i)
  read_at_owner_requests arrives idle cache_owns = grind (arith, nat_tests, requests.one_get i, requests.one_put_request i)

  pub take_requests : (targets : ℕ → ℕ) (due : ℕ) → At b i GetM → b.kind ≡ Idle → b.at_home ≡ true → Requests (take b i targets due)
  take_requests targets due arrives idle home_owns = record {
    to_home = λ x e1. grind (arith, nat_tests, requests.one_get i);
    from_home = λ x e1. grind (arith, nat_tests, requests.one_get i);
    ready_to = λ x e1. grind (arith, nat_tests, requests.one_get i);
    advance_from = λ x e1. grind (arith, nat_tests, requests.one_get i);
    reads_line = λ m1 e1. grind (arith, nat_tests, requests.one_get i);
    writes_line = λ m1 e1 e2. grind (arith, nat_tests, requests.one_get i);
    get_s = λ x e1. grind (arith, nat_tests, requests.one_get i);
    get_m = λ x e1. grind (arith, nat_tests, requests.one_get i);
    one_get = λ x y e1 e2 e3. grind (arith, nat_tests, requests.one_get i);
    put_request = λ x e1. grind (arith, nat_tests, requests.one_get i);
    one_put_request = λ x y e1 e2 e3. grind (arith, nat_tests, requests.one_get i);
    put_open = λ e1 e2. grind (arith, nat_tests, requests.one_get i);
  }

  pub move_ownership_requests : (targets : ℕ → ℕ) (due : ℕ) → At b i GetM → b.kind ≡ Idle → OtherOwns b (b.net i).from →
      Requests (move_ownership b i targets due)
  move_ownership_requests targets due arrives idle other_owns = record {
    to_home = λ x e1. grind (arith, nat_tests, requests.one_get i);
    from_home = λ x e1. grind (arith, nat_tests, requests.one_get i);
    ready_to = λ x e1. grind (arith, nat_tests, requests.one_get i);
    advance_from = λ x e1. grind (arith, nat_tests, requests.one_get i);
    reads_line = λ m1 e1. grind (arith, nat_tests, requests.one_get i);
    writes_line = λ m1 e1 e2. grind (arith, nat_tests, requests.one_get i);
    get_s = λ x e1. grind (arith, nat_tests, requests.one_get i);
    get_m = λ x e1. grind (arith, nat_tests, requests.one_get i);
    one_get = λ x y e1 e2 e3. grind (arith, nat_tests, requests.one_get i);
    put_request = λ x e1. grind (arith, nat_tests, requests.one_get i);
    one_put_request = λ x y e1 e2 e3. grind (arith, nat_tests, requests.one_get i);
    put_open = λ e1 e2. grind (arith, nat_tests, requests.one_get i);
  }

  pub upgrade_requests : (targets : ℕ → ℕ) (due : ℕ) → At b i GetM → b.kind ≡ Idle → Owns b (b.net i).from →
      Requests (upgrade b i targets due)
  upgrade_requests targets due arrives idle sender_owns = record {
    to_home = λ x e1. grind (arith, nat_tests, requests.one_get i);
    from_home = λ x e1. grind (arith, nat_tests, requests.one_get i);
    ready_to = λ x e1. grind (arith, nat_tests, requests.one_get i);
    advance_from = λ x e1. grind (arith, nat_tests, requests.one_get i);
    reads_line = λ m1 e1. grind (arith, nat_tests, requests.one_get i);
    writes_line = λ m1 e1 e2. grind (arith, nat_tests, requests.one_get i);
    get_s = λ x e1. grind (arith, nat_tests, requests.one_get i);
    get_m = λ x e1. grind (arith, nat_tests, requests.one_get i);
    one_get = λ x y e1 e2 e3. grind (arith, nat_tests, requests.one_get i);
    put_request = λ x e1. grind (arith, nat_tests, requests.one_get i);
    one_put_request = λ x y e1 e2 e3. grind (arith, nat_tests, requests.one_get i);
    put_open = λ e1 e2. grind (arith, nat_tests, requests.one_get i);
  }

  pub unblock_move_requests : At b i Unblock → b.kind ≡ Move → Requests (unblock_move b i)
  unblock_move_requests arrives move = grind (arith, nat_tests, requests.one_get i, requests.one_put_request i)

  pub unblock_other_requests : At b i Unblock → b.kind ≢ Move → Requests (unblock_other b i)
  unblock_other_requests arrives no_move = grind (arith, nat_tests, requests.one_get i, requests.one_put_request i)

  pub put_begins_requests : At b i PutReq → b.kind ≡ Idle → Owns b (b.net i).from → Requests (put_begins b i)
  put_begins_requests arrives idle sender_owns = grind (arith, nat_tests, requests.one_get i, requests.one_put_request i)

  pub put_is_stale_requests : At b i PutReq → b.kind ≡ Idle → (b.at_home ≡ true) ⊎ (b.owner ≢ (b.net i).from) → Requests (put_is_stale b i)
  put_is_stale_requests arrives idle stale = grind (arith, nat_tests, requests.one_get i, requests.one_put_request i)

  pub put_data_requests : At b i PutData → Requests (put_data b i)
  put_data_requests arrives = grind (arith, nat_tests, requests.one_get i, requests.one_put_request i)

  pub grant_exclusive_requests : At b i GetS → b.kind ≡ Idle → b.at_home ≡ true → ((x : ℕ) → other_sharers b i x ≡ false) →
      Requests (grant_exclusive b i)
  grant_exclusive_requests arrives idle home_owns none = grind (arith, nat_tests, requests.one_get i, requests.one_put_request i)

  -- The other events.

  pub deliver_advance_requests : Arrives b i Advance → Requests (deliver_advance b i)
  deliver_advance_requests arrives = grind (arith, nat_tests, requests.one_get i, requests.one_put_request i)

  pub lose_requests : Requests (lose b i)
  lose_requests = grind (arith, nat_tests, requests.one_get i, requests.one_put_request i)

  pub begin_read_miss_requests : Free N b i → b.line i ≡ NoLine → Requests (begin_read_miss b i)
  begin_read_miss_requests free line = grind (arith, nat_tests, requests.one_get i, requests.one_put_request i)

  pub begin_write_miss_requests : Free N b i → is_writable (b.line i) ≡ false → Requests (begin_write_miss b i)
  begin_write_miss_requests free line = grind (arith, nat_tests, requests.one_get i, requests.one_put_request i)

  pub begin_put_requests : i < N → is_here (b.miss i).want ≡ false → b.putting i ≡ NoPut → is_owned (b.line i) ≡ true →
      Requests (begin_put b i)
  begin_put_requests low no_miss no_put line = grind (arith, nat_tests, requests.one_get i, requests.one_put_request i)

  pub begin_miss_elsewhere_requests : i < N → (b.miss i).want ≡ Nothing → Requests (begin_miss_elsewhere b i)
  begin_miss_elsewhere_requests low no_miss = grind (arith, nat_tests, requests.one_get i, requests.one_put_request i)

  pub end_miss_elsewhere_requests : (b.miss i).want ≡ Elsewhere → Requests (end_miss_elsewhere b i)
  end_miss_elsewhere_requests there = grind (arith, nat_tests, requests.one_get i, requests.one_put_request i)

  pub begin_put_elsewhere_requests : i < N → b.putting i ≡ NoPut → Requests (begin_put_elsewhere b i)
  begin_put_elsewhere_requests low no_put = grind (arith, nat_tests, requests.one_get i, requests.one_put_request i)

  pub end_put_elsewhere_requests : b.putting i ≡ PutElsewhere → Requests (end_put_elsewhere b i)
  end_put_elsewhere_requests there = grind (arith, nat_tests, requests.one_get i, requests.one_put_request i)

  pub numbers_elsewhere_requests : Requests (numbers_elsewhere b i)
  numbers_elsewhere_requests = grind (arith, nat_tests, requests.one_get i, requests.one_put_request i)

  pub store_requests : (v : Content) → Free N b i → is_writable (b.line i) ≡ true → Requests (store b i v)
  store_requests v free line = grind (arith, nat_tests, requests.one_get i, requests.one_put_request i)

  pub evict_shared_requests : is_here (b.miss i).want ≡ false → b.line i ≡ Shared → Requests (evict_shared b i)
  evict_shared_requests no_miss line = grind (arith, nat_tests, requests.one_get i, requests.one_put_request i)

  pub edge_requests : i < N → b.now i < b.known i + 4 → Requests (edge b i)
  edge_requests low room = grind (arith, nat_tests, requests.one_get i, requests.one_put_request i)

  pub report_requests : (k : ℕ) → i < N → Requests (report b i k)
  report_requests k low = grind (arith, nat_tests, requests.one_get i, requests.one_put_request i)

  pub validate_requests : NothingUnfinished N b (b.point + 1) → Requests (validate N b)
  validate_requests finished = grind (arith, nat_tests, requests.one_get i, requests.one_put_request i)
