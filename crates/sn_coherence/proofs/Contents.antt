-- Contents: each row and event keeps all copies equal.
use Rattle.std.proofs.Common.{◌≡◌, ◌≢◌, ℕ, ◌+◌, ◌<◌, true, false, ◌⊎◌, arith}
use Rattle.std.proofs.lemmas.Bool.Decides.{nat_tests}
use Rattle.sn_coherence.specs.Block.{Block, Content, NoLine, Shared, Nothing, Elsewhere, NoPut, PutElsewhere, Idle, Move, GetS, GetM}
use Rattle.sn_coherence.specs.Block.{FwdGetS, FwdGetM, Inv, DataS, DataM, DataE, UpgOk, InvAck, Unblock, PutReq, PutData, PutGo, PutDone}
use Rattle.sn_coherence.specs.Block.{Ready, Advance, is_owned, is_writable, is_here}
use Rattle.sn_coherence.specs.CacheRows.{forward_read, forward_write, invalidate, data_shared, data_modified_open, data_modified_complete}
use Rattle.sn_coherence.specs.CacheRows.{upgrade_granted_open, upgrade_granted_complete, acknowledge_open, acknowledge_complete, put_go}
use Rattle.sn_coherence.specs.CacheRows.{put_done, data_exclusive}
use Rattle.sn_coherence.specs.HomeRows.{read_at_home, read_at_owner, take, move_ownership, upgrade, unblock_move, unblock_other, put_begins}
use Rattle.sn_coherence.specs.HomeRows.{put_is_stale, put_data, grant_exclusive}
use Rattle.sn_coherence.specs.OtherEvents.{begin_read_miss, begin_write_miss, begin_put, begin_miss_elsewhere, end_miss_elsewhere}
use Rattle.sn_coherence.specs.OtherEvents.{begin_put_elsewhere, end_put_elsewhere, numbers_elsewhere, store, evict_shared, edge, report}
use Rattle.sn_coherence.specs.OtherEvents.{validate, lose, deliver_advance}
use Rattle.sn_coherence.specs.Invariant.{Stages, Requests, Owners, Acknowledgements, Sharing, Logs}
use Rattle.sn_coherence.specs.Events.{IsReady, Arrives, Owns, OtherOwns, other_sharers, NothingUnfinished, Free}
use Rattle.sn_coherence.proofs.Rows.{At, IsLast}
use Rattle.sn_coherence.specs.Records.{Records, loads, loads_reserved, stores, unreserves, stores_conditional, hears}
use Rattle.sn_coherence.specs.RecordsInvariant.{Contents}

module _ (N : ℕ) (b : Block) (r : Records) (i : ℕ) (contents : Contents b r) (stages : Stages b) (owners : Owners b) (sharing : Sharing b) (logs : Logs b) where
  -- The cache's rows.

  pub forward_read_contents : Arrives b i FwdGetS → Contents (forward_read b i) r
  forward_read_contents arrives = grind (arith, nat_tests)

  pub forward_write_contents : Arrives b i FwdGetM → Contents (forward_write b i) (unreserves r (b.net i).to)
  forward_write_contents arrives = grind (arith, nat_tests)

  pub invalidate_contents : Acknowledgements N b → Arrives b i Inv → Contents (invalidate b i) (unreserves r (b.net i).to)
  invalidate_contents waits arrives = grind (arith, nat_tests)

  pub data_shared_contents : Requests b → Arrives b i DataS → Contents (data_shared b i) r
  data_shared_contents requests arrives = grind (arith, nat_tests)

  pub data_modified_open_contents : Arrives b i DataM → (b.miss (b.net i).to).acks ≢ (b.net i).due → Contents (data_modified_open b i) r
  data_modified_open_contents arrives some_lack = grind (arith, nat_tests)

  pub data_modified_complete_contents : Arrives b i DataM → (b.miss (b.net i).to).acks ≡ (b.net i).due →
      Contents (data_modified_complete b i) r
  data_modified_complete_contents arrives all_in = grind (arith, nat_tests)

  pub upgrade_granted_open_contents : Arrives b i UpgOk → (b.miss (b.net i).to).acks ≢ (b.net i).due → Contents (upgrade_granted_open b i) r
  upgrade_granted_open_contents arrives some_lack = grind (arith, nat_tests)

  pub upgrade_granted_complete_contents : Arrives b i UpgOk → (b.miss (b.net i).to).acks ≡ (b.net i).due →
      Contents (upgrade_granted_complete b i) r
  upgrade_granted_complete_contents arrives all_in = grind (arith, nat_tests)

  pub acknowledge_open_contents : Acknowledgements N b → Arrives b i InvAck → IsLast b i ≡ false → Contents (acknowledge_open b i) r
  acknowledge_open_contents waits arrives not_last = grind (arith, nat_tests)

  pub acknowledge_complete_contents : Acknowledgements N b → Arrives b i InvAck → IsLast b i ≡ true → Contents (acknowledge_complete b i) r
  acknowledge_complete_contents waits arrives last = grind (arith, nat_tests)

  pub put_go_contents : Arrives b i PutGo → Contents (put_go b i) (unreserves r (b.net i).to)
  put_go_contents arrives = grind (arith, nat_tests)

  pub put_done_contents : Arrives b i PutDone → Contents (put_done b i) r
  put_done_contents arrives = grind (arith, nat_tests)

  pub data_exclusive_contents : Arrives b i DataE → Contents (data_exclusive b i) r
  data_exclusive_contents arrives = grind (arith, nat_tests)

  -- The home's rows.

  pub read_at_home_contents : At b i GetS → b.kind ≡ Idle → b.at_home ≡ true → Contents (read_at_home b i) r
  read_at_home_contents arrives idle home_owns = grind (arith, nat_tests)

  pub read_at_owner_contents : At b i GetS → b.kind ≡ Idle → b.at_home ≡ false → Contents (read_at_owner b i) r
  read_at_owner_contents arrives idle cache_owns = grind (arith, nat_tests)

  pub take_contents : (targets : ℕ → ℕ) (due : ℕ) → At b i GetM → b.kind ≡ Idle → b.at_home ≡ true → Contents (take b i targets due) r
  take_contents targets due arrives idle home_owns = record {
    unwritten = λ y e1. grind (arith, nat_tests);
    of_line = λ m1 e1. grind (arith, nat_tests);
    of_home = λ e1. grind (arith, nat_tests);
    of_message = λ x e1. grind (arith, nat_tests);
    held_now = λ m1 y e1 e2. grind (arith, nat_tests);
    home_held_now = λ y e1 e2. grind (arith, nat_tests);
    reserved_line = λ m1 e1. grind (arith, nat_tests);
    reserved_alone = λ m1 e1. grind (arith, nat_tests);
  }

  pub move_ownership_contents : (targets : ℕ → ℕ) (due : ℕ) → At b i GetM → b.kind ≡ Idle → OtherOwns b (b.net i).from →
      Contents (move_ownership b i targets due) r
  move_ownership_contents targets due arrives idle other_owns = record {
    unwritten = λ y e1. grind (arith, nat_tests);
    of_line = λ m1 e1. grind (arith, nat_tests);
    of_home = λ e1. grind (arith, nat_tests);
    of_message = λ x e1. grind (arith, nat_tests);
    held_now = λ m1 y e1 e2. grind (arith, nat_tests);
    home_held_now = λ y e1 e2. grind (arith, nat_tests);
    reserved_line = λ m1 e1. grind (arith, nat_tests);
    reserved_alone = λ m1 e1. grind (arith, nat_tests);
  }

  pub upgrade_contents : (targets : ℕ → ℕ) (due : ℕ) → At b i GetM → b.kind ≡ Idle → Owns b (b.net i).from →
      Contents (upgrade b i targets due) r
  upgrade_contents targets due arrives idle sender_owns = record {
    unwritten = λ y e1. grind (arith, nat_tests);
    of_line = λ m1 e1. grind (arith, nat_tests);
    of_home = λ e1. grind (arith, nat_tests);
    of_message = λ x e1. grind (arith, nat_tests);
    held_now = λ m1 y e1 e2. grind (arith, nat_tests);
    home_held_now = λ y e1 e2. grind (arith, nat_tests);
    reserved_line = λ m1 e1. grind (arith, nat_tests);
    reserved_alone = λ m1 e1. grind (arith, nat_tests);
  }

  pub unblock_move_contents : At b i Unblock → b.kind ≡ Move → Contents (unblock_move b i) r
  unblock_move_contents arrives move = grind (arith, nat_tests)

  pub unblock_other_contents : At b i Unblock → b.kind ≢ Move → Contents (unblock_other b i) r
  unblock_other_contents arrives no_move = grind (arith, nat_tests)

  pub put_begins_contents : At b i PutReq → b.kind ≡ Idle → Owns b (b.net i).from → Contents (put_begins b i) r
  put_begins_contents arrives idle sender_owns = grind (arith, nat_tests)

  pub put_is_stale_contents : At b i PutReq → b.kind ≡ Idle → (b.at_home ≡ true) ⊎ (b.owner ≢ (b.net i).from) →
      Contents (put_is_stale b i) r
  put_is_stale_contents arrives idle stale = grind (arith, nat_tests)

  pub put_data_contents : At b i PutData → Contents (put_data b i) r
  put_data_contents arrives = grind (arith, nat_tests)

  pub grant_exclusive_contents : At b i GetS → b.kind ≡ Idle → b.at_home ≡ true → ((x : ℕ) → other_sharers b i x ≡ false) →
      Contents (grant_exclusive b i) r
  grant_exclusive_contents arrives idle home_owns none = grind (arith, nat_tests)

  -- The other events.

  pub deliver_advance_contents : Arrives b i Advance → Contents (deliver_advance b i) r
  deliver_advance_contents arrives = grind (arith, nat_tests)

  pub lose_contents : Contents (lose b i) r
  lose_contents = grind (arith, nat_tests)

  pub begin_read_miss_contents : Free N b i → b.line i ≡ NoLine → Contents (begin_read_miss b i) r
  begin_read_miss_contents free line = grind (arith, nat_tests)

  pub begin_write_miss_contents : Free N b i → is_writable (b.line i) ≡ false → Contents (begin_write_miss b i) r
  begin_write_miss_contents free line = grind (arith, nat_tests)

  pub begin_put_contents : i < N → is_here (b.miss i).want ≡ false → b.putting i ≡ NoPut → is_owned (b.line i) ≡ true →
      Contents (begin_put b i) r
  begin_put_contents low no_miss no_put line = grind (arith, nat_tests)

  pub begin_miss_elsewhere_contents : i < N → (b.miss i).want ≡ Nothing → Contents (begin_miss_elsewhere b i) r
  begin_miss_elsewhere_contents low no_miss = grind (arith, nat_tests)

  pub end_miss_elsewhere_contents : (b.miss i).want ≡ Elsewhere → Contents (end_miss_elsewhere b i) r
  end_miss_elsewhere_contents there = grind (arith, nat_tests)

  pub begin_put_elsewhere_contents : i < N → b.putting i ≡ NoPut → Contents (begin_put_elsewhere b i) r
  begin_put_elsewhere_contents low no_put = grind (arith, nat_tests)

  pub end_put_elsewhere_contents : b.putting i ≡ PutElsewhere → Contents (end_put_elsewhere b i) r
  end_put_elsewhere_contents there = grind (arith, nat_tests)

  pub numbers_elsewhere_contents : Contents (numbers_elsewhere b i) r
  numbers_elsewhere_contents = grind (arith, nat_tests)

  pub store_contents : (v : Content) → Free N b i → is_writable (b.line i) ≡ true → Contents (store b i v) (stores r i (b.now i) v)
  store_contents v free line = record {
    unwritten = λ y e1. grind (arith, nat_tests);
    of_line = λ m1 e1. grind (arith, nat_tests);
    of_home = λ e1. grind (arith, nat_tests);
    of_message = λ x e1. grind (arith, nat_tests);
    held_now = λ m1 y e1 e2. grind (arith, nat_tests);
    home_held_now = λ y e1 e2. grind (arith, nat_tests);
    reserved_line = λ m1 e1. grind (arith, nat_tests);
    reserved_alone = λ m1 e1. grind (arith, nat_tests);
  }

  pub store_conditional_contents : (v : Content) → Free N b i → is_writable (b.line i) ≡ true →
      Contents (store b i v) (stores_conditional r i (b.now i) v)
  store_conditional_contents v free line = record {
    unwritten = λ y e1. grind (arith, nat_tests);
    of_line = λ m1 e1. grind (arith, nat_tests);
    of_home = λ e1. grind (arith, nat_tests);
    of_message = λ x e1. grind (arith, nat_tests);
    held_now = λ m1 y e1 e2. grind (arith, nat_tests);
    home_held_now = λ y e1 e2. grind (arith, nat_tests);
    reserved_line = λ m1 e1. grind (arith, nat_tests);
    reserved_alone = λ m1 e1. grind (arith, nat_tests);
  }

  pub evict_shared_contents : is_here (b.miss i).want ≡ false → b.line i ≡ Shared → Contents (evict_shared b i) (unreserves r i)
  evict_shared_contents no_miss line = grind (arith, nat_tests)

  pub edge_contents : i < N → b.now i < b.known i + 4 → Contents (edge b i) (unreserves r i)
  edge_contents low room = grind (arith, nat_tests)

  pub report_contents : (k : ℕ) → i < N → IsReady b i k → Contents (report b i k) r
  report_contents k low ready = grind (arith, nat_tests)

  pub validate_contents : NothingUnfinished N b (b.point + 1) → Contents (validate N b) r
  validate_contents finished = grind (arith, nat_tests)

  pub load_contents : Free N b i → b.line i ≢ NoLine → Contents b (loads r i (b.now i))
  load_contents free line = grind (arith, nat_tests)

  pub load_reserved_contents : Free N b i → b.line i ≢ NoLine → Contents b (loads_reserved r i (b.now i))
  load_reserved_contents free line = grind (arith, nat_tests)

  pub store_conditional_undone_contents : Contents b (unreserves r i)
  store_conditional_undone_contents = grind (arith, nat_tests)

  pub deliver_ready_contents : Arrives b i Ready → Contents (lose b i) (hears r (b.net i).from (b.net i).number)
  deliver_ready_contents arrives = grind (arith, nat_tests)
