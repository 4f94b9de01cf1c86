-- Accesses: each row and event keeps the intervals of accesses.
use Rattle.std.proofs.Common.{◌≡◌, ◌≢◌, ℕ, ◌+◌, ◌<◌, true, false, ◌⊎◌, arith}
use Rattle.std.proofs.lemmas.Bool.Decides.{nat_tests}
use Rattle.sn_coherence.specs.Block.{Block, Content, NoLine, Shared, Nothing, Elsewhere, NoPut, PutElsewhere, Idle, Move, GetS, GetM}
use Rattle.sn_coherence.specs.Block.{FwdGetS, FwdGetM, Inv, DataS, DataM, DataE, UpgOk, InvAck, Unblock, PutReq, PutData, PutGo, PutDone}
use Rattle.sn_coherence.specs.Block.{Ready, Advance, is_owned, is_writable, is_here, brings_to_cache}
use Rattle.sn_coherence.specs.CacheRows.{forward_read, forward_write, invalidate, data_shared, data_modified_open, data_modified_complete}
use Rattle.sn_coherence.specs.CacheRows.{upgrade_granted_open, upgrade_granted_complete, acknowledge_open, acknowledge_complete, put_go}
use Rattle.sn_coherence.specs.CacheRows.{put_done, data_exclusive}
use Rattle.sn_coherence.specs.HomeRows.{read_at_home, read_at_owner, take, move_ownership, upgrade, unblock_move, unblock_other, put_begins}
use Rattle.sn_coherence.specs.HomeRows.{put_is_stale, put_data, grant_exclusive}
use Rattle.sn_coherence.specs.OtherEvents.{begin_read_miss, begin_write_miss, begin_put, begin_miss_elsewhere, end_miss_elsewhere}
use Rattle.sn_coherence.specs.OtherEvents.{begin_put_elsewhere, end_put_elsewhere, numbers_elsewhere, store, evict_shared, edge, report}
use Rattle.sn_coherence.specs.OtherEvents.{validate, lose, deliver_advance}
use Rattle.sn_coherence.specs.Invariant.{Clocks, Nodes, Stages, Requests, Owners, Acknowledgements, Sharing}
use Rattle.sn_coherence.specs.Events.{IsReady, Arrives, Owns, OtherOwns, other_sharers, NothingUnfinished, Free}
use Rattle.sn_coherence.proofs.Rows.{At, IsLast}
use Rattle.sn_coherence.specs.Records.{Records, loads, loads_reserved, stores, unreserves, stores_conditional, hears}
use Rattle.sn_coherence.specs.RecordsInvariant.{Accesses}
use Rattle.sn_coherence.proofs.Counts.{count_none}
use Rattle.sn_coherence.proofs.Acknowledged.{last_waited}

-- a node with a line that it doesn't own is listed or waited for, or it is r of a Take or Move
excused : (b : Block) → Sharing b → (n : ℕ) → b.line n ≢ NoLine → is_owned (b.line n) ≡ false →
    (b.sharers n ≡ true) ⊎ (b.waited n ≡ true) ⊎ ((brings_to_cache b.kind ≡ true) × (b.requester ≡ n))
excused b h n e1 e2 = grind (arith, h.listed n)

-- an owner is the only one
one_owner : (b : Block) → Owners b → (n m : ℕ) → is_owned (b.line n) ≡ true → is_owned (b.line m) ≡ true → n ≡ m
one_owner b o n m e1 e2 = grind (arith, o.owns n, o.owns m)

module _ (N : ℕ) (b : Block) (r : Records) (i : ℕ) (accesses : Accesses b r) (stages : Stages b) (requests : Requests b) (owners : Owners b) (sharing : Sharing b) (waits : Acknowledgements N b) (nodes : Nodes N b) where
  -- The cache's rows.

  pub forward_read_accesses : Arrives b i FwdGetS → Accesses (forward_read b i) r
  forward_read_accesses arrives = grind (arith, nat_tests)

  pub forward_write_accesses : Arrives b i FwdGetM → Accesses (forward_write b i) (unreserves r (b.net i).to)
  forward_write_accesses arrives = grind (arith, nat_tests)

  pub invalidate_accesses : Arrives b i Inv → Accesses (invalidate b i) (unreserves r (b.net i).to)
  invalidate_accesses arrives = grind (arith, nat_tests)

  pub data_shared_accesses : Arrives b i DataS → Accesses (data_shared b i) r
  data_shared_accesses arrives = grind (arith, nat_tests)

  pub data_modified_open_accesses : Arrives b i DataM → (b.miss (b.net i).to).acks ≢ (b.net i).due → Accesses (data_modified_open b i) r
  data_modified_open_accesses arrives some_lack = grind (arith, nat_tests)

  pub data_modified_complete_accesses : Arrives b i DataM → (b.miss (b.net i).to).acks ≡ (b.net i).due →
      Accesses (data_modified_complete b i) r
  data_modified_complete_accesses arrives all_in = grind (arith, nat_tests, count_none N b.waited)

  pub upgrade_granted_open_accesses : Arrives b i UpgOk → (b.miss (b.net i).to).acks ≢ (b.net i).due → Accesses (upgrade_granted_open b i) r
  upgrade_granted_open_accesses arrives some_lack = grind (arith, nat_tests)

  pub upgrade_granted_complete_accesses : Arrives b i UpgOk → (b.miss (b.net i).to).acks ≡ (b.net i).due →
      Accesses (upgrade_granted_complete b i) r
  upgrade_granted_complete_accesses arrives all_in = grind (arith, nat_tests, count_none N b.waited)

  pub acknowledge_open_accesses : Arrives b i InvAck → IsLast b i ≡ false → Accesses (acknowledge_open b i) r
  acknowledge_open_accesses arrives not_last = grind (arith, nat_tests)

  pub acknowledge_complete_accesses : Arrives b i InvAck → IsLast b i ≡ true → Accesses (acknowledge_complete b i) r
  acknowledge_complete_accesses arrives last = record {
    own = λ m1. grind (arith, nat_tests, last_waited N b i waits nodes arrives last);
    write_line = λ m1 e1. grind (arith, nat_tests, last_waited N b i waits nodes arrives last);
    write_home = λ e1. grind (arith, nat_tests, last_waited N b i waits nodes arrives last);
    write_read = λ e1 e2. grind (arith, nat_tests, last_waited N b i waits nodes arrives last);
    write_given = λ e1 e2. grind (arith, nat_tests, last_waited N b i waits nodes arrives last);
    writer = λ m1 x e1 e2. grind (arith, nat_tests, last_waited N b i waits nodes arrives last x, accesses.owner (b.net i).to x);
    alone = λ x e1 e2 e3. grind (arith, nat_tests, last_waited N b i waits nodes arrives last);
    owner = λ m1 x e1 e2. grind (arith, nat_tests, last_waited N b i waits nodes arrives last);
    home = λ x e1 e2. grind (arith, nat_tests, last_waited N b i waits nodes arrives last);
    given = λ x e1 e2 e3. grind (arith, nat_tests, last_waited N b i waits nodes arrives last);
    request = λ x e1. grind (arith, nat_tests, last_waited N b i waits nodes arrives last);
    inv_ack = λ x e1. grind (arith, nat_tests, last_waited N b i waits nodes arrives last);
  }

  pub put_go_accesses : Arrives b i PutGo → Accesses (put_go b i) (unreserves r (b.net i).to)
  put_go_accesses arrives = grind (arith, nat_tests)

  pub put_done_accesses : Arrives b i PutDone → Accesses (put_done b i) r
  put_done_accesses arrives = grind (arith, nat_tests)

  pub data_exclusive_accesses : Clocks N b → Arrives b i DataE → Accesses (data_exclusive b i) r
  data_exclusive_accesses clocks arrives = grind (arith, nat_tests)

  -- The home's rows.

  pub read_at_home_accesses : At b i GetS → b.kind ≡ Idle → b.at_home ≡ true → Accesses (read_at_home b i) r
  read_at_home_accesses arrives idle home_owns = grind (arith, nat_tests)

  pub read_at_owner_accesses : At b i GetS → b.kind ≡ Idle → b.at_home ≡ false → Accesses (read_at_owner b i) r
  read_at_owner_accesses arrives idle cache_owns = grind (arith, nat_tests)

  pub take_accesses : (targets : ℕ → ℕ) (due : ℕ) → At b i GetM → b.kind ≡ Idle → b.at_home ≡ true → Accesses (take b i targets due) r
  take_accesses targets due arrives idle home_owns = record {
    own = λ m1. grind (arith, nat_tests);
    write_line = λ m1 e1. grind (arith, nat_tests);
    write_home = λ e1. grind (arith, nat_tests);
    write_read = λ e1 e2. grind (arith, nat_tests);
    write_given = λ e1 e2. grind (arith, nat_tests);
    writer = λ m1 x e1 e2. grind (arith, nat_tests);
    alone = λ x e1 e2 e3. grind (arith, nat_tests);
    owner = λ m1 x e1 e2. grind (arith, nat_tests);
    home = λ x e1 e2. grind (arith, nat_tests);
    given = λ x e1 e2 e3. grind (arith, nat_tests);
    request = λ x e1. grind (arith, nat_tests, requests.get_m i);
    inv_ack = λ x e1. grind (arith, nat_tests);
  }

  pub move_ownership_accesses : (targets : ℕ → ℕ) (due : ℕ) → At b i GetM → b.kind ≡ Idle → OtherOwns b (b.net i).from →
      Accesses (move_ownership b i targets due) r
  move_ownership_accesses targets due arrives idle other_owns = record {
    own = λ m1. grind (arith, nat_tests);
    write_line = λ m1 e1. grind (arith, nat_tests);
    write_home = λ e1. grind (arith, nat_tests);
    write_read = λ e1 e2. grind (arith, nat_tests);
    write_given = λ e1 e2. grind (arith, nat_tests);
    writer = λ m1 x e1 e2. grind (arith, nat_tests);
    alone = λ x e1 e2 e3. grind (arith, nat_tests);
    owner = λ m1 x e1 e2. grind (arith, nat_tests);
    home = λ x e1 e2. grind (arith, nat_tests);
    given = λ x e1 e2 e3. grind (arith, nat_tests);
    request = λ x e1. grind (arith, nat_tests, requests.get_m i);
    inv_ack = λ x e1. grind (arith, nat_tests);
  }

  pub upgrade_accesses : (targets : ℕ → ℕ) (due : ℕ) → At b i GetM → b.kind ≡ Idle → Owns b (b.net i).from →
      Accesses (upgrade b i targets due) r
  upgrade_accesses targets due arrives idle sender_owns = record {
    own = λ m1. grind (arith, nat_tests);
    write_line = λ m1 e1. grind (arith, nat_tests);
    write_home = λ e1. grind (arith, nat_tests);
    write_read = λ e1 e2. grind (arith, nat_tests);
    write_given = λ e1 e2. grind (arith, nat_tests);
    writer = λ m1 x e1 e2. grind (arith, nat_tests);
    alone = λ x e1 e2 e3. grind (arith, nat_tests);
    owner = λ m1 x e1 e2. grind (arith, nat_tests);
    home = λ x e1 e2. grind (arith, nat_tests);
    given = λ x e1 e2 e3. grind (arith, nat_tests);
    request = λ x e1. grind (arith, nat_tests, requests.get_m i);
    inv_ack = λ x e1. grind (arith, nat_tests);
  }

  pub unblock_move_accesses : At b i Unblock → b.kind ≡ Move → Accesses (unblock_move b i) r
  unblock_move_accesses arrives move = grind (arith, nat_tests)

  pub unblock_other_accesses : At b i Unblock → b.kind ≢ Move → Accesses (unblock_other b i) r
  unblock_other_accesses arrives no_move = grind (arith, nat_tests)

  pub put_begins_accesses : At b i PutReq → b.kind ≡ Idle → Owns b (b.net i).from → Accesses (put_begins b i) r
  put_begins_accesses arrives idle sender_owns = grind (arith, nat_tests)

  pub put_is_stale_accesses : At b i PutReq → b.kind ≡ Idle → (b.at_home ≡ true) ⊎ (b.owner ≢ (b.net i).from) →
      Accesses (put_is_stale b i) r
  put_is_stale_accesses arrives idle stale = grind (arith, nat_tests)

  pub put_data_accesses : At b i PutData → Accesses (put_data b i) r
  put_data_accesses arrives = grind (arith, nat_tests)

  pub grant_exclusive_accesses : At b i GetS → b.kind ≡ Idle → b.at_home ≡ true → ((x : ℕ) → other_sharers b i x ≡ false) →
      Accesses (grant_exclusive b i) r
  grant_exclusive_accesses arrives idle home_owns none = grind (arith, nat_tests)

  -- The other events.

  pub deliver_advance_accesses : Clocks N b → Arrives b i Advance → Accesses (deliver_advance b i) r
  deliver_advance_accesses clocks arrives = grind (arith, nat_tests)

  pub lose_accesses : Accesses (lose b i) r
  lose_accesses = grind (arith, nat_tests)

  pub begin_read_miss_accesses : Free N b i → b.line i ≡ NoLine → Accesses (begin_read_miss b i) r
  begin_read_miss_accesses free line = grind (arith, nat_tests)

  pub begin_write_miss_accesses : Free N b i → is_writable (b.line i) ≡ false → Accesses (begin_write_miss b i) r
  begin_write_miss_accesses free line = grind (arith, nat_tests)

  pub begin_put_accesses : i < N → is_here (b.miss i).want ≡ false → b.putting i ≡ NoPut → is_owned (b.line i) ≡ true →
      Accesses (begin_put b i) r
  begin_put_accesses low no_miss no_put line = grind (arith, nat_tests)

  pub begin_miss_elsewhere_accesses : i < N → (b.miss i).want ≡ Nothing → Accesses (begin_miss_elsewhere b i) r
  begin_miss_elsewhere_accesses low no_miss = grind (arith, nat_tests)

  pub end_miss_elsewhere_accesses : (b.miss i).want ≡ Elsewhere → Accesses (end_miss_elsewhere b i) r
  end_miss_elsewhere_accesses there = grind (arith, nat_tests)

  pub begin_put_elsewhere_accesses : i < N → b.putting i ≡ NoPut → Accesses (begin_put_elsewhere b i) r
  begin_put_elsewhere_accesses low no_put = grind (arith, nat_tests)

  pub end_put_elsewhere_accesses : b.putting i ≡ PutElsewhere → Accesses (end_put_elsewhere b i) r
  end_put_elsewhere_accesses there = grind (arith, nat_tests)

  pub numbers_elsewhere_accesses : Accesses (numbers_elsewhere b i) r
  numbers_elsewhere_accesses = grind (arith, nat_tests)

  pub store_accesses : (v : Content) → Free N b i → is_writable (b.line i) ≡ true → Accesses (store b i v) (stores r i (b.now i) v)
  store_accesses v free line = grind (arith, nat_tests)

  pub store_conditional_accesses : (v : Content) → Free N b i → is_writable (b.line i) ≡ true →
      Accesses (store b i v) (stores_conditional r i (b.now i) v)
  store_conditional_accesses v free line = grind (arith, nat_tests)

  pub evict_shared_accesses : is_here (b.miss i).want ≡ false → b.line i ≡ Shared → Accesses (evict_shared b i) (unreserves r i)
  evict_shared_accesses no_miss line = grind (arith, nat_tests)

  pub edge_accesses : i < N → b.now i < b.known i + 4 → Accesses (edge b i) (unreserves r i)
  edge_accesses low room = grind (arith, nat_tests)

  pub report_accesses : (k : ℕ) → i < N → IsReady b i k → Accesses (report b i k) r
  report_accesses k low ready = grind (arith, nat_tests)

  pub validate_accesses : NothingUnfinished N b (b.point + 1) → Accesses (validate N b) r
  validate_accesses finished = grind (arith, nat_tests)

  pub load_accesses : Free N b i → b.line i ≢ NoLine → Accesses b (loads r i (b.now i))
  load_accesses free line = record {
    own = λ m1. grind (arith, nat_tests);
    write_line = λ m1 e1. grind (arith, nat_tests);
    write_home = λ e1. grind (arith, nat_tests);
    write_read = λ e1 e2. grind (arith, nat_tests);
    write_given = λ e1 e2. grind (arith, nat_tests);
    writer = λ m1 x e1 e2. grind (arith, nat_tests);
    alone = λ x e1 e2 e3. grind (arith, nat_tests);
    owner = λ m1 x e1 e2. grind (arith, nat_tests, excused b sharing i, one_owner b owners m1 i, accesses.owner m1 x);
    home = λ x e1 e2. grind (arith, nat_tests, excused b sharing i);
    given = λ x e1 e2 e3. grind (arith, nat_tests, excused b sharing i, accesses.given x);
    request = λ x e1. grind (arith, nat_tests);
    inv_ack = λ x e1. grind (arith, nat_tests);
  }

  pub load_reserved_accesses : Free N b i → b.line i ≢ NoLine → Accesses b (loads_reserved r i (b.now i))
  load_reserved_accesses free line = record {
    own = λ m1. grind (arith, nat_tests);
    write_line = λ m1 e1. grind (arith, nat_tests);
    write_home = λ e1. grind (arith, nat_tests);
    write_read = λ e1 e2. grind (arith, nat_tests);
    write_given = λ e1 e2. grind (arith, nat_tests);
    writer = λ m1 x e1 e2. grind (arith, nat_tests);
    alone = λ x e1 e2 e3. grind (arith, nat_tests);
    owner = λ m1 x e1 e2. grind (arith, nat_tests, excused b sharing i, one_owner b owners m1 i, accesses.owner m1 x);
    home = λ x e1 e2. grind (arith, nat_tests, excused b sharing i);
    given = λ x e1 e2 e3. grind (arith, nat_tests, excused b sharing i, accesses.given x);
    request = λ x e1. grind (arith, nat_tests);
    inv_ack = λ x e1. grind (arith, nat_tests);
  }

  pub store_conditional_undone_accesses : Accesses b (unreserves r i)
  store_conditional_undone_accesses = grind (arith, nat_tests)

  pub deliver_ready_accesses : Arrives b i Ready → Accesses (lose b i) (hears r (b.net i).from (b.net i).number)
  deliver_ready_accesses arrives = grind (arith, nat_tests)
