-- Acknowledgements: each row and event keeps the count of acknowledgements.
use Rattle.std.proofs.Common.{◌≡◌, ◌≢◌, ℕ, ◌+◌, ◌-◌, ◌<◌, true, false, ◌⊎◌, refl, arith}
use Rattle.std.proofs.lemmas.Bool.Decides.{nat_tests}
use Rattle.sn_coherence.specs.Block.{Block, Content, Message, NoLine, Shared, Nothing, Elsewhere, NoPut, PutElsewhere, Idle, Move, GetS}
use Rattle.sn_coherence.specs.Block.{GetM, FwdGetS, FwdGetM, Inv, DataS, DataM, DataE, UpgOk, InvAck, Unblock, PutReq, PutData, PutGo}
use Rattle.sn_coherence.specs.Block.{PutDone, Advance, is_owned, is_writable, is_here, is_invalidation, sharer_of, others, invalidates}
use Rattle.sn_coherence.specs.CacheRows.{forward_read, forward_write, invalidate, data_shared, data_modified_open, data_modified_complete}
use Rattle.sn_coherence.specs.CacheRows.{upgrade_granted_open, upgrade_granted_complete, acknowledge_open, acknowledge_complete, put_go}
use Rattle.sn_coherence.specs.CacheRows.{put_done, data_exclusive}
use Rattle.sn_coherence.specs.HomeRows.{read_at_home, read_at_owner, take, move_ownership, upgrade, unblock_move, unblock_other, put_begins}
use Rattle.sn_coherence.specs.HomeRows.{put_is_stale, put_data, grant_exclusive}
use Rattle.sn_coherence.specs.OtherEvents.{begin_read_miss, begin_write_miss, begin_put, begin_miss_elsewhere, end_miss_elsewhere}
use Rattle.sn_coherence.specs.OtherEvents.{begin_put_elsewhere, end_put_elsewhere, numbers_elsewhere, store, evict_shared, edge, report}
use Rattle.sn_coherence.specs.OtherEvents.{validate, lose, deliver_advance}
use Rattle.sn_coherence.specs.Invariant.{Nodes, Stages, Requests, Acknowledgements}
use Rattle.sn_coherence.specs.Events.{Arrives, Owns, OtherOwns, Lists, other_sharers, NothingUnfinished, Free}
use Rattle.sn_coherence.proofs.Rows.{At, IsLast}
use Rattle.sn_coherence.proofs.Counts.{count_none, no_count, count_without, count_low}
use Rattle.sn_coherence.proofs.Acknowledged.{last_waited}

-- one row's invalidations go to different nodes
invs_apart : (b : Block) (i : ℕ) (m : Message) (targets : ℕ → ℕ) (due : ℕ) (none : (x : ℕ) → is_invalidation (b.net x).body ≡ false)
    (other : is_invalidation m.body ≡ false)
    (apart : (k l : ℕ) → k < due → l < due → targets k ≡ targets l → k ≡ l) (x y : ℕ) →
    is_invalidation (invalidates b i m targets due x).body ≡ true → is_invalidation (invalidates b i m targets due y).body ≡ true →
    sharer_of (invalidates b i m targets due x) ≡ sharer_of (invalidates b i m targets due y) → x ≡ y
invs_apart b i m targets due none other apart x y e1 e2 e3 = grind (arith, nat_tests, apart (x - (b.next + 1)) (y - (b.next + 1)))

-- without a transaction none is in flight
no_invs : (N : ℕ) (b : Block) → Acknowledgements N b → b.kind ≡ Idle → (x : ℕ) → is_invalidation (b.net x).body ≡ false
no_invs N b w idle x = grind (arith, nat_tests)

module _ (N : ℕ) (b : Block) (i : ℕ) (waits : Acknowledgements N b) (stages : Stages b) (requests : Requests b) (nodes : Nodes N b) where
  -- The cache's rows.

  pub forward_read_waits : Arrives b i FwdGetS → Acknowledgements N (forward_read b i)
  forward_read_waits arrives = grind (arith, nat_tests, waits.one_inv i, stages.one_token i)

  pub forward_write_waits : Arrives b i FwdGetM → Acknowledgements N (forward_write b i)
  forward_write_waits arrives = grind (arith, nat_tests, waits.one_inv i, stages.one_token i)

  pub invalidate_waits : Arrives b i Inv → Acknowledgements N (invalidate b i)
  invalidate_waits arrives = grind (arith, nat_tests, waits.one_inv i, stages.one_token i)

  pub data_shared_waits : Arrives b i DataS → Acknowledgements N (data_shared b i)
  data_shared_waits arrives = grind (arith, nat_tests, waits.one_inv i, stages.one_token i)

  pub data_modified_open_waits : Arrives b i DataM → (b.miss (b.net i).to).acks ≢ (b.net i).due →
      Acknowledgements N (data_modified_open b i)
  data_modified_open_waits arrives some_lack = grind (arith, nat_tests, waits.one_inv i, stages.one_token i)

  pub data_modified_complete_waits : Arrives b i DataM → (b.miss (b.net i).to).acks ≡ (b.net i).due →
      Acknowledgements N (data_modified_complete b i)
  data_modified_complete_waits arrives all_in = grind (arith, nat_tests, waits.one_inv i, stages.one_token i, count_none N b.waited)

  pub upgrade_granted_open_waits : Arrives b i UpgOk → (b.miss (b.net i).to).acks ≢ (b.net i).due →
      Acknowledgements N (upgrade_granted_open b i)
  upgrade_granted_open_waits arrives some_lack = grind (arith, nat_tests, waits.one_inv i, stages.one_token i)

  pub upgrade_granted_complete_waits : Arrives b i UpgOk → (b.miss (b.net i).to).acks ≡ (b.net i).due →
      Acknowledgements N (upgrade_granted_complete b i)
  upgrade_granted_complete_waits arrives all_in = grind (arith, nat_tests, waits.one_inv i, stages.one_token i, count_none N b.waited)

  pub acknowledge_open_waits : Arrives b i InvAck → IsLast b i ≡ false → Acknowledgements N (acknowledge_open b i)
  acknowledge_open_waits arrives not_last = grind (arith, nat_tests, waits.one_inv i, count_without N b.waited (b.net i).from)

  pub acknowledge_complete_waits : Arrives b i InvAck → IsLast b i ≡ true → Acknowledgements N (acknowledge_complete b i)
  acknowledge_complete_waits arrives last =
      grind (arith, nat_tests, waits.one_inv i, last_waited N b i waits nodes arrives last, count_without N b.waited (b.net i).from)

  pub put_go_waits : Arrives b i PutGo → Acknowledgements N (put_go b i)
  put_go_waits arrives = grind (arith, nat_tests, waits.one_inv i, stages.one_token i)

  pub put_done_waits : Arrives b i PutDone → Acknowledgements N (put_done b i)
  put_done_waits arrives = grind (arith, nat_tests, waits.one_inv i, stages.one_token i)

  pub data_exclusive_waits : Arrives b i DataE → Acknowledgements N (data_exclusive b i)
  data_exclusive_waits arrives = grind (arith, nat_tests, waits.one_inv i, stages.one_token i)

  -- The home's rows.

  pub read_at_home_waits : At b i GetS → b.kind ≡ Idle → b.at_home ≡ true → Acknowledgements N (read_at_home b i)
  read_at_home_waits arrives idle home_owns = grind (arith, nat_tests, waits.one_inv i, stages.one_token i)

  pub read_at_owner_waits : At b i GetS → b.kind ≡ Idle → b.at_home ≡ false → Acknowledgements N (read_at_owner b i)
  read_at_owner_waits arrives idle cache_owns = grind (arith, nat_tests, waits.one_inv i, stages.one_token i)

  pub take_waits : (targets : ℕ → ℕ) (due : ℕ) → At b i GetM → b.kind ≡ Idle → b.at_home ≡ true → Lists N (other_sharers b i) targets due →
      Acknowledgements N (take b i targets due)
  take_waits targets due arrives idle home_owns each = record {
    due_message = λ x e1. grind (arith, nat_tests, each.all, no_count N);
    due_fixed = λ m1 e1. grind (arith, nat_tests);
    get_acks = λ x e1. grind (arith, nat_tests);
    read_acks = λ m1 e1. grind (arith, nat_tests);
    acks_low = λ e1 e2. grind (arith, nat_tests, count_low N (others b.sharers (b.net i).from) (b.net i).from, nodes.from_low i);
    waited_of = λ m1 e1. grind (arith, nat_tests, requests.get_m i);
    inv = λ x e1. grind (arith, nat_tests, each.passes (x - (b.next + 1)));
    inv_ack = λ x e1. grind (arith, nat_tests);
    one_inv = λ x y e1 e2 e3. invs_apart b i _ targets due (no_invs N b waits idle) refl each.apart x y e1 e2 e3;
    ack_line = λ x e1. grind (arith, nat_tests);
  }

  pub move_ownership_waits : (targets : ℕ → ℕ) (due : ℕ) → At b i GetM → b.kind ≡ Idle → OtherOwns b (b.net i).from →
      Lists N (other_sharers b i) targets due → Acknowledgements N (move_ownership b i targets due)
  move_ownership_waits targets due arrives idle other_owns each = record {
    due_message = λ x e1. grind (arith, nat_tests, each.all, no_count N);
    due_fixed = λ m1 e1. grind (arith, nat_tests);
    get_acks = λ x e1. grind (arith, nat_tests);
    read_acks = λ m1 e1. grind (arith, nat_tests);
    acks_low = λ e1 e2. grind (arith, nat_tests, count_low N (others b.sharers (b.net i).from) (b.net i).from, nodes.from_low i);
    waited_of = λ m1 e1. grind (arith, nat_tests, requests.get_m i);
    inv = λ x e1. grind (arith, nat_tests, each.passes (x - (b.next + 1)));
    inv_ack = λ x e1. grind (arith, nat_tests);
    one_inv = λ x y e1 e2 e3. invs_apart b i _ targets due (no_invs N b waits idle) refl each.apart x y e1 e2 e3;
    ack_line = λ x e1. grind (arith, nat_tests);
  }

  pub upgrade_waits : (targets : ℕ → ℕ) (due : ℕ) → At b i GetM → b.kind ≡ Idle → Owns b (b.net i).from →
      Lists N (other_sharers b i) targets due → Acknowledgements N (upgrade b i targets due)
  upgrade_waits targets due arrives idle sender_owns each = record {
    due_message = λ x e1. grind (arith, nat_tests, each.all, no_count N);
    due_fixed = λ m1 e1. grind (arith, nat_tests);
    get_acks = λ x e1. grind (arith, nat_tests);
    read_acks = λ m1 e1. grind (arith, nat_tests);
    acks_low = λ e1 e2. grind (arith, nat_tests, count_low N (others b.sharers (b.net i).from) (b.net i).from, nodes.from_low i);
    waited_of = λ m1 e1. grind (arith, nat_tests, requests.get_m i);
    inv = λ x e1. grind (arith, nat_tests, each.passes (x - (b.next + 1)));
    inv_ack = λ x e1. grind (arith, nat_tests);
    one_inv = λ x y e1 e2 e3. invs_apart b i _ targets due (no_invs N b waits idle) refl each.apart x y e1 e2 e3;
    ack_line = λ x e1. grind (arith, nat_tests);
  }

  pub unblock_move_waits : At b i Unblock → b.kind ≡ Move → Acknowledgements N (unblock_move b i)
  unblock_move_waits arrives move = grind (arith, nat_tests, waits.one_inv i, stages.one_token i)

  pub unblock_other_waits : At b i Unblock → b.kind ≢ Move → Acknowledgements N (unblock_other b i)
  unblock_other_waits arrives no_move = grind (arith, nat_tests, waits.one_inv i, stages.one_token i)

  pub put_begins_waits : At b i PutReq → b.kind ≡ Idle → Owns b (b.net i).from → Acknowledgements N (put_begins b i)
  put_begins_waits arrives idle sender_owns = grind (arith, nat_tests, waits.one_inv i, stages.one_token i)

  pub put_is_stale_waits : At b i PutReq → b.kind ≡ Idle → (b.at_home ≡ true) ⊎ (b.owner ≢ (b.net i).from) →
      Acknowledgements N (put_is_stale b i)
  put_is_stale_waits arrives idle stale = grind (arith, nat_tests, waits.one_inv i, stages.one_token i)

  pub put_data_waits : At b i PutData → Acknowledgements N (put_data b i)
  put_data_waits arrives = grind (arith, nat_tests, waits.one_inv i, stages.one_token i)

  pub grant_exclusive_waits : At b i GetS → b.kind ≡ Idle → b.at_home ≡ true → ((x : ℕ) → other_sharers b i x ≡ false) →
      Acknowledgements N (grant_exclusive b i)
  grant_exclusive_waits arrives idle home_owns none =
      grind (arith, nat_tests, no_count N, count_low N (λ x. false) (b.net i).from, nodes.from_low i)

  -- The other events.

  pub deliver_advance_waits : Arrives b i Advance → Acknowledgements N (deliver_advance b i)
  deliver_advance_waits arrives = grind (arith, nat_tests, waits.one_inv i, stages.one_token i)

  pub lose_waits : Acknowledgements N (lose b i)
  lose_waits = grind (arith, nat_tests, waits.one_inv i, stages.one_token i)

  pub begin_read_miss_waits : Free N b i → b.line i ≡ NoLine → Acknowledgements N (begin_read_miss b i)
  begin_read_miss_waits free line = grind (arith, nat_tests, waits.one_inv i, stages.one_token i)

  pub begin_write_miss_waits : Free N b i → is_writable (b.line i) ≡ false → Acknowledgements N (begin_write_miss b i)
  begin_write_miss_waits free line = grind (arith, nat_tests, waits.one_inv i, stages.one_token i)

  pub begin_put_waits : i < N → is_here (b.miss i).want ≡ false → b.putting i ≡ NoPut → is_owned (b.line i) ≡ true →
      Acknowledgements N (begin_put b i)
  begin_put_waits low no_miss no_put line = grind (arith, nat_tests, waits.one_inv i, stages.one_token i)

  pub begin_miss_elsewhere_waits : i < N → (b.miss i).want ≡ Nothing → Acknowledgements N (begin_miss_elsewhere b i)
  begin_miss_elsewhere_waits low no_miss = grind (arith, nat_tests, waits.one_inv i, stages.one_token i)

  pub end_miss_elsewhere_waits : (b.miss i).want ≡ Elsewhere → Acknowledgements N (end_miss_elsewhere b i)
  end_miss_elsewhere_waits there = grind (arith, nat_tests, waits.one_inv i, stages.one_token i)

  pub begin_put_elsewhere_waits : i < N → b.putting i ≡ NoPut → Acknowledgements N (begin_put_elsewhere b i)
  begin_put_elsewhere_waits low no_put = grind (arith, nat_tests, waits.one_inv i, stages.one_token i)

  pub end_put_elsewhere_waits : b.putting i ≡ PutElsewhere → Acknowledgements N (end_put_elsewhere b i)
  end_put_elsewhere_waits there = grind (arith, nat_tests, waits.one_inv i, stages.one_token i)

  pub numbers_elsewhere_waits : Acknowledgements N (numbers_elsewhere b i)
  numbers_elsewhere_waits = grind (arith, nat_tests, waits.one_inv i, stages.one_token i)

  pub store_waits : (v : Content) → Free N b i → is_writable (b.line i) ≡ true → Acknowledgements N (store b i v)
  store_waits v free line = grind (arith, nat_tests, waits.one_inv i, stages.one_token i)

  pub evict_shared_waits : is_here (b.miss i).want ≡ false → b.line i ≡ Shared → Acknowledgements N (evict_shared b i)
  evict_shared_waits no_miss line = grind (arith, nat_tests, waits.one_inv i, stages.one_token i)

  pub edge_waits : i < N → b.now i < b.known i + 4 → Acknowledgements N (edge b i)
  edge_waits low room = grind (arith, nat_tests, waits.one_inv i, stages.one_token i)

  pub report_waits : (k : ℕ) → i < N → Acknowledgements N (report b i k)
  report_waits k low = grind (arith, nat_tests, waits.one_inv i, stages.one_token i)

  pub validate_waits : NothingUnfinished N b (b.point + 1) → Acknowledgements N (validate N b)
  validate_waits finished = grind (arith, nat_tests, waits.one_inv i, stages.one_token i)
