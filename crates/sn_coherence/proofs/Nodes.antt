-- Nodes: each row and event keeps to them.
use Rattle.std.proofs.Common.{◌≡◌, ◌≢◌, ℕ, ◌+◌, ◌-◌, ◌<◌, true, false, ◌⊎◌, arith}
use Rattle.std.proofs.lemmas.Bool.Decides.{nat_tests}
use Rattle.sn_coherence.specs.Block.{Block, Content, NoLine, Shared, Nothing, Elsewhere, NoPut, PutElsewhere, Idle, Move, GetS, GetM}
use Rattle.sn_coherence.specs.Block.{FwdGetS, FwdGetM, Inv, DataS, DataM, DataE, UpgOk, InvAck, Unblock, PutReq, PutData, PutGo, PutDone}
use Rattle.sn_coherence.specs.Block.{Advance, is_owned, is_writable, is_here}
use Rattle.sn_coherence.specs.CacheRows.{forward_read, forward_write, invalidate, data_shared, data_modified_open, data_modified_complete}
use Rattle.sn_coherence.specs.CacheRows.{upgrade_granted_open, upgrade_granted_complete, acknowledge_open, acknowledge_complete, put_go}
use Rattle.sn_coherence.specs.CacheRows.{put_done, data_exclusive}
use Rattle.sn_coherence.specs.HomeRows.{read_at_home, read_at_owner, take, move_ownership, upgrade, unblock_move, unblock_other, put_begins}
use Rattle.sn_coherence.specs.HomeRows.{put_is_stale, put_data, grant_exclusive}
use Rattle.sn_coherence.specs.OtherEvents.{begin_read_miss, begin_write_miss, begin_put, begin_miss_elsewhere, end_miss_elsewhere}
use Rattle.sn_coherence.specs.OtherEvents.{begin_put_elsewhere, end_put_elsewhere, numbers_elsewhere, store, evict_shared, edge, report}
use Rattle.sn_coherence.specs.OtherEvents.{validate, lose, deliver_advance}
use Rattle.sn_coherence.specs.Invariant.{Nodes, Stages, Owners, Acknowledgements}
use Rattle.sn_coherence.specs.Events.{Arrives, Owns, OtherOwns, Lists, other_sharers, NothingUnfinished, Free}
use Rattle.sn_coherence.proofs.Rows.{At, IsLast}

module _ (N : ℕ) (b : Block) (i : ℕ) (nodes : Nodes N b) (stages : Stages b) (owners : Owners b) where
  -- The cache's rows.

  pub forward_read_nodes : Arrives b i FwdGetS → Nodes N (forward_read b i)
  forward_read_nodes arrives = grind (arith, nat_tests)

  pub forward_write_nodes : Arrives b i FwdGetM → Nodes N (forward_write b i)
  forward_write_nodes arrives = grind (arith, nat_tests)

  pub invalidate_nodes : Acknowledgements N b → Arrives b i Inv → Nodes N (invalidate b i)
  invalidate_nodes waits arrives = grind (arith, nat_tests)

  pub data_shared_nodes : Arrives b i DataS → Nodes N (data_shared b i)
  data_shared_nodes arrives = grind (arith, nat_tests)

  pub data_modified_open_nodes : Arrives b i DataM → (b.miss (b.net i).to).acks ≢ (b.net i).due → Nodes N (data_modified_open b i)
  data_modified_open_nodes arrives some_lack = grind (arith, nat_tests)

  pub data_modified_complete_nodes : Arrives b i DataM → (b.miss (b.net i).to).acks ≡ (b.net i).due → Nodes N (data_modified_complete b i)
  data_modified_complete_nodes arrives all_in = grind (arith, nat_tests)

  pub upgrade_granted_open_nodes : Arrives b i UpgOk → (b.miss (b.net i).to).acks ≢ (b.net i).due → Nodes N (upgrade_granted_open b i)
  upgrade_granted_open_nodes arrives some_lack = grind (arith, nat_tests)

  pub upgrade_granted_complete_nodes : Arrives b i UpgOk → (b.miss (b.net i).to).acks ≡ (b.net i).due →
      Nodes N (upgrade_granted_complete b i)
  upgrade_granted_complete_nodes arrives all_in = grind (arith, nat_tests)

  pub acknowledge_open_nodes : Arrives b i InvAck → IsLast b i ≡ false → Nodes N (acknowledge_open b i)
  acknowledge_open_nodes arrives not_last = grind (arith, nat_tests)

  pub acknowledge_complete_nodes : Arrives b i InvAck → IsLast b i ≡ true → Nodes N (acknowledge_complete b i)
  acknowledge_complete_nodes arrives last = grind (arith, nat_tests)

  pub put_go_nodes : Arrives b i PutGo → Nodes N (put_go b i)
  put_go_nodes arrives = grind (arith, nat_tests)

  pub put_done_nodes : Arrives b i PutDone → Nodes N (put_done b i)
  put_done_nodes arrives = grind (arith, nat_tests)

  pub data_exclusive_nodes : Arrives b i DataE → Nodes N (data_exclusive b i)
  data_exclusive_nodes arrives = grind (arith, nat_tests)

  -- The home's rows.

  pub read_at_home_nodes : At b i GetS → b.kind ≡ Idle → b.at_home ≡ true → Nodes N (read_at_home b i)
  read_at_home_nodes arrives idle home_owns = grind (arith, nat_tests)

  pub read_at_owner_nodes : At b i GetS → b.kind ≡ Idle → b.at_home ≡ false → Nodes N (read_at_owner b i)
  read_at_owner_nodes arrives idle cache_owns = grind (arith, nat_tests)

  pub take_nodes : (targets : ℕ → ℕ) (due : ℕ) → At b i GetM → b.kind ≡ Idle → b.at_home ≡ true → Lists N (other_sharers b i) targets due →
      Nodes N (take b i targets due)
  take_nodes targets due arrives idle home_owns each = record {
    home_low = grind (arith, nat_tests);
    from_low = λ x e1. grind (arith, nat_tests);
    to_low = λ x e1. grind (arith, nat_tests, each.passes (x - (b.next + 1)));
    requester_low = λ e1. grind (arith, nat_tests);
    sharer_low = λ m1 e1. grind (arith, nat_tests);
    waited_low = λ m1 e1. grind (arith, nat_tests);
    owner_low = λ e1. grind (arith, nat_tests);
    named_low = λ y e1. grind (arith, nat_tests);
    line_low = λ m1 e1. grind (arith, nat_tests);
    miss_low = λ m1 e1. grind (arith, nat_tests);
    put_low = λ m1 e1. grind (arith, nat_tests);
  }

  pub move_ownership_nodes : (targets : ℕ → ℕ) (due : ℕ) → At b i GetM → b.kind ≡ Idle → OtherOwns b (b.net i).from →
      Lists N (other_sharers b i) targets due → Nodes N (move_ownership b i targets due)
  move_ownership_nodes targets due arrives idle other_owns each = record {
    home_low = grind (arith, nat_tests);
    from_low = λ x e1. grind (arith, nat_tests);
    to_low = λ x e1. grind (arith, nat_tests, each.passes (x - (b.next + 1)));
    requester_low = λ e1. grind (arith, nat_tests);
    sharer_low = λ m1 e1. grind (arith, nat_tests);
    waited_low = λ m1 e1. grind (arith, nat_tests);
    owner_low = λ e1. grind (arith, nat_tests);
    named_low = λ y e1. grind (arith, nat_tests);
    line_low = λ m1 e1. grind (arith, nat_tests);
    miss_low = λ m1 e1. grind (arith, nat_tests);
    put_low = λ m1 e1. grind (arith, nat_tests);
  }

  pub upgrade_nodes : (targets : ℕ → ℕ) (due : ℕ) → At b i GetM → b.kind ≡ Idle → Owns b (b.net i).from →
      Lists N (other_sharers b i) targets due → Nodes N (upgrade b i targets due)
  upgrade_nodes targets due arrives idle sender_owns each = record {
    home_low = grind (arith, nat_tests);
    from_low = λ x e1. grind (arith, nat_tests);
    to_low = λ x e1. grind (arith, nat_tests, each.passes (x - (b.next + 1)));
    requester_low = λ e1. grind (arith, nat_tests);
    sharer_low = λ m1 e1. grind (arith, nat_tests);
    waited_low = λ m1 e1. grind (arith, nat_tests);
    owner_low = λ e1. grind (arith, nat_tests);
    named_low = λ y e1. grind (arith, nat_tests);
    line_low = λ m1 e1. grind (arith, nat_tests);
    miss_low = λ m1 e1. grind (arith, nat_tests);
    put_low = λ m1 e1. grind (arith, nat_tests);
  }

  pub unblock_move_nodes : At b i Unblock → b.kind ≡ Move → Nodes N (unblock_move b i)
  unblock_move_nodes arrives move = grind (arith, nat_tests)

  pub unblock_other_nodes : At b i Unblock → b.kind ≢ Move → Nodes N (unblock_other b i)
  unblock_other_nodes arrives no_move = grind (arith, nat_tests)

  pub put_begins_nodes : At b i PutReq → b.kind ≡ Idle → Owns b (b.net i).from → Nodes N (put_begins b i)
  put_begins_nodes arrives idle sender_owns = grind (arith, nat_tests)

  pub put_is_stale_nodes : At b i PutReq → b.kind ≡ Idle → (b.at_home ≡ true) ⊎ (b.owner ≢ (b.net i).from) → Nodes N (put_is_stale b i)
  put_is_stale_nodes arrives idle stale = grind (arith, nat_tests)

  pub put_data_nodes : At b i PutData → Nodes N (put_data b i)
  put_data_nodes arrives = grind (arith, nat_tests)

  pub grant_exclusive_nodes : At b i GetS → b.kind ≡ Idle → b.at_home ≡ true → ((x : ℕ) → other_sharers b i x ≡ false) →
      Nodes N (grant_exclusive b i)
  grant_exclusive_nodes arrives idle home_owns none = grind (arith, nat_tests)

  -- The other events.

  pub deliver_advance_nodes : Arrives b i Advance → Nodes N (deliver_advance b i)
  deliver_advance_nodes arrives = record {
    home_low = grind (arith, nat_tests);
    from_low = λ x e1. grind (arith, nat_tests);
    to_low = λ x e1. grind (arith, nat_tests);
    requester_low = λ e1. grind (arith, nat_tests);
    sharer_low = λ m1 e1. grind (arith, nat_tests);
    waited_low = λ m1 e1. grind (arith, nat_tests);
    owner_low = λ e1. grind (arith, nat_tests);
    named_low = λ y e1. grind (arith, nat_tests);
    line_low = λ m1 e1. grind (arith, nat_tests);
    miss_low = λ m1 e1. grind (arith, nat_tests);
    put_low = λ m1 e1. grind (arith, nat_tests);
  }

  pub lose_nodes : Nodes N (lose b i)
  lose_nodes = grind (arith, nat_tests)

  pub begin_read_miss_nodes : Free N b i → b.line i ≡ NoLine → Nodes N (begin_read_miss b i)
  begin_read_miss_nodes free line = grind (arith, nat_tests)

  pub begin_write_miss_nodes : Free N b i → is_writable (b.line i) ≡ false → Nodes N (begin_write_miss b i)
  begin_write_miss_nodes free line = grind (arith, nat_tests)

  pub begin_put_nodes : i < N → is_here (b.miss i).want ≡ false → b.putting i ≡ NoPut → is_owned (b.line i) ≡ true → Nodes N (begin_put b i)
  begin_put_nodes low no_miss no_put line = grind (arith, nat_tests)

  pub begin_miss_elsewhere_nodes : i < N → (b.miss i).want ≡ Nothing → Nodes N (begin_miss_elsewhere b i)
  begin_miss_elsewhere_nodes low no_miss = grind (arith, nat_tests)

  pub end_miss_elsewhere_nodes : (b.miss i).want ≡ Elsewhere → Nodes N (end_miss_elsewhere b i)
  end_miss_elsewhere_nodes there = grind (arith, nat_tests)

  pub begin_put_elsewhere_nodes : i < N → b.putting i ≡ NoPut → Nodes N (begin_put_elsewhere b i)
  begin_put_elsewhere_nodes low no_put = grind (arith, nat_tests)

  pub end_put_elsewhere_nodes : b.putting i ≡ PutElsewhere → Nodes N (end_put_elsewhere b i)
  end_put_elsewhere_nodes there = grind (arith, nat_tests)

  pub numbers_elsewhere_nodes : Nodes N (numbers_elsewhere b i)
  numbers_elsewhere_nodes = grind (arith, nat_tests)

  pub store_nodes : (v : Content) → Free N b i → is_writable (b.line i) ≡ true → Nodes N (store b i v)
  store_nodes v free line = grind (arith, nat_tests)

  pub evict_shared_nodes : is_here (b.miss i).want ≡ false → b.line i ≡ Shared → Nodes N (evict_shared b i)
  evict_shared_nodes no_miss line = grind (arith, nat_tests)

  pub edge_nodes : i < N → b.now i < b.known i + 4 → Nodes N (edge b i)
  edge_nodes low room = grind (arith, nat_tests)

  pub report_nodes : (k : ℕ) → i < N → Nodes N (report b i k)
  report_nodes k low = grind (arith, nat_tests)

  pub validate_nodes : NothingUnfinished N b (b.point + 1) → Nodes N (validate N b)
  validate_nodes finished = record {
    home_low = grind (arith, nat_tests);
    from_low = λ x e1. grind (arith, nat_tests);
    to_low = λ x e1. grind (arith, nat_tests);
    requester_low = λ e1. grind (arith, nat_tests);
    sharer_low = λ m1 e1. grind (arith, nat_tests);
    waited_low = λ m1 e1. grind (arith, nat_tests);
    owner_low = λ e1. grind (arith, nat_tests);
    named_low = λ y e1. grind (arith, nat_tests);
    line_low = λ m1 e1. grind (arith, nat_tests);
    miss_low = λ m1 e1. grind (arith, nat_tests);
    put_low = λ m1 e1. grind (arith, nat_tests);
  }
