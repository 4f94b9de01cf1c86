-- Contents at cuts: each row and event keeps them.
use Rattle.std.proofs.Common.{◌≡◌, ◌≢◌, ℕ, ◌+◌, ◌<◌, ◌≤◌, true, false, ◌⊎◌, arith}
use Rattle.std.proofs.lemmas.Bool.Decides.{nat_tests}
use Rattle.sn_coherence.specs.Block.{Block, Content, NoLine, Shared, Nothing, Elsewhere, NoPut, PutElsewhere, Idle, Move, GetS, GetM}
use Rattle.sn_coherence.specs.Block.{FwdGetS, FwdGetM, Inv, DataS, DataM, DataE, UpgOk, InvAck, Unblock, PutReq, PutData, PutGo, PutDone}
use Rattle.sn_coherence.specs.Block.{Ready, Advance, is_owned, is_writable, is_here}
use Rattle.sn_coherence.specs.CacheRows.{forward_read, forward_write, invalidate, data_shared, data_modified_open, data_modified_complete}
use Rattle.sn_coherence.specs.CacheRows.{upgrade_granted_open, upgrade_granted_complete, acknowledge_open, acknowledge_complete, put_go}
use Rattle.sn_coherence.specs.CacheRows.{put_done, data_exclusive}
use Rattle.sn_coherence.specs.HomeRows.{read_at_home, read_at_owner, take, move_ownership, upgrade, unblock_move, unblock_other, put_begins}
use Rattle.sn_coherence.specs.HomeRows.{put_is_stale, put_data, grant_exclusive}
use Rattle.sn_coherence.specs.OtherEvents.{begin_read_miss, begin_write_miss, begin_put, begin_miss_elsewhere, end_miss_elsewhere}
use Rattle.sn_coherence.specs.OtherEvents.{begin_put_elsewhere, end_put_elsewhere, numbers_elsewhere, store, evict_shared, edge, report}
use Rattle.sn_coherence.specs.OtherEvents.{validate, lose, deliver_advance}
use Rattle.sn_coherence.specs.Invariant.{Clocks, Nodes, Stages, Requests, Owners, Acknowledgements, Sharing, Logs, Cuts}
use Rattle.sn_coherence.specs.Events.{IsReady, Arrives, Owns, OtherOwns, other_sharers, NothingUnfinished, Free}
use Rattle.sn_coherence.proofs.Rows.{At, IsLast}
use Rattle.sn_coherence.specs.Records.{Records, loads, loads_reserved, stores, unreserves, stores_conditional, hears}
use Rattle.sn_coherence.specs.RecordsInvariant.{Contents, Accesses, CutContents}

-- what a node learns is at most the point
learned_low : (N : ℕ) (b : Block) (i : ℕ) → Clocks N b → Arrives b i Advance → (b.net i).number ≤ b.point
learned_low N b i c a = grind (arith, c.advance_point i)

-- so freeing leaves the cuts from the point on
freed_home_held : (b : Block) (r : Records) (i : ℕ) → CutContents b r → (b.net i).number ≤ b.point → (j : ℕ) → b.point ≤ j →
    (deliver_advance b i).named_home j ≡ true → (deliver_advance b i).home_held j ≡ r.below j
freed_home_held b r i d low j e1 e2 = grind (arith, nat_tests, d.home_held j)

freed_held : (b : Block) (r : Records) (i : ℕ) → CutContents b r → (b.net i).number ≤ b.point → (n j : ℕ) → b.point ≤ j →
    (deliver_advance b i).holds n j ≡ true → (deliver_advance b i).held n j ≡ r.below j
freed_held b r i d low n j e1 e2 = grind (arith, nat_tests, d.held n j)

module _ (N : ℕ) (b : Block) (r : Records) (i : ℕ) (cut_contents : CutContents b r) (contents : Contents b r) (accesses : Accesses b r) (stages : Stages b) (owners : Owners b) (logs : Logs b) (cuts : Cuts b) (clocks : Clocks N b) (nodes : Nodes N b) where
  -- The cache's rows.

  pub forward_read_cut_contents : Arrives b i FwdGetS → CutContents (forward_read b i) r
  forward_read_cut_contents arrives = grind (arith, nat_tests)

  pub forward_write_cut_contents : Arrives b i FwdGetM → CutContents (forward_write b i) (unreserves r (b.net i).to)
  forward_write_cut_contents arrives = grind (arith, nat_tests)

  pub invalidate_cut_contents : Acknowledgements N b → Sharing b → Arrives b i Inv →
      CutContents (invalidate b i) (unreserves r (b.net i).to)
  invalidate_cut_contents waits sharing arrives = grind (arith, nat_tests)

  pub data_shared_cut_contents : Requests b → Sharing b → Arrives b i DataS → CutContents (data_shared b i) r
  data_shared_cut_contents requests sharing arrives = grind (arith, nat_tests)

  pub data_modified_open_cut_contents : Arrives b i DataM → (b.miss (b.net i).to).acks ≢ (b.net i).due →
      CutContents (data_modified_open b i) r
  data_modified_open_cut_contents arrives some_lack = grind (arith, nat_tests)

  pub data_modified_complete_cut_contents : Arrives b i DataM → (b.miss (b.net i).to).acks ≡ (b.net i).due →
      CutContents (data_modified_complete b i) r
  data_modified_complete_cut_contents arrives all_in = grind (arith, nat_tests)

  pub upgrade_granted_open_cut_contents : Arrives b i UpgOk → (b.miss (b.net i).to).acks ≢ (b.net i).due →
      CutContents (upgrade_granted_open b i) r
  upgrade_granted_open_cut_contents arrives some_lack = grind (arith, nat_tests)

  pub upgrade_granted_complete_cut_contents : Arrives b i UpgOk → (b.miss (b.net i).to).acks ≡ (b.net i).due →
      CutContents (upgrade_granted_complete b i) r
  upgrade_granted_complete_cut_contents arrives all_in = grind (arith, nat_tests)

  pub acknowledge_open_cut_contents : Acknowledgements N b → Arrives b i InvAck → IsLast b i ≡ false → CutContents (acknowledge_open b i) r
  acknowledge_open_cut_contents waits arrives not_last = grind (arith, nat_tests)

  pub acknowledge_complete_cut_contents : Acknowledgements N b → Arrives b i InvAck → IsLast b i ≡ true →
      CutContents (acknowledge_complete b i) r
  acknowledge_complete_cut_contents waits arrives last = grind (arith, nat_tests)

  pub put_go_cut_contents : Arrives b i PutGo → CutContents (put_go b i) (unreserves r (b.net i).to)
  put_go_cut_contents arrives = grind (arith, nat_tests)

  pub put_done_cut_contents : Arrives b i PutDone → CutContents (put_done b i) r
  put_done_cut_contents arrives = grind (arith, nat_tests)

  pub data_exclusive_cut_contents : Arrives b i DataE → CutContents (data_exclusive b i) r
  data_exclusive_cut_contents arrives = grind (arith, nat_tests)

  -- The home's rows.

  pub read_at_home_cut_contents : At b i GetS → b.kind ≡ Idle → b.at_home ≡ true → CutContents (read_at_home b i) r
  read_at_home_cut_contents arrives idle home_owns = grind (arith, nat_tests)

  pub read_at_owner_cut_contents : At b i GetS → b.kind ≡ Idle → b.at_home ≡ false → CutContents (read_at_owner b i) r
  read_at_owner_cut_contents arrives idle cache_owns = grind (arith, nat_tests)

  pub take_cut_contents : (targets : ℕ → ℕ) (due : ℕ) → At b i GetM → b.kind ≡ Idle → b.at_home ≡ true →
      CutContents (take b i targets due) r
  take_cut_contents targets due arrives idle home_owns = record {
    held = λ m1 y e1 e2. grind (arith, nat_tests);
    home_held = λ y e1 e2. grind (arith, nat_tests);
  }

  pub move_ownership_cut_contents : (targets : ℕ → ℕ) (due : ℕ) → At b i GetM → b.kind ≡ Idle → OtherOwns b (b.net i).from →
      CutContents (move_ownership b i targets due) r
  move_ownership_cut_contents targets due arrives idle other_owns = record {
    held = λ m1 y e1 e2. grind (arith, nat_tests);
    home_held = λ y e1 e2. grind (arith, nat_tests);
  }

  pub upgrade_cut_contents : (targets : ℕ → ℕ) (due : ℕ) → At b i GetM → b.kind ≡ Idle → Owns b (b.net i).from →
      CutContents (upgrade b i targets due) r
  upgrade_cut_contents targets due arrives idle sender_owns = record {
    held = λ m1 y e1 e2. grind (arith, nat_tests);
    home_held = λ y e1 e2. grind (arith, nat_tests);
  }

  pub unblock_move_cut_contents : At b i Unblock → b.kind ≡ Move → CutContents (unblock_move b i) r
  unblock_move_cut_contents arrives move = grind (arith, nat_tests)

  pub unblock_other_cut_contents : At b i Unblock → b.kind ≢ Move → CutContents (unblock_other b i) r
  unblock_other_cut_contents arrives no_move = grind (arith, nat_tests)

  pub put_begins_cut_contents : At b i PutReq → b.kind ≡ Idle → Owns b (b.net i).from → CutContents (put_begins b i) r
  put_begins_cut_contents arrives idle sender_owns = grind (arith, nat_tests)

  pub put_is_stale_cut_contents : At b i PutReq → b.kind ≡ Idle → (b.at_home ≡ true) ⊎ (b.owner ≢ (b.net i).from) →
      CutContents (put_is_stale b i) r
  put_is_stale_cut_contents arrives idle stale = grind (arith, nat_tests)

  pub put_data_cut_contents : At b i PutData → CutContents (put_data b i) r
  put_data_cut_contents arrives = grind (arith, nat_tests)

  pub grant_exclusive_cut_contents : At b i GetS → b.kind ≡ Idle → b.at_home ≡ true → ((x : ℕ) → other_sharers b i x ≡ false) →
      CutContents (grant_exclusive b i) r
  grant_exclusive_cut_contents arrives idle home_owns none = grind (arith, nat_tests)

  -- The other events.

  pub deliver_advance_cut_contents : Arrives b i Advance → CutContents (deliver_advance b i) r
  deliver_advance_cut_contents arrives = record {
    held = λ m1 y e1 e2. freed_held b r i cut_contents (learned_low N b i clocks arrives) m1 y e1 e2;
    home_held = λ y e1 e2. freed_home_held b r i cut_contents (learned_low N b i clocks arrives) y e1 e2;
  }

  pub lose_cut_contents : CutContents (lose b i) r
  lose_cut_contents = grind (arith, nat_tests)

  pub begin_read_miss_cut_contents : Free N b i → b.line i ≡ NoLine → CutContents (begin_read_miss b i) r
  begin_read_miss_cut_contents free line = grind (arith, nat_tests)

  pub begin_write_miss_cut_contents : Free N b i → is_writable (b.line i) ≡ false → CutContents (begin_write_miss b i) r
  begin_write_miss_cut_contents free line = grind (arith, nat_tests)

  pub begin_put_cut_contents : i < N → is_here (b.miss i).want ≡ false → b.putting i ≡ NoPut → is_owned (b.line i) ≡ true →
      CutContents (begin_put b i) r
  begin_put_cut_contents low no_miss no_put line = grind (arith, nat_tests)

  pub begin_miss_elsewhere_cut_contents : i < N → (b.miss i).want ≡ Nothing → CutContents (begin_miss_elsewhere b i) r
  begin_miss_elsewhere_cut_contents low no_miss = grind (arith, nat_tests)

  pub end_miss_elsewhere_cut_contents : (b.miss i).want ≡ Elsewhere → CutContents (end_miss_elsewhere b i) r
  end_miss_elsewhere_cut_contents there = grind (arith, nat_tests)

  pub begin_put_elsewhere_cut_contents : i < N → b.putting i ≡ NoPut → CutContents (begin_put_elsewhere b i) r
  begin_put_elsewhere_cut_contents low no_put = grind (arith, nat_tests)

  pub end_put_elsewhere_cut_contents : b.putting i ≡ PutElsewhere → CutContents (end_put_elsewhere b i) r
  end_put_elsewhere_cut_contents there = grind (arith, nat_tests)

  pub numbers_elsewhere_cut_contents : CutContents (numbers_elsewhere b i) r
  numbers_elsewhere_cut_contents = grind (arith, nat_tests)

  pub store_cut_contents : (v : Content) → Free N b i → is_writable (b.line i) ≡ true → CutContents (store b i v) (stores r i (b.now i) v)
  store_cut_contents v free line = record {
    held = λ m1 y e1 e2. grind (arith, nat_tests, logs.below_owner m1 i);
    home_held = λ y e1 e2. grind (arith, nat_tests, cuts.one i y, logs.holds_now i y, cuts.named_still y);
  }

  pub store_conditional_cut_contents : (v : Content) → Free N b i → is_writable (b.line i) ≡ true →
      CutContents (store b i v) (stores_conditional r i (b.now i) v)
  store_conditional_cut_contents v free line = record {
    held = λ m1 y e1 e2. grind (arith, nat_tests, logs.below_owner m1 i);
    home_held = λ y e1 e2. grind (arith, nat_tests, cuts.one i y, logs.holds_now i y, cuts.named_still y);
  }

  pub evict_shared_cut_contents : is_here (b.miss i).want ≡ false → b.line i ≡ Shared → CutContents (evict_shared b i) (unreserves r i)
  evict_shared_cut_contents no_miss line = grind (arith, nat_tests)

  pub edge_cut_contents : i < N → b.now i < b.known i + 4 → CutContents (edge b i) (unreserves r i)
  edge_cut_contents low room = grind (arith, nat_tests)

  pub report_cut_contents : (k : ℕ) → i < N → IsReady b i k → CutContents (report b i k) r
  report_cut_contents k low ready = grind (arith, nat_tests)

  pub validate_cut_contents : NothingUnfinished N b (b.point + 1) → CutContents (validate N b) r
  validate_cut_contents finished = grind (arith, nat_tests)

  pub load_cut_contents : Free N b i → b.line i ≢ NoLine → CutContents b (loads r i (b.now i))
  load_cut_contents free line = grind (arith, nat_tests)

  pub load_reserved_cut_contents : Free N b i → b.line i ≢ NoLine → CutContents b (loads_reserved r i (b.now i))
  load_reserved_cut_contents free line = grind (arith, nat_tests)

  pub store_conditional_undone_cut_contents : CutContents b (unreserves r i)
  store_conditional_undone_cut_contents = grind (arith, nat_tests)

  pub deliver_ready_cut_contents : Arrives b i Ready → CutContents (lose b i) (hears r (b.net i).from (b.net i).number)
  deliver_ready_cut_contents arrives = grind (arith, nat_tests)
