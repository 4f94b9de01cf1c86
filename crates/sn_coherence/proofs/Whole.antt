-- Every event keeps all of it.
use Rattle.std.proofs.Common.{◌≡◌, ◌≢◌, ℕ, ◌<◌, Bool, true, false, cond, ◌==◌, refl, arith}
use Rattle.std.proofs.lemmas.Bool.Decides.{nat_tests}
use Rattle.sn_coherence.specs.Block.{Block, Kind, Move, Body, DataM, UpgOk, InvAck, Unblock, is_to_home}
use Rattle.sn_coherence.specs.CacheRows.{data_modified, upgrade_granted, acknowledge}
use Rattle.sn_coherence.specs.HomeRows.{unblock, is_move}
use Rattle.sn_coherence.specs.Invariant.{BlockInvariant, Requests, count}
use Rattle.sn_coherence.specs.Events.{Event, ForwardRead, ForwardWrite, Invalidate, DataShared, DataModified, UpgradeGranted, Acknowledge}
use Rattle.sn_coherence.specs.Events.{PutGoes, PutIsDone, DataExclusive, ReadAtHome, ReadAtOwner, Takes, MovesOwnership, Upgrades, Unblocks}
use Rattle.sn_coherence.specs.Events.{PutBegins, PutIsStale, PutDataComes, GrantExclusive, DeliverReady, DeliverAdvance, Lose}
use Rattle.sn_coherence.specs.Events.{BeginReadMiss, BeginWriteMiss, BeginPut, BeginMissElsewhere, EndMissElsewhere, BeginPutElsewhere}
use Rattle.sn_coherence.specs.Events.{EndPutElsewhere, NumbersElsewhere, Load, LoadReserved, Store, StoreConditionalDone}
use Rattle.sn_coherence.specs.Events.{StoreConditionalUndone, EvictShared, Edge, Report, Validate, Recover, Allows, after, Arrives}
use Rattle.sn_coherence.specs.Events.{other_sharers}
use Rattle.sn_coherence.proofs.Rows.{At}
use Rattle.sn_coherence.proofs.Counts.{count_none}
use Rattle.sn_coherence.proofs.Ends.{recover_kept}
use Rattle.sn_coherence.proofs.EachRow.{forward_read_kept, forward_write_kept, invalidate_kept, data_shared_kept, data_modified_open_kept}
use Rattle.sn_coherence.proofs.EachRow.{data_modified_complete_kept, upgrade_granted_open_kept, upgrade_granted_complete_kept}
use Rattle.sn_coherence.proofs.EachRow.{acknowledge_open_kept, acknowledge_complete_kept, put_go_kept, put_done_kept, data_exclusive_kept}
use Rattle.sn_coherence.proofs.EachRow.{read_at_home_kept, read_at_owner_kept, take_kept, move_ownership_kept, upgrade_kept}
use Rattle.sn_coherence.proofs.EachRow.{unblock_move_kept, unblock_other_kept, put_begins_kept, put_is_stale_kept, put_data_kept}
use Rattle.sn_coherence.proofs.EachRow.{grant_exclusive_kept, deliver_advance_kept, lose_kept, begin_read_miss_kept, begin_write_miss_kept}
use Rattle.sn_coherence.proofs.EachRow.{begin_put_kept, begin_miss_elsewhere_kept, end_miss_elsewhere_kept, begin_put_elsewhere_kept}
use Rattle.sn_coherence.proofs.EachRow.{end_put_elsewhere_kept, numbers_elsewhere_kept, store_kept, evict_shared_kept, edge_kept}
use Rattle.sn_coherence.proofs.EachRow.{report_kept, validate_kept}

-- a row with two ends
chosen_kept : (N : ℕ) (t : Bool) (x y : Block) → (t ≡ true → BlockInvariant N x) → (t ≡ false → BlockInvariant N y) →
    BlockInvariant N (cond t x y)
chosen_kept N true x y first second = first refl
chosen_kept N false x y first second = second refl

pub equal : (x y : ℕ) → (x == y) ≡ true → x ≡ y
equal x y e = grind (arith, nat_tests)

pub unequal : (x y : ℕ) → (x == y) ≡ false → x ≢ y
unequal x y e = grind (arith, nat_tests)

pub moves : (k : Kind) → is_move k ≡ true → k ≡ Move
moves k e = grind arith

pub stays : (k : Kind) → is_move k ≡ false → k ≢ Move
stays k e = grind arith

-- a message for the home has come to the home
pub at : (b : Block) (i : ℕ) (body : Body) → Requests b → is_to_home body ≡ true → Arrives b i body → At b i body
at b i body q h a = (a.0, grind (arith, q.to_home i))

module _ (N : ℕ) (b : Block) (i : ℕ) (kept : BlockInvariant N b) where
  data_modified_kept : Arrives b i DataM → BlockInvariant N (data_modified b i)
  data_modified_kept a = chosen_kept N _ _ _
      (λ e. data_modified_complete_kept N b i kept a (equal _ _ e))
      (λ e. data_modified_open_kept N b i kept a (unequal _ _ e))

  upgrade_granted_kept : Arrives b i UpgOk → BlockInvariant N (upgrade_granted b i)
  upgrade_granted_kept a = chosen_kept N _ _ _
      (λ e. upgrade_granted_complete_kept N b i kept a (equal _ _ e))
      (λ e. upgrade_granted_open_kept N b i kept a (unequal _ _ e))

  acknowledge_kept : Arrives b i InvAck → BlockInvariant N (acknowledge b i)
  acknowledge_kept a = chosen_kept N _ _ _ (λ e. acknowledge_complete_kept N b i kept a e) (λ e. acknowledge_open_kept N b i kept a e)

  unblock_kept : At b i Unblock → BlockInvariant N (unblock b i)
  unblock_kept a = chosen_kept N _ _ _
      (λ e. unblock_move_kept N b i kept a (moves _ e))
      (λ e. unblock_other_kept N b i kept a (stays _ e))

  pub no_others : count N (other_sharers b i) ≡ 0 → (x : ℕ) → other_sharers b i x ≡ false
  no_others e = count_none N (other_sharers b i) e low
    where
      low : (x : ℕ) → other_sharers b i x ≡ true → x < N
      low x s = grind (arith, nat_tests, kept.nodes.sharer_low x)

pub event_kept : (N : ℕ) (b : Block) (e : Event) → BlockInvariant N b → Allows N b e → BlockInvariant N (after N b e)
event_kept N b (ForwardRead i) k a = forward_read_kept N b i k a
event_kept N b (ForwardWrite i) k a = forward_write_kept N b i k a
event_kept N b (Invalidate i) k a = invalidate_kept N b i k a
event_kept N b (DataShared i) k a = data_shared_kept N b i k a
event_kept N b (DataModified i) k a = data_modified_kept N b i k a
event_kept N b (UpgradeGranted i) k a = upgrade_granted_kept N b i k a
event_kept N b (Acknowledge i) k a = acknowledge_kept N b i k a
event_kept N b (PutGoes i) k a = put_go_kept N b i k a
event_kept N b (PutIsDone i) k a = put_done_kept N b i k a
event_kept N b (DataExclusive i) k a = data_exclusive_kept N b i k a
event_kept N b (ReadAtHome i) k a = read_at_home_kept N b i k (at b i _ k.requests refl a.0.0) a.0.1 a.1
event_kept N b (ReadAtOwner i) k a = read_at_owner_kept N b i k (at b i _ k.requests refl a.0.0) a.0.1 a.1
event_kept N b (Takes i targets due) k a = take_kept N b i k targets due (at b i _ k.requests refl a.0.0) a.0.1 a.1 a.2
event_kept N b (MovesOwnership i targets due) k a = move_ownership_kept N b i k targets due (at b i _ k.requests refl a.0.0) a.0.1 a.1 a.2
event_kept N b (Upgrades i targets due) k a = upgrade_kept N b i k targets due (at b i _ k.requests refl a.0.0) a.0.1 a.1 a.2
event_kept N b (Unblocks i) k a = unblock_kept N b i k (at b i _ k.requests refl a)
event_kept N b (PutBegins i) k a = put_begins_kept N b i k (at b i _ k.requests refl a.0.0) a.0.1 a.1
event_kept N b (PutIsStale i) k a = put_is_stale_kept N b i k (at b i _ k.requests refl a.0.0) a.0.1 a.1
event_kept N b (PutDataComes i) k a = put_data_kept N b i k (at b i _ k.requests refl a)
event_kept N b (GrantExclusive i) k a = grant_exclusive_kept N b i k (at b i _ k.requests refl a.0.0) a.0.1 a.1 (no_others N b i k a.2)
event_kept N b (DeliverReady i) k a = lose_kept N b i k
event_kept N b (DeliverAdvance i) k a = deliver_advance_kept N b i k a
event_kept N b (Lose i) k a = lose_kept N b i k
event_kept N b (BeginReadMiss n) k a = begin_read_miss_kept N b n k a.0 a.1
event_kept N b (BeginWriteMiss n) k a = begin_write_miss_kept N b n k a.0 a.1
event_kept N b (BeginPut n) k a = begin_put_kept N b n k a.0 a.1 a.2 a.3
event_kept N b (BeginMissElsewhere n) k a = begin_miss_elsewhere_kept N b n k a.0 a.1
event_kept N b (EndMissElsewhere n) k a = end_miss_elsewhere_kept N b n k a
event_kept N b (BeginPutElsewhere n) k a = begin_put_elsewhere_kept N b n k a.0 a.1
event_kept N b (EndPutElsewhere n) k a = end_put_elsewhere_kept N b n k a
event_kept N b (NumbersElsewhere n) k a = numbers_elsewhere_kept N b n k
event_kept N b (Load n) k a = k
event_kept N b (LoadReserved n) k a = k
event_kept N b (Store n v) k a = store_kept N b n k v a.0 a.1
event_kept N b (StoreConditionalDone n v) k a = store_kept N b n k v a.0 a.1
event_kept N b (StoreConditionalUndone n) k a = k
event_kept N b (EvictShared n) k a = evict_shared_kept N b n k a.0 a.1
event_kept N b (Edge n) k a = edge_kept N b n k a.0 a.1
event_kept N b (Report n x) k a = report_kept N b n k x a.0
event_kept N b Validate k a = validate_kept N b 0 k a
event_kept N b Recover k a = recover_kept N b k
