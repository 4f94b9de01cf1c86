-- Every event keeps all of the records' sentences.
use Rattle.std.proofs.Common.{◌≡◌, ℕ, ◌+◌, ◌<◌, Bool, true, false, cond, refl, arith}
use Rattle.sn_coherence.specs.Block.{Block, DataM, UpgOk, InvAck, Unblock}
use Rattle.sn_coherence.specs.CacheRows.{data_modified, upgrade_granted, acknowledge}
use Rattle.sn_coherence.specs.HomeRows.{unblock}
use Rattle.sn_coherence.specs.Invariant.{BlockInvariant}
use Rattle.sn_coherence.specs.Events.{Event, ForwardRead, ForwardWrite, Invalidate, DataShared, DataModified, UpgradeGranted, Acknowledge}
use Rattle.sn_coherence.specs.Events.{PutGoes, PutIsDone, DataExclusive, ReadAtHome, ReadAtOwner, Takes, MovesOwnership, Upgrades, Unblocks}
use Rattle.sn_coherence.specs.Events.{PutBegins, PutIsStale, PutDataComes, GrantExclusive, DeliverReady, DeliverAdvance, Lose}
use Rattle.sn_coherence.specs.Events.{BeginReadMiss, BeginWriteMiss, BeginPut, BeginMissElsewhere, EndMissElsewhere, BeginPutElsewhere}
use Rattle.sn_coherence.specs.Events.{EndPutElsewhere, NumbersElsewhere, Load, LoadReserved, Store, StoreConditionalDone}
use Rattle.sn_coherence.specs.Events.{StoreConditionalUndone, EvictShared, Edge, Report, Validate, Recover, Allows, NothingUnfinished}
use Rattle.sn_coherence.specs.Events.{after, Arrives}
use Rattle.sn_coherence.specs.Records.{Records, records_after_event, MayHappen}
use Rattle.sn_coherence.specs.RecordsInvariant.{RecordsInvariant, Reports}
use Rattle.sn_coherence.proofs.Rows.{At}
use Rattle.sn_coherence.proofs.Whole.{at, equal, unequal, moves, stays, no_others}
use Rattle.sn_coherence.proofs.EachRowRecords.{forward_read_recorded, forward_write_recorded, invalidate_recorded, data_shared_recorded}
use Rattle.sn_coherence.proofs.EachRowRecords.{data_modified_open_recorded, data_modified_complete_recorded, upgrade_granted_open_recorded}
use Rattle.sn_coherence.proofs.EachRowRecords.{upgrade_granted_complete_recorded, acknowledge_open_recorded, acknowledge_complete_recorded}
use Rattle.sn_coherence.proofs.EachRowRecords.{put_go_recorded, put_done_recorded, data_exclusive_recorded, read_at_home_recorded}
use Rattle.sn_coherence.proofs.EachRowRecords.{read_at_owner_recorded, take_recorded, move_ownership_recorded, upgrade_recorded}
use Rattle.sn_coherence.proofs.EachRowRecords.{unblock_move_recorded, unblock_other_recorded, put_begins_recorded, put_is_stale_recorded}
use Rattle.sn_coherence.proofs.EachRowRecords.{put_data_recorded, grant_exclusive_recorded, deliver_advance_recorded, lose_recorded}
use Rattle.sn_coherence.proofs.EachRowRecords.{begin_read_miss_recorded, begin_write_miss_recorded, begin_put_recorded}
use Rattle.sn_coherence.proofs.EachRowRecords.{begin_miss_elsewhere_recorded, end_miss_elsewhere_recorded, begin_put_elsewhere_recorded}
use Rattle.sn_coherence.proofs.EachRowRecords.{end_put_elsewhere_recorded, numbers_elsewhere_recorded, store_recorded}
use Rattle.sn_coherence.proofs.EachRowRecords.{store_conditional_recorded, evict_shared_recorded, edge_recorded, report_recorded}
use Rattle.sn_coherence.proofs.EachRowRecords.{validate_recorded, load_recorded, load_reserved_recorded, store_conditional_undone_recorded}
use Rattle.sn_coherence.proofs.EachRowRecords.{deliver_ready_recorded}
use Rattle.sn_coherence.proofs.EndsRecords.{recover_recorded}

-- a row with two ends
chosen_recorded : (t : Bool) (x y : Block) (r : Records) → (t ≡ true → RecordsInvariant x r) → (t ≡ false → RecordsInvariant y r) →
    RecordsInvariant (cond t x y) r
chosen_recorded true x y r first second = first refl
chosen_recorded false x y r first second = second refl

-- what every node has reported is unfinished nowhere
pub nothing_unfinished : (N : ℕ) (b : Block) (r : Records) → BlockInvariant N b → Reports b r → ((n : ℕ) → n < N → b.point < r.reported n) →
    NothingUnfinished N b (b.point + 1)
nothing_unfinished N b r k p a = record {
  now = λ n l. grind (arith, a n l, p.reported n);
  miss = λ n l e. grind (arith, a n l, p.reported n);
  put = λ n l e. grind (arith, a n l, p.reported n);
  home = λ e. grind (arith, a b.home k.nodes.home_low, p.reported b.home);
}

-- what the machine does the block allows
pub allowed : (N : ℕ) (b : Block) (r : Records) (e : Event) → BlockInvariant N b → RecordsInvariant b r → MayHappen N b r e → Allows N b e
allowed N b r (ForwardRead i) k v a = a
allowed N b r (ForwardWrite i) k v a = a
allowed N b r (Invalidate i) k v a = a
allowed N b r (DataShared i) k v a = a
allowed N b r (DataModified i) k v a = a
allowed N b r (UpgradeGranted i) k v a = a
allowed N b r (Acknowledge i) k v a = a
allowed N b r (PutGoes i) k v a = a
allowed N b r (PutIsDone i) k v a = a
allowed N b r (DataExclusive i) k v a = a
allowed N b r (ReadAtHome i) k v a = a
allowed N b r (ReadAtOwner i) k v a = a
allowed N b r (Takes i targets due) k v a = a
allowed N b r (MovesOwnership i targets due) k v a = a
allowed N b r (Upgrades i targets due) k v a = a
allowed N b r (Unblocks i) k v a = a
allowed N b r (PutBegins i) k v a = a
allowed N b r (PutIsStale i) k v a = a
allowed N b r (PutDataComes i) k v a = a
allowed N b r (GrantExclusive i) k v a = a
allowed N b r (DeliverReady i) k v a = a
allowed N b r (DeliverAdvance i) k v a = a
allowed N b r (Lose i) k v a = a
allowed N b r (BeginReadMiss n) k v a = a
allowed N b r (BeginWriteMiss n) k v a = a
allowed N b r (BeginPut n) k v a = a
allowed N b r (BeginMissElsewhere n) k v a = a
allowed N b r (EndMissElsewhere n) k v a = a
allowed N b r (BeginPutElsewhere n) k v a = a
allowed N b r (EndPutElsewhere n) k v a = a
allowed N b r (NumbersElsewhere n) k v a = a
allowed N b r (Load n) k v a = a
allowed N b r (LoadReserved n) k v a = a
allowed N b r (Store n vv) k v a = a
allowed N b r (StoreConditionalDone n vv) k v a = a.0
allowed N b r (StoreConditionalUndone n) k v a = a
allowed N b r (EvictShared n) k v a = a
allowed N b r (Edge n) k v a = a
allowed N b r (Report n x) k v a = a
allowed N b r Validate k v a = nothing_unfinished N b r k v.reports a
allowed N b r Recover k v a = a

module _ (N : ℕ) (b : Block) (r : Records) (i : ℕ) (k : BlockInvariant N b) (v : RecordsInvariant b r) where
  data_modified_recorded : Arrives b i DataM → RecordsInvariant (data_modified b i) r
  data_modified_recorded a = chosen_recorded _ _ _ r
      (λ e. data_modified_complete_recorded N b r i k v a (equal _ _ e))
      (λ e. data_modified_open_recorded N b r i k v a (unequal _ _ e))

  upgrade_granted_recorded : Arrives b i UpgOk → RecordsInvariant (upgrade_granted b i) r
  upgrade_granted_recorded a = chosen_recorded _ _ _ r
      (λ e. upgrade_granted_complete_recorded N b r i k v a (equal _ _ e))
      (λ e. upgrade_granted_open_recorded N b r i k v a (unequal _ _ e))

  acknowledge_recorded : Arrives b i InvAck → RecordsInvariant (acknowledge b i) r
  acknowledge_recorded a =
      chosen_recorded _ _ _ r (λ e. acknowledge_complete_recorded N b r i k v a e) (λ e. acknowledge_open_recorded N b r i k v a e)

  unblock_recorded : At b i Unblock → RecordsInvariant (unblock b i) r
  unblock_recorded a = chosen_recorded _ _ _ r
      (λ e. unblock_move_recorded N b r i k v a (moves _ e))
      (λ e. unblock_other_recorded N b r i k v a (stays _ e))

pub event_recorded : (N : ℕ) (b : Block) (r : Records) (e : Event) → BlockInvariant N b → RecordsInvariant b r → MayHappen N b r e →
    RecordsInvariant (after N b e) (records_after_event N b r e)
event_recorded N b r (ForwardRead i) k v a = forward_read_recorded N b r i k v a
event_recorded N b r (ForwardWrite i) k v a = forward_write_recorded N b r i k v a
event_recorded N b r (Invalidate i) k v a = invalidate_recorded N b r i k v a
event_recorded N b r (DataShared i) k v a = data_shared_recorded N b r i k v a
event_recorded N b r (DataModified i) k v a = data_modified_recorded N b r i k v a
event_recorded N b r (UpgradeGranted i) k v a = upgrade_granted_recorded N b r i k v a
event_recorded N b r (Acknowledge i) k v a = acknowledge_recorded N b r i k v a
event_recorded N b r (PutGoes i) k v a = put_go_recorded N b r i k v a
event_recorded N b r (PutIsDone i) k v a = put_done_recorded N b r i k v a
event_recorded N b r (DataExclusive i) k v a = data_exclusive_recorded N b r i k v a
event_recorded N b r (ReadAtHome i) k v a = read_at_home_recorded N b r i k v (at b i _ k.requests refl a.0.0) a.0.1 a.1
event_recorded N b r (ReadAtOwner i) k v a = read_at_owner_recorded N b r i k v (at b i _ k.requests refl a.0.0) a.0.1 a.1
event_recorded N b r (Takes i targets due) k v a = take_recorded N b r i k v targets due (at b i _ k.requests refl a.0.0) a.0.1 a.1
event_recorded N b r (MovesOwnership i targets due) k v a =
    move_ownership_recorded N b r i k v targets due (at b i _ k.requests refl a.0.0) a.0.1 a.1
event_recorded N b r (Upgrades i targets due) k v a = upgrade_recorded N b r i k v targets due (at b i _ k.requests refl a.0.0) a.0.1 a.1
event_recorded N b r (Unblocks i) k v a = unblock_recorded N b r i k v (at b i _ k.requests refl a)
event_recorded N b r (PutBegins i) k v a = put_begins_recorded N b r i k v (at b i _ k.requests refl a.0.0) a.0.1 a.1
event_recorded N b r (PutIsStale i) k v a = put_is_stale_recorded N b r i k v (at b i _ k.requests refl a.0.0) a.0.1 a.1
event_recorded N b r (PutDataComes i) k v a = put_data_recorded N b r i k v (at b i _ k.requests refl a)
event_recorded N b r (GrantExclusive i) k v a =
    grant_exclusive_recorded N b r i k v (at b i _ k.requests refl a.0.0) a.0.1 a.1 (no_others N b i k a.2)
event_recorded N b r (DeliverReady i) k v a = deliver_ready_recorded N b r i k v a
event_recorded N b r (DeliverAdvance i) k v a = deliver_advance_recorded N b r i k v a
event_recorded N b r (Lose i) k v a = lose_recorded N b r i k v
event_recorded N b r (BeginReadMiss n) k v a = begin_read_miss_recorded N b r n k v a.0 a.1
event_recorded N b r (BeginWriteMiss n) k v a = begin_write_miss_recorded N b r n k v a.0 a.1
event_recorded N b r (BeginPut n) k v a = begin_put_recorded N b r n k v a.0 a.1 a.2 a.3
event_recorded N b r (BeginMissElsewhere n) k v a = begin_miss_elsewhere_recorded N b r n k v a.0 a.1
event_recorded N b r (EndMissElsewhere n) k v a = end_miss_elsewhere_recorded N b r n k v a
event_recorded N b r (BeginPutElsewhere n) k v a = begin_put_elsewhere_recorded N b r n k v a.0 a.1
event_recorded N b r (EndPutElsewhere n) k v a = end_put_elsewhere_recorded N b r n k v a
event_recorded N b r (NumbersElsewhere n) k v a = numbers_elsewhere_recorded N b r n k v
event_recorded N b r (Load n) k v a = load_recorded N b r n k v a.0 a.1
event_recorded N b r (LoadReserved n) k v a = load_reserved_recorded N b r n k v a.0 a.1
event_recorded N b r (Store n vv) k v a = store_recorded N b r n k v vv a.0 a.1
event_recorded N b r (StoreConditionalDone n vv) k v a = store_conditional_recorded N b r n k v vv a.0.0 a.0.1
event_recorded N b r (StoreConditionalUndone n) k v a = store_conditional_undone_recorded N b r n k v
event_recorded N b r (EvictShared n) k v a = evict_shared_recorded N b r n k v a.0 a.1
event_recorded N b r (Edge n) k v a = edge_recorded N b r n k v a.0 a.1
event_recorded N b r (Report n x) k v a = report_recorded N b r n k v x a.0 a.1
event_recorded N b r Validate k v a = validate_recorded N b r 0 k v (nothing_unfinished N b r k v.reports a)
event_recorded N b r Recover k v a = recover_recorded N b r k v
