-- Each row and event keeps all of the records: the groups of sentences put together.
use Rattle.std.proofs.Common.{◌≡◌, ◌≢◌, ℕ, ◌+◌, ◌<◌, true, false, ◌⊎◌}
use Rattle.sn_coherence.specs.Block.{Block, Content, NoLine, Shared, Nothing, Elsewhere, NoPut, PutElsewhere, Idle, Move, GetS, GetM}
use Rattle.sn_coherence.specs.Block.{FwdGetS, FwdGetM, Inv, DataS, DataM, DataE, UpgOk, InvAck, Unblock, PutReq, PutData, PutGo, PutDone}
use Rattle.sn_coherence.specs.Block.{Ready, Advance, is_owned, is_writable, is_here}
use Rattle.sn_coherence.specs.CacheRows.{forward_read, forward_write, invalidate, data_shared, data_modified_open, data_modified_complete}
use Rattle.sn_coherence.specs.CacheRows.{upgrade_granted_open, upgrade_granted_complete, acknowledge_open, acknowledge_complete, put_go}
use Rattle.sn_coherence.specs.CacheRows.{put_done, data_exclusive}
use Rattle.sn_coherence.specs.HomeRows.{read_at_home, read_at_owner, take, move_ownership, upgrade, unblock_move, unblock_other, put_begins}
use Rattle.sn_coherence.specs.HomeRows.{put_is_stale, put_data, grant_exclusive}
use Rattle.sn_coherence.specs.OtherEvents.{begin_read_miss, begin_write_miss, begin_put, begin_miss_elsewhere, end_miss_elsewhere}
use Rattle.sn_coherence.specs.OtherEvents.{begin_put_elsewhere, end_put_elsewhere, numbers_elsewhere, store, evict_shared, edge, report}
use Rattle.sn_coherence.specs.OtherEvents.{validate, lose, deliver_advance}
use Rattle.sn_coherence.specs.Invariant.{BlockInvariant}
use Rattle.sn_coherence.specs.Events.{IsReady, Arrives, Owns, OtherOwns, other_sharers, NothingUnfinished, Free}
use Rattle.sn_coherence.proofs.Rows.{At, IsLast}
use Rattle.sn_coherence.specs.Records.{Records, loads, loads_reserved, stores, unreserves, stores_conditional, hears}
use Rattle.sn_coherence.specs.RecordsInvariant.{RecordsInvariant}
use Rattle.sn_coherence.proofs.Reports.{forward_read_reports, forward_write_reports, invalidate_reports, data_shared_reports}
use Rattle.sn_coherence.proofs.Reports.{data_modified_open_reports, data_modified_complete_reports, upgrade_granted_open_reports}
use Rattle.sn_coherence.proofs.Reports.{upgrade_granted_complete_reports, acknowledge_open_reports, acknowledge_complete_reports}
use Rattle.sn_coherence.proofs.Reports.{put_go_reports, put_done_reports, data_exclusive_reports, read_at_home_reports}
use Rattle.sn_coherence.proofs.Reports.{read_at_owner_reports, take_reports, move_ownership_reports, upgrade_reports, unblock_move_reports}
use Rattle.sn_coherence.proofs.Reports.{unblock_other_reports, put_begins_reports, put_is_stale_reports, put_data_reports}
use Rattle.sn_coherence.proofs.Reports.{grant_exclusive_reports, deliver_advance_reports, lose_reports, begin_read_miss_reports}
use Rattle.sn_coherence.proofs.Reports.{begin_write_miss_reports, begin_put_reports, begin_miss_elsewhere_reports}
use Rattle.sn_coherence.proofs.Reports.{end_miss_elsewhere_reports, begin_put_elsewhere_reports, end_put_elsewhere_reports}
use Rattle.sn_coherence.proofs.Reports.{numbers_elsewhere_reports, store_reports, store_conditional_reports, evict_shared_reports}
use Rattle.sn_coherence.proofs.Reports.{edge_reports, report_reports, validate_reports, load_reports, load_reserved_reports}
use Rattle.sn_coherence.proofs.Reports.{store_conditional_undone_reports, deliver_ready_reports}
use Rattle.sn_coherence.proofs.Contents.{forward_read_contents, forward_write_contents, invalidate_contents, data_shared_contents}
use Rattle.sn_coherence.proofs.Contents.{data_modified_open_contents, data_modified_complete_contents, upgrade_granted_open_contents}
use Rattle.sn_coherence.proofs.Contents.{upgrade_granted_complete_contents, acknowledge_open_contents, acknowledge_complete_contents}
use Rattle.sn_coherence.proofs.Contents.{put_go_contents, put_done_contents, data_exclusive_contents, read_at_home_contents}
use Rattle.sn_coherence.proofs.Contents.{read_at_owner_contents, take_contents, move_ownership_contents, upgrade_contents}
use Rattle.sn_coherence.proofs.Contents.{unblock_move_contents, unblock_other_contents, put_begins_contents, put_is_stale_contents}
use Rattle.sn_coherence.proofs.Contents.{put_data_contents, grant_exclusive_contents, deliver_advance_contents, lose_contents}
use Rattle.sn_coherence.proofs.Contents.{begin_read_miss_contents, begin_write_miss_contents, begin_put_contents}
use Rattle.sn_coherence.proofs.Contents.{begin_miss_elsewhere_contents, end_miss_elsewhere_contents, begin_put_elsewhere_contents}
use Rattle.sn_coherence.proofs.Contents.{end_put_elsewhere_contents, numbers_elsewhere_contents, store_contents, store_conditional_contents}
use Rattle.sn_coherence.proofs.Contents.{evict_shared_contents, edge_contents, report_contents, validate_contents, load_contents}
use Rattle.sn_coherence.proofs.Contents.{load_reserved_contents, store_conditional_undone_contents, deliver_ready_contents}
use Rattle.sn_coherence.proofs.Accesses.{forward_read_accesses, forward_write_accesses, invalidate_accesses, data_shared_accesses}
use Rattle.sn_coherence.proofs.Accesses.{data_modified_open_accesses, data_modified_complete_accesses, upgrade_granted_open_accesses}
use Rattle.sn_coherence.proofs.Accesses.{upgrade_granted_complete_accesses, acknowledge_open_accesses, acknowledge_complete_accesses}
use Rattle.sn_coherence.proofs.Accesses.{put_go_accesses, put_done_accesses, data_exclusive_accesses, read_at_home_accesses}
use Rattle.sn_coherence.proofs.Accesses.{read_at_owner_accesses, take_accesses, move_ownership_accesses, upgrade_accesses}
use Rattle.sn_coherence.proofs.Accesses.{unblock_move_accesses, unblock_other_accesses, put_begins_accesses, put_is_stale_accesses}
use Rattle.sn_coherence.proofs.Accesses.{put_data_accesses, grant_exclusive_accesses, deliver_advance_accesses, lose_accesses}
use Rattle.sn_coherence.proofs.Accesses.{begin_read_miss_accesses, begin_write_miss_accesses, begin_put_accesses}
use Rattle.sn_coherence.proofs.Accesses.{begin_miss_elsewhere_accesses, end_miss_elsewhere_accesses, begin_put_elsewhere_accesses}
use Rattle.sn_coherence.proofs.Accesses.{end_put_elsewhere_accesses, numbers_elsewhere_accesses, store_accesses, store_conditional_accesses}
use Rattle.sn_coherence.proofs.Accesses.{evict_shared_accesses, edge_accesses, report_accesses, validate_accesses, load_accesses}
use Rattle.sn_coherence.proofs.Accesses.{load_reserved_accesses, store_conditional_undone_accesses, deliver_ready_accesses}
use Rattle.sn_coherence.proofs.CutContents.{forward_read_cut_contents, forward_write_cut_contents, invalidate_cut_contents}
use Rattle.sn_coherence.proofs.CutContents.{data_shared_cut_contents, data_modified_open_cut_contents, data_modified_complete_cut_contents}
use Rattle.sn_coherence.proofs.CutContents.{upgrade_granted_open_cut_contents, upgrade_granted_complete_cut_contents}
use Rattle.sn_coherence.proofs.CutContents.{acknowledge_open_cut_contents, acknowledge_complete_cut_contents, put_go_cut_contents}
use Rattle.sn_coherence.proofs.CutContents.{put_done_cut_contents, data_exclusive_cut_contents, read_at_home_cut_contents}
use Rattle.sn_coherence.proofs.CutContents.{read_at_owner_cut_contents, take_cut_contents, move_ownership_cut_contents}
use Rattle.sn_coherence.proofs.CutContents.{upgrade_cut_contents, unblock_move_cut_contents, unblock_other_cut_contents}
use Rattle.sn_coherence.proofs.CutContents.{put_begins_cut_contents, put_is_stale_cut_contents, put_data_cut_contents}
use Rattle.sn_coherence.proofs.CutContents.{grant_exclusive_cut_contents, deliver_advance_cut_contents, lose_cut_contents}
use Rattle.sn_coherence.proofs.CutContents.{begin_read_miss_cut_contents, begin_write_miss_cut_contents, begin_put_cut_contents}
use Rattle.sn_coherence.proofs.CutContents.{begin_miss_elsewhere_cut_contents, end_miss_elsewhere_cut_contents}
use Rattle.sn_coherence.proofs.CutContents.{begin_put_elsewhere_cut_contents, end_put_elsewhere_cut_contents}
use Rattle.sn_coherence.proofs.CutContents.{numbers_elsewhere_cut_contents, store_cut_contents, store_conditional_cut_contents}
use Rattle.sn_coherence.proofs.CutContents.{evict_shared_cut_contents, edge_cut_contents, report_cut_contents, validate_cut_contents}
use Rattle.sn_coherence.proofs.CutContents.{load_cut_contents, load_reserved_cut_contents, store_conditional_undone_cut_contents}
use Rattle.sn_coherence.proofs.CutContents.{deliver_ready_cut_contents}

module _ (N : ℕ) (b : Block) (r : Records) (i : ℕ) (kept : BlockInvariant N b) (records : RecordsInvariant b r) where
  -- The cache's rows.

  pub forward_read_recorded : Arrives b i FwdGetS → RecordsInvariant (forward_read b i) r
  forward_read_recorded arrives = record {
    reports = forward_read_reports N b r i records.reports kept.clocks arrives;
    contents = forward_read_contents N b r i records.contents kept.stages kept.owners kept.sharing kept.logs arrives;
    accesses =
        forward_read_accesses N b r i records.accesses kept.stages kept.requests kept.owners kept.sharing kept.waits kept.nodes arrives;
    cut_contents =
        forward_read_cut_contents N b r i records.cut_contents records.contents records.accesses kept.stages kept.owners kept.logs kept.cuts kept.clocks kept.nodes arrives;
  }

  pub forward_write_recorded : Arrives b i FwdGetM → RecordsInvariant (forward_write b i) (unreserves r (b.net i).to)
  forward_write_recorded arrives = record {
    reports = forward_write_reports N b r i records.reports kept.clocks arrives;
    contents = forward_write_contents N b r i records.contents kept.stages kept.owners kept.sharing kept.logs arrives;
    accesses =
        forward_write_accesses N b r i records.accesses kept.stages kept.requests kept.owners kept.sharing kept.waits kept.nodes arrives;
    cut_contents =
        forward_write_cut_contents N b r i records.cut_contents records.contents records.accesses kept.stages kept.owners kept.logs kept.cuts kept.clocks kept.nodes arrives;
  }

  pub invalidate_recorded : Arrives b i Inv → RecordsInvariant (invalidate b i) (unreserves r (b.net i).to)
  invalidate_recorded arrives = record {
    reports = invalidate_reports N b r i records.reports kept.clocks arrives;
    contents = invalidate_contents N b r i records.contents kept.stages kept.owners kept.sharing kept.logs kept.waits arrives;
    accesses =
        invalidate_accesses N b r i records.accesses kept.stages kept.requests kept.owners kept.sharing kept.waits kept.nodes arrives;
    cut_contents =
        invalidate_cut_contents N b r i records.cut_contents records.contents records.accesses kept.stages kept.owners kept.logs kept.cuts kept.clocks kept.nodes kept.waits kept.sharing arrives;
  }

  pub data_shared_recorded : Arrives b i DataS → RecordsInvariant (data_shared b i) r
  data_shared_recorded arrives = record {
    reports = data_shared_reports N b r i records.reports kept.clocks arrives;
    contents = data_shared_contents N b r i records.contents kept.stages kept.owners kept.sharing kept.logs kept.requests arrives;
    accesses =
        data_shared_accesses N b r i records.accesses kept.stages kept.requests kept.owners kept.sharing kept.waits kept.nodes arrives;
    cut_contents =
        data_shared_cut_contents N b r i records.cut_contents records.contents records.accesses kept.stages kept.owners kept.logs kept.cuts kept.clocks kept.nodes kept.requests kept.sharing arrives;
  }

  pub data_modified_open_recorded : Arrives b i DataM → (b.miss (b.net i).to).acks ≢ (b.net i).due → RecordsInvariant (data_modified_open b i) r
  data_modified_open_recorded arrives some_lack = record {
    reports = data_modified_open_reports N b r i records.reports kept.clocks arrives some_lack;
    contents = data_modified_open_contents N b r i records.contents kept.stages kept.owners kept.sharing kept.logs arrives some_lack;
    accesses =
        data_modified_open_accesses N b r i records.accesses kept.stages kept.requests kept.owners kept.sharing kept.waits kept.nodes arrives some_lack;
    cut_contents =
        data_modified_open_cut_contents N b r i records.cut_contents records.contents records.accesses kept.stages kept.owners kept.logs kept.cuts kept.clocks kept.nodes arrives some_lack;
  }

  pub data_modified_complete_recorded : Arrives b i DataM → (b.miss (b.net i).to).acks ≡ (b.net i).due →
      RecordsInvariant (data_modified_complete b i) r
  data_modified_complete_recorded arrives all_in = record {
    reports = data_modified_complete_reports N b r i records.reports kept.clocks arrives all_in;
    contents = data_modified_complete_contents N b r i records.contents kept.stages kept.owners kept.sharing kept.logs arrives all_in;
    accesses =
        data_modified_complete_accesses N b r i records.accesses kept.stages kept.requests kept.owners kept.sharing kept.waits kept.nodes arrives all_in;
    cut_contents =
        data_modified_complete_cut_contents N b r i records.cut_contents records.contents records.accesses kept.stages kept.owners kept.logs kept.cuts kept.clocks kept.nodes arrives all_in;
  }

  pub upgrade_granted_open_recorded : Arrives b i UpgOk → (b.miss (b.net i).to).acks ≢ (b.net i).due →
      RecordsInvariant (upgrade_granted_open b i) r
  upgrade_granted_open_recorded arrives some_lack = record {
    reports = upgrade_granted_open_reports N b r i records.reports kept.clocks arrives some_lack;
    contents = upgrade_granted_open_contents N b r i records.contents kept.stages kept.owners kept.sharing kept.logs arrives some_lack;
    accesses =
        upgrade_granted_open_accesses N b r i records.accesses kept.stages kept.requests kept.owners kept.sharing kept.waits kept.nodes arrives some_lack;
    cut_contents =
        upgrade_granted_open_cut_contents N b r i records.cut_contents records.contents records.accesses kept.stages kept.owners kept.logs kept.cuts kept.clocks kept.nodes arrives some_lack;
  }

  pub upgrade_granted_complete_recorded : Arrives b i UpgOk → (b.miss (b.net i).to).acks ≡ (b.net i).due →
      RecordsInvariant (upgrade_granted_complete b i) r
  upgrade_granted_complete_recorded arrives all_in = record {
    reports = upgrade_granted_complete_reports N b r i records.reports kept.clocks arrives all_in;
    contents = upgrade_granted_complete_contents N b r i records.contents kept.stages kept.owners kept.sharing kept.logs arrives all_in;
    accesses =
        upgrade_granted_complete_accesses N b r i records.accesses kept.stages kept.requests kept.owners kept.sharing kept.waits kept.nodes arrives all_in;
    cut_contents =
        upgrade_granted_complete_cut_contents N b r i records.cut_contents records.contents records.accesses kept.stages kept.owners kept.logs kept.cuts kept.clocks kept.nodes arrives all_in;
  }

  pub acknowledge_open_recorded : Arrives b i InvAck → IsLast b i ≡ false → RecordsInvariant (acknowledge_open b i) r
  acknowledge_open_recorded arrives not_last = record {
    reports = acknowledge_open_reports N b r i records.reports kept.clocks arrives not_last;
    contents =
        acknowledge_open_contents N b r i records.contents kept.stages kept.owners kept.sharing kept.logs kept.waits arrives not_last;
    accesses =
        acknowledge_open_accesses N b r i records.accesses kept.stages kept.requests kept.owners kept.sharing kept.waits kept.nodes arrives not_last;
    cut_contents =
        acknowledge_open_cut_contents N b r i records.cut_contents records.contents records.accesses kept.stages kept.owners kept.logs kept.cuts kept.clocks kept.nodes kept.waits arrives not_last;
  }

  pub acknowledge_complete_recorded : Arrives b i InvAck → IsLast b i ≡ true → RecordsInvariant (acknowledge_complete b i) r
  acknowledge_complete_recorded arrives last = record {
    reports = acknowledge_complete_reports N b r i records.reports kept.clocks arrives last;
    contents =
        acknowledge_complete_contents N b r i records.contents kept.stages kept.owners kept.sharing kept.logs kept.waits arrives last;
    accesses =
        acknowledge_complete_accesses N b r i records.accesses kept.stages kept.requests kept.owners kept.sharing kept.waits kept.nodes arrives last;
    cut_contents =
        acknowledge_complete_cut_contents N b r i records.cut_contents records.contents records.accesses kept.stages kept.owners kept.logs kept.cuts kept.clocks kept.nodes kept.waits arrives last;
  }

  pub put_go_recorded : Arrives b i PutGo → RecordsInvariant (put_go b i) (unreserves r (b.net i).to)
  put_go_recorded arrives = record {
    reports = put_go_reports N b r i records.reports kept.clocks arrives;
    contents = put_go_contents N b r i records.contents kept.stages kept.owners kept.sharing kept.logs arrives;
    accesses = put_go_accesses N b r i records.accesses kept.stages kept.requests kept.owners kept.sharing kept.waits kept.nodes arrives;
    cut_contents =
        put_go_cut_contents N b r i records.cut_contents records.contents records.accesses kept.stages kept.owners kept.logs kept.cuts kept.clocks kept.nodes arrives;
  }

  pub put_done_recorded : Arrives b i PutDone → RecordsInvariant (put_done b i) r
  put_done_recorded arrives = record {
    reports = put_done_reports N b r i records.reports kept.clocks arrives;
    contents = put_done_contents N b r i records.contents kept.stages kept.owners kept.sharing kept.logs arrives;
    accesses = put_done_accesses N b r i records.accesses kept.stages kept.requests kept.owners kept.sharing kept.waits kept.nodes arrives;
    cut_contents =
        put_done_cut_contents N b r i records.cut_contents records.contents records.accesses kept.stages kept.owners kept.logs kept.cuts kept.clocks kept.nodes arrives;
  }

  pub data_exclusive_recorded : Arrives b i DataE → RecordsInvariant (data_exclusive b i) r
  data_exclusive_recorded arrives = record {
    reports = data_exclusive_reports N b r i records.reports kept.clocks arrives;
    contents = data_exclusive_contents N b r i records.contents kept.stages kept.owners kept.sharing kept.logs arrives;
    accesses =
        data_exclusive_accesses N b r i records.accesses kept.stages kept.requests kept.owners kept.sharing kept.waits kept.nodes kept.clocks arrives;
    cut_contents =
        data_exclusive_cut_contents N b r i records.cut_contents records.contents records.accesses kept.stages kept.owners kept.logs kept.cuts kept.clocks kept.nodes arrives;
  }

  -- The home's rows.

  pub read_at_home_recorded : At b i GetS → b.kind ≡ Idle → b.at_home ≡ true → RecordsInvariant (read_at_home b i) r
  read_at_home_recorded arrives idle home_owns = record {
    reports = read_at_home_reports N b r i records.reports kept.clocks arrives idle home_owns;
    contents = read_at_home_contents N b r i records.contents kept.stages kept.owners kept.sharing kept.logs arrives idle home_owns;
    accesses =
        read_at_home_accesses N b r i records.accesses kept.stages kept.requests kept.owners kept.sharing kept.waits kept.nodes arrives idle home_owns;
    cut_contents =
        read_at_home_cut_contents N b r i records.cut_contents records.contents records.accesses kept.stages kept.owners kept.logs kept.cuts kept.clocks kept.nodes arrives idle home_owns;
  }

  pub read_at_owner_recorded : At b i GetS → b.kind ≡ Idle → b.at_home ≡ false → RecordsInvariant (read_at_owner b i) r
  read_at_owner_recorded arrives idle cache_owns = record {
    reports = read_at_owner_reports N b r i records.reports kept.clocks arrives idle cache_owns;
    contents = read_at_owner_contents N b r i records.contents kept.stages kept.owners kept.sharing kept.logs arrives idle cache_owns;
    accesses =
        read_at_owner_accesses N b r i records.accesses kept.stages kept.requests kept.owners kept.sharing kept.waits kept.nodes arrives idle cache_owns;
    cut_contents =
        read_at_owner_cut_contents N b r i records.cut_contents records.contents records.accesses kept.stages kept.owners kept.logs kept.cuts kept.clocks kept.nodes arrives idle cache_owns;
  }

  pub take_recorded : (targets : ℕ → ℕ) (due : ℕ) → At b i GetM → b.kind ≡ Idle → b.at_home ≡ true → RecordsInvariant (take b i targets due) r
  take_recorded targets due arrives idle home_owns = record {
    reports = take_reports N b r i records.reports kept.clocks targets due arrives idle home_owns;
    contents = take_contents N b r i records.contents kept.stages kept.owners kept.sharing kept.logs targets due arrives idle home_owns;
    accesses =
        take_accesses N b r i records.accesses kept.stages kept.requests kept.owners kept.sharing kept.waits kept.nodes targets due arrives idle home_owns;
    cut_contents =
        take_cut_contents N b r i records.cut_contents records.contents records.accesses kept.stages kept.owners kept.logs kept.cuts kept.clocks kept.nodes targets due arrives idle home_owns;
  }

  pub move_ownership_recorded : (targets : ℕ → ℕ) (due : ℕ) → At b i GetM → b.kind ≡ Idle → OtherOwns b (b.net i).from →
      RecordsInvariant (move_ownership b i targets due) r
  move_ownership_recorded targets due arrives idle other_owns = record {
    reports = move_ownership_reports N b r i records.reports kept.clocks targets due arrives idle other_owns;
    contents =
        move_ownership_contents N b r i records.contents kept.stages kept.owners kept.sharing kept.logs targets due arrives idle other_owns;
    accesses =
        move_ownership_accesses N b r i records.accesses kept.stages kept.requests kept.owners kept.sharing kept.waits kept.nodes targets due arrives idle other_owns;
    cut_contents =
        move_ownership_cut_contents N b r i records.cut_contents records.contents records.accesses kept.stages kept.owners kept.logs kept.cuts kept.clocks kept.nodes targets due arrives idle other_owns;
  }

  pub upgrade_recorded : (targets : ℕ → ℕ) (due : ℕ) → At b i GetM → b.kind ≡ Idle → Owns b (b.net i).from →
      RecordsInvariant (upgrade b i targets due) r
  upgrade_recorded targets due arrives idle sender_owns = record {
    reports = upgrade_reports N b r i records.reports kept.clocks targets due arrives idle sender_owns;
    contents =
        upgrade_contents N b r i records.contents kept.stages kept.owners kept.sharing kept.logs targets due arrives idle sender_owns;
    accesses =
        upgrade_accesses N b r i records.accesses kept.stages kept.requests kept.owners kept.sharing kept.waits kept.nodes targets due arrives idle sender_owns;
    cut_contents =
        upgrade_cut_contents N b r i records.cut_contents records.contents records.accesses kept.stages kept.owners kept.logs kept.cuts kept.clocks kept.nodes targets due arrives idle sender_owns;
  }

  pub unblock_move_recorded : At b i Unblock → b.kind ≡ Move → RecordsInvariant (unblock_move b i) r
  unblock_move_recorded arrives move = record {
    reports = unblock_move_reports N b r i records.reports kept.clocks arrives move;
    contents = unblock_move_contents N b r i records.contents kept.stages kept.owners kept.sharing kept.logs arrives move;
    accesses =
        unblock_move_accesses N b r i records.accesses kept.stages kept.requests kept.owners kept.sharing kept.waits kept.nodes arrives move;
    cut_contents =
        unblock_move_cut_contents N b r i records.cut_contents records.contents records.accesses kept.stages kept.owners kept.logs kept.cuts kept.clocks kept.nodes arrives move;
  }

  pub unblock_other_recorded : At b i Unblock → b.kind ≢ Move → RecordsInvariant (unblock_other b i) r
  unblock_other_recorded arrives no_move = record {
    reports = unblock_other_reports N b r i records.reports kept.clocks arrives no_move;
    contents = unblock_other_contents N b r i records.contents kept.stages kept.owners kept.sharing kept.logs arrives no_move;
    accesses =
        unblock_other_accesses N b r i records.accesses kept.stages kept.requests kept.owners kept.sharing kept.waits kept.nodes arrives no_move;
    cut_contents =
        unblock_other_cut_contents N b r i records.cut_contents records.contents records.accesses kept.stages kept.owners kept.logs kept.cuts kept.clocks kept.nodes arrives no_move;
  }

  pub put_begins_recorded : At b i PutReq → b.kind ≡ Idle → Owns b (b.net i).from → RecordsInvariant (put_begins b i) r
  put_begins_recorded arrives idle sender_owns = record {
    reports = put_begins_reports N b r i records.reports kept.clocks arrives idle sender_owns;
    contents = put_begins_contents N b r i records.contents kept.stages kept.owners kept.sharing kept.logs arrives idle sender_owns;
    accesses =
        put_begins_accesses N b r i records.accesses kept.stages kept.requests kept.owners kept.sharing kept.waits kept.nodes arrives idle sender_owns;
    cut_contents =
        put_begins_cut_contents N b r i records.cut_contents records.contents records.accesses kept.stages kept.owners kept.logs kept.cuts kept.clocks kept.nodes arrives idle sender_owns;
  }

  pub put_is_stale_recorded : At b i PutReq → b.kind ≡ Idle → (b.at_home ≡ true) ⊎ (b.owner ≢ (b.net i).from) →
      RecordsInvariant (put_is_stale b i) r
  put_is_stale_recorded arrives idle stale = record {
    reports = put_is_stale_reports N b r i records.reports kept.clocks arrives idle stale;
    contents = put_is_stale_contents N b r i records.contents kept.stages kept.owners kept.sharing kept.logs arrives idle stale;
    accesses =
        put_is_stale_accesses N b r i records.accesses kept.stages kept.requests kept.owners kept.sharing kept.waits kept.nodes arrives idle stale;
    cut_contents =
        put_is_stale_cut_contents N b r i records.cut_contents records.contents records.accesses kept.stages kept.owners kept.logs kept.cuts kept.clocks kept.nodes arrives idle stale;
  }

  pub put_data_recorded : At b i PutData → RecordsInvariant (put_data b i) r
  put_data_recorded arrives = record {
    reports = put_data_reports N b r i records.reports kept.clocks arrives;
    contents = put_data_contents N b r i records.contents kept.stages kept.owners kept.sharing kept.logs arrives;
    accesses = put_data_accesses N b r i records.accesses kept.stages kept.requests kept.owners kept.sharing kept.waits kept.nodes arrives;
    cut_contents =
        put_data_cut_contents N b r i records.cut_contents records.contents records.accesses kept.stages kept.owners kept.logs kept.cuts kept.clocks kept.nodes arrives;
  }

  pub grant_exclusive_recorded : At b i GetS → b.kind ≡ Idle → b.at_home ≡ true → ((x : ℕ) → other_sharers b i x ≡ false) →
      RecordsInvariant (grant_exclusive b i) r
  grant_exclusive_recorded arrives idle home_owns none = record {
    reports = grant_exclusive_reports N b r i records.reports kept.clocks arrives idle home_owns none;
    contents = grant_exclusive_contents N b r i records.contents kept.stages kept.owners kept.sharing kept.logs arrives idle home_owns none;
    accesses =
        grant_exclusive_accesses N b r i records.accesses kept.stages kept.requests kept.owners kept.sharing kept.waits kept.nodes arrives idle home_owns none;
    cut_contents =
        grant_exclusive_cut_contents N b r i records.cut_contents records.contents records.accesses kept.stages kept.owners kept.logs kept.cuts kept.clocks kept.nodes arrives idle home_owns none;
  }

  -- The other events.

  pub deliver_advance_recorded : Arrives b i Advance → RecordsInvariant (deliver_advance b i) r
  deliver_advance_recorded arrives = record {
    reports = deliver_advance_reports N b r i records.reports kept.clocks arrives;
    contents = deliver_advance_contents N b r i records.contents kept.stages kept.owners kept.sharing kept.logs arrives;
    accesses =
        deliver_advance_accesses N b r i records.accesses kept.stages kept.requests kept.owners kept.sharing kept.waits kept.nodes kept.clocks arrives;
    cut_contents =
        deliver_advance_cut_contents N b r i records.cut_contents records.contents records.accesses kept.stages kept.owners kept.logs kept.cuts kept.clocks kept.nodes arrives;
  }

  pub lose_recorded : RecordsInvariant (lose b i) r
  lose_recorded = record {
    reports = lose_reports N b r i records.reports kept.clocks;
    contents = lose_contents N b r i records.contents kept.stages kept.owners kept.sharing kept.logs;
    accesses = lose_accesses N b r i records.accesses kept.stages kept.requests kept.owners kept.sharing kept.waits kept.nodes;
    cut_contents =
        lose_cut_contents N b r i records.cut_contents records.contents records.accesses kept.stages kept.owners kept.logs kept.cuts kept.clocks kept.nodes;
  }

  pub begin_read_miss_recorded : Free N b i → b.line i ≡ NoLine → RecordsInvariant (begin_read_miss b i) r
  begin_read_miss_recorded free line = record {
    reports = begin_read_miss_reports N b r i records.reports kept.clocks free line;
    contents = begin_read_miss_contents N b r i records.contents kept.stages kept.owners kept.sharing kept.logs free line;
    accesses =
        begin_read_miss_accesses N b r i records.accesses kept.stages kept.requests kept.owners kept.sharing kept.waits kept.nodes free line;
    cut_contents =
        begin_read_miss_cut_contents N b r i records.cut_contents records.contents records.accesses kept.stages kept.owners kept.logs kept.cuts kept.clocks kept.nodes free line;
  }

  pub begin_write_miss_recorded : Free N b i → is_writable (b.line i) ≡ false → RecordsInvariant (begin_write_miss b i) r
  begin_write_miss_recorded free line = record {
    reports = begin_write_miss_reports N b r i records.reports kept.clocks free line;
    contents = begin_write_miss_contents N b r i records.contents kept.stages kept.owners kept.sharing kept.logs free line;
    accesses =
        begin_write_miss_accesses N b r i records.accesses kept.stages kept.requests kept.owners kept.sharing kept.waits kept.nodes free line;
    cut_contents =
        begin_write_miss_cut_contents N b r i records.cut_contents records.contents records.accesses kept.stages kept.owners kept.logs kept.cuts kept.clocks kept.nodes free line;
  }

  pub begin_put_recorded : i < N → is_here (b.miss i).want ≡ false → b.putting i ≡ NoPut → is_owned (b.line i) ≡ true →
      RecordsInvariant (begin_put b i) r
  begin_put_recorded low no_miss no_put line = record {
    reports = begin_put_reports N b r i records.reports kept.clocks low no_miss no_put line;
    contents = begin_put_contents N b r i records.contents kept.stages kept.owners kept.sharing kept.logs low no_miss no_put line;
    accesses =
        begin_put_accesses N b r i records.accesses kept.stages kept.requests kept.owners kept.sharing kept.waits kept.nodes low no_miss no_put line;
    cut_contents =
        begin_put_cut_contents N b r i records.cut_contents records.contents records.accesses kept.stages kept.owners kept.logs kept.cuts kept.clocks kept.nodes low no_miss no_put line;
  }

  pub begin_miss_elsewhere_recorded : i < N → (b.miss i).want ≡ Nothing → RecordsInvariant (begin_miss_elsewhere b i) r
  begin_miss_elsewhere_recorded low no_miss = record {
    reports = begin_miss_elsewhere_reports N b r i records.reports kept.clocks low no_miss;
    contents = begin_miss_elsewhere_contents N b r i records.contents kept.stages kept.owners kept.sharing kept.logs low no_miss;
    accesses =
        begin_miss_elsewhere_accesses N b r i records.accesses kept.stages kept.requests kept.owners kept.sharing kept.waits kept.nodes low no_miss;
    cut_contents =
        begin_miss_elsewhere_cut_contents N b r i records.cut_contents records.contents records.accesses kept.stages kept.owners kept.logs kept.cuts kept.clocks kept.nodes low no_miss;
  }

  pub end_miss_elsewhere_recorded : (b.miss i).want ≡ Elsewhere → RecordsInvariant (end_miss_elsewhere b i) r
  end_miss_elsewhere_recorded there = record {
    reports = end_miss_elsewhere_reports N b r i records.reports kept.clocks there;
    contents = end_miss_elsewhere_contents N b r i records.contents kept.stages kept.owners kept.sharing kept.logs there;
    accesses =
        end_miss_elsewhere_accesses N b r i records.accesses kept.stages kept.requests kept.owners kept.sharing kept.waits kept.nodes there;
    cut_contents =
        end_miss_elsewhere_cut_contents N b r i records.cut_contents records.contents records.accesses kept.stages kept.owners kept.logs kept.cuts kept.clocks kept.nodes there;
  }

  pub begin_put_elsewhere_recorded : i < N → b.putting i ≡ NoPut → RecordsInvariant (begin_put_elsewhere b i) r
  begin_put_elsewhere_recorded low no_put = record {
    reports = begin_put_elsewhere_reports N b r i records.reports kept.clocks low no_put;
    contents = begin_put_elsewhere_contents N b r i records.contents kept.stages kept.owners kept.sharing kept.logs low no_put;
    accesses =
        begin_put_elsewhere_accesses N b r i records.accesses kept.stages kept.requests kept.owners kept.sharing kept.waits kept.nodes low no_put;
    cut_contents =
        begin_put_elsewhere_cut_contents N b r i records.cut_contents records.contents records.accesses kept.stages kept.owners kept.logs kept.cuts kept.clocks kept.nodes low no_put;
  }

  pub end_put_elsewhere_recorded : b.putting i ≡ PutElsewhere → RecordsInvariant (end_put_elsewhere b i) r
  end_put_elsewhere_recorded there = record {
    reports = end_put_elsewhere_reports N b r i records.reports kept.clocks there;
    contents = end_put_elsewhere_contents N b r i records.contents kept.stages kept.owners kept.sharing kept.logs there;
    accesses =
        end_put_elsewhere_accesses N b r i records.accesses kept.stages kept.requests kept.owners kept.sharing kept.waits kept.nodes there;
    cut_contents =
        end_put_elsewhere_cut_contents N b r i records.cut_contents records.contents records.accesses kept.stages kept.owners kept.logs kept.cuts kept.clocks kept.nodes there;
  }

  pub numbers_elsewhere_recorded : RecordsInvariant (numbers_elsewhere b i) r
  numbers_elsewhere_recorded = record {
    reports = numbers_elsewhere_reports N b r i records.reports kept.clocks;
    contents = numbers_elsewhere_contents N b r i records.contents kept.stages kept.owners kept.sharing kept.logs;
    accesses = numbers_elsewhere_accesses N b r i records.accesses kept.stages kept.requests kept.owners kept.sharing kept.waits kept.nodes;
    cut_contents =
        numbers_elsewhere_cut_contents N b r i records.cut_contents records.contents records.accesses kept.stages kept.owners kept.logs kept.cuts kept.clocks kept.nodes;
  }

  pub store_recorded : (v : Content) → Free N b i → is_writable (b.line i) ≡ true → RecordsInvariant (store b i v) (stores r i (b.now i) v)
  store_recorded v free line = record {
    reports = store_reports N b r i records.reports kept.clocks v free line;
    contents = store_contents N b r i records.contents kept.stages kept.owners kept.sharing kept.logs v free line;
    accesses = store_accesses N b r i records.accesses kept.stages kept.requests kept.owners kept.sharing kept.waits kept.nodes v free line;
    cut_contents =
        store_cut_contents N b r i records.cut_contents records.contents records.accesses kept.stages kept.owners kept.logs kept.cuts kept.clocks kept.nodes v free line;
  }

  pub store_conditional_recorded : (v : Content) → Free N b i → is_writable (b.line i) ≡ true →
      RecordsInvariant (store b i v) (stores_conditional r i (b.now i) v)
  store_conditional_recorded v free line = record {
    reports = store_conditional_reports N b r i records.reports kept.clocks v free line;
    contents = store_conditional_contents N b r i records.contents kept.stages kept.owners kept.sharing kept.logs v free line;
    accesses =
        store_conditional_accesses N b r i records.accesses kept.stages kept.requests kept.owners kept.sharing kept.waits kept.nodes v free line;
    cut_contents =
        store_conditional_cut_contents N b r i records.cut_contents records.contents records.accesses kept.stages kept.owners kept.logs kept.cuts kept.clocks kept.nodes v free line;
  }

  pub evict_shared_recorded : is_here (b.miss i).want ≡ false → b.line i ≡ Shared → RecordsInvariant (evict_shared b i) (unreserves r i)
  evict_shared_recorded no_miss line = record {
    reports = evict_shared_reports N b r i records.reports kept.clocks no_miss line;
    contents = evict_shared_contents N b r i records.contents kept.stages kept.owners kept.sharing kept.logs no_miss line;
    accesses =
        evict_shared_accesses N b r i records.accesses kept.stages kept.requests kept.owners kept.sharing kept.waits kept.nodes no_miss line;
    cut_contents =
        evict_shared_cut_contents N b r i records.cut_contents records.contents records.accesses kept.stages kept.owners kept.logs kept.cuts kept.clocks kept.nodes no_miss line;
  }

  pub edge_recorded : i < N → b.now i < b.known i + 4 → RecordsInvariant (edge b i) (unreserves r i)
  edge_recorded low room = record {
    reports = edge_reports N b r i records.reports kept.clocks low room;
    contents = edge_contents N b r i records.contents kept.stages kept.owners kept.sharing kept.logs low room;
    accesses = edge_accesses N b r i records.accesses kept.stages kept.requests kept.owners kept.sharing kept.waits kept.nodes low room;
    cut_contents =
        edge_cut_contents N b r i records.cut_contents records.contents records.accesses kept.stages kept.owners kept.logs kept.cuts kept.clocks kept.nodes low room;
  }

  pub report_recorded : (k : ℕ) → i < N → IsReady b i k → RecordsInvariant (report b i k) r
  report_recorded k low ready = record {
    reports = report_reports N b r i records.reports kept.clocks k low ready;
    contents = report_contents N b r i records.contents kept.stages kept.owners kept.sharing kept.logs k low ready;
    accesses =
        report_accesses N b r i records.accesses kept.stages kept.requests kept.owners kept.sharing kept.waits kept.nodes k low ready;
    cut_contents =
        report_cut_contents N b r i records.cut_contents records.contents records.accesses kept.stages kept.owners kept.logs kept.cuts kept.clocks kept.nodes k low ready;
  }

  pub validate_recorded : NothingUnfinished N b (b.point + 1) → RecordsInvariant (validate N b) r
  validate_recorded finished = record {
    reports = validate_reports N b r i records.reports kept.clocks finished;
    contents = validate_contents N b r i records.contents kept.stages kept.owners kept.sharing kept.logs finished;
    accesses = validate_accesses N b r i records.accesses kept.stages kept.requests kept.owners kept.sharing kept.waits kept.nodes finished;
    cut_contents =
        validate_cut_contents N b r i records.cut_contents records.contents records.accesses kept.stages kept.owners kept.logs kept.cuts kept.clocks kept.nodes finished;
  }

  pub load_recorded : Free N b i → b.line i ≢ NoLine → RecordsInvariant b (loads r i (b.now i))
  load_recorded free line = record {
    reports = load_reports N b r i records.reports kept.clocks free line;
    contents = load_contents N b r i records.contents kept.stages kept.owners kept.sharing kept.logs free line;
    accesses = load_accesses N b r i records.accesses kept.stages kept.requests kept.owners kept.sharing kept.waits kept.nodes free line;
    cut_contents =
        load_cut_contents N b r i records.cut_contents records.contents records.accesses kept.stages kept.owners kept.logs kept.cuts kept.clocks kept.nodes free line;
  }

  pub load_reserved_recorded : Free N b i → b.line i ≢ NoLine → RecordsInvariant b (loads_reserved r i (b.now i))
  load_reserved_recorded free line = record {
    reports = load_reserved_reports N b r i records.reports kept.clocks free line;
    contents = load_reserved_contents N b r i records.contents kept.stages kept.owners kept.sharing kept.logs free line;
    accesses =
        load_reserved_accesses N b r i records.accesses kept.stages kept.requests kept.owners kept.sharing kept.waits kept.nodes free line;
    cut_contents =
        load_reserved_cut_contents N b r i records.cut_contents records.contents records.accesses kept.stages kept.owners kept.logs kept.cuts kept.clocks kept.nodes free line;
  }

  pub store_conditional_undone_recorded : RecordsInvariant b (unreserves r i)
  store_conditional_undone_recorded = record {
    reports = store_conditional_undone_reports N b r i records.reports kept.clocks;
    contents = store_conditional_undone_contents N b r i records.contents kept.stages kept.owners kept.sharing kept.logs;
    accesses =
        store_conditional_undone_accesses N b r i records.accesses kept.stages kept.requests kept.owners kept.sharing kept.waits kept.nodes;
    cut_contents =
        store_conditional_undone_cut_contents N b r i records.cut_contents records.contents records.accesses kept.stages kept.owners kept.logs kept.cuts kept.clocks kept.nodes;
  }

  pub deliver_ready_recorded : Arrives b i Ready → RecordsInvariant (lose b i) (hears r (b.net i).from (b.net i).number)
  deliver_ready_recorded arrives = record {
    reports = deliver_ready_reports N b r i records.reports kept.clocks arrives;
    contents = deliver_ready_contents N b r i records.contents kept.stages kept.owners kept.sharing kept.logs arrives;
    accesses =
        deliver_ready_accesses N b r i records.accesses kept.stages kept.requests kept.owners kept.sharing kept.waits kept.nodes arrives;
    cut_contents =
        deliver_ready_cut_contents N b r i records.cut_contents records.contents records.accesses kept.stages kept.owners kept.logs kept.cuts kept.clocks kept.nodes arrives;
  }
