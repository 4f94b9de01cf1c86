-- Each row and event keeps all of the block's sentences: the groups put together.
use Rattle.std.proofs.Common.{◌≡◌, ◌≢◌, ℕ, ◌+◌, ◌<◌, true, false, ◌⊎◌}
use Rattle.sn_coherence.specs.Block.{Block, Content, NoLine, Shared, Nothing, Elsewhere, NoPut, PutElsewhere, Idle, Move, GetS, GetM}
use Rattle.sn_coherence.specs.Block.{FwdGetS, FwdGetM, Inv, DataS, DataM, DataE, UpgOk, InvAck, Unblock, PutReq, PutData, PutGo, PutDone}
use Rattle.sn_coherence.specs.Block.{Advance, is_owned, is_writable, is_here}
use Rattle.sn_coherence.specs.CacheRows.{forward_read, forward_write, invalidate, data_shared, data_modified_open, data_modified_complete}
use Rattle.sn_coherence.specs.CacheRows.{upgrade_granted_open, upgrade_granted_complete, acknowledge_open, acknowledge_complete, put_go}
use Rattle.sn_coherence.specs.CacheRows.{put_done, data_exclusive}
use Rattle.sn_coherence.specs.HomeRows.{read_at_home, read_at_owner, take, move_ownership, upgrade, unblock_move, unblock_other, put_begins}
use Rattle.sn_coherence.specs.HomeRows.{put_is_stale, put_data, grant_exclusive}
use Rattle.sn_coherence.specs.OtherEvents.{begin_read_miss, begin_write_miss, begin_put, begin_miss_elsewhere, end_miss_elsewhere}
use Rattle.sn_coherence.specs.OtherEvents.{begin_put_elsewhere, end_put_elsewhere, numbers_elsewhere, store, evict_shared, edge, report}
use Rattle.sn_coherence.specs.OtherEvents.{validate, lose, deliver_advance}
use Rattle.sn_coherence.specs.Invariant.{BlockInvariant}
use Rattle.sn_coherence.specs.Events.{Arrives, Owns, OtherOwns, Lists, other_sharers, NothingUnfinished, Free}
use Rattle.sn_coherence.proofs.Rows.{At, IsLast}
use Rattle.sn_coherence.proofs.Clocks.{forward_read_clocks, forward_write_clocks, invalidate_clocks, data_shared_clocks}
use Rattle.sn_coherence.proofs.Clocks.{data_modified_open_clocks, data_modified_complete_clocks, upgrade_granted_open_clocks}
use Rattle.sn_coherence.proofs.Clocks.{upgrade_granted_complete_clocks, acknowledge_open_clocks, acknowledge_complete_clocks, put_go_clocks}
use Rattle.sn_coherence.proofs.Clocks.{put_done_clocks, data_exclusive_clocks, read_at_home_clocks, read_at_owner_clocks, take_clocks}
use Rattle.sn_coherence.proofs.Clocks.{move_ownership_clocks, upgrade_clocks, unblock_move_clocks, unblock_other_clocks, put_begins_clocks}
use Rattle.sn_coherence.proofs.Clocks.{put_is_stale_clocks, put_data_clocks, grant_exclusive_clocks, deliver_advance_clocks, lose_clocks}
use Rattle.sn_coherence.proofs.Clocks.{begin_read_miss_clocks, begin_write_miss_clocks, begin_put_clocks, begin_miss_elsewhere_clocks}
use Rattle.sn_coherence.proofs.Clocks.{end_miss_elsewhere_clocks, begin_put_elsewhere_clocks, end_put_elsewhere_clocks}
use Rattle.sn_coherence.proofs.Clocks.{numbers_elsewhere_clocks, store_clocks, evict_shared_clocks, edge_clocks, report_clocks}
use Rattle.sn_coherence.proofs.Clocks.{validate_clocks}
use Rattle.sn_coherence.proofs.Nodes.{forward_read_nodes, forward_write_nodes, invalidate_nodes, data_shared_nodes}
use Rattle.sn_coherence.proofs.Nodes.{data_modified_open_nodes, data_modified_complete_nodes, upgrade_granted_open_nodes}
use Rattle.sn_coherence.proofs.Nodes.{upgrade_granted_complete_nodes, acknowledge_open_nodes, acknowledge_complete_nodes, put_go_nodes}
use Rattle.sn_coherence.proofs.Nodes.{put_done_nodes, data_exclusive_nodes, read_at_home_nodes, read_at_owner_nodes, take_nodes}
use Rattle.sn_coherence.proofs.Nodes.{move_ownership_nodes, upgrade_nodes, unblock_move_nodes, unblock_other_nodes, put_begins_nodes}
use Rattle.sn_coherence.proofs.Nodes.{put_is_stale_nodes, put_data_nodes, grant_exclusive_nodes, deliver_advance_nodes, lose_nodes}
use Rattle.sn_coherence.proofs.Nodes.{begin_read_miss_nodes, begin_write_miss_nodes, begin_put_nodes, begin_miss_elsewhere_nodes}
use Rattle.sn_coherence.proofs.Nodes.{end_miss_elsewhere_nodes, begin_put_elsewhere_nodes, end_put_elsewhere_nodes, numbers_elsewhere_nodes}
use Rattle.sn_coherence.proofs.Nodes.{store_nodes, evict_shared_nodes, edge_nodes, report_nodes, validate_nodes}
use Rattle.sn_coherence.proofs.Stages.{forward_read_stages, forward_write_stages, invalidate_stages, data_shared_stages}
use Rattle.sn_coherence.proofs.Stages.{data_modified_open_stages, data_modified_complete_stages, upgrade_granted_open_stages}
use Rattle.sn_coherence.proofs.Stages.{upgrade_granted_complete_stages, acknowledge_open_stages, acknowledge_complete_stages, put_go_stages}
use Rattle.sn_coherence.proofs.Stages.{put_done_stages, data_exclusive_stages, read_at_home_stages, read_at_owner_stages, take_stages}
use Rattle.sn_coherence.proofs.Stages.{move_ownership_stages, upgrade_stages, unblock_move_stages, unblock_other_stages, put_begins_stages}
use Rattle.sn_coherence.proofs.Stages.{put_is_stale_stages, put_data_stages, grant_exclusive_stages, deliver_advance_stages, lose_stages}
use Rattle.sn_coherence.proofs.Stages.{begin_read_miss_stages, begin_write_miss_stages, begin_put_stages, begin_miss_elsewhere_stages}
use Rattle.sn_coherence.proofs.Stages.{end_miss_elsewhere_stages, begin_put_elsewhere_stages, end_put_elsewhere_stages}
use Rattle.sn_coherence.proofs.Stages.{numbers_elsewhere_stages, store_stages, evict_shared_stages, edge_stages, report_stages}
use Rattle.sn_coherence.proofs.Stages.{validate_stages}
use Rattle.sn_coherence.proofs.Requests.{forward_read_requests, forward_write_requests, invalidate_requests, data_shared_requests}
use Rattle.sn_coherence.proofs.Requests.{data_modified_open_requests, data_modified_complete_requests, upgrade_granted_open_requests}
use Rattle.sn_coherence.proofs.Requests.{upgrade_granted_complete_requests, acknowledge_open_requests, acknowledge_complete_requests}
use Rattle.sn_coherence.proofs.Requests.{put_go_requests, put_done_requests, data_exclusive_requests, read_at_home_requests}
use Rattle.sn_coherence.proofs.Requests.{read_at_owner_requests, take_requests, move_ownership_requests, upgrade_requests}
use Rattle.sn_coherence.proofs.Requests.{unblock_move_requests, unblock_other_requests, put_begins_requests, put_is_stale_requests}
use Rattle.sn_coherence.proofs.Requests.{put_data_requests, grant_exclusive_requests, deliver_advance_requests, lose_requests}
use Rattle.sn_coherence.proofs.Requests.{begin_read_miss_requests, begin_write_miss_requests, begin_put_requests}
use Rattle.sn_coherence.proofs.Requests.{begin_miss_elsewhere_requests, end_miss_elsewhere_requests, begin_put_elsewhere_requests}
use Rattle.sn_coherence.proofs.Requests.{end_put_elsewhere_requests, numbers_elsewhere_requests, store_requests, evict_shared_requests}
use Rattle.sn_coherence.proofs.Requests.{edge_requests, report_requests, validate_requests}
use Rattle.sn_coherence.proofs.Owners.{forward_read_owners, forward_write_owners, invalidate_owners, data_shared_owners}
use Rattle.sn_coherence.proofs.Owners.{data_modified_open_owners, data_modified_complete_owners, upgrade_granted_open_owners}
use Rattle.sn_coherence.proofs.Owners.{upgrade_granted_complete_owners, acknowledge_open_owners, acknowledge_complete_owners, put_go_owners}
use Rattle.sn_coherence.proofs.Owners.{put_done_owners, data_exclusive_owners, read_at_home_owners, read_at_owner_owners, take_owners}
use Rattle.sn_coherence.proofs.Owners.{move_ownership_owners, upgrade_owners, unblock_move_owners, unblock_other_owners, put_begins_owners}
use Rattle.sn_coherence.proofs.Owners.{put_is_stale_owners, put_data_owners, grant_exclusive_owners, deliver_advance_owners, lose_owners}
use Rattle.sn_coherence.proofs.Owners.{begin_read_miss_owners, begin_write_miss_owners, begin_put_owners, begin_miss_elsewhere_owners}
use Rattle.sn_coherence.proofs.Owners.{end_miss_elsewhere_owners, begin_put_elsewhere_owners, end_put_elsewhere_owners}
use Rattle.sn_coherence.proofs.Owners.{numbers_elsewhere_owners, store_owners, evict_shared_owners, edge_owners, report_owners}
use Rattle.sn_coherence.proofs.Owners.{validate_owners}
use Rattle.sn_coherence.proofs.Waits.{forward_read_waits, forward_write_waits, invalidate_waits, data_shared_waits}
use Rattle.sn_coherence.proofs.Waits.{data_modified_open_waits, data_modified_complete_waits, upgrade_granted_open_waits}
use Rattle.sn_coherence.proofs.Waits.{upgrade_granted_complete_waits, acknowledge_open_waits, acknowledge_complete_waits, put_go_waits}
use Rattle.sn_coherence.proofs.Waits.{put_done_waits, data_exclusive_waits, read_at_home_waits, read_at_owner_waits, take_waits}
use Rattle.sn_coherence.proofs.Waits.{move_ownership_waits, upgrade_waits, unblock_move_waits, unblock_other_waits, put_begins_waits}
use Rattle.sn_coherence.proofs.Waits.{put_is_stale_waits, put_data_waits, grant_exclusive_waits, deliver_advance_waits, lose_waits}
use Rattle.sn_coherence.proofs.Waits.{begin_read_miss_waits, begin_write_miss_waits, begin_put_waits, begin_miss_elsewhere_waits}
use Rattle.sn_coherence.proofs.Waits.{end_miss_elsewhere_waits, begin_put_elsewhere_waits, end_put_elsewhere_waits, numbers_elsewhere_waits}
use Rattle.sn_coherence.proofs.Waits.{store_waits, evict_shared_waits, edge_waits, report_waits, validate_waits}
use Rattle.sn_coherence.proofs.Sharing.{forward_read_sharing, forward_write_sharing, invalidate_sharing, data_shared_sharing}
use Rattle.sn_coherence.proofs.Sharing.{data_modified_open_sharing, data_modified_complete_sharing, upgrade_granted_open_sharing}
use Rattle.sn_coherence.proofs.Sharing.{upgrade_granted_complete_sharing, acknowledge_open_sharing, acknowledge_complete_sharing}
use Rattle.sn_coherence.proofs.Sharing.{put_go_sharing, put_done_sharing, data_exclusive_sharing, read_at_home_sharing}
use Rattle.sn_coherence.proofs.Sharing.{read_at_owner_sharing, take_sharing, move_ownership_sharing, upgrade_sharing, unblock_move_sharing}
use Rattle.sn_coherence.proofs.Sharing.{unblock_other_sharing, put_begins_sharing, put_is_stale_sharing, put_data_sharing}
use Rattle.sn_coherence.proofs.Sharing.{grant_exclusive_sharing, deliver_advance_sharing, lose_sharing, begin_read_miss_sharing}
use Rattle.sn_coherence.proofs.Sharing.{begin_write_miss_sharing, begin_put_sharing, begin_miss_elsewhere_sharing}
use Rattle.sn_coherence.proofs.Sharing.{end_miss_elsewhere_sharing, begin_put_elsewhere_sharing, end_put_elsewhere_sharing}
use Rattle.sn_coherence.proofs.Sharing.{numbers_elsewhere_sharing, store_sharing, evict_shared_sharing, edge_sharing, report_sharing}
use Rattle.sn_coherence.proofs.Sharing.{validate_sharing}
use Rattle.sn_coherence.proofs.Logs.{forward_read_logs, forward_write_logs, invalidate_logs, data_shared_logs, data_modified_open_logs}
use Rattle.sn_coherence.proofs.Logs.{data_modified_complete_logs, upgrade_granted_open_logs, upgrade_granted_complete_logs}
use Rattle.sn_coherence.proofs.Logs.{acknowledge_open_logs, acknowledge_complete_logs, put_go_logs, put_done_logs, data_exclusive_logs}
use Rattle.sn_coherence.proofs.Logs.{read_at_home_logs, read_at_owner_logs, take_logs, move_ownership_logs, upgrade_logs, unblock_move_logs}
use Rattle.sn_coherence.proofs.Logs.{unblock_other_logs, put_begins_logs, put_is_stale_logs, put_data_logs, grant_exclusive_logs}
use Rattle.sn_coherence.proofs.Logs.{deliver_advance_logs, lose_logs, begin_read_miss_logs, begin_write_miss_logs, begin_put_logs}
use Rattle.sn_coherence.proofs.Logs.{begin_miss_elsewhere_logs, end_miss_elsewhere_logs, begin_put_elsewhere_logs, end_put_elsewhere_logs}
use Rattle.sn_coherence.proofs.Logs.{numbers_elsewhere_logs, store_logs, evict_shared_logs, edge_logs, report_logs, validate_logs}
use Rattle.sn_coherence.proofs.Cuts.{forward_read_cuts, forward_write_cuts, invalidate_cuts, data_shared_cuts, data_modified_open_cuts}
use Rattle.sn_coherence.proofs.Cuts.{data_modified_complete_cuts, upgrade_granted_open_cuts, upgrade_granted_complete_cuts}
use Rattle.sn_coherence.proofs.Cuts.{acknowledge_open_cuts, acknowledge_complete_cuts, put_go_cuts, put_done_cuts, data_exclusive_cuts}
use Rattle.sn_coherence.proofs.Cuts.{read_at_home_cuts, read_at_owner_cuts, take_cuts, move_ownership_cuts, upgrade_cuts, unblock_move_cuts}
use Rattle.sn_coherence.proofs.Cuts.{unblock_other_cuts, put_begins_cuts, put_is_stale_cuts, put_data_cuts, grant_exclusive_cuts}
use Rattle.sn_coherence.proofs.Cuts.{deliver_advance_cuts, lose_cuts, begin_read_miss_cuts, begin_write_miss_cuts, begin_put_cuts}
use Rattle.sn_coherence.proofs.Cuts.{begin_miss_elsewhere_cuts, end_miss_elsewhere_cuts, begin_put_elsewhere_cuts, end_put_elsewhere_cuts}
use Rattle.sn_coherence.proofs.Cuts.{numbers_elsewhere_cuts, store_cuts, evict_shared_cuts, edge_cuts, report_cuts, validate_cuts}
use Rattle.sn_coherence.proofs.Frames.{forward_read_frames, forward_write_frames, invalidate_frames, data_shared_frames}
use Rattle.sn_coherence.proofs.Frames.{data_modified_open_frames, data_modified_complete_frames, upgrade_granted_open_frames}
use Rattle.sn_coherence.proofs.Frames.{upgrade_granted_complete_frames, acknowledge_open_frames, acknowledge_complete_frames, put_go_frames}
use Rattle.sn_coherence.proofs.Frames.{put_done_frames, data_exclusive_frames, read_at_home_frames, read_at_owner_frames, take_frames}
use Rattle.sn_coherence.proofs.Frames.{move_ownership_frames, upgrade_frames, unblock_move_frames, unblock_other_frames, put_begins_frames}
use Rattle.sn_coherence.proofs.Frames.{put_is_stale_frames, put_data_frames, grant_exclusive_frames, deliver_advance_frames, lose_frames}
use Rattle.sn_coherence.proofs.Frames.{begin_read_miss_frames, begin_write_miss_frames, begin_put_frames, begin_miss_elsewhere_frames}
use Rattle.sn_coherence.proofs.Frames.{end_miss_elsewhere_frames, begin_put_elsewhere_frames, end_put_elsewhere_frames}
use Rattle.sn_coherence.proofs.Frames.{numbers_elsewhere_frames, store_frames, evict_shared_frames, edge_frames, report_frames}
use Rattle.sn_coherence.proofs.Frames.{validate_frames}

module _ (N : ℕ) (b : Block) (i : ℕ) (kept : BlockInvariant N b) where
  -- The cache's rows.

  pub forward_read_kept : Arrives b i FwdGetS → BlockInvariant N (forward_read b i)
  forward_read_kept arrives = record {
    clocks = forward_read_clocks N b i kept.clocks kept.nodes arrives;
    nodes = forward_read_nodes N b i kept.nodes kept.stages kept.owners arrives;
    stages = forward_read_stages N b i kept.stages kept.requests arrives;
    requests = forward_read_requests N b i kept.requests kept.stages kept.owners arrives;
    owners = forward_read_owners N b i kept.owners kept.stages arrives;
    waits = forward_read_waits N b i kept.waits kept.stages kept.requests kept.nodes arrives;
    sharing = forward_read_sharing N b i kept.sharing kept.stages kept.owners kept.requests kept.waits kept.nodes arrives;
    logs = forward_read_logs N b i kept.logs kept.stages kept.owners kept.clocks kept.nodes arrives;
    cuts = forward_read_cuts N b i kept.cuts kept.logs kept.stages kept.owners kept.clocks kept.nodes arrives;
    frames = forward_read_frames N b i kept.frames kept.stages kept.requests kept.logs kept.owners kept.clocks kept.nodes arrives;
  }

  pub forward_write_kept : Arrives b i FwdGetM → BlockInvariant N (forward_write b i)
  forward_write_kept arrives = record {
    clocks = forward_write_clocks N b i kept.clocks kept.nodes arrives;
    nodes = forward_write_nodes N b i kept.nodes kept.stages kept.owners arrives;
    stages = forward_write_stages N b i kept.stages kept.requests arrives;
    requests = forward_write_requests N b i kept.requests kept.stages kept.owners arrives;
    owners = forward_write_owners N b i kept.owners kept.stages arrives;
    waits = forward_write_waits N b i kept.waits kept.stages kept.requests kept.nodes arrives;
    sharing = forward_write_sharing N b i kept.sharing kept.stages kept.owners kept.requests kept.waits kept.nodes arrives;
    logs = forward_write_logs N b i kept.logs kept.stages kept.owners kept.clocks kept.nodes arrives;
    cuts = forward_write_cuts N b i kept.cuts kept.logs kept.stages kept.owners kept.clocks kept.nodes arrives;
    frames = forward_write_frames N b i kept.frames kept.stages kept.requests kept.logs kept.owners kept.clocks kept.nodes arrives;
  }

  pub invalidate_kept : Arrives b i Inv → BlockInvariant N (invalidate b i)
  invalidate_kept arrives = record {
    clocks = invalidate_clocks N b i kept.clocks kept.nodes arrives;
    nodes = invalidate_nodes N b i kept.nodes kept.stages kept.owners kept.waits arrives;
    stages = invalidate_stages N b i kept.stages kept.requests kept.waits arrives;
    requests = invalidate_requests N b i kept.requests kept.stages kept.owners arrives;
    owners = invalidate_owners N b i kept.owners kept.stages kept.waits kept.sharing arrives;
    waits = invalidate_waits N b i kept.waits kept.stages kept.requests kept.nodes arrives;
    sharing = invalidate_sharing N b i kept.sharing kept.stages kept.owners kept.requests kept.waits kept.nodes arrives;
    logs = invalidate_logs N b i kept.logs kept.stages kept.owners kept.clocks kept.nodes kept.waits kept.sharing arrives;
    cuts = invalidate_cuts N b i kept.cuts kept.logs kept.stages kept.owners kept.clocks kept.nodes kept.waits kept.sharing arrives;
    frames = invalidate_frames N b i kept.frames kept.stages kept.requests kept.logs kept.owners kept.clocks kept.nodes kept.waits arrives;
  }

  pub data_shared_kept : Arrives b i DataS → BlockInvariant N (data_shared b i)
  data_shared_kept arrives = record {
    clocks = data_shared_clocks N b i kept.clocks kept.nodes arrives;
    nodes = data_shared_nodes N b i kept.nodes kept.stages kept.owners arrives;
    stages = data_shared_stages N b i kept.stages kept.requests arrives;
    requests = data_shared_requests N b i kept.requests kept.stages kept.owners arrives;
    owners = data_shared_owners N b i kept.owners kept.stages kept.sharing arrives;
    waits = data_shared_waits N b i kept.waits kept.stages kept.requests kept.nodes arrives;
    sharing = data_shared_sharing N b i kept.sharing kept.stages kept.owners kept.requests kept.waits kept.nodes arrives;
    logs = data_shared_logs N b i kept.logs kept.stages kept.owners kept.clocks kept.nodes kept.sharing kept.requests arrives;
    cuts = data_shared_cuts N b i kept.cuts kept.logs kept.stages kept.owners kept.clocks kept.nodes kept.sharing arrives;
    frames = data_shared_frames N b i kept.frames kept.stages kept.requests kept.logs kept.owners kept.clocks kept.nodes arrives;
  }

  pub data_modified_open_kept : Arrives b i DataM → (b.miss (b.net i).to).acks ≢ (b.net i).due → BlockInvariant N (data_modified_open b i)
  data_modified_open_kept arrives some_lack = record {
    clocks = data_modified_open_clocks N b i kept.clocks kept.nodes arrives some_lack;
    nodes = data_modified_open_nodes N b i kept.nodes kept.stages kept.owners arrives some_lack;
    stages = data_modified_open_stages N b i kept.stages kept.requests arrives some_lack;
    requests = data_modified_open_requests N b i kept.requests kept.stages kept.owners arrives some_lack;
    owners = data_modified_open_owners N b i kept.owners kept.stages arrives some_lack;
    waits = data_modified_open_waits N b i kept.waits kept.stages kept.requests kept.nodes arrives some_lack;
    sharing = data_modified_open_sharing N b i kept.sharing kept.stages kept.owners kept.requests kept.waits kept.nodes arrives some_lack;
    logs = data_modified_open_logs N b i kept.logs kept.stages kept.owners kept.clocks kept.nodes arrives some_lack;
    cuts = data_modified_open_cuts N b i kept.cuts kept.logs kept.stages kept.owners kept.clocks kept.nodes arrives some_lack;
    frames =
        data_modified_open_frames N b i kept.frames kept.stages kept.requests kept.logs kept.owners kept.clocks kept.nodes arrives some_lack;
  }

  pub data_modified_complete_kept : Arrives b i DataM → (b.miss (b.net i).to).acks ≡ (b.net i).due →
      BlockInvariant N (data_modified_complete b i)
  data_modified_complete_kept arrives all_in = record {
    clocks = data_modified_complete_clocks N b i kept.clocks kept.nodes arrives all_in;
    nodes = data_modified_complete_nodes N b i kept.nodes kept.stages kept.owners arrives all_in;
    stages = data_modified_complete_stages N b i kept.stages kept.requests arrives all_in;
    requests = data_modified_complete_requests N b i kept.requests kept.stages kept.owners arrives all_in;
    owners = data_modified_complete_owners N b i kept.owners kept.stages arrives all_in;
    waits = data_modified_complete_waits N b i kept.waits kept.stages kept.requests kept.nodes arrives all_in;
    sharing = data_modified_complete_sharing N b i kept.sharing kept.stages kept.owners kept.requests kept.waits kept.nodes arrives all_in;
    logs = data_modified_complete_logs N b i kept.logs kept.stages kept.owners kept.clocks kept.nodes arrives all_in;
    cuts = data_modified_complete_cuts N b i kept.cuts kept.logs kept.stages kept.owners kept.clocks kept.nodes arrives all_in;
    frames =
        data_modified_complete_frames N b i kept.frames kept.stages kept.requests kept.logs kept.owners kept.clocks kept.nodes arrives all_in;
  }

  pub upgrade_granted_open_kept : Arrives b i UpgOk → (b.miss (b.net i).to).acks ≢ (b.net i).due → BlockInvariant N (upgrade_granted_open b i)
  upgrade_granted_open_kept arrives some_lack = record {
    clocks = upgrade_granted_open_clocks N b i kept.clocks kept.nodes arrives some_lack;
    nodes = upgrade_granted_open_nodes N b i kept.nodes kept.stages kept.owners arrives some_lack;
    stages = upgrade_granted_open_stages N b i kept.stages kept.requests kept.owners arrives some_lack;
    requests = upgrade_granted_open_requests N b i kept.requests kept.stages kept.owners arrives some_lack;
    owners = upgrade_granted_open_owners N b i kept.owners kept.stages arrives some_lack;
    waits = upgrade_granted_open_waits N b i kept.waits kept.stages kept.requests kept.nodes arrives some_lack;
    sharing = upgrade_granted_open_sharing N b i kept.sharing kept.stages kept.owners kept.requests kept.waits kept.nodes arrives some_lack;
    logs = upgrade_granted_open_logs N b i kept.logs kept.stages kept.owners kept.clocks kept.nodes arrives some_lack;
    cuts = upgrade_granted_open_cuts N b i kept.cuts kept.logs kept.stages kept.owners kept.clocks kept.nodes arrives some_lack;
    frames =
        upgrade_granted_open_frames N b i kept.frames kept.stages kept.requests kept.logs kept.owners kept.clocks kept.nodes arrives some_lack;
  }

  pub upgrade_granted_complete_kept : Arrives b i UpgOk → (b.miss (b.net i).to).acks ≡ (b.net i).due →
      BlockInvariant N (upgrade_granted_complete b i)
  upgrade_granted_complete_kept arrives all_in = record {
    clocks = upgrade_granted_complete_clocks N b i kept.clocks kept.nodes arrives all_in;
    nodes = upgrade_granted_complete_nodes N b i kept.nodes kept.stages kept.owners arrives all_in;
    stages = upgrade_granted_complete_stages N b i kept.stages kept.requests arrives all_in;
    requests = upgrade_granted_complete_requests N b i kept.requests kept.stages kept.owners arrives all_in;
    owners = upgrade_granted_complete_owners N b i kept.owners kept.stages arrives all_in;
    waits = upgrade_granted_complete_waits N b i kept.waits kept.stages kept.requests kept.nodes arrives all_in;
    sharing =
        upgrade_granted_complete_sharing N b i kept.sharing kept.stages kept.owners kept.requests kept.waits kept.nodes arrives all_in;
    logs = upgrade_granted_complete_logs N b i kept.logs kept.stages kept.owners kept.clocks kept.nodes arrives all_in;
    cuts = upgrade_granted_complete_cuts N b i kept.cuts kept.logs kept.stages kept.owners kept.clocks kept.nodes arrives all_in;
    frames =
        upgrade_granted_complete_frames N b i kept.frames kept.stages kept.requests kept.logs kept.owners kept.clocks kept.nodes arrives all_in;
  }

  pub acknowledge_open_kept : Arrives b i InvAck → IsLast b i ≡ false → BlockInvariant N (acknowledge_open b i)
  acknowledge_open_kept arrives not_last = record {
    clocks = acknowledge_open_clocks N b i kept.clocks kept.nodes arrives not_last;
    nodes = acknowledge_open_nodes N b i kept.nodes kept.stages kept.owners arrives not_last;
    stages = acknowledge_open_stages N b i kept.stages kept.requests kept.waits arrives not_last;
    requests = acknowledge_open_requests N b i kept.requests kept.stages kept.owners arrives not_last;
    owners = acknowledge_open_owners N b i kept.owners kept.stages kept.waits arrives not_last;
    waits = acknowledge_open_waits N b i kept.waits kept.stages kept.requests kept.nodes arrives not_last;
    sharing = acknowledge_open_sharing N b i kept.sharing kept.stages kept.owners kept.requests kept.waits kept.nodes arrives not_last;
    logs = acknowledge_open_logs N b i kept.logs kept.stages kept.owners kept.clocks kept.nodes kept.waits arrives not_last;
    cuts = acknowledge_open_cuts N b i kept.cuts kept.logs kept.stages kept.owners kept.clocks kept.nodes kept.waits arrives not_last;
    frames =
        acknowledge_open_frames N b i kept.frames kept.stages kept.requests kept.logs kept.owners kept.clocks kept.nodes kept.waits arrives not_last;
  }

  pub acknowledge_complete_kept : Arrives b i InvAck → IsLast b i ≡ true → BlockInvariant N (acknowledge_complete b i)
  acknowledge_complete_kept arrives last = record {
    clocks = acknowledge_complete_clocks N b i kept.clocks kept.nodes arrives last;
    nodes = acknowledge_complete_nodes N b i kept.nodes kept.stages kept.owners arrives last;
    stages = acknowledge_complete_stages N b i kept.stages kept.requests kept.waits arrives last;
    requests = acknowledge_complete_requests N b i kept.requests kept.stages kept.owners arrives last;
    owners = acknowledge_complete_owners N b i kept.owners kept.stages kept.waits arrives last;
    waits = acknowledge_complete_waits N b i kept.waits kept.stages kept.requests kept.nodes arrives last;
    sharing = acknowledge_complete_sharing N b i kept.sharing kept.stages kept.owners kept.requests kept.waits kept.nodes arrives last;
    logs = acknowledge_complete_logs N b i kept.logs kept.stages kept.owners kept.clocks kept.nodes kept.waits arrives last;
    cuts = acknowledge_complete_cuts N b i kept.cuts kept.logs kept.stages kept.owners kept.clocks kept.nodes kept.waits arrives last;
    frames =
        acknowledge_complete_frames N b i kept.frames kept.stages kept.requests kept.logs kept.owners kept.clocks kept.nodes kept.waits arrives last;
  }

  pub put_go_kept : Arrives b i PutGo → BlockInvariant N (put_go b i)
  put_go_kept arrives = record {
    clocks = put_go_clocks N b i kept.clocks kept.nodes arrives;
    nodes = put_go_nodes N b i kept.nodes kept.stages kept.owners arrives;
    stages = put_go_stages N b i kept.stages kept.requests arrives;
    requests = put_go_requests N b i kept.requests kept.stages kept.owners arrives;
    owners = put_go_owners N b i kept.owners kept.stages arrives;
    waits = put_go_waits N b i kept.waits kept.stages kept.requests kept.nodes arrives;
    sharing = put_go_sharing N b i kept.sharing kept.stages kept.owners kept.requests kept.waits kept.nodes arrives;
    logs = put_go_logs N b i kept.logs kept.stages kept.owners kept.clocks kept.nodes arrives;
    cuts = put_go_cuts N b i kept.cuts kept.logs kept.stages kept.owners kept.clocks kept.nodes arrives;
    frames = put_go_frames N b i kept.frames kept.stages kept.requests kept.logs kept.owners kept.clocks kept.nodes arrives;
  }

  pub put_done_kept : Arrives b i PutDone → BlockInvariant N (put_done b i)
  put_done_kept arrives = record {
    clocks = put_done_clocks N b i kept.clocks kept.nodes arrives;
    nodes = put_done_nodes N b i kept.nodes kept.stages kept.owners arrives;
    stages = put_done_stages N b i kept.stages kept.requests arrives;
    requests = put_done_requests N b i kept.requests kept.stages kept.owners arrives;
    owners = put_done_owners N b i kept.owners kept.stages arrives;
    waits = put_done_waits N b i kept.waits kept.stages kept.requests kept.nodes arrives;
    sharing = put_done_sharing N b i kept.sharing kept.stages kept.owners kept.requests kept.waits kept.nodes arrives;
    logs = put_done_logs N b i kept.logs kept.stages kept.owners kept.clocks kept.nodes arrives;
    cuts = put_done_cuts N b i kept.cuts kept.logs kept.stages kept.owners kept.clocks kept.nodes arrives;
    frames = put_done_frames N b i kept.frames kept.stages kept.requests kept.logs kept.owners kept.clocks kept.nodes arrives;
  }

  pub data_exclusive_kept : Arrives b i DataE → BlockInvariant N (data_exclusive b i)
  data_exclusive_kept arrives = record {
    clocks = data_exclusive_clocks N b i kept.clocks kept.nodes arrives;
    nodes = data_exclusive_nodes N b i kept.nodes kept.stages kept.owners arrives;
    stages = data_exclusive_stages N b i kept.stages kept.requests arrives;
    requests = data_exclusive_requests N b i kept.requests kept.stages kept.owners arrives;
    owners = data_exclusive_owners N b i kept.owners kept.stages arrives;
    waits = data_exclusive_waits N b i kept.waits kept.stages kept.requests kept.nodes arrives;
    sharing = data_exclusive_sharing N b i kept.sharing kept.stages kept.owners kept.requests kept.waits kept.nodes arrives;
    logs = data_exclusive_logs N b i kept.logs kept.stages kept.owners kept.clocks kept.nodes arrives;
    cuts = data_exclusive_cuts N b i kept.cuts kept.logs kept.stages kept.owners kept.clocks kept.nodes arrives;
    frames = data_exclusive_frames N b i kept.frames kept.stages kept.requests kept.logs kept.owners kept.clocks kept.nodes arrives;
  }

  -- The home's rows.

  pub read_at_home_kept : At b i GetS → b.kind ≡ Idle → b.at_home ≡ true → BlockInvariant N (read_at_home b i)
  read_at_home_kept arrives idle home_owns = record {
    clocks = read_at_home_clocks N b i kept.clocks kept.nodes arrives idle home_owns;
    nodes = read_at_home_nodes N b i kept.nodes kept.stages kept.owners arrives idle home_owns;
    stages = read_at_home_stages N b i kept.stages kept.requests arrives idle home_owns;
    requests = read_at_home_requests N b i kept.requests kept.stages kept.owners arrives idle home_owns;
    owners = read_at_home_owners N b i kept.owners kept.stages arrives idle home_owns;
    waits = read_at_home_waits N b i kept.waits kept.stages kept.requests kept.nodes arrives idle home_owns;
    sharing = read_at_home_sharing N b i kept.sharing kept.stages kept.owners kept.requests kept.waits kept.nodes arrives idle home_owns;
    logs = read_at_home_logs N b i kept.logs kept.stages kept.owners kept.clocks kept.nodes arrives idle home_owns;
    cuts = read_at_home_cuts N b i kept.cuts kept.logs kept.stages kept.owners kept.clocks kept.nodes arrives idle home_owns;
    frames =
        read_at_home_frames N b i kept.frames kept.stages kept.requests kept.logs kept.owners kept.clocks kept.nodes arrives idle home_owns;
  }

  pub read_at_owner_kept : At b i GetS → b.kind ≡ Idle → b.at_home ≡ false → BlockInvariant N (read_at_owner b i)
  read_at_owner_kept arrives idle cache_owns = record {
    clocks = read_at_owner_clocks N b i kept.clocks kept.nodes arrives idle cache_owns;
    nodes = read_at_owner_nodes N b i kept.nodes kept.stages kept.owners arrives idle cache_owns;
    stages = read_at_owner_stages N b i kept.stages kept.requests arrives idle cache_owns;
    requests = read_at_owner_requests N b i kept.requests kept.stages kept.owners arrives idle cache_owns;
    owners = read_at_owner_owners N b i kept.owners kept.stages arrives idle cache_owns;
    waits = read_at_owner_waits N b i kept.waits kept.stages kept.requests kept.nodes arrives idle cache_owns;
    sharing = read_at_owner_sharing N b i kept.sharing kept.stages kept.owners kept.requests kept.waits kept.nodes arrives idle cache_owns;
    logs = read_at_owner_logs N b i kept.logs kept.stages kept.owners kept.clocks kept.nodes arrives idle cache_owns;
    cuts = read_at_owner_cuts N b i kept.cuts kept.logs kept.stages kept.owners kept.clocks kept.nodes arrives idle cache_owns;
    frames =
        read_at_owner_frames N b i kept.frames kept.stages kept.requests kept.logs kept.owners kept.clocks kept.nodes arrives idle cache_owns;
  }

  pub take_kept : (targets : ℕ → ℕ) (due : ℕ) → At b i GetM → b.kind ≡ Idle → b.at_home ≡ true → Lists N (other_sharers b i) targets due →
      BlockInvariant N (take b i targets due)
  take_kept targets due arrives idle home_owns each = record {
    clocks = take_clocks N b i kept.clocks kept.nodes targets due arrives idle home_owns;
    nodes = take_nodes N b i kept.nodes kept.stages kept.owners targets due arrives idle home_owns each;
    stages = take_stages N b i kept.stages kept.requests targets due arrives idle home_owns;
    requests = take_requests N b i kept.requests kept.stages kept.owners targets due arrives idle home_owns;
    owners = take_owners N b i kept.owners kept.stages targets due arrives idle home_owns;
    waits = take_waits N b i kept.waits kept.stages kept.requests kept.nodes targets due arrives idle home_owns each;
    sharing =
        take_sharing N b i kept.sharing kept.stages kept.owners kept.requests kept.waits kept.nodes targets due arrives idle home_owns;
    logs = take_logs N b i kept.logs kept.stages kept.owners kept.clocks kept.nodes targets due arrives idle home_owns;
    cuts = take_cuts N b i kept.cuts kept.logs kept.stages kept.owners kept.clocks kept.nodes targets due arrives idle home_owns;
    frames =
        take_frames N b i kept.frames kept.stages kept.requests kept.logs kept.owners kept.clocks kept.nodes targets due arrives idle home_owns;
  }

  pub move_ownership_kept : (targets : ℕ → ℕ) (due : ℕ) → At b i GetM → b.kind ≡ Idle → OtherOwns b (b.net i).from →
      Lists N (other_sharers b i) targets due → BlockInvariant N (move_ownership b i targets due)
  move_ownership_kept targets due arrives idle other_owns each = record {
    clocks = move_ownership_clocks N b i kept.clocks kept.nodes targets due arrives idle other_owns;
    nodes = move_ownership_nodes N b i kept.nodes kept.stages kept.owners targets due arrives idle other_owns each;
    stages = move_ownership_stages N b i kept.stages kept.requests targets due arrives idle other_owns;
    requests = move_ownership_requests N b i kept.requests kept.stages kept.owners targets due arrives idle other_owns;
    owners = move_ownership_owners N b i kept.owners kept.stages targets due arrives idle other_owns;
    waits = move_ownership_waits N b i kept.waits kept.stages kept.requests kept.nodes targets due arrives idle other_owns each;
    sharing =
        move_ownership_sharing N b i kept.sharing kept.stages kept.owners kept.requests kept.waits kept.nodes targets due arrives idle other_owns;
    logs = move_ownership_logs N b i kept.logs kept.stages kept.owners kept.clocks kept.nodes targets due arrives idle other_owns;
    cuts = move_ownership_cuts N b i kept.cuts kept.logs kept.stages kept.owners kept.clocks kept.nodes targets due arrives idle other_owns;
    frames =
        move_ownership_frames N b i kept.frames kept.stages kept.requests kept.logs kept.owners kept.clocks kept.nodes targets due arrives idle other_owns;
  }

  pub upgrade_kept : (targets : ℕ → ℕ) (due : ℕ) → At b i GetM → b.kind ≡ Idle → Owns b (b.net i).from →
      Lists N (other_sharers b i) targets due → BlockInvariant N (upgrade b i targets due)
  upgrade_kept targets due arrives idle sender_owns each = record {
    clocks = upgrade_clocks N b i kept.clocks kept.nodes targets due arrives idle sender_owns;
    nodes = upgrade_nodes N b i kept.nodes kept.stages kept.owners targets due arrives idle sender_owns each;
    stages = upgrade_stages N b i kept.stages kept.requests targets due arrives idle sender_owns;
    requests = upgrade_requests N b i kept.requests kept.stages kept.owners targets due arrives idle sender_owns;
    owners = upgrade_owners N b i kept.owners kept.stages targets due arrives idle sender_owns;
    waits = upgrade_waits N b i kept.waits kept.stages kept.requests kept.nodes targets due arrives idle sender_owns each;
    sharing =
        upgrade_sharing N b i kept.sharing kept.stages kept.owners kept.requests kept.waits kept.nodes targets due arrives idle sender_owns;
    logs = upgrade_logs N b i kept.logs kept.stages kept.owners kept.clocks kept.nodes targets due arrives idle sender_owns;
    cuts = upgrade_cuts N b i kept.cuts kept.logs kept.stages kept.owners kept.clocks kept.nodes targets due arrives idle sender_owns;
    frames =
        upgrade_frames N b i kept.frames kept.stages kept.requests kept.logs kept.owners kept.clocks kept.nodes targets due arrives idle sender_owns;
  }

  pub unblock_move_kept : At b i Unblock → b.kind ≡ Move → BlockInvariant N (unblock_move b i)
  unblock_move_kept arrives move = record {
    clocks = unblock_move_clocks N b i kept.clocks kept.nodes arrives move;
    nodes = unblock_move_nodes N b i kept.nodes kept.stages kept.owners arrives move;
    stages = unblock_move_stages N b i kept.stages kept.requests arrives move;
    requests = unblock_move_requests N b i kept.requests kept.stages kept.owners arrives move;
    owners = unblock_move_owners N b i kept.owners kept.stages arrives move;
    waits = unblock_move_waits N b i kept.waits kept.stages kept.requests kept.nodes arrives move;
    sharing = unblock_move_sharing N b i kept.sharing kept.stages kept.owners kept.requests kept.waits kept.nodes arrives move;
    logs = unblock_move_logs N b i kept.logs kept.stages kept.owners kept.clocks kept.nodes arrives move;
    cuts = unblock_move_cuts N b i kept.cuts kept.logs kept.stages kept.owners kept.clocks kept.nodes arrives move;
    frames = unblock_move_frames N b i kept.frames kept.stages kept.requests kept.logs kept.owners kept.clocks kept.nodes arrives move;
  }

  pub unblock_other_kept : At b i Unblock → b.kind ≢ Move → BlockInvariant N (unblock_other b i)
  unblock_other_kept arrives no_move = record {
    clocks = unblock_other_clocks N b i kept.clocks kept.nodes arrives no_move;
    nodes = unblock_other_nodes N b i kept.nodes kept.stages kept.owners arrives no_move;
    stages = unblock_other_stages N b i kept.stages kept.requests arrives no_move;
    requests = unblock_other_requests N b i kept.requests kept.stages kept.owners arrives no_move;
    owners = unblock_other_owners N b i kept.owners kept.stages arrives no_move;
    waits = unblock_other_waits N b i kept.waits kept.stages kept.requests kept.nodes arrives no_move;
    sharing = unblock_other_sharing N b i kept.sharing kept.stages kept.owners kept.requests kept.waits kept.nodes arrives no_move;
    logs = unblock_other_logs N b i kept.logs kept.stages kept.owners kept.clocks kept.nodes arrives no_move;
    cuts = unblock_other_cuts N b i kept.cuts kept.logs kept.stages kept.owners kept.clocks kept.nodes arrives no_move;
    frames = unblock_other_frames N b i kept.frames kept.stages kept.requests kept.logs kept.owners kept.clocks kept.nodes arrives no_move;
  }

  pub put_begins_kept : At b i PutReq → b.kind ≡ Idle → Owns b (b.net i).from → BlockInvariant N (put_begins b i)
  put_begins_kept arrives idle sender_owns = record {
    clocks = put_begins_clocks N b i kept.clocks kept.nodes arrives idle sender_owns;
    nodes = put_begins_nodes N b i kept.nodes kept.stages kept.owners arrives idle sender_owns;
    stages = put_begins_stages N b i kept.stages kept.requests arrives idle sender_owns;
    requests = put_begins_requests N b i kept.requests kept.stages kept.owners arrives idle sender_owns;
    owners = put_begins_owners N b i kept.owners kept.stages arrives idle sender_owns;
    waits = put_begins_waits N b i kept.waits kept.stages kept.requests kept.nodes arrives idle sender_owns;
    sharing = put_begins_sharing N b i kept.sharing kept.stages kept.owners kept.requests kept.waits kept.nodes arrives idle sender_owns;
    logs = put_begins_logs N b i kept.logs kept.stages kept.owners kept.clocks kept.nodes arrives idle sender_owns;
    cuts = put_begins_cuts N b i kept.cuts kept.logs kept.stages kept.owners kept.clocks kept.nodes arrives idle sender_owns;
    frames =
        put_begins_frames N b i kept.frames kept.stages kept.requests kept.logs kept.owners kept.clocks kept.nodes arrives idle sender_owns;
  }

  pub put_is_stale_kept : At b i PutReq → b.kind ≡ Idle → (b.at_home ≡ true) ⊎ (b.owner ≢ (b.net i).from) →
      BlockInvariant N (put_is_stale b i)
  put_is_stale_kept arrives idle stale = record {
    clocks = put_is_stale_clocks N b i kept.clocks kept.nodes arrives idle stale;
    nodes = put_is_stale_nodes N b i kept.nodes kept.stages kept.owners arrives idle stale;
    stages = put_is_stale_stages N b i kept.stages kept.requests arrives idle stale;
    requests = put_is_stale_requests N b i kept.requests kept.stages kept.owners arrives idle stale;
    owners = put_is_stale_owners N b i kept.owners kept.stages arrives idle stale;
    waits = put_is_stale_waits N b i kept.waits kept.stages kept.requests kept.nodes arrives idle stale;
    sharing = put_is_stale_sharing N b i kept.sharing kept.stages kept.owners kept.requests kept.waits kept.nodes arrives idle stale;
    logs = put_is_stale_logs N b i kept.logs kept.stages kept.owners kept.clocks kept.nodes arrives idle stale;
    cuts = put_is_stale_cuts N b i kept.cuts kept.logs kept.stages kept.owners kept.clocks kept.nodes arrives idle stale;
    frames =
        put_is_stale_frames N b i kept.frames kept.stages kept.requests kept.logs kept.owners kept.clocks kept.nodes arrives idle stale;
  }

  pub put_data_kept : At b i PutData → BlockInvariant N (put_data b i)
  put_data_kept arrives = record {
    clocks = put_data_clocks N b i kept.clocks kept.nodes arrives;
    nodes = put_data_nodes N b i kept.nodes kept.stages kept.owners arrives;
    stages = put_data_stages N b i kept.stages kept.requests arrives;
    requests = put_data_requests N b i kept.requests kept.stages kept.owners arrives;
    owners = put_data_owners N b i kept.owners kept.stages arrives;
    waits = put_data_waits N b i kept.waits kept.stages kept.requests kept.nodes arrives;
    sharing = put_data_sharing N b i kept.sharing kept.stages kept.owners kept.requests kept.waits kept.nodes arrives;
    logs = put_data_logs N b i kept.logs kept.stages kept.owners kept.clocks kept.nodes arrives;
    cuts = put_data_cuts N b i kept.cuts kept.logs kept.stages kept.owners kept.clocks kept.nodes arrives;
    frames = put_data_frames N b i kept.frames kept.stages kept.requests kept.logs kept.owners kept.clocks kept.nodes arrives;
  }

  pub grant_exclusive_kept : At b i GetS → b.kind ≡ Idle → b.at_home ≡ true → ((x : ℕ) → other_sharers b i x ≡ false) →
      BlockInvariant N (grant_exclusive b i)
  grant_exclusive_kept arrives idle home_owns none = record {
    clocks = grant_exclusive_clocks N b i kept.clocks kept.nodes arrives idle home_owns none;
    nodes = grant_exclusive_nodes N b i kept.nodes kept.stages kept.owners arrives idle home_owns none;
    stages = grant_exclusive_stages N b i kept.stages kept.requests arrives idle home_owns none;
    requests = grant_exclusive_requests N b i kept.requests kept.stages kept.owners arrives idle home_owns none;
    owners = grant_exclusive_owners N b i kept.owners kept.stages arrives idle home_owns none;
    waits = grant_exclusive_waits N b i kept.waits kept.stages kept.requests kept.nodes arrives idle home_owns none;
    sharing =
        grant_exclusive_sharing N b i kept.sharing kept.stages kept.owners kept.requests kept.waits kept.nodes arrives idle home_owns none;
    logs = grant_exclusive_logs N b i kept.logs kept.stages kept.owners kept.clocks kept.nodes arrives idle home_owns none;
    cuts = grant_exclusive_cuts N b i kept.cuts kept.logs kept.stages kept.owners kept.clocks kept.nodes arrives idle home_owns none;
    frames =
        grant_exclusive_frames N b i kept.frames kept.stages kept.requests kept.logs kept.owners kept.clocks kept.nodes arrives idle home_owns none;
  }

  -- The other events.

  pub deliver_advance_kept : Arrives b i Advance → BlockInvariant N (deliver_advance b i)
  deliver_advance_kept arrives = record {
    clocks = deliver_advance_clocks N b i kept.clocks kept.nodes arrives;
    nodes = deliver_advance_nodes N b i kept.nodes kept.stages kept.owners arrives;
    stages = deliver_advance_stages N b i kept.stages kept.requests arrives;
    requests = deliver_advance_requests N b i kept.requests kept.stages kept.owners arrives;
    owners = deliver_advance_owners N b i kept.owners kept.stages arrives;
    waits = deliver_advance_waits N b i kept.waits kept.stages kept.requests kept.nodes arrives;
    sharing = deliver_advance_sharing N b i kept.sharing kept.stages kept.owners kept.requests kept.waits kept.nodes arrives;
    logs = deliver_advance_logs N b i kept.logs kept.stages kept.owners kept.clocks kept.nodes arrives;
    cuts = deliver_advance_cuts N b i kept.cuts kept.logs kept.stages kept.owners kept.clocks kept.nodes arrives;
    frames = deliver_advance_frames N b i kept.frames kept.stages kept.requests kept.logs kept.owners kept.clocks kept.nodes arrives;
  }

  pub lose_kept : BlockInvariant N (lose b i)
  lose_kept = record {
    clocks = lose_clocks N b i kept.clocks kept.nodes;
    nodes = lose_nodes N b i kept.nodes kept.stages kept.owners;
    stages = lose_stages N b i kept.stages kept.requests;
    requests = lose_requests N b i kept.requests kept.stages kept.owners;
    owners = lose_owners N b i kept.owners kept.stages;
    waits = lose_waits N b i kept.waits kept.stages kept.requests kept.nodes;
    sharing = lose_sharing N b i kept.sharing kept.stages kept.owners kept.requests kept.waits kept.nodes;
    logs = lose_logs N b i kept.logs kept.stages kept.owners kept.clocks kept.nodes;
    cuts = lose_cuts N b i kept.cuts kept.logs kept.stages kept.owners kept.clocks kept.nodes;
    frames = lose_frames N b i kept.frames kept.stages kept.requests kept.logs kept.owners kept.clocks kept.nodes;
  }

  pub begin_read_miss_kept : Free N b i → b.line i ≡ NoLine → BlockInvariant N (begin_read_miss b i)
  begin_read_miss_kept free line = record {
    clocks = begin_read_miss_clocks N b i kept.clocks kept.nodes free line;
    nodes = begin_read_miss_nodes N b i kept.nodes kept.stages kept.owners free line;
    stages = begin_read_miss_stages N b i kept.stages kept.requests free line;
    requests = begin_read_miss_requests N b i kept.requests kept.stages kept.owners free line;
    owners = begin_read_miss_owners N b i kept.owners kept.stages free line;
    waits = begin_read_miss_waits N b i kept.waits kept.stages kept.requests kept.nodes free line;
    sharing = begin_read_miss_sharing N b i kept.sharing kept.stages kept.owners kept.requests kept.waits kept.nodes free line;
    logs = begin_read_miss_logs N b i kept.logs kept.stages kept.owners kept.clocks kept.nodes free line;
    cuts = begin_read_miss_cuts N b i kept.cuts kept.logs kept.stages kept.owners kept.clocks kept.nodes free line;
    frames = begin_read_miss_frames N b i kept.frames kept.stages kept.requests kept.logs kept.owners kept.clocks kept.nodes free line;
  }

  pub begin_write_miss_kept : Free N b i → is_writable (b.line i) ≡ false → BlockInvariant N (begin_write_miss b i)
  begin_write_miss_kept free line = record {
    clocks = begin_write_miss_clocks N b i kept.clocks kept.nodes free line;
    nodes = begin_write_miss_nodes N b i kept.nodes kept.stages kept.owners free line;
    stages = begin_write_miss_stages N b i kept.stages kept.requests free line;
    requests = begin_write_miss_requests N b i kept.requests kept.stages kept.owners free line;
    owners = begin_write_miss_owners N b i kept.owners kept.stages free line;
    waits = begin_write_miss_waits N b i kept.waits kept.stages kept.requests kept.nodes free line;
    sharing = begin_write_miss_sharing N b i kept.sharing kept.stages kept.owners kept.requests kept.waits kept.nodes free line;
    logs = begin_write_miss_logs N b i kept.logs kept.stages kept.owners kept.clocks kept.nodes free line;
    cuts = begin_write_miss_cuts N b i kept.cuts kept.logs kept.stages kept.owners kept.clocks kept.nodes free line;
    frames = begin_write_miss_frames N b i kept.frames kept.stages kept.requests kept.logs kept.owners kept.clocks kept.nodes free line;
  }

  pub begin_put_kept : i < N → is_here (b.miss i).want ≡ false → b.putting i ≡ NoPut → is_owned (b.line i) ≡ true →
      BlockInvariant N (begin_put b i)
  begin_put_kept low no_miss no_put line = record {
    clocks = begin_put_clocks N b i kept.clocks kept.nodes low no_miss no_put line;
    nodes = begin_put_nodes N b i kept.nodes kept.stages kept.owners low no_miss no_put line;
    stages = begin_put_stages N b i kept.stages kept.requests low no_miss no_put line;
    requests = begin_put_requests N b i kept.requests kept.stages kept.owners low no_miss no_put line;
    owners = begin_put_owners N b i kept.owners kept.stages low no_miss no_put line;
    waits = begin_put_waits N b i kept.waits kept.stages kept.requests kept.nodes low no_miss no_put line;
    sharing = begin_put_sharing N b i kept.sharing kept.stages kept.owners kept.requests kept.waits kept.nodes low no_miss no_put line;
    logs = begin_put_logs N b i kept.logs kept.stages kept.owners kept.clocks kept.nodes low no_miss no_put line;
    cuts = begin_put_cuts N b i kept.cuts kept.logs kept.stages kept.owners kept.clocks kept.nodes low no_miss no_put line;
    frames =
        begin_put_frames N b i kept.frames kept.stages kept.requests kept.logs kept.owners kept.clocks kept.nodes low no_miss no_put line;
  }

  pub begin_miss_elsewhere_kept : i < N → (b.miss i).want ≡ Nothing → BlockInvariant N (begin_miss_elsewhere b i)
  begin_miss_elsewhere_kept low no_miss = record {
    clocks = begin_miss_elsewhere_clocks N b i kept.clocks kept.nodes low no_miss;
    nodes = begin_miss_elsewhere_nodes N b i kept.nodes kept.stages kept.owners low no_miss;
    stages = begin_miss_elsewhere_stages N b i kept.stages kept.requests low no_miss;
    requests = begin_miss_elsewhere_requests N b i kept.requests kept.stages kept.owners low no_miss;
    owners = begin_miss_elsewhere_owners N b i kept.owners kept.stages low no_miss;
    waits = begin_miss_elsewhere_waits N b i kept.waits kept.stages kept.requests kept.nodes low no_miss;
    sharing = begin_miss_elsewhere_sharing N b i kept.sharing kept.stages kept.owners kept.requests kept.waits kept.nodes low no_miss;
    logs = begin_miss_elsewhere_logs N b i kept.logs kept.stages kept.owners kept.clocks kept.nodes low no_miss;
    cuts = begin_miss_elsewhere_cuts N b i kept.cuts kept.logs kept.stages kept.owners kept.clocks kept.nodes low no_miss;
    frames =
        begin_miss_elsewhere_frames N b i kept.frames kept.stages kept.requests kept.logs kept.owners kept.clocks kept.nodes low no_miss;
  }

  pub end_miss_elsewhere_kept : (b.miss i).want ≡ Elsewhere → BlockInvariant N (end_miss_elsewhere b i)
  end_miss_elsewhere_kept there = record {
    clocks = end_miss_elsewhere_clocks N b i kept.clocks kept.nodes there;
    nodes = end_miss_elsewhere_nodes N b i kept.nodes kept.stages kept.owners there;
    stages = end_miss_elsewhere_stages N b i kept.stages kept.requests there;
    requests = end_miss_elsewhere_requests N b i kept.requests kept.stages kept.owners there;
    owners = end_miss_elsewhere_owners N b i kept.owners kept.stages there;
    waits = end_miss_elsewhere_waits N b i kept.waits kept.stages kept.requests kept.nodes there;
    sharing = end_miss_elsewhere_sharing N b i kept.sharing kept.stages kept.owners kept.requests kept.waits kept.nodes there;
    logs = end_miss_elsewhere_logs N b i kept.logs kept.stages kept.owners kept.clocks kept.nodes there;
    cuts = end_miss_elsewhere_cuts N b i kept.cuts kept.logs kept.stages kept.owners kept.clocks kept.nodes there;
    frames = end_miss_elsewhere_frames N b i kept.frames kept.stages kept.requests kept.logs kept.owners kept.clocks kept.nodes there;
  }

  pub begin_put_elsewhere_kept : i < N → b.putting i ≡ NoPut → BlockInvariant N (begin_put_elsewhere b i)
  begin_put_elsewhere_kept low no_put = record {
    clocks = begin_put_elsewhere_clocks N b i kept.clocks kept.nodes low no_put;
    nodes = begin_put_elsewhere_nodes N b i kept.nodes kept.stages kept.owners low no_put;
    stages = begin_put_elsewhere_stages N b i kept.stages kept.requests low no_put;
    requests = begin_put_elsewhere_requests N b i kept.requests kept.stages kept.owners low no_put;
    owners = begin_put_elsewhere_owners N b i kept.owners kept.stages low no_put;
    waits = begin_put_elsewhere_waits N b i kept.waits kept.stages kept.requests kept.nodes low no_put;
    sharing = begin_put_elsewhere_sharing N b i kept.sharing kept.stages kept.owners kept.requests kept.waits kept.nodes low no_put;
    logs = begin_put_elsewhere_logs N b i kept.logs kept.stages kept.owners kept.clocks kept.nodes low no_put;
    cuts = begin_put_elsewhere_cuts N b i kept.cuts kept.logs kept.stages kept.owners kept.clocks kept.nodes low no_put;
    frames = begin_put_elsewhere_frames N b i kept.frames kept.stages kept.requests kept.logs kept.owners kept.clocks kept.nodes low no_put;
  }

  pub end_put_elsewhere_kept : b.putting i ≡ PutElsewhere → BlockInvariant N (end_put_elsewhere b i)
  end_put_elsewhere_kept there = record {
    clocks = end_put_elsewhere_clocks N b i kept.clocks kept.nodes there;
    nodes = end_put_elsewhere_nodes N b i kept.nodes kept.stages kept.owners there;
    stages = end_put_elsewhere_stages N b i kept.stages kept.requests there;
    requests = end_put_elsewhere_requests N b i kept.requests kept.stages kept.owners there;
    owners = end_put_elsewhere_owners N b i kept.owners kept.stages there;
    waits = end_put_elsewhere_waits N b i kept.waits kept.stages kept.requests kept.nodes there;
    sharing = end_put_elsewhere_sharing N b i kept.sharing kept.stages kept.owners kept.requests kept.waits kept.nodes there;
    logs = end_put_elsewhere_logs N b i kept.logs kept.stages kept.owners kept.clocks kept.nodes there;
    cuts = end_put_elsewhere_cuts N b i kept.cuts kept.logs kept.stages kept.owners kept.clocks kept.nodes there;
    frames = end_put_elsewhere_frames N b i kept.frames kept.stages kept.requests kept.logs kept.owners kept.clocks kept.nodes there;
  }

  pub numbers_elsewhere_kept : BlockInvariant N (numbers_elsewhere b i)
  numbers_elsewhere_kept = record {
    clocks = numbers_elsewhere_clocks N b i kept.clocks kept.nodes;
    nodes = numbers_elsewhere_nodes N b i kept.nodes kept.stages kept.owners;
    stages = numbers_elsewhere_stages N b i kept.stages kept.requests;
    requests = numbers_elsewhere_requests N b i kept.requests kept.stages kept.owners;
    owners = numbers_elsewhere_owners N b i kept.owners kept.stages;
    waits = numbers_elsewhere_waits N b i kept.waits kept.stages kept.requests kept.nodes;
    sharing = numbers_elsewhere_sharing N b i kept.sharing kept.stages kept.owners kept.requests kept.waits kept.nodes;
    logs = numbers_elsewhere_logs N b i kept.logs kept.stages kept.owners kept.clocks kept.nodes;
    cuts = numbers_elsewhere_cuts N b i kept.cuts kept.logs kept.stages kept.owners kept.clocks kept.nodes;
    frames = numbers_elsewhere_frames N b i kept.frames kept.stages kept.requests kept.logs kept.owners kept.clocks kept.nodes;
  }

  pub store_kept : (v : Content) → Free N b i → is_writable (b.line i) ≡ true → BlockInvariant N (store b i v)
  store_kept v free line = record {
    clocks = store_clocks N b i kept.clocks kept.nodes v free line;
    nodes = store_nodes N b i kept.nodes kept.stages kept.owners v free line;
    stages = store_stages N b i kept.stages kept.requests v free line;
    requests = store_requests N b i kept.requests kept.stages kept.owners v free line;
    owners = store_owners N b i kept.owners kept.stages v free line;
    waits = store_waits N b i kept.waits kept.stages kept.requests kept.nodes v free line;
    sharing = store_sharing N b i kept.sharing kept.stages kept.owners kept.requests kept.waits kept.nodes v free line;
    logs = store_logs N b i kept.logs kept.stages kept.owners kept.clocks kept.nodes v free line;
    cuts = store_cuts N b i kept.cuts kept.logs kept.stages kept.owners kept.clocks kept.nodes v free line;
    frames = store_frames N b i kept.frames kept.stages kept.requests kept.logs kept.owners kept.clocks kept.nodes v free line;
  }

  pub evict_shared_kept : is_here (b.miss i).want ≡ false → b.line i ≡ Shared → BlockInvariant N (evict_shared b i)
  evict_shared_kept no_miss line = record {
    clocks = evict_shared_clocks N b i kept.clocks kept.nodes no_miss line;
    nodes = evict_shared_nodes N b i kept.nodes kept.stages kept.owners no_miss line;
    stages = evict_shared_stages N b i kept.stages kept.requests no_miss line;
    requests = evict_shared_requests N b i kept.requests kept.stages kept.owners no_miss line;
    owners = evict_shared_owners N b i kept.owners kept.stages no_miss line;
    waits = evict_shared_waits N b i kept.waits kept.stages kept.requests kept.nodes no_miss line;
    sharing = evict_shared_sharing N b i kept.sharing kept.stages kept.owners kept.requests kept.waits kept.nodes no_miss line;
    logs = evict_shared_logs N b i kept.logs kept.stages kept.owners kept.clocks kept.nodes no_miss line;
    cuts = evict_shared_cuts N b i kept.cuts kept.logs kept.stages kept.owners kept.clocks kept.nodes no_miss line;
    frames = evict_shared_frames N b i kept.frames kept.stages kept.requests kept.logs kept.owners kept.clocks kept.nodes no_miss line;
  }

  pub edge_kept : i < N → b.now i < b.known i + 4 → BlockInvariant N (edge b i)
  edge_kept low room = record {
    clocks = edge_clocks N b i kept.clocks kept.nodes low room;
    nodes = edge_nodes N b i kept.nodes kept.stages kept.owners low room;
    stages = edge_stages N b i kept.stages kept.requests low room;
    requests = edge_requests N b i kept.requests kept.stages kept.owners low room;
    owners = edge_owners N b i kept.owners kept.stages low room;
    waits = edge_waits N b i kept.waits kept.stages kept.requests kept.nodes low room;
    sharing = edge_sharing N b i kept.sharing kept.stages kept.owners kept.requests kept.waits kept.nodes low room;
    logs = edge_logs N b i kept.logs kept.stages kept.owners kept.clocks kept.nodes low room;
    cuts = edge_cuts N b i kept.cuts kept.logs kept.stages kept.owners kept.clocks kept.nodes low room;
    frames = edge_frames N b i kept.frames kept.stages kept.requests kept.logs kept.owners kept.clocks kept.nodes low room;
  }

  pub report_kept : (k : ℕ) → i < N → BlockInvariant N (report b i k)
  report_kept k low = record {
    clocks = report_clocks N b i kept.clocks kept.nodes k low;
    nodes = report_nodes N b i kept.nodes kept.stages kept.owners k low;
    stages = report_stages N b i kept.stages kept.requests k low;
    requests = report_requests N b i kept.requests kept.stages kept.owners k low;
    owners = report_owners N b i kept.owners kept.stages k low;
    waits = report_waits N b i kept.waits kept.stages kept.requests kept.nodes k low;
    sharing = report_sharing N b i kept.sharing kept.stages kept.owners kept.requests kept.waits kept.nodes k low;
    logs = report_logs N b i kept.logs kept.stages kept.owners kept.clocks kept.nodes k low;
    cuts = report_cuts N b i kept.cuts kept.logs kept.stages kept.owners kept.clocks kept.nodes k low;
    frames = report_frames N b i kept.frames kept.stages kept.requests kept.logs kept.owners kept.clocks kept.nodes k low;
  }

  pub validate_kept : NothingUnfinished N b (b.point + 1) → BlockInvariant N (validate N b)
  validate_kept finished = record {
    clocks = validate_clocks N b i kept.clocks kept.nodes finished;
    nodes = validate_nodes N b i kept.nodes kept.stages kept.owners finished;
    stages = validate_stages N b i kept.stages kept.requests finished;
    requests = validate_requests N b i kept.requests kept.stages kept.owners finished;
    owners = validate_owners N b i kept.owners kept.stages finished;
    waits = validate_waits N b i kept.waits kept.stages kept.requests kept.nodes finished;
    sharing = validate_sharing N b i kept.sharing kept.stages kept.owners kept.requests kept.waits kept.nodes finished;
    logs = validate_logs N b i kept.logs kept.stages kept.owners kept.clocks kept.nodes finished;
    cuts = validate_cuts N b i kept.cuts kept.logs kept.stages kept.owners kept.clocks kept.nodes finished;
    frames = validate_frames N b i kept.frames kept.stages kept.requests kept.logs kept.owners kept.clocks kept.nodes finished;
  }
