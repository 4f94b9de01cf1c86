use Rattle.std.proofs.Common.{ℕ}
use Rattle.rv_core.specs.Flat.{flat_start}
use Rattle.projection_places.specs.Passes.{Passes, BlocksPass}
use Rattle.trace_check.specs.Slots.{HasEffects}
use Rattle.trace_check.specs.Verdict.{IsReplayedTo}
use Rattle.trace_check.proofs.Joined.{has_room, has_tagged, are_fitting, if_ok, is_done}
use Rattle.trace_check.proofs.verdict.count_in_slots.Goals as goal

pub replay_blocks-requires-clause-within : goal.replay_blocks-requires-clause-within
replay_blocks-requires-clause-within g c κs within = c.in_ok-passed.ensures.passed.within

pub replay_blocks-requires-clause-room : goal.replay_blocks-requires-clause-room
replay_blocks-requires-clause-room g c κs within =
    has_room c.args.image.now c.args.nodes c.part_count-parts.result c.args.records.now c.replay_cores.new.slots c.replay_cores.ensures c.in_ok-passed.ensures.done
    c.in_ok-passed.passed c.in_ok-passed.ensures.passed

pub replay_blocks-requires-clause-fits : goal.replay_blocks-requires-clause-fits
replay_blocks-requires-clause-fits g c κs within =
    are_fitting c.args.image.now c.args.nodes c.part_count-parts.result c.args.records.now c.replay_cores.new.slots c.replay_cores.ensures c.in_ok-passed.ensures.done
    c.in_ok-passed.passed c.in_ok-passed.ensures.passed

pub returns : goal.returns
returns g c =
    if_ok c.replay_blocks.result
    (λ p. (N : ℕ) → HasEffects c.args.image.now N c.part_count-parts.result c.args.records.now c.in_ok-passed.passed c.replay_cores.new.slots →
    Passes (BlocksPass c.args.image.now (flat_start c.args.image.now N) c.args.records.now) c.in_ok-passed.passed p)
    (IsReplayedTo c.args.image.now c.args.nodes c.args.records.now)
    (λ p b. is_done c.args.image.now c.args.nodes c.args.records.now c.in_ok-passed.passed p c.in_ok-passed.ensures.passed
    (b c.args.nodes (has_tagged c.args.image.now c.args.nodes c.part_count-parts.result c.args.records.now c.replay_cores.new.slots c.replay_cores.ensures c.in_ok-passed.ensures.done
    c.in_ok-passed.passed c.in_ok-passed.ensures.passed)))
    c.replay_blocks.ensures
