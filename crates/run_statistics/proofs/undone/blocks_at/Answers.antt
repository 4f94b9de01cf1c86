use Rattle.std.proofs.Common.{◌≡◌, ◌-◌, ◌<◌, ◌^◌, ℕ, List, Some, length, arith, subst}
use Rattle.std.specs.Prelude.{slice_get}
use Rattle.sn_base.specs.declared.log.LogEntry.{LogEntry}
use Rattle.log_buffer.specs.Log.{IsGrowing}
use Rattle.sn_model.specs.Caches.{block_count}
use Rattle.sn_model.specs.Fabric.{node_at}
use Rattle.run_statistics.proofs.CountedBack.{counted-next}
use Rattle.run_statistics.proofs.undone.blocks_at.Goals as goal

pub entries-preserved : goal.entries-preserved
entries-preserved c =
    let s = c.args.machine.now.state.fabric in
    let entry = c.entry-entry.result.now in
    let log = (node_at s c.args.node).log in
    let long : c.count-count.result ≡ length log = subst (λ (es : List LogEntry). c.count-count.result ≡ length es) c.log-log.ensures c.count-count.ensures in
    let here : slice_get log (length log - 1 - c.entries.done) ≡ Some entry =
    subst (λ (k : ℕ). slice_get log (k - 1 - c.entries.done) ≡ Some entry) long
    (subst (λ (es : List LogEntry). slice_get es (c.count-count.result - 1 - c.entries.done) ≡ Some entry) c.log-log.ensures c.entry-entry.ensures) in
    let left : c.entries.done < length log = omega (arith, c.entries-test.true, long) in
    let small : entry.interval < 2 ^ 32 = omega (arith, c.interval_of-interval.ensures.same, c.interval_of-interval.ensures.fits) in
    let below : entry.block < block_count = omega (arith, c.number-block.ensures.same, c.number-block.ensures.small) in
    counted-next s c.args.k c.args.node c.entries.done c.entries.back entry (subst IsGrowing c.log-log.ensures c.room-room.ensures.good.growing)
    c.entries.invariant left small here below c.counted_back-back.result c.counted_back-back.ensures.passed c.counted_back-back.ensures.undone
