use Rattle.std.proofs.Common.{arith}
use Rattle.sn_history.proofs.Counts.{reads-next_item}
use Rattle.sn_history.proofs.reads.forget_reads.Goals as goal

pub forget_read-requires : goal.forget_read-requires
forget_read-requires c = λ n l.
    let i = c.pending.invariant n l in
    let r = c.requires n l in
    let s = reads-next_item n c.pending.one-index c.one-item.result c.args.pending.now c.pending-test.true c.one-item.is in
    omega (arith, i, r, s)

pub pending-preserved : goal.pending-preserved
pending-preserved c = λ n l.
    let i = c.pending.invariant n l in
    let r = c.forget_read.ensures n l in
    let s = reads-next_item n c.pending.one-index c.one-item.result c.args.pending.now c.pending-test.true c.one-item.is in
    omega (arith, i, r, s)
