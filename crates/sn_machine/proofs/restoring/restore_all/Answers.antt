use Rattle.std.proofs.Common.{arith}
use Rattle.sn_machine.proofs.Restorations.{restored-more}
use Rattle.sn_machine.proofs.restoring.restore_all.Goals as goal

pub processors-preserved : goal.processors-preserved
processors-preserved c =
    restored-more c.args.k c.args.processors.now.items c.processors.processors.items c.processors.place c.index_mut-processor.result.now c.restore.new.processor
    (omega (
      arith,
      c.processors-test.true,
      c.len-count.ensures,
    )) c.processors.invariant c.index_mut-processor.ensures.value c.restore.ensures
