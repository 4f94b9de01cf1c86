use Rattle.std.proofs.Common.{arith}
use Rattle.sn_machine.proofs.ResumedLists.{record-added, records-committed}
use Rattle.sn_machine.proofs.resuming.resumed_history.Goals as goal

pub records-preserved : goal.records-preserved
records-preserved c =
    record-added c.args.records.now c.records.place c.records.history c.add.new.self c.records.invariant c.index-records-place.result
    (omega arith) c.index-records-place.is c.add.ensures

pub returns : goal.returns
returns c =
    records-committed c.args.records.now c.records.place c.records.history c.commit_below.new.self c.records.invariant (omega arith)
    c.commit_below.ensures
