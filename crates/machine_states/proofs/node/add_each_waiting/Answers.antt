use Rattle.std.proofs.Common.{◌∙◌, sym}
use Rattle.machine_states.proofs.Records.{waiting-next, waiting-end}
use Rattle.machine_states.proofs.node.add_each_waiting.Goals as goal

pub records-preserved : goal.records-preserved
records-preserved c =
    waiting-next c.records.text.items c.records.others c.args.records.now c.records.one-index c.args.node _ _ c.one-item.result c.records-test.true
    c.one-item.is c.in_ok-others.ensures
    ∙ c.records.invariant

pub returns : goal.returns
returns c =
    sym (waiting-end c.records.text.items c.records.others c.args.records.now c.records.one-index c.args.node c.records-test.false)
    ∙ c.records.invariant
