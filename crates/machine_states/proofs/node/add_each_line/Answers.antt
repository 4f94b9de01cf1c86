use Rattle.sn_model.specs.Fabric.{node_at}
use Rattle.machine_states.proofs.Blocks.{lines-none, lines-next}
use Rattle.machine_states.proofs.node.add_each_line.Goals as goal

pub lines-init : goal.lines-init
lines-init c = lines-none c.args.text.now.items (node_at c.args.machine.now.state.fabric c.args.node).cache

pub lines-preserved : goal.lines-preserved
lines-preserved c =
    lines-next c.args.text.now.items c.lines.text.items _ c.lines.number c.new.result (node_at c.args.machine.now.state.fabric c.args.node).cache
    c.lines.others _ c.new.ensures c.lines.invariant c.in_ok-others.ensures
