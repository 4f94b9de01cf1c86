use Rattle.state_texts.proofs.Lists.{none-behind}
use Rattle.state_lines.proofs.Undone.{undone-nodes}
use Rattle.state_lines.proofs.recovery.add_each_undone.Goals as goal

pub nodes-init : goal.nodes-init
nodes-init c = none-behind c.args.text.now.items

pub nodes-preserved : goal.nodes-preserved
nodes-preserved c =
    undone-nodes c.args.text.now.items c.nodes.text.items _ c.nodes.number c.numbered.result c.args.machine.now.state c.nodes.others _
    c.numbered.ensures c.nodes.invariant c.in_ok-others.ensures
