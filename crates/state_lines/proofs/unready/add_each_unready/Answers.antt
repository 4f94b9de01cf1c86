use Rattle.state_texts.proofs.Lists.{none-behind}
use Rattle.state_lines.proofs.Opens.{unready-next}
use Rattle.state_lines.proofs.unready.add_each_unready.Goals as goal

pub nodes-init : goal.nodes-init
nodes-init c = none-behind c.args.text.now.items

pub nodes-preserved : goal.nodes-preserved
nodes-preserved c =
    unready-next c.args.text.now.items c.nodes.text.items _ c.nodes.number c.numbered.result c.args.machine.now.state c.nodes.others _
    c.numbered.ensures c.nodes.invariant c.in_ok-others.ensures
