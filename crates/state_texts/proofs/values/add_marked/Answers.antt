use Rattle.state_texts.proofs.Registers.{marks-none, marks-next}
use Rattle.state_texts.proofs.values.add_marked.Goals as goal

pub nodes-init : goal.nodes-init
nodes-init c = marks-none c.args.text.now.items c.args.sharers

pub nodes-preserved : goal.nodes-preserved
nodes-preserved c =
    marks-next c.args.text.now.items c.nodes.text.items _ c.nodes.number c.args.sharers c.nodes.others _ c.nodes.invariant c.in_ok-others.ensures
