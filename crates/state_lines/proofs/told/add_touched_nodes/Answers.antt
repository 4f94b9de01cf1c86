use Rattle.std.proofs.lemmas.Result.{on_ok_weaker}
use Rattle.state_lines.proofs.TouchedLaws.{every-node}
use Rattle.state_lines.proofs.told.add_touched_nodes.Goals as goal

pub returns-in-EveryNode : goal.returns-in-EveryNode
returns-in-EveryNode c =
    on_ok_weaker c.add_nodes.result
    (λ e. every-node c.args.machine.now.state c.args.machine.now.config.nodes c.args.nodes.now c.args.text.now.items _ c.in-EveryNode.is e)
    c.add_nodes.ensures
