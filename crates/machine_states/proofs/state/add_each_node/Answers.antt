use Rattle.std.proofs.Common.{ℕ, ◌++◌, ◌∙◌, ap}
use Rattle.state_parts.specs.Parts.{node_part}
use Rattle.state_json.specs.Parts.{node_text}
use Rattle.state_texts.proofs.Lists.{none-behind}
use Rattle.machine_states.proofs.Parts.{nodes-next}
use Rattle.machine_states.proofs.state.add_each_node.Goals as goal

pub nodes-init : goal.nodes-init
nodes-init c = none-behind c.args.text.now.items

pub nodes-preserved : goal.nodes-preserved
nodes-preserved c =
    nodes-next c.args.text.now.items c.nodes.text.items _ _ c.nodes.number c.args.machine.now.state c.nodes.others c.nodes.invariant
    c.in_ok-add_comma.ensures
    (c.in_ok-add_node.ensures
    ∙ ap (λ (n : ℕ). c.add_comma.new.text.items ++ node_text n (node_part c.args.machine.now.state n)) c.numbered.ensures)
